-- The one bound before all keys.
use Rattle.std.proofs.Common.{◌≡◌, ℕ, List, [], ◌∷◌, false, refl, arith}
use Rattle.std.specs.Cmp.Lexicographic.{slice_cmp}
use Rattle.std.specs.declared.cmp.Ordering.{Ordering}
use Rattle.std.specs.declared.cmp.Ordering.TheVariants.{Less, Equal, Greater}
use Rattle.std.specs.Ordering.{nat_cmp, ordering_then, is_lt}
use Rattle.std.proofs.lemmas.Bool.Decides.{nat_tests}
use Rattle.tab_keys.specs.Order.{is_before, text_cmp, key_cmp}
use Rattle.tab_keys.specs.KeyTexts.{units_of}
use Rattle.tab_keys.proofs.Units.{units_of-nil}
use Rattle.tab_keys.specs.declared.keys.Key.{Key}
use Rattle.tab_keys.specs.declared.bounds.Bound.TheVariants.{At, End}
use Rattle.tab_page.specs.Pages.{end_above}

not_less : (xs ys : List ℕ) → is_lt (ordering_then (slice_cmp nat_cmp xs []) (slice_cmp nat_cmp ys [])) ≡ false
not_less [] [] = refl
not_less [] (y ∷ ys) = refl
not_less (x ∷ xs) ys = refl

not_less_after : (o r : Ordering) → is_lt o ≡ false → is_lt r ≡ false → is_lt (ordering_then o r) ≡ false
not_less_after Less r h k = h
not_less_after Equal r h k = k
not_less_after Greater r h k = refl

not_below_zero : (n : ℕ) → is_lt (nat_cmp n 0) ≡ false
not_below_zero n = grind (arith, nat_tests)

-- no key stands before the bound before all keys
pub first_bound : (key : Key) → is_before key (At 0 []) ≡ false
unfolding key_cmp text_cmp
first_bound key =
    not_less_after (nat_cmp key.table 0) _ (not_below_zero key.table) (rw units_of-nil (not_less (units_of key.pk) (units_of key.rk)))

-- where it is the only one, each page goes on to the end of all keys
pub end_above-first : (key : Key) → end_above key (At 0 [] ∷ []) ≡ End
end_above-first key = rw (first_bound key) refl
