-- Whether a table has a name, and that a name that no table has is apart from each.
use Rattle.std.proofs.Common.{◌≡◌, List, [], ◌∷◌, Bool, true, false, cond, refl, sym}
use Rattle.std.specs.Prelude.{ℕ, Some, None, find, option_map, All}
use Rattle.std.specs.Ordering.{is_eq}
use Rattle.std.specs.Cmp.Lexicographic.{texts_ties}
use Rattle.std.proofs.lemmas.Option.{none-some}
use Rattle.std.proofs.lemmas.List.Elements.{All-nil, All-cons}
use Rattle.tab_keys.specs.Order.{name_cmp}
use Rattle.tab_keys.specs.TableNames.{folded}
use Rattle.tab_history.specs.World.{Named, table_of}
use Rattle.tab_history.proofs.NameLaws.{is_named}

-- the table has the name where no order tells the two names apart
pub is_named-is : (name : List ℕ) (named : Named) → is_named name named ≡ is_eq (name_cmp named.spelling name)
unfolding name_cmp
is_named-is name named = texts_ties (folded named.spelling) (folded name)

-- a name that no table has is apart from each
pub apart_where_absent : (names : List Named) (name : List ℕ) → table_of names name ≡ None → All (λ other. is_named name other ≡ false) names
unfolding table_of
apart_where_absent [] name h = All-nil (λ other. is_named name other ≡ false)
apart_where_absent (first ∷ names) name h = by_test (apart_where_absent names name) (is_named name first) refl h
  where
    by_test : (option_map (λ (it : Named). it.table) (find (is_named name) names) ≡ None → All (λ other. is_named name other ≡ false) names) → (t : Bool) → is_named name first ≡ t
        → option_map (λ (it : Named). it.table) (cond t (Some first) (find (is_named name) names)) ≡ None
        → All (λ other. is_named name other ≡ false) (first ∷ names)
    by_test rest true e k = absurd (none-some first.table (sym k))
    by_test rest false e k = All-cons (λ other. is_named name other ≡ false) first names e (rest k)
