-- Two texts compare as the first two bytes of theirs that differ do, or as their lengths.
use Rattle.std.proofs.Common.{◌≡◌, ◌≢◌, ℕ, zero, suc, ◌<◌, min, List, [], ◌∷◌, length, map, get_or, Ordering, ap, sym, ◌∙◌, subst, refl, arith}
use Rattle.std.specs.declared.cmp.Ordering.TheVariants.{Less, Equal, Greater}
use Rattle.std.specs.Cmp.{nat_cmp_is, unsigned_Decides, unsigned_ties}
use Rattle.std.specs.Cmp.Lexicographic.{slice_cmp}
use Rattle.std.specs.Ordering.{nat_cmp, ordering_then, is_eq}
use Rattle.std.specs.Str.{IsUtf8}
use Rattle.std.proofs.lemmas.Bool.Decides.{nat_tests}
use Rattle.tab_keys.specs.Order.{byte_rank, text_cmp}
use Rattle.tab_keys.proofs.ByteOrder.{text_cmp-ranked}

abbrev ranked_cmp : List ℕ → List ℕ → Ordering
ranked_cmp a b = slice_cmp nat_cmp (map byte_rank a) (map byte_rank b)

-- the two lists have the same first n bytes
abbrev pub SameBelow : List ℕ → List ℕ → ℕ → Type 0
SameBelow a b n = (k : ℕ) → k < n → get_or a k 0 ≡ get_or b k 0

-- no two bytes have one rank
ranks_differ : (x y : ℕ) → x < 256 → y < 256 → x ≢ y → byte_rank x ≢ byte_rank y
ranks_differ x y h k n e = n (grind (arith, nat_tests))

then_first : (r s : Ordering) → r ≢ Equal → ordering_then r s ≡ r
then_first Less s n = refl
then_first Equal s n = absurd (n refl)
then_first Greater s n = refl

by_head : (x y : ℕ) (a b : List ℕ) → x < 256 → y < 256 → x ≢ y → ranked_cmp (x ∷ a) (y ∷ b) ≡ nat_cmp (byte_rank x) (byte_rank y)
by_head x y a b h k n =
    then_first (nat_cmp (byte_rank x) (byte_rank y)) (ranked_cmp a b)
    (λ e. ranks_differ x y h k n ((unsigned_Decides (byte_rank x) (byte_rank y)).0 (unsigned_ties (byte_rank x) (byte_rank y) ∙ ap is_eq e)))

same_head : (x y : ℕ) (a b : List ℕ) → x ≡ y → ranked_cmp (x ∷ a) (y ∷ b) ≡ ranked_cmp a b
same_head x y a b e = ap (λ (r : Ordering). ordering_then r (ranked_cmp a b)) (sym (nat_cmp_is (byte_rank x) (byte_rank y) Equal (ap byte_rank e)))

same_behind : (x y n : ℕ) (a b : List ℕ) → SameBelow (x ∷ a) (y ∷ b) (suc n) → SameBelow a b n
same_behind x y n a b same k h = same (suc k) (omega arith)

by_first : (a b : List ℕ) (i : ℕ) → i < length a → i < length b → SameBelow a b i → get_or a i 0 < 256 → get_or b i 0 < 256 → get_or a i 0 ≢ get_or b i 0
    → ranked_cmp a b ≡ nat_cmp (byte_rank (get_or a i 0)) (byte_rank (get_or b i 0))
by_first [] b i h k same low high n = absurd (omega arith)
by_first (x ∷ a) [] i h k same low high n = absurd (omega arith)
by_first (x ∷ a) (y ∷ b) zero h k same low high n = by_head x y a b low high n
by_first (x ∷ a) (y ∷ b) (suc i) h k same low high n =
    same_head x y a b (same 0 (omega arith)) ∙ by_first a b i (omega arith) (omega arith) (same_behind x y i a b same) low high n

by_lengths : (a b : List ℕ) → SameBelow a b (min (length a) (length b)) → ranked_cmp a b ≡ nat_cmp (length a) (length b)
by_lengths [] [] same = refl
by_lengths [] (y ∷ b) same = nat_cmp_is 0 (length (y ∷ b)) Less (omega arith)
by_lengths (x ∷ a) [] same = nat_cmp_is (length (x ∷ a)) 0 Greater (omega arith)
by_lengths (x ∷ a) (y ∷ b) same =
    same_head x y a b (same 0 (omega arith)) ∙ by_lengths a b (λ k h. same (suc k) (omega arith)) ∙ suc_cmp (length a) (length b)
  where
    suc_cmp : (m n : ℕ) → nat_cmp m n ≡ nat_cmp (suc m) (suc n)
    suc_cmp m n = grind (arith, nat_tests)

-- where two texts first differ, at the bytes x and y
pub text_cmp_by_first : (a b : List ℕ) (i x y : ℕ) → IsUtf8 a → IsUtf8 b → i < length a → i < length b → SameBelow a b i → x ≡ get_or a i 0 → y ≡ get_or b i 0
    → x < 256 → y < 256 → x ≢ y → nat_cmp (byte_rank x) (byte_rank y) ≡ text_cmp a b
text_cmp_by_first a b i x y u v h k same e f low high n =
    (λ j. nat_cmp (byte_rank (e j)) (byte_rank (f j)))
    ∙ sym (by_first a b i h k same (subst (λ (byte : ℕ). byte < 256) e low) (subst (λ (byte : ℕ). byte < 256) f high) (λ same_byte. n (e ∙ same_byte ∙ sym f)))
    ∙ sym (text_cmp-ranked a b u v)

-- where one text is the other's front
pub text_cmp_by_lengths : (a b : List ℕ) → IsUtf8 a → IsUtf8 b → SameBelow a b (min (length a) (length b)) → nat_cmp (length a) (length b) ≡ text_cmp a b
text_cmp_by_lengths a b u v same = sym (by_lengths a b same) ∙ sym (text_cmp-ranked a b u v)
