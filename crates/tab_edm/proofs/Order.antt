-- Properties in rising order of their names: there is one such order.
use Rattle.std.proofs.Common.{◌≡◌, ◌≢◌, ◌⊎◌, zero, suc, List, [], ◌∷◌, get_or, Bool, true, false, IsTrue, inl, inr, refl, sym, ap, subst, ◌∙◌, arith}
use Rattle.std.proofs.lemmas.Bool.{false_from_ne_true, both_ways}
use Rattle.std.proofs.lemmas.Cmp.{nat_list_cmp_total, eq_by_cmp_equiv}
use Rattle.std.proofs.lemmas.List.Sorted.{ranks_by, sorted_far, Contains-permutation, IsPermutation-sym}
use Rattle.std.proofs.lemmas.Map.Keys.{IsDistinct-from_apart, IsDistinct-IsPermutation, apart_from_distinct}
use Rattle.std.proofs.lemmas.Map.Text.{is_eq-slice_cmp}
use Rattle.std.specs.Prelude.{bytes_eq}
use Rattle.std.specs.Cmp.{IsStrictWeakOrder}
use Rattle.std.specs.Cmp.Lexicographic.{slice_cmp, bytes_decides}
use Rattle.std.specs.List.{AllPairs, Contains}
use Rattle.std.specs.List.Sorted.{IsPermutation, IsSortedBy}
use Rattle.std.specs.Ordering.{is_lt, is_eq, nat_cmp, ordering_reverse}
use Rattle.std.specs.declared.cmp.Ordering.{Ordering}
use Rattle.std.specs.declared.cmp.Ordering.TheVariants.{Less, Equal, Greater}
use Rattle.tab_edm.specs.declared.values.Property.{Property}
use Rattle.tab_edm.specs.Entities.{name_lt, IsRising}

-- the order of names, as sorts ask it
pub name_order : IsStrictWeakOrder name_lt
name_order = ranks_by nat_list_cmp_total (λ (p : Property). p.name)

-- no name is below itself
pub not_below_itself : (p : Property) → IsTrue (name_lt p p) → ⊥
not_below_itself p below = both_ways _ (name_order.one_way p p below) below

abbrev same_name : Property → Property → Bool
same_name a b = is_eq (slice_cmp nat_cmp a.name b.name)

same_name-false : (a b : Property) → a.name ≢ b.name → same_name a b ≡ false
same_name-false a b differ =
    is_eq-slice_cmp a.name b.name ∙ false_from_ne_true (bytes_eq a.name b.name) (λ e. differ ((bytes_decides a.name b.name).0 e))

-- a name that does not stand below another, and is not the same, stands above it
above : (here there : Ordering) → here ≡ ordering_reverse there → is_lt there ≡ false → is_eq here ≡ false → is_lt here ≡ true
above here Less flip not_below not_same = cc
above here Equal flip not_below not_same = absurd (both_ways _ not_same (ap is_eq flip))
above here Greater flip not_below not_same = ap is_lt flip

-- a sorted list of names that differ rises
pub rising_from_sorted : (ps sorted : List Property) → AllPairs (λ a b. a.name ≢ b.name) ps → IsPermutation ps sorted → IsSortedBy name_lt sorted → IsRising sorted
rising_from_sorted ps sorted differ moved up =
    let apart = IsDistinct-IsPermutation same_name (λ a b. (eq_by_cmp_equiv nat_list_cmp_total).symm a.name b.name) ps sorted moved (IsDistinct-from_apart same_name ps (λ i j d lt h. same_name-false (get_or ps i d) (get_or ps j d) (differ i j d lt h))) in
    λ i j d lt h. above _ _ (nat_list_cmp_total.antisymm (get_or sorted i d).name (get_or sorted j d).name) (sorted_far name_lt name_order sorted up i j d (omega arith) h) (apart_from_distinct same_name sorted i j d apart lt h)

-- the elements behind the head stand above it
above_head : (p : Property) (ps : List Property) (z : Property) → IsRising (p ∷ ps) → Contains ps z → IsTrue (name_lt p z)
above_head p ps z rising (k, h, e) =
    subst (λ (x : Property). IsTrue (name_lt p x)) e (rising 0 (suc k) z (omega arith) (omega arith))

head_or_tail : (p : Property) (ps : List Property) (z : Property) → Contains (p ∷ ps) z → (p ≡ z) ⊎ Contains ps z
head_or_tail p ps z (zero, h, e) = inl e
head_or_tail p ps z (suc k, h, e) = inr (k, omega arith, e)

rising_tail : (p : Property) (ps : List Property) → IsRising (p ∷ ps) → IsRising ps
rising_tail p ps rising = λ i j d lt h. rising (suc i) (suc j) d (omega arith) (omega arith)

-- the least elements of two rising lists of the same elements are one
same_head : (p q : Property) (ps qs : List Property) → Contains (q ∷ qs) p → Contains (p ∷ ps) q → IsRising (p ∷ ps) → IsRising (q ∷ qs) → p ≡ q
same_head p q ps qs there here up down =
    elim (head_or_tail q qs p there) [
      | inl e ↦ sym e
      | inr low ↦ elim (head_or_tail p ps q here) [
        | inl e ↦ e
        | inr high ↦ absurd (both_ways _ (name_order.one_way p q (above_head p ps q up high)) (above_head q qs p down low))
      ]
    ]

-- what is behind one head is behind the other
behind : (p q : Property) (ps qs : List Property) → p ≡ q → ((z : Property) → Contains (p ∷ ps) z → Contains (q ∷ qs) z) → IsRising (p ∷ ps) → (z : Property) → Contains ps z → Contains qs z
behind p q ps qs same into up z (k, h, e) =
    elim (head_or_tail q qs z (into z (suc k, omega arith, e))) [
      | inl head ↦ absurd (not_below_itself p (subst (λ (x : Property). IsTrue (name_lt p x)) (sym (same ∙ head)) (above_head p ps z up (k, h, e))))
      | inr tail ↦ tail
    ]

none_empty : (z : Property) → Contains [] z → ⊥
none_empty z (k, h, e) = omega arith

same_elements : (ps qs : List Property) → ((z : Property) → Contains ps z → Contains qs z) → ((z : Property) → Contains qs z → Contains ps z) → IsRising ps → IsRising qs → ps ≡ qs
same_elements [] [] into from up down = refl
same_elements [] (q ∷ qs) into from up down = absurd (none_empty q (from q (0, omega arith, refl)))
same_elements (p ∷ ps) [] into from up down = absurd (none_empty p (into p (0, omega arith, refl)))
same_elements (p ∷ ps) (q ∷ qs) into from up down =
    let same = same_head p q ps qs (into p (0, omega arith, refl)) (from q (0, omega arith, refl)) up down in
    let tails = same_elements ps qs (behind p q ps qs same into up) (behind q p qs ps (sym same) from down) (rising_tail p ps up) (rising_tail q qs down) in
    rw (same, tails) refl

-- properties have one rising order
pub one_rising : (ps sorted other : List Property) → IsPermutation ps sorted → IsPermutation ps other → IsRising sorted → IsRising other → sorted ≡ other
one_rising ps sorted other moved again up down =
    same_elements sorted other
    (λ z h. Contains-permutation ps other z again (Contains-permutation sorted ps z (IsPermutation-sym ps sorted moved) h))
    (λ z h. Contains-permutation ps sorted z moved (Contains-permutation other ps z (IsPermutation-sym ps other again) h))
    up down
