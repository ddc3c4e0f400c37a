-- Lists put in order: what they have, that they are in order, and that there is one such order where no two tie.
use Rattle.std.proofs.Common.{◌≡◌, List, [], ◌∷◌, ◌++◌, Bool, true, false, cond, get_or, filter, IsPermutation, refl, sym, ap, ◌∙◌, subst, arith}
use Rattle.std.specs.Prelude.{All, AllPairs, IsTrue, IsFalse, if◌then◌else◌}
use Rattle.std.specs.declared.cmp.Ordering.{Ordering}
use Rattle.std.specs.declared.cmp.Ordering.TheVariants.{Less, Equal, Greater}
use Rattle.std.specs.Cmp.{IsTotalOrder}
use Rattle.std.specs.Ordering.{is_lt, is_eq, ordering_reverse}
use Rattle.std.specs.List.Sorted.{IsSortedBy}
use Rattle.std.proofs.lemmas.Bool.{true≢false}
use Rattle.std.proofs.lemmas.List.Elements.{All-nil, All-cons, All-head, All-weaker, All-filter}
use Rattle.std.proofs.lemmas.List.Kept.{AllPairs-cons}
use Rattle.std.proofs.lemmas.List.Sorted.{IsPermutation-refl, IsPermutation-sym, IsPermutation-trans, IsPermutation-cons, IsPermutation-to_front, IsPermutation-append_left, Contains-permutation, ranks_by, sorted_far, All-permutation}
use Rattle.std.specs.List.{IsDistinct}
use Rattle.std.proofs.lemmas.Map.Keys.{IsDistinct-from_apart, IsDistinct-IsPermutation, apart_from_distinct}
use Rattle.tab_keys.proofs.OrderLaws.{lt_irreflexive, lt_asymmetric, lt_to_le}
use Rattle.tab_rows.proofs.Lists.{AllPairs-head, AllPairs-tail}
use Rattle.tab_page.proofs.RisingLists.{AllPairs-nil, same_rising}
use Rattle.tab_master.specs.Ordered.{placed, placed_all, in_order}

-- ---- the same elements

module _ {A : Type 0} (cmp : A → A → Ordering) where
  pub placed-elements : (xs : List A) (x : A) → IsPermutation (x ∷ xs) (placed cmp xs x)
  unfolding placed
  placed-elements [] x = IsPermutation-refl (x ∷ [])
  placed-elements (first ∷ rest) x = by_test (placed-elements rest x) (is_lt (cmp x first))
    where
      by_test : IsPermutation (x ∷ rest) (placed cmp rest x) → (t : Bool) → IsPermutation (x ∷ first ∷ rest) (if t then x ∷ first ∷ rest else first ∷ placed cmp rest x)
      by_test later true = IsPermutation-refl (x ∷ first ∷ rest)
      by_test later false =
          IsPermutation-trans (x ∷ first ∷ rest) (first ∷ x ∷ rest) (first ∷ placed cmp rest x)
          (IsPermutation-append_left rest (x ∷ first ∷ []) (first ∷ x ∷ []) (IsPermutation-to_front (x ∷ []) first))
          (IsPermutation-cons first (x ∷ rest) (placed cmp rest x) later)

  pub placed_all-elements : (so_far xs : List A) → IsPermutation (so_far ++ xs) (placed_all cmp so_far xs)
  unfolding placed_all
  placed_all-elements so_far [] = subst (λ (l : List A). IsPermutation l so_far) (sym (Rattle.std.proofs.lemmas.List.append-nil so_far)) (IsPermutation-refl so_far)
  placed_all-elements so_far (x ∷ xs) =
      IsPermutation-trans (so_far ++ x ∷ xs) (placed cmp so_far x ++ xs) (placed_all cmp (placed cmp so_far x) xs)
      (IsPermutation-trans (so_far ++ x ∷ xs) (x ∷ so_far ++ xs) (placed cmp so_far x ++ xs)
      (Rattle.std.proofs.lemmas.List.Sorted.IsPermutation-middle so_far x xs)
      (IsPermutation-append_left xs (x ∷ so_far) (placed cmp so_far x) (placed-elements so_far x)))
      (placed_all-elements (placed cmp so_far x) xs)

  -- elements put in order are the elements
  pub in_order-elements : (xs : List A) → IsPermutation xs (in_order cmp xs)
  in_order-elements xs = placed_all-elements [] xs

-- what is put behind others comes last
pub placed_all-append : {A : Type 0} (cmp : A → A → Ordering) (so_far xs : List A) (x : A) → placed_all cmp so_far (xs ++ x ∷ []) ≡ placed cmp (placed_all cmp so_far xs) x
unfolding placed_all
placed_all-append cmp so_far [] x = refl
placed_all-append cmp so_far (y ∷ ys) x = placed_all-append cmp (placed cmp so_far y) ys x

-- ---- they are in order

module _ {A : Type 0} (cmp : A → A → Ordering) (total : IsTotalOrder cmp) where
  -- no later element is below an earlier
  abbrev pub InOrder : List A → Type 0
  InOrder xs = AllPairs (λ a b. IsFalse (is_lt (cmp b a))) xs

  -- each is below those behind it
  abbrev pub Rises : List A → Type 0
  Rises xs = AllPairs (λ a b. IsTrue (is_lt (cmp a b))) xs

  All-placed : (P : A → Type 0) (xs : List A) (x : A) → All P xs → P x → All P (placed cmp xs x)
  All-placed P xs x all here = All-permutation P (x ∷ xs) (placed cmp xs x) (placed-elements cmp xs x) (All-cons P x xs here all)

  pub placed-in_order : (xs : List A) (x : A) → InOrder xs → InOrder (placed cmp xs x)
  unfolding placed
  placed-in_order [] x h = AllPairs-cons (λ a b. IsFalse (is_lt (cmp b a))) x [] (All-nil (λ b. IsFalse (is_lt (cmp b x)))) (AllPairs-nil (λ a b. IsFalse (is_lt (cmp b a))))
  placed-in_order (first ∷ rest) x h = by_test (placed-in_order rest x (AllPairs-tail R first rest h)) (is_lt (cmp x first)) refl
    where
      R : A → A → Type 0
      R a b = IsFalse (is_lt (cmp b a))

      behind : All (R first) rest
      behind = AllPairs-head R first rest h

      by_test : InOrder (placed cmp rest x) → (t : Bool) → is_lt (cmp x first) ≡ t → InOrder (if t then x ∷ first ∷ rest else first ∷ placed cmp rest x)
      by_test later true e =
          AllPairs-cons R x (first ∷ rest)
          (All-cons (R x) first rest (lt_asymmetric total x first e)
          (All-weaker (R first) (R x) (λ y k. lt_asymmetric total x y (lt_to_le total x first y e k)) rest behind))
          h
      by_test later false e = AllPairs-cons R first (placed cmp rest x) (All-placed (R first) rest x behind e) later

  pub placed_all-in_order : (so_far xs : List A) → InOrder so_far → InOrder (placed_all cmp so_far xs)
  unfolding placed_all
  placed_all-in_order so_far [] h = h
  placed_all-in_order so_far (x ∷ xs) h = placed_all-in_order (placed cmp so_far x) xs (placed-in_order so_far x h)

  pub in_order-is : (xs : List A) → InOrder (in_order cmp xs)
  in_order-is xs = placed_all-in_order [] xs (AllPairs-nil (λ a b. IsFalse (is_lt (cmp b a))))

  -- what a sort leaves is in order
  pub in_order_from_sorted : (xs : List A) → IsSortedBy (λ a b. is_lt (cmp a b)) xs → InOrder xs
  in_order_from_sorted xs sorted i j d low high = sorted_far (λ a b. is_lt (cmp a b)) (ranks_by total (λ a. a)) xs sorted i j d (omega arith) high

  -- ---- one order

  flips : (o : Ordering) → is_eq (ordering_reverse o) ≡ is_eq o
  flips Less = refl
  flips Equal = refl
  flips Greater = refl

  pub ties_flip : (a b : A) → is_eq (cmp a b) ≡ is_eq (cmp b a)
  ties_flip a b = ap is_eq (total.antisymm a b) ∙ flips (cmp b a)

  below_apart : (o : Ordering) → is_lt o ≡ true → is_eq o ≡ false
  below_apart Less h = refl
  below_apart Equal h = absurd (true≢false (sym h))
  below_apart Greater h = absurd (true≢false (sym h))

  below_between : (o p : Ordering) → o ≡ ordering_reverse p → is_lt p ≡ false → is_eq o ≡ false → is_lt o ≡ true
  below_between Less p flip above apart = refl
  below_between Equal p flip above apart = absurd (true≢false apart)
  below_between Greater Less flip above apart = absurd (true≢false above)
  below_between Greater Equal flip above apart = cc
  below_between Greater Greater flip above apart = cc

  -- elements in order of which no two tie rise
  pub rises_from_apart : (xs : List A) → IsDistinct (λ a b. is_eq (cmp a b)) xs → InOrder xs → Rises xs
  rises_from_apart xs differ up i j d low high =
      below_between (cmp (get_or xs i d) (get_or xs j d)) (cmp (get_or xs j d) (get_or xs i d)) (total.antisymm (get_or xs i d) (get_or xs j d)) (up i j d low high)
      (apart_from_distinct (λ a b. is_eq (cmp a b)) xs i j d differ low high)

  -- no two elements of a list that rises tie
  pub apart_from_rises : (xs : List A) → Rises xs → IsDistinct (λ a b. is_eq (cmp a b)) xs
  apart_from_rises xs rises = IsDistinct-from_apart (λ a b. is_eq (cmp a b)) xs (λ k l e less within. below_apart (cmp (get_or xs k e) (get_or xs l e)) (rises k l e less within))

  -- elements of which no two tie rise in whatever order they stand
  pub rises_from_elements : (xs ys : List A) → IsDistinct (λ a b. is_eq (cmp a b)) xs → IsPermutation xs ys → InOrder ys → Rises ys
  rises_from_elements xs ys differ same up = rises_from_apart ys (IsDistinct-IsPermutation (λ a b. is_eq (cmp a b)) ties_flip xs ys same differ) up

  apart : (x y : A) → is_lt (cmp x y) ≡ true → x ≡ y → ⊥
  apart x y below same = true≢false (sym (subst (λ z. is_lt (cmp x z) ≡ true) (sym same) below) ∙ lt_irreflexive total x)

  one_way : (x y : A) → is_lt (cmp x y) ≡ true → is_lt (cmp y x) ≡ true → ⊥
  one_way x y below above = true≢false (sym above ∙ lt_asymmetric total x y below)

  -- a list that rises is the one order of its elements
  pub one_order : (xs ys : List A) → Rises xs → IsPermutation xs ys → InOrder ys → ys ≡ xs
  one_order xs ys rises same up =
      same_rising (λ a b. IsTrue (is_lt (cmp a b))) apart one_way ys xs (rises_from_elements xs ys (apart_from_rises xs rises) same up) rises
      (λ x h. Contains-permutation ys xs x (IsPermutation-sym xs ys same) h)
      (λ x h. Contains-permutation xs ys x same h)

  -- so elements that are those of a list that rises are it when they are put in order
  pub in_order_rising : (xs ys : List A) → Rises ys → IsPermutation xs ys → in_order cmp xs ≡ ys
  in_order_rising xs ys rises same =
      one_order ys (in_order cmp xs) rises (IsPermutation-trans ys xs (in_order cmp xs) (IsPermutation-sym xs ys same) (in_order-elements cmp xs)) (in_order-is xs)

  -- and where they are it in whatever order that is sorted, they are it in this one, and otherwise in none
  pub sorted_otherwise : (xs sorted ys : List A) → IsPermutation xs sorted → InOrder sorted → Rises ys → in_order cmp xs ≡ ys → sorted ≡ ys
  sorted_otherwise xs sorted ys same up rises is =
      one_order ys sorted rises (IsPermutation-trans ys xs sorted (IsPermutation-sym xs ys (subst (IsPermutation xs) is (in_order-elements cmp xs))) same) up

  -- ---- a filter

  pub placed-before : (xs : List A) (x : A) → All (λ y. is_lt (cmp x y) ≡ true) xs → placed cmp xs x ≡ x ∷ xs
  unfolding placed
  placed-before [] x h = refl
  placed-before (first ∷ rest) x h = let here : is_lt (cmp x first) ≡ true = All-head (λ y. is_lt (cmp x y) ≡ true) first rest h in rw here refl

  module _ (p : A → Bool) where
    pub filter-placed : (xs : List A) (x : A) → InOrder xs → filter p (placed cmp xs x) ≡ (if p x then placed cmp (filter p xs) x else filter p xs)
    unfolding placed
    filter-placed [] x h = by_test (p x)
      where
        by_test : (t : Bool) → cond t (x ∷ []) [] ≡ (if t then x ∷ [] else [])
        by_test true = refl
        by_test false = refl
    filter-placed (first ∷ rest) x h = by_test (filter-placed rest x (AllPairs-tail R first rest h)) (is_lt (cmp x first)) refl (p x) refl (p first) refl
      where
        R : A → A → Type 0
        R a b = IsFalse (is_lt (cmp b a))

        left : List A
        left = filter p (first ∷ rest)

        above : is_lt (cmp x first) ≡ true → All (λ y. is_lt (cmp x y) ≡ true) left
        above e =
            All-filter p (λ y. is_lt (cmp x y) ≡ true) (first ∷ rest)
            (All-cons (λ y. is_lt (cmp x y) ≡ true) first rest e (All-weaker (R first) (λ y. is_lt (cmp x y) ≡ true) (λ y k. lt_to_le total x first y e k) rest (AllPairs-head R first rest h)))

        by_test : filter p (placed cmp rest x) ≡ (if p x then placed cmp (filter p rest) x else filter p rest) → (t : Bool) → is_lt (cmp x first) ≡ t → (u : Bool) → p x ≡ u → (v : Bool) → p first ≡ v
            → filter p (if t then x ∷ first ∷ rest else first ∷ placed cmp rest x) ≡ (if p x then placed cmp left x else left)
        by_test later true e true k v l = rw k (sym (placed-before left x (above e)))
        by_test later true e false k v l = rw k refl
        by_test later false e true k true l = rw (l, k, e) (ap (λ ys. first ∷ ys) (rw k at later))
        by_test later false e true k false l = rw (l, k) (rw k at later)
        by_test later false e false k true l = rw (l, k) (ap (λ ys. first ∷ ys) (rw k at later))
        by_test later false e false k false l = rw (l, k) (rw k at later)

    filter-placed_all : (so_far xs : List A) → InOrder so_far → filter p (placed_all cmp so_far xs) ≡ placed_all cmp (filter p so_far) (filter p xs)
    unfolding placed_all
    filter-placed_all so_far [] h = refl
    filter-placed_all so_far (x ∷ xs) h =
        filter-placed_all (placed cmp so_far x) xs (placed-in_order so_far x h)
        ∙ (ap (λ l. placed_all cmp l (filter p xs)) (filter-placed so_far x h) ∙ by_test (p x))
      where
        by_test : (t : Bool) → placed_all cmp (if t then placed cmp (filter p so_far) x else filter p so_far) (filter p xs) ≡ placed_all cmp (filter p so_far) (cond t (x ∷ filter p xs) (filter p xs))
        by_test true = refl
        by_test false = refl

    -- what a filter leaves of elements in order is what it leaves of them, in order
    pub filter-in_order : (xs : List A) → filter p (in_order cmp xs) ≡ in_order cmp (filter p xs)
    filter-in_order xs = filter-placed_all [] xs (AllPairs-nil (λ a b. IsFalse (is_lt (cmp b a))))
