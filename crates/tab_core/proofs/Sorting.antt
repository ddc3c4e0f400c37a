-- Lists put into the order of a number that each element has, and elements that a number tells apart.
use Rattle.std.proofs.Common.{◌≡◌, ◌≢◌, ℕ, ◌<◌, ◌≤◌, ◌⊎◌, List, [], ◌∷◌, Bool, true, false, cond, map, Contains, All, AllPairs, refl, sym, ap, ◌∙◌, subst, inl, inr, ⊎_elim, arith}
use Rattle.std.specs.Prelude.{ltb}
use Rattle.std.proofs.lemmas.Bool.{ltb-true, ltb-false}
use Rattle.std.proofs.lemmas.List.Elements.{All-nil, All-cons, All-head, All-tail, All-contains, All-weaker}
use Rattle.std.proofs.lemmas.List.Kept.{AllPairs-cons}
use Rattle.tab_rows.proofs.Lists.{AllPairs-head, AllPairs-tail}
use Rattle.tab_page.proofs.RisingLists.{Contains-here, Contains-there, Contains-cons_cases, Contains-nil, AllPairs-nil, All-from_each}

-- ---- elements that differ in something

-- of elements that all differ in something two with the same are one
pub same_by : {X K : Type 0} (f : X → K) (xs : List X) (a b : X) → AllPairs (λ x y. f x ≢ f y) xs → Contains xs a → Contains xs b → f a ≡ f b → a ≡ b
same_by f [] a b differ here there e = absurd (Contains-nil a here)
same_by {X} f (first ∷ xs) a b differ here there e =
    by_cases (same_by f xs a b (AllPairs-tail R first xs differ)) (Contains-cons_cases first a xs here) (Contains-cons_cases first b xs there)
  where
    R : X → X → Type 0
    R x y = f x ≢ f y

    apart : (other : X) → Contains xs other → f first ≢ f other
    apart other among = All-contains (R first) xs other (AllPairs-head R first xs differ) among

    by_cases : (Contains xs a → Contains xs b → f a ≡ f b → a ≡ b) → (first ≡ a) ⊎ Contains xs a → (first ≡ b) ⊎ Contains xs b → a ≡ b
    by_cases later (inl g) (inl h) = sym g ∙ h
    by_cases later (inl g) (inr h) = absurd (apart b h (ap f g ∙ e))
    by_cases later (inr g) (inl h) = absurd (apart a g (ap f h ∙ sym e))
    by_cases later (inr g) (inr h) = later g h e

-- ---- an element put where its number belongs

module _ {X : Type 0} (f : X → ℕ) where
  abbrev pub Rises : List X → Type 0
  Rises xs = AllPairs (λ x y. f x < f y) xs

  abbrev pub put : X → List X → List X
  put x [] = x ∷ []
  put x (y ∷ ys) = cond (ltb (f x) (f y)) (x ∷ y ∷ ys) (y ∷ put x ys)

  abbrev pub sorted : List X → List X
  sorted [] = []
  sorted (x ∷ xs) = put x (sorted xs)

  put-here : (x : X) (ys : List X) → Contains (put x ys) x
  put-here x [] = Contains-here x []
  put-here x (y ∷ ys) = by_test (put-here x ys) (ltb (f x) (f y))
    where
      by_test : Contains (put x ys) x → (t : Bool) → Contains (cond t (x ∷ y ∷ ys) (y ∷ put x ys)) x
      by_test rest true = Contains-here x (y ∷ ys)
      by_test rest false = Contains-there y x (put x ys) rest

  put-there : (x z : X) (ys : List X) → Contains ys z → Contains (put x ys) z
  put-there x z [] h = absurd (Contains-nil z h)
  put-there x z (y ∷ ys) h = by_test (put-there x z ys) (ltb (f x) (f y))
    where
      by_test : (Contains ys z → Contains (put x ys) z) → (t : Bool) → Contains (cond t (x ∷ y ∷ ys) (y ∷ put x ys)) z
      by_test rest true = Contains-there x z (y ∷ ys) h
      by_test rest false =
          ⊎_elim (λ same. subst (λ w. Contains (y ∷ put x ys) w) same (Contains-here y (put x ys))) (λ later. Contains-there y z (put x ys) (rest later)) (Contains-cons_cases y z ys h)

  put-cases : (x z : X) (ys : List X) → Contains (put x ys) z → (x ≡ z) ⊎ Contains ys z
  put-cases x z [] h = Contains-cons_cases x z [] h
  put-cases x z (y ∷ ys) h = by_test (put-cases x z ys) (ltb (f x) (f y)) h
    where
      further : (x ≡ z) ⊎ Contains ys z → (x ≡ z) ⊎ Contains (y ∷ ys) z
      further (inl same) = inl same
      further (inr later) = inr (Contains-there y z ys later)

      behind : (Contains (put x ys) z → (x ≡ z) ⊎ Contains ys z) → (y ≡ z) ⊎ Contains (put x ys) z → (x ≡ z) ⊎ Contains (y ∷ ys) z
      behind rest (inl same) = inr (subst (λ w. Contains (y ∷ ys) w) same (Contains-here y ys))
      behind rest (inr later) = further (rest later)

      by_test : (Contains (put x ys) z → (x ≡ z) ⊎ Contains ys z) → (t : Bool) → Contains (cond t (x ∷ y ∷ ys) (y ∷ put x ys)) z → (x ≡ z) ⊎ Contains (y ∷ ys) z
      by_test rest true k = Contains-cons_cases x z (y ∷ ys) k
      by_test rest false k = behind rest (Contains-cons_cases y z (put x ys) k)

  put-rises : (x : X) (ys : List X) → Rises ys → All (λ y. f x ≢ f y) ys → Rises (put x ys)
  put-rises x [] h k = AllPairs-cons (λ a b. f a < f b) x [] (All-nil (λ b. f x < f b)) (AllPairs-nil (λ a b. f a < f b))
  put-rises x (y ∷ ys) h k = by_test (put-rises x ys (AllPairs-tail R y ys h) (All-tail (λ b. f x ≢ f b) y ys k)) (ltb (f x) (f y)) refl
    where
      R : X → X → Type 0
      R a b = f a < f b

      above : All (R y) ys
      above = AllPairs-head R y ys h

      later : f x < f y → All (R x) ys
      later below = All-weaker (R y) (R x) (λ z next. omega (arith, below, next)) ys above

      less : f y ≤ f x → f y < f x
      less below = let apart : f x ≢ f y = All-head (λ b. f x ≢ f b) y ys k in grind (arith, below, apart)

      by_test : Rises (put x ys) → (t : Bool) → ltb (f x) (f y) ≡ t → Rises (cond t (x ∷ y ∷ ys) (y ∷ put x ys))
      by_test rest true e = let below : f x < f y = ltb-true (f x) (f y) e in AllPairs-cons R x (y ∷ ys) (All-cons (R x) y ys below (later below)) h
      by_test rest false e =
          AllPairs-cons R y (put x ys)
          (All-from_each (R y) (put x ys)
          (λ z among. ⊎_elim (λ same. subst (R y) same (less (ltb-false (f x) (f y) e))) (λ behind. All-contains (R y) ys z above behind) (put-cases x z ys among)))
          rest

  -- ---- a sorted list has the same elements

  pub sorted-has : (xs : List X) (z : X) → Contains xs z → Contains (sorted xs) z
  sorted-has [] z h = h
  sorted-has (x ∷ xs) z h =
      ⊎_elim (λ same. subst (λ w. Contains (put x (sorted xs)) w) same (put-here x (sorted xs))) (λ later. put-there x z (sorted xs) (sorted-has xs z later)) (Contains-cons_cases x z xs h)

  pub sorted-from : (xs : List X) (z : X) → Contains (sorted xs) z → Contains xs z
  sorted-from [] z h = h
  sorted-from (x ∷ xs) z h =
      ⊎_elim (λ same. subst (λ w. Contains (x ∷ xs) w) same (Contains-here x xs)) (λ later. Contains-there x z xs (sorted-from xs z later)) (put-cases x z (sorted xs) h)

  -- and rises, where no two have one number
  pub sorted-rises : (xs : List X) → AllPairs (λ x y. f x ≢ f y) xs → Rises (sorted xs)
  sorted-rises [] h = AllPairs-nil (λ a b. f a < f b)
  sorted-rises (x ∷ xs) h =
      put-rises x (sorted xs) (sorted-rises xs (AllPairs-tail (λ a b. f a ≢ f b) x xs h))
      (All-from_each (λ b. f x ≢ f b) (sorted xs) (λ z among. All-contains (λ b. f x ≢ f b) xs z (AllPairs-head (λ a b. f a ≢ f b) x xs h) (sorted-from xs z among)))

-- ---- lists of pairs, by their first parts

-- elements are in order as what a function makes of them is
pub AllPairs-from_map : {X Y : Type 0} (R : Y → Y → Type 0) (f : X → Y) (xs : List X) → AllPairs R (map f xs) → AllPairs (λ a b. R (f a) (f b)) xs
AllPairs-from_map R f [] h = AllPairs-nil (λ a b. R (f a) (f b))
AllPairs-from_map {X} {Y} R f (x ∷ xs) h =
    AllPairs-cons (λ a b. R (f a) (f b)) x xs (all_from (R (f x)) xs (AllPairs-head R (f x) (map f xs) h)) (AllPairs-from_map R f xs (AllPairs-tail R (f x) (map f xs) h))
  where
    all_from : (P : Y → Type 0) (ys : List X) → All P (map f ys) → All (λ y. P (f y)) ys
    all_from P [] k = All-nil (λ y. P (f y))
    all_from P (y ∷ ys) k = All-cons (λ z. P (f z)) y ys (All-head P (f y) (map f ys) k) (all_from P ys (All-tail P (f y) (map f ys) k))

abbrev pub firsts : {X Y : Type 0} → List (X × Y) → List X
firsts xs = map (λ x. x.0) xs

pub first-of : {X Y : Type 0} (xs : List (X × Y)) (x : X) → Contains (firsts xs) x → (y : Y) × Contains xs (x, y)
first-of [] x h = absurd (Contains-nil x h)
first-of {X} {Y} (pair ∷ xs) x h = by_cases (first-of xs x) (Contains-cons_cases pair.0 x (firsts xs) h)
  where
    by_cases : (Contains (firsts xs) x → (y : Y) × Contains xs (x, y)) → (pair.0 ≡ x) ⊎ Contains (firsts xs) x → (y : Y) × Contains (pair ∷ xs) (x, y)
    by_cases rest (inl same) = (pair.1, subst (λ (w : X). Contains (pair ∷ xs) (w, pair.1)) same (Contains-here pair xs))
    by_cases rest (inr later) = let found = rest later in (found.0, Contains-there pair (x, found.0) xs found.1)

pub of_first : {X Y : Type 0} (xs : List (X × Y)) (x : X) (y : Y) → Contains xs (x, y) → Contains (firsts xs) x
of_first [] x y h = absurd (Contains-nil (x, y) h)
of_first {X} {Y} (pair ∷ xs) x y h =
    ⊎_elim (λ same. subst (λ (w : X). Contains (firsts (pair ∷ xs)) w) (ap (λ (p : X × Y). p.0) same) (Contains-here pair.0 (firsts xs))) (λ later. Contains-there pair.0 x (firsts xs) (of_first xs x y later))
    (Contains-cons_cases pair (x, y) xs h)
