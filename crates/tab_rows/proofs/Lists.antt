-- Lists: what a filter and a search leave of one whose elements all pass the test, or all fail it, pairs of its elements, and
-- its front and its back.
use Rattle.std.proofs.Common.{◌≡◌, ℕ, zero, suc, ◌+◌, ◌<◌, ◌≤◌, take, drop, List, [], ◌∷◌, ◌++◌, Bool, true, false, cond, not, length, filter, refl, sym, ap, ◌∙◌, arith}
use Rattle.std.specs.Prelude.{Option, Some, None, find, All, AllPairs}
use Rattle.std.specs.Option.{option_or}
use Rattle.std.proofs.lemmas.Option.{none-some}
use Rattle.std.proofs.lemmas.List.Elements.{All-nil, All-cons, All-head, All-tail, All-append, All-weaker, filter_passes, filter-append}
use Rattle.std.proofs.lemmas.List.{append-nil, length-take-le, length-drop, get_or-take, get_or-drop}
use Rattle.std.specs.List.{AllWithin}
use Rattle.std.proofs.lemmas.Bool.{true≢false}
use Rattle.std.proofs.lemmas.List.Kept.{AllPairs-cons}
use Rattle.std.proofs.lemmas.List.Folds.{find-append}

module _ {X : Type 0} (p : X → Bool) where
  pub filter_all : (xs : List X) → All (λ x. p x ≡ true) xs → filter p xs ≡ xs
  filter_all [] h = refl
  filter_all (x ∷ xs) h =
      let here : p x ≡ true = All-head (λ y. p y ≡ true) x xs h in
      rw here (ap (λ ys. x ∷ ys) (filter_all xs (All-tail (λ y. p y ≡ true) x xs h)))

  pub filter_none : (xs : List X) → All (λ x. p x ≡ false) xs → filter p xs ≡ []
  filter_none [] h = refl
  filter_none (x ∷ xs) h =
      let here : p x ≡ false = All-head (λ y. p y ≡ false) x xs h in
      rw here (filter_none xs (All-tail (λ y. p y ≡ false) x xs h))

  pub find_none : (xs : List X) → All (λ x. p x ≡ false) xs → find p xs ≡ None
  find_none [] h = refl
  find_none (x ∷ xs) h =
      let here : p x ≡ false = All-head (λ y. p y ≡ false) x xs h in
      rw here (find_none xs (All-tail (λ y. p y ≡ false) x xs h))

  -- the front passes and the back fails
  pub filter_front : (front back : List X) → All (λ x. p x ≡ true) front → All (λ x. p x ≡ false) back → filter p (front ++ back) ≡ front
  filter_front front back h k = filter-append p front back ∙ (ap (λ xs. xs ++ filter p back) (filter_all front h) ∙ (ap (λ xs. front ++ xs) (filter_none back k) ∙ append-nil front))

  -- the front fails and the back passes
  pub filter_back : (front back : List X) → All (λ x. p x ≡ false) front → All (λ x. p x ≡ true) back → filter p (front ++ back) ≡ back
  filter_back front back h k = filter-append p front back ∙ (ap (λ xs. xs ++ filter p back) (filter_none front h) ∙ filter_all back k)

  -- the first element that passes stands behind others that fail
  pub find_behind : (front : List X) (x : X) (back : List X) → All (λ y. p y ≡ false) front → p x ≡ true → find p (front ++ x ∷ back) ≡ Some x
  find_behind front x back h k =
      let here : find p (x ∷ back) ≡ Some x = rw k refl in
      find-append p front (x ∷ back) ∙ ap (λ o. option_or o (find p (x ∷ back))) (find_none front h) ∙ here

-- each element that p passes is one that q passes
pub find-filter : {X : Type 0} (p q : X → Bool) → ((x : X) → p x ≡ true → q x ≡ true) → (xs : List X) → find p (filter q xs) ≡ find p xs
find-filter p q h [] = refl
find-filter {X} p q h (x ∷ xs) = by_test (find-filter p q h xs) (p x) (q x) refl refl
  where
    by_test : find p (filter q xs) ≡ find p xs → (b c : Bool) → p x ≡ b → q x ≡ c → find p (filter q (x ∷ xs)) ≡ find p (x ∷ xs)
    by_test rest true true e f = rw (f, e) refl
    by_test rest true false e f = absurd (true≢false (sym (h x e) ∙ f))
    by_test rest false true e f = rw (f, e) rest
    by_test rest false false e f = rw (f, e) rest

option_or-none : {A : Type 0} (o : Option A) → option_or o None ≡ o
option_or-none None = refl
option_or-none (Some x) = refl

module _ {X : Type 0} (p below above : X → Bool) (x : X) (xs : List X) where
  parts : p x ≡ false → find p (filter below xs ++ x ∷ filter above xs) ≡ option_or (find p (filter below xs)) (find p (filter above xs))
  parts fails = find-append p (filter below xs) (x ∷ filter above xs) ∙ ap (λ b. option_or (find p (filter below xs)) (cond b (Some x) (find p (filter above xs)))) fails

  -- all that passes is below
  pub find_below : p x ≡ false → ((y : X) → p y ≡ true → below y ≡ true) → ((y : X) → above y ≡ true → p y ≡ false) → find p (filter below xs ++ x ∷ filter above xs) ≡ find p xs
  find_below fails low none =
      let empty : find p (filter above xs) ≡ None = find_none p (filter above xs) (All-weaker (λ y. above y ≡ true) (λ y. p y ≡ false) none (filter above xs) (filter_passes above xs)) in
      parts fails ∙ (ap (λ o. option_or (find p (filter below xs)) o) empty ∙ (option_or-none (find p (filter below xs)) ∙ find-filter p below low xs))

  -- all that passes is above
  pub find_above : p x ≡ false → ((y : X) → p y ≡ true → above y ≡ true) → ((y : X) → below y ≡ true → p y ≡ false) → find p (filter below xs ++ x ∷ filter above xs) ≡ find p xs
  find_above fails high none =
      let empty : find p (filter below xs) ≡ None = find_none p (filter below xs) (All-weaker (λ y. below y ≡ true) (λ y. p y ≡ false) none (filter below xs) (filter_passes below xs)) in
      parts fails ∙ (ap (λ o. option_or o (find p (filter above xs))) empty ∙ find-filter p above high xs)

-- each element that p passes is one that q passes
pub filter-filter : {X : Type 0} (p q : X → Bool) → ((x : X) → p x ≡ true → q x ≡ true) → (xs : List X) → filter p (filter q xs) ≡ filter p xs
filter-filter p q h [] = refl
filter-filter {X} p q h (x ∷ xs) = by_test (filter-filter p q h xs) (p x) (q x) refl refl
  where
    by_test : filter p (filter q xs) ≡ filter p xs → (b c : Bool) → p x ≡ b → q x ≡ c → filter p (filter q (x ∷ xs)) ≡ filter p (x ∷ xs)
    by_test rest true true e f = rw (f, e) (ap (λ ys. x ∷ ys) rest)
    by_test rest true false e f = absurd (true≢false (sym (h x e) ∙ f))
    by_test rest false true e f = rw (f, e) rest
    by_test rest false false e f = rw (f, e) rest

-- no element passes where the search finds none
pub All-from_find_none : {X : Type 0} (p : X → Bool) (xs : List X) → find p xs ≡ None → All (λ x. p x ≡ false) xs
All-from_find_none p [] h = All-nil (λ x. p x ≡ false)
All-from_find_none {X} p (x ∷ xs) h = by_test (λ k. All-from_find_none p xs k) (p x) refl
  where
    by_test : (find p xs ≡ None → All (λ y. p y ≡ false) xs) → (b : Bool) → p x ≡ b → All (λ y. p y ≡ false) (x ∷ xs)
    by_test rest true e = absurd (none-some x (sym h ∙ ap (λ b. cond b (Some x) (find p xs)) e))
    by_test rest false e = All-cons (λ y. p y ≡ false) x xs e (rest (ap (λ b. cond b (Some x) (find p xs)) (sym e) ∙ h))

-- each element passes one of the two tests
pub length-filters : {X : Type 0} (p q : X → Bool) (xs : List X) → All (λ x. q x ≡ not (p x)) xs → length (filter p xs) + length (filter q xs) ≡ length xs
length-filters p q [] h = refl
length-filters {X} p q (x ∷ xs) h = by_test (length-filters p q xs (All-tail (λ y. q y ≡ not (p y)) x xs h)) (All-head (λ y. q y ≡ not (p y)) x xs h) (p x) refl
  where
    by_test : length (filter p xs) + length (filter q xs) ≡ length xs → q x ≡ not (p x) → (b : Bool) → p x ≡ b → length (filter p (x ∷ xs)) + length (filter q (x ∷ xs)) ≡ length (x ∷ xs)
    by_test rest other true e = let f : q x ≡ false = other ∙ ap not e in rw (e, f) (omega arith)
    by_test rest other false e = let f : q x ≡ true = other ∙ ap not e in rw (e, f) (omega arith)

module _ {X : Type 0} (R : X → X → Type 0) where
  pub AllPairs-head : (x : X) (xs : List X) → AllPairs R (x ∷ xs) → All (R x) xs
  AllPairs-head x xs h k d within = h zero (suc k) d (omega arith) (omega arith)

  pub AllPairs-tail : (x : X) (xs : List X) → AllPairs R (x ∷ xs) → AllPairs R xs
  AllPairs-tail x xs h i j d below within = h (suc i) (suc j) d (omega arith) (omega arith)

  pub AllPairs-append : (xs ys : List X) → AllPairs R xs → AllPairs R ys → All (λ x. All (R x) ys) xs → AllPairs R (xs ++ ys)
  AllPairs-append [] ys h k across = k
  AllPairs-append (x ∷ xs) ys h k across =
      AllPairs-cons R x (xs ++ ys) (All-append (R x) xs ys (AllPairs-head x xs h) (All-head (λ y. All (R y) ys) x xs across))
      (AllPairs-append xs ys (AllPairs-tail x xs h) k (All-tail (λ y. All (R y) ys) x xs across))

pub All-split : {X : Type 0} (P : X → Type 0) (xs ys : List X) → All P (xs ++ ys) → All P ys
All-split P [] ys h = h
All-split P (x ∷ xs) ys h = All-split P xs ys (All-tail P x (xs ++ ys) h)

-- what holds within a range of indices holds of the front, and of the back
module _ {X : Type 0} (P : X → Type 0) (xs : List X) (n : ℕ) where
  pub All-take_within : n ≤ length xs → AllWithin P xs 0 n → All P (take n xs)
  All-take_within le h k d below =
      let l = length-take-le n xs le in
      let lt : k < n = omega arith in
      rw get_or-take (h k d (omega arith) lt)

  pub All-drop_within : AllWithin P xs n (length xs) → All P (drop n xs)
  All-drop_within h k d below =
      let l = length-drop n xs in
      rw get_or-drop (h (n + k) d (omega arith) (omega arith))
