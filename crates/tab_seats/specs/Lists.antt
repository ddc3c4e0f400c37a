-- Words on lists that the rule of an office is stated with.
use Rattle.std.specs.Prelude.{◌≡◌, ℕ, ◌+◌, ◌<◌, Bool, true, false, ◌==◌, ◌⊎◌, List, [], ◌∷◌, ⊤}

-- x is an element of xs
abbrev pub In : {A : Type 0} → A → List A → Type 0
In x [] = ⊥
In x (y ∷ ys) = (x ≡ y) ⊎ In x ys

-- the numbers of the elements rise along the list, so none comes again
abbrev pub RisesBy : {A : Type 0} → (A → ℕ) → List A → Type 0
RisesBy number [] = ⊤
RisesBy {A} number (x ∷ xs) = ((y : A) → In y xs → number x < number y) × RisesBy number xs

-- 1 for true
abbrev pub one_if : Bool → ℕ
one_if true = 1
one_if false = 0

-- how often n stands in the list
abbrev pub times : ℕ → List ℕ → ℕ
times n [] = 0
times n (m ∷ ms) = one_if (m == n) + times n ms

-- the first element, if there is one, and those behind it
abbrev pub first_of : {A : Type 0} → List A → List A
first_of [] = []
first_of (x ∷ xs) = x ∷ []

abbrev pub rest_of : {A : Type 0} → List A → List A
rest_of [] = []
rest_of (x ∷ xs) = xs
