-- The last of a list.
use Rattle.std.proofs.Common.{◌≡◌, ℕ, suc, ◌-◌, ◌<◌, Option, Some, None, List, [], ◌∷◌, length, get_or, map, refl, sym, ap, ◌∙◌, arith}
use Rattle.std.specs.List.{slice_get, last_or}
use Rattle.std.specs.Option.{option_map}
use Rattle.std.proofs.lemmas.Option.{slice_get-get_or}

last_mapped : {A B : Type 0} (f : A → B) (o : Option B) (x : A) (xs : List A) → last_or o (map f (x ∷ xs)) ≡ option_map f (slice_get (x ∷ xs) (length xs))
last_mapped f o x [] = refl
last_mapped f o x (y ∷ ys) = last_mapped f (Some (f x)) y ys

less_one : (n : ℕ) → suc n - 1 ≡ n
less_one n = omega arith

-- what `last` gives
pub last_is : {A B : Type 0} (f : A → B) (o : Option B) (xs : List A) (x : A) → Some x ≡ slice_get xs (length xs - 1) → last_or o (map f xs) ≡ Some (f x)
last_is f o [] x e = absurd cc
last_is f o (y ∷ ys) x e = last_mapped f o y ys ∙ ap (λ (n : ℕ). option_map f (slice_get (y ∷ ys) n)) (sym (less_one (length ys))) ∙ ap (option_map f) (sym e)

pub last_none : {A B : Type 0} (f : A → B) (o : Option B) (xs : List A) → None ≡ slice_get xs (length xs - 1) → last_or o (map f xs) ≡ o
last_none f o [] e = refl
last_none f o (y ∷ ys) e =
    let less : length ys < length (y ∷ ys) = omega arith in
    let there : slice_get (y ∷ ys) (length ys) ≡ Some (get_or (y ∷ ys) (length ys) y) = slice_get-get_or (y ∷ ys) (length ys) y less in
    let none : None ≡ slice_get (y ∷ ys) (length ys) = e ∙ ap (slice_get (y ∷ ys)) (less_one (length ys)) in
    absurd cc
