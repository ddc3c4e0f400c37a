-- Two lists, place by place.
use Rattle.std.proofs.Common.{◌≡◌, ℕ, ◌<◌, zero, suc, List, [], ◌∷◌, ◌++◌, length, get_or, set, take, drop, refl, ◌∙◌, ap, arith}
use Rattle.std.proofs.lemmas.List.{take-append-le, take_all}
use Rattle.std.specs.List.{AllZip}

pub zip_same : {A : Type 0} (R : A → A → Type 0) → ((x : A) → R x x) → (xs : List A) → AllZip R xs xs
zip_same R same [] = tt
zip_same R same (x ∷ xs) = (same x, zip_same R same xs)

pub zip_weaker : {A : Type 0} (R S : A → A → Type 0) → ((x y : A) → R x y → S x y) → (xs ys : List A) → AllZip R xs ys → AllZip S xs ys
zip_weaker R S to [] [] zip = tt
zip_weaker R S to [] (y ∷ ys) zip = absurd zip
zip_weaker R S to (x ∷ xs) [] zip = absurd zip
zip_weaker R S to (x ∷ xs) (y ∷ ys) zip = (to x y zip.0, zip_weaker R S to xs ys zip.1)

-- one place has a new item
pub zip_set : {A : Type 0} (R : A → A → Type 0) (xs ys : List A) (i : ℕ) (y d : A) → AllZip R xs ys → R (get_or xs i d) y → AllZip R xs (set ys i y)
zip_set R [] [] i y d zip holds = tt
zip_set R [] (z ∷ ys) i y d zip holds = absurd zip
zip_set R (x ∷ xs) [] i y d zip holds = absurd zip
zip_set R (x ∷ xs) (z ∷ ys) zero y d zip holds = (holds, zip.1)
zip_set R (x ∷ xs) (z ∷ ys) (suc i) y d zip holds = (zip.0, zip_set R xs ys i y d zip.1 holds)

pub zip_length : {A : Type 0} (R : A → A → Type 0) (xs ys : List A) → AllZip R xs ys → length xs ≡ length ys
zip_length R [] [] zip = refl
zip_length R [] (y ∷ ys) zip = absurd zip
zip_length R (x ∷ xs) [] zip = absurd zip
zip_length R (x ∷ xs) (y ∷ ys) zip = ap suc (zip_length R xs ys zip.1)

-- both have more behind
pub zip_append : {A : Type 0} (R : A → A → Type 0) (xs ys more others : List A) → AllZip R xs ys → AllZip R more others → AllZip R (xs ++ more) (ys ++ others)
zip_append R [] [] more others zip behind = behind
zip_append R [] (y ∷ ys) more others zip behind = absurd zip
zip_append R (x ∷ xs) [] more others zip behind = absurd zip
zip_append R (x ∷ xs) (y ∷ ys) more others zip behind = (zip.0, zip_append R xs ys more others zip.1 behind)

-- a relation that goes on over two steps
pub zip_then : {A : Type 0} (R : A → A → Type 0) → ((x y z : A) → R x y → R y z → R x z) → (xs ys zs : List A) → AllZip R xs ys → AllZip R ys zs → AllZip R xs zs
zip_then R goes [] [] [] first second = tt
zip_then R goes [] (y ∷ ys) zs first second = absurd first
zip_then R goes (x ∷ xs) [] zs first second = absurd first
zip_then R goes [] [] (z ∷ zs) first second = absurd second
zip_then R goes (x ∷ xs) (y ∷ ys) [] first second = absurd second
zip_then R goes (x ∷ xs) (y ∷ ys) (z ∷ zs) first second = (goes x y z first.0 second.0, zip_then R goes xs ys zs first.1 second.1)

-- at one place
pub zip_at : {A : Type 0} (R : A → A → Type 0) (xs ys : List A) (k : ℕ) (d e : A) → AllZip R xs ys → k < length xs → R (get_or xs k d) (get_or ys k e)
zip_at R [] ys k d e zip within = absurd (omega (arith, within))
zip_at R (x ∷ xs) [] k d e zip within = absurd zip
zip_at R (x ∷ xs) (y ∷ ys) zero d e zip within = zip.0
zip_at R (x ∷ xs) (y ∷ ys) (suc k) d e zip within = zip_at R xs ys k d e zip.1 (omega (arith, within))

-- a list, put over the front of one as long
pub taken : {A : Type 0} (R : A → A → Type 0) (xs ys : List A) (n : ℕ) → AllZip R xs ys → n ≡ length xs → take n (ys ++ drop (length ys) xs) ≡ ys
taken R xs ys n zip size =
    let same = zip_length R xs ys zip in
    take-append-le n ys (drop (length ys) xs) (omega (arith, same, size)) ∙ take_all n ys (omega (arith, same, size))
