-- Two lists of bytes that agree up to a place.
use Rattle.std.proofs.Common.{◌≡◌, ℕ, suc, ◌+◌, ◌<◌, ◌≤◌, false, true, cond, List, [], ◌∷◌, length, get_or, drop, refl, ap, ◌∙◌, arith}
use Rattle.std.specs.Prelude.{◌==◌}
use Rattle.std.proofs.lemmas.Bool.Decides.{nat_tests}
use Rattle.std.proofs.lemmas.List.{drop_more, drop_all}
use Rattle.tab_journal.specs.Reading.{agreeing}

behind : (xs ys : List ℕ) (i : ℕ) → i < length xs → i < length ys
    → agreeing (drop i xs) (drop i ys) ≡ cond (get_or xs i 0 == get_or ys i 0) (suc (agreeing (drop (i + 1) xs) (drop (i + 1) ys))) 0
unfolding agreeing
behind xs ys i less less_other = rw (drop_more xs i 0 less, drop_more ys i 0 less_other) refl

pub agree_more : (xs ys : List ℕ) (i : ℕ) → i < length xs → i < length ys → get_or xs i 0 ≡ get_or ys i 0 → i + agreeing (drop i xs) (drop i ys) ≡ i + 1 + agreeing (drop (i + 1) xs) (drop (i + 1) ys)
agree_more xs ys i less less_other same =
    let yes : (get_or xs i 0 == get_or ys i 0) ≡ true = grind (arith, nat_tests) in
    let more = agreeing (drop (i + 1) xs) (drop (i + 1) ys) in
    let e : agreeing (drop i xs) (drop i ys) ≡ suc more = behind xs ys i less less_other ∙ ap (λ b. cond b (suc more) 0) yes in
    omega (arith, e)

pub agree_no_more : (xs ys : List ℕ) (i : ℕ) → i < length xs → i < length ys → (get_or xs i 0 == get_or ys i 0) ≡ false → i + agreeing (drop i xs) (drop i ys) ≡ i
agree_no_more xs ys i less less_other differ =
    let e : agreeing (drop i xs) (drop i ys) ≡ 0 = behind xs ys i less less_other ∙ ap (λ b. cond b (suc (agreeing (drop (i + 1) xs) (drop (i + 1) ys))) 0) differ in
    omega (arith, e)

pub agree_end : (xs ys : List ℕ) (i : ℕ) → length xs ≤ i → i + agreeing (drop i xs) (drop i ys) ≡ i
unfolding agreeing
agree_end xs ys i past = let e : agreeing (drop i xs) (drop i ys) ≡ 0 = rw (drop_all i xs past) refl in omega (arith, e)

without : (xs : List ℕ) → agreeing xs [] ≡ 0
unfolding agreeing
without [] = refl
without (x ∷ xs) = refl

pub agree_other_end : (xs ys : List ℕ) (i : ℕ) → length ys ≤ i → i + agreeing (drop i xs) (drop i ys) ≡ i
agree_other_end xs ys i past =
    let e : agreeing (drop i xs) (drop i ys) ≡ 0 = ap (agreeing (drop i xs)) (drop_all i ys past) ∙ without (drop i xs) in
    omega (arith, e)
