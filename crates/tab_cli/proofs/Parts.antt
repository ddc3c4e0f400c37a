-- The parts of the arguments.
use Rattle.std.proofs.Common.{◌≡◌, ◌-◌, ◌≤◌, List, ◌∷◌, length, take, drop, get_or, ap, sym, ◌∙◌, arith}
use Rattle.std.proofs.lemmas.List.{length-drop, take_all}
use Rattle.std.proofs.Math.Seq.{drop-cons}

-- three items and the rest
pub parted : {A : Type 0} (xs : List A) (second third : A) → 3 ≤ length xs → second ≡ get_or xs 1 second → third ≡ get_or xs 2 third
    → xs ≡ get_or xs 0 second ∷ second ∷ third ∷ take (length xs - 3) (drop 3 xs)
parted {A = A} xs second third long is_second is_third =
    drop-cons xs 0 second (omega (arith, long))
    ∙ ap (λ (ys : List A). get_or xs 0 second ∷ ys) (drop-cons xs 1 second (omega (arith, long)))
    ∙ ap (λ (y : A). get_or xs 0 second ∷ y ∷ drop 2 xs) (sym is_second)
    ∙ ap (λ (ys : List A). get_or xs 0 second ∷ second ∷ ys) (drop-cons xs 2 third (omega (arith, long)))
    ∙ ap (λ (y : A). get_or xs 0 second ∷ second ∷ y ∷ drop 3 xs) (sym is_third)
    ∙ ap (λ (ys : List A). get_or xs 0 second ∷ second ∷ third ∷ ys) (sym (take_all (length xs - 3) (drop 3 xs) (omega (arith, length-drop 3 xs))))
