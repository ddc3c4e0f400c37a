-- Two lists that are compared place by place.
use Rattle.std.proofs.Common.{◌≡◌, ℕ, ◌+◌, ◌<◌, List, ◌++◌, ◌∷◌, [], length, get_or, take, sym, ap, ◌∙◌}
use Rattle.std.proofs.lemmas.List.{take_more}

pub same_more : {A : Type 0} (xs ys : List A) (i : ℕ) (d : A) → i < length xs → i < length ys → take i xs ≡ take i ys → get_or xs i d ≡ get_or ys i d → take (i + 1) xs ≡ take (i + 1) ys
same_more xs ys i d within other so_far same =
    take_more xs i d within ∙ ap (λ (zs : List _). zs ++ get_or xs i d ∷ []) so_far ∙ ap (λ z. take i ys ++ z ∷ []) same ∙ sym (take_more ys i d other)
