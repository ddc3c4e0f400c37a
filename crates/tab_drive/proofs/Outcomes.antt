-- Outcomes put together from their pieces.
use Rattle.std.proofs.Common.{◌≡◌, ℕ, List, [], ◌∷◌, ◌++◌, length, refl, ap, ◌∙◌, append_assoc}
use Rattle.std.specs.Prelude.{codes, decimal}
use Rattle.tab_drive.specs.RunStates.{reply_outcome, done_outcome}

-- the line of a reply's length
pub reply_line : (empty word counted line digits : List ℕ) (size : ℕ) → empty ≡ [] → word ≡ empty ++ codes "reply " → counted ≡ word ++ digits → digits ≡ decimal size → line ≡ counted ++ codes "\n"
    → line ≡ codes "reply " ++ (decimal size ++ 10 ∷ [])
reply_line empty word counted line digits size none w c d l = rw (l, c, w, none, d) (append_assoc (codes "reply ") (decimal size) (10 ∷ []))

pub reply_pieces : (line reply end : List ℕ) → line ≡ codes "reply " ++ (decimal (length reply) ++ 10 ∷ []) → end ≡ 10 ∷ [] → line ++ (reply ++ (end ++ [])) ≡ reply_outcome reply
unfolding reply_outcome
reply_pieces line reply end l e =
    rw (l, e) (append_assoc (codes "reply ") (decimal (length reply) ++ 10 ∷ []) (reply ++ 10 ∷ [])
    ∙ ap (λ (t : List ℕ). codes "reply " ++ t) (append_assoc (decimal (length reply)) (10 ∷ []) (reply ++ 10 ∷ [])))

pub done_piece : (text : List ℕ) → text ≡ codes "ok\n" → text ++ [] ≡ done_outcome
unfolding done_outcome
done_piece text t = rw t refl
