-- What frames count up to, one after another.
use Rattle.std.proofs.Common.{◌≡◌, ℕ, suc, ◌+◌, ◌<◌, List, [], ◌∷◌, length, drop, get_or, sym, ap, subst, ◌∙◌, arith}
use Rattle.std.proofs.Math.Seq.{drop-cons}
use Rattle.tab_codec.specs.declared.frames.Frame.{Frame}
use Rattle.tab_stores.specs.Counting.{count_after, count_of}

pub count_next : (n m : ℕ) (list : List Frame) (i : ℕ) (frame d : Frame) (due : ℕ) → i < length list → frame ≡ get_or list i d → count_of n (drop i list) ≡ due → m ≡ count_after n frame
    → count_of m (drop (i + 1) list) ≡ due
unfolding count_of
count_next n m list i frame d due within is was m_is =
    let before : count_of n (get_or list i d ∷ drop (suc i) list) ≡ due = ap (count_of n) (sym (drop-cons list i d within)) ∙ was in
    let next : suc i ≡ i + 1 = omega arith in
    subst (λ k. count_of m (drop k list) ≡ due) next (ap (λ k. count_of k (drop (suc i) list)) (m_is ∙ ap (count_after n) is) ∙ before)

pub count_end : (n : ℕ) (list : List Frame) (i due : ℕ) → drop i list ≡ [] → count_of n (drop i list) ≡ due → n ≡ due
unfolding count_of
count_end n list i due none was = ap (count_of n) (sym none) ∙ was
