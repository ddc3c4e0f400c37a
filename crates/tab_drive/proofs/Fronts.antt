-- Fronts of texts that a sink took.
use Rattle.std.proofs.Common.{◌≡◌, ℕ, suc, ◌+◌, ◌<◌, List, ◌∷◌, ◌++◌, length, take, drop, get_or, sym, ap, ◌∙◌, arith, length-append}
use Rattle.std.specs.Prelude.{Option, flat_map, Result, Ok, Err, IsErr}
use Rattle.std.specs.Io.KnownBytes.{Appends}
use Rattle.std.proofs.KnownBytes.{Appends-trans}
use Rattle.std.proofs.lemmas.List.{take-append-le, take-append-drop}
use Rattle.std.proofs.lemmas.Grind.{flat_map-append}
use Rattle.std.proofs.Math.Seq.{take-append-add, drop-cons}
use Rattle.tab_outside.specs.Transfers.{TookFront}
use Rattle.tab_drive.specs.Outgoing.{Wrote}

-- a whole text and then a front of the next are a front of both and what follows
pub took_more : (old mid new : Option (List ℕ)) (before piece rest : List ℕ) → Appends old mid before → TookFront mid new piece → TookFront old new (before ++ (piece ++ rest))
took_more old mid new before piece rest whole part = record {
  count = length before + part.count;
  short = let l = length-append before (piece ++ rest) in let m = length-append piece rest in let s : part.count < length piece = part.short in omega (arith, l, m);
  taken =
      let e : take (length before + part.count) (before ++ (piece ++ rest)) ≡ before ++ take part.count piece =
      take-append-add before (piece ++ rest) part.count ∙ ap (λ (t : List ℕ). before ++ t) (take-append-le part.count piece rest (let s : part.count < length piece = part.short in omega arith)) in
      rw e (Appends-trans old mid new before (take part.count piece) whole part.taken);
}

-- a refusal leaves a front
pub err_wrote : {T E : Type 0} (old new : Option (List ℕ)) (result : Result T E) (text : List ℕ) → IsErr result → TookFront old new text → Wrote old new result text
err_wrote old new (Ok x) text is front = cc
err_wrote old new (Err e) text is front = front

-- the pieces are those before an index, the piece there, and the rest
pub pieces_at : {A : Type 0} (f : A → List ℕ) (pieces : List A) (i : ℕ) (d : A) → i < length pieces
    → flat_map f pieces ≡ flat_map f (take i pieces) ++ (f (get_or pieces i d) ++ flat_map f (drop (suc i) pieces))
pieces_at {A = A} f pieces i d h =
    ap (λ (xs : List A). flat_map f xs) (sym (take-append-drop i pieces) ∙ ap (λ (xs : List A). take i pieces ++ xs) (drop-cons pieces i d h))
    ∙ flat_map-append f (take i pieces) (get_or pieces i d ∷ drop (suc i) pieces)
