use Rattle.std.proofs.Common.{◌≡◌, ◌+◌, ◌-◌, List, ℕ, [], ◌∷◌, ◌++◌, length, take, ap, subst, ◌∙◌, arith, append_assoc, length-append}
use Rattle.std.proofs.lemmas.List.{take_at}
use Rattle.tab_codec.specs.Spelling.{spelling}
use Rattle.tab_journal.specs.Steps.{IsBuilt}
use Rattle.tab_journal.proofs.areas.write_piece.Goals as goal

pub returns-clause-built : goal.returns-clause-built
returns-clause-built g c honest built is place =
    let s = spelling c.args.piece.now in
    let first = c.in_ok-write_closed.ensures.built honest built is place in
    let behind : c.saturating_add.result ≡ 1 + length (built ++ 1 ∷ []) =
    omega (arith, c.saturating_add.ensures, c.in_ok-write_closed.ensures.far honest, place, length-append built (1 ∷ [])) in
    let front : c.split_at.result.0.now ≡ s =
    c.split_at.ensures.front ∙ ap (λ (l : List ℕ). take (length l - 1) l) c.bytes-bytes.ensures.bytes ∙ take_at s (0 ∷ []) (length (s ++ 0 ∷ []) - 1) (omega (arith, length-append s (0 ∷ []))) in
    let parts : (built ++ 1 ∷ []) ++ c.split_at.result.0.now ≡ built ++ 1 ∷ s =
    ap (λ (l : List ℕ). (built ++ 1 ∷ []) ++ l) front ∙ append_assoc built (1 ∷ []) s in
    subst (λ (l : List ℕ). IsBuilt g.D.Disk.watch l c.write_closed-2.new.disk) parts (c.in_ok-write_closed-2.ensures.built honest (built ++ 1 ∷ []) first behind)

pub returns-clause-end : goal.returns-clause-end
returns-clause-end g c honest =
    let s = spelling c.args.piece.now in
    let front : c.split_at.result.0.now ≡ s =
    c.split_at.ensures.front ∙ ap (λ (l : List ℕ). take (length l - 1) l) c.bytes-bytes.ensures.bytes ∙ take_at s (0 ∷ []) (length (s ++ 0 ∷ []) - 1) (omega (arith, length-append s (0 ∷ []))) in
    let behind : c.saturating_add.result ≡ c.args.at + 1 = omega (arith, c.saturating_add.ensures, c.in_ok-write_closed.ensures.far honest) in
    omega (arith, c.saturating_add-2.ensures, c.in_ok-write_closed-2.ensures.far honest, behind, ap length front, ap length c.bytes-bytes.ensures.bytes, length-append s (0 ∷ []))
