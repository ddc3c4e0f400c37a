use Rattle.std.proofs.Common.{ℕ, List, [], subst, sym}
use Rattle.tab_outside.specs.Transfers.{TookFront}
use Rattle.tab_drive.proofs.Fronts.{took_more, err_wrote, pieces_at}
use Rattle.tab_drive.proofs.outgoing.write_pieces.Goals as goal

pub returns-in_err-write_all-clause-written : goal.returns-in_err-write_all-clause-written
returns-in_err-write_all-clause-written g c =
    err_wrote _ _ _ _ c.from_residual.ensures.0
    (subst (λ (t : List ℕ). TookFront (g.K.Sink.taken c.args.sink.now) (g.K.Sink.taken c.write_all.new.sink) t)
    (sym (pieces_at (λ piece. piece.now) c.args.pieces.now c.loop-piece.piece-index (record { ref_ptr = (0, 0); now = [] }) c.loop-piece-test.true))
    (took_more _ _ _ _ _ _ c.loop-piece.invariant.taken c.in_err-write_all.ensures.part))
