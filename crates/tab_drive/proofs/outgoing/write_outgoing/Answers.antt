use Rattle.std.proofs.Common.{ℕ, List, subst}
use Rattle.tab_drive.specs.Outgoing.{Wrote}
use Rattle.tab_drive.proofs.Outcomes.{done_piece}
use Rattle.tab_drive.proofs.outgoing.write_outgoing.Goals as goal

pub returns-in-Done-clause-written : goal.returns-in-Done-clause-written
returns-in-Done-clause-written g c =
    rw c.in-Done.is
    (subst (λ (t : List ℕ). Wrote (g.K.Sink.taken c.args.sink.now) (g.K.Sink.taken c.write_pieces.new.sink) c.write_pieces.result t)
    (done_piece _ c.as_slice.ensures) c.write_pieces.ensures.written)
