use Rattle.std.proofs.Common.{◌≡◌, ◌≤◌, take}
use Rattle.std.specs.Prelude.{flat_map}
use Rattle.std.specs.Io.KnownBytes.{Appends}
use Rattle.tab_drive.proofs.outgoing.write_pieces.Given as goal

abbrev pub invariant-loop-piece : goal.invariant-loop-piece
invariant-loop-piece g l = record {
  taken : Appends (g.K.Sink.taken l.fn.sink) (g.K.Sink.taken l.sink) (flat_map (λ piece. piece.now) (take l.piece-index l.pieces));
  later : g.K.Sink.faults l.fn.sink ≤ g.K.Sink.faults l.sink;
  beside : g.K.Sink.beside l.sink ≡ g.K.Sink.beside l.fn.sink;
}
