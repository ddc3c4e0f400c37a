-- The pieces so far have a spelling.
use Rattle.std.proofs.Common.{take}
use Rattle.std.specs.List.{AllByRecursion}
use Rattle.tab_codec.specs.Frames.{HasSpelling}
use Rattle.tab_server.proofs.rewriting.are_spelled.Given as goal

abbrev pub invariant-loop-piece : goal.invariant-loop-piece
invariant-loop-piece l = AllByRecursion HasSpelling (take l.piece-index l.pieces)
