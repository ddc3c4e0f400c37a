use Rattle.std.proofs.Common.{◌≡◌, ◌+◌, ◌≤◌, ◌++◌, length, take}
use Rattle.std.specs.List.{AllByRecursion}
use Rattle.tab_codec.specs.Frames.{HasSpelling}
use Rattle.tab_journal.specs.Areas.{header, opened, IsClosed}
use Rattle.tab_journal.specs.Steps.{EachNow, IsBuilt}
use Rattle.tab_journal.proofs.making.build.Given as goal

abbrev pub invariant-loop-piece : goal.invariant-loop-piece
invariant-loop-piece g l = record {
  built : g.D.Disk.honest → EachNow g.D.Disk.watch IsClosed l.fn.disk → IsBuilt g.D.Disk.watch (header l.fn.kind l.fn.number 1 ++ opened (take l.piece-index l.pieces)) l.disk;
  place : g.D.Disk.honest → l.at ≡ 1 + length (header l.fn.kind l.fn.number 1 ++ opened (take l.piece-index l.pieces));
  spelled : AllByRecursion HasSpelling (take l.piece-index l.pieces);
  stops : g.D.Disk.has_stops l.disk ≡ g.D.Disk.has_stops l.fn.disk;
  later : g.D.Disk.faults l.fn.disk ≤ g.D.Disk.faults l.disk;
}
