use Rattle.std.proofs.Common.{◌≡◌, ◌≢◌, ◌≤◌, false, None, take}
use Rattle.tab_journal.specs.Stores.{area_a, area_b, IsUnmoved, KeepsStops}
use Rattle.tab_journal.proofs.Pieces.{GoesTo, KeepsOn}
use Rattle.tab_journal.proofs.store.Store.write_pieces.Given as goal

abbrev pub invariant-loop-piece : goal.invariant-loop-piece
invariant-loop-piece g l = record {
  running : l.self.failed ≡ false;
  begun : l.self.building ≢ None;
  unmoved : IsUnmoved l.fn.self l.self;
  has : g.D.Disk.honest → GoesTo g.D.Disk.watch l.fn.self l.self (take l.piece-index l.pieces);
  keeps : g.D.Disk.honest → KeepsOn g.D.Disk.watch l.fn.self l.self;
  stops : KeepsStops g.D.Disk.has_stops l.fn.self l.self;
  later_a : g.D.Disk.faults (area_a l.fn.self) ≤ g.D.Disk.faults (area_a l.self);
  later_b : g.D.Disk.faults (area_b l.fn.self) ≤ g.D.Disk.faults (area_b l.self);
}
