use Rattle.std.proofs.Common.{◌≡◌, ◌≤◌, ◌-◌, length}
use Rattle.std.specs.Io.KnownBytes.{Consumes}
use Rattle.tab_drive.specs.Lines.{IsLine}
use Rattle.tab_drive.specs.declared.reading.TheConstants.{LONGEST_LINE}
use Rattle.tab_drive.proofs.reading.read_line.Given as goal

abbrev pub invariant-loop-line : goal.invariant-loop-line
invariant-loop-line g l = record {
  is_line : IsLine l.line.items;
  short : length l.line.items ≤ LONGEST_LINE;
  consumed : Consumes (g.S.Source.left l.fn.source) (g.S.Source.left l.source) l.line.items;
  later : g.S.Source.faults l.fn.source ≤ g.S.Source.faults l.source;
  beside : g.S.Source.beside l.source ≡ g.S.Source.beside l.fn.source;
}

abbrev pub decreases-loop-line : goal.decreases-loop-line
decreases-loop-line g l = LONGEST_LINE - length l.line.items
