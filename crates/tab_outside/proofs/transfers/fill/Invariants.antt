use Rattle.std.proofs.Common.{◌≡◌, ◌+◌, ◌≤◌, vec_len}
use Rattle.tab_outside.specs.Transfers.{Moved}
use Rattle.tab_outside.proofs.transfers.fill.Given as goal

abbrev pub invariant-loop-missing : goal.invariant-loop-missing
invariant-loop-missing g l = record {
  moved : Moved (g.S.Source.left l.fn.source) (g.S.Source.left l.source) l.fn.into.items l.into.items;
  size : vec_len l.into + l.missing ≡ vec_len l.fn.into + l.count;
  later : g.S.Source.faults l.fn.source ≤ g.S.Source.faults l.source;
  beside : g.S.Source.beside l.source ≡ g.S.Source.beside l.fn.source;
}

abbrev pub decreases-loop-missing : goal.decreases-loop-missing
decreases-loop-missing g l = l.missing
