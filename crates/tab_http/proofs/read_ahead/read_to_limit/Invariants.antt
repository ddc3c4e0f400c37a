use Rattle.std.proofs.Common.{◌≡◌, ◌-◌, ◌≤◌, vec_len}
use Rattle.tab_http.specs.Reading.{Gathered}
use Rattle.tab_http.proofs.read_ahead.read_to_limit.Given as goal
use Rattle.tab_http.specs.declared.TheConstants.{LONGEST_HEAD}

abbrev pub invariant-loop-piece : goal.invariant-loop-piece
invariant-loop-piece g l = record {
  gathered : Gathered (g.S.Source.left l.fn.source) (g.S.Source.left l.source) l.fn.carry.items l.carry.items;
  later : g.S.Source.faults l.fn.source ≤ g.S.Source.faults l.source;
  beside : g.S.Source.beside l.source ≡ g.S.Source.beside l.fn.source;
}

abbrev pub decreases-loop-piece : goal.decreases-loop-piece
decreases-loop-piece g l = LONGEST_HEAD - vec_len l.carry
