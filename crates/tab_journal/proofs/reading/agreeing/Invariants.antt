use Rattle.std.proofs.Common.{◌≡◌, ◌+◌, ◌-◌, ◌≤◌, length, drop}
use Rattle.tab_journal.specs.Reading.{agreeing}
use Rattle.tab_journal.proofs.reading.agreeing.Given as goal

abbrev pub invariant-loop-count : goal.invariant-loop-count
invariant-loop-count l = record {
  within : l.count ≤ length l.bytes;
  within_other : l.count ≤ length l.others;
  rest : l.count + agreeing (drop l.count l.bytes) (drop l.count l.others) ≡ agreeing l.bytes l.others;
}

abbrev pub decreases-loop-count : goal.decreases-loop-count
decreases-loop-count l = length l.bytes - l.count
