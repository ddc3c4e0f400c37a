use Rattle.std.proofs.Common.{◌≡◌, map}
use Rattle.tab_history.specs.Histories.{entry_of}
use Rattle.tab_history.proofs.histories.History.into_vec.Given as goal

abbrev pub invariant-loop-step : goal.invariant-loop-step
invariant-loop-step l = l.entries.items ≡ map entry_of l.yielded
