use Rattle.std.proofs.Common.{◌≡◌, vec_len}
use Rattle.tab_cli.proofs.folder_yard.Given as goal

abbrev pub invariant-loop-number : goal.invariant-loop-number
invariant-loop-number l = vec_len l.yard ≡ l.number
