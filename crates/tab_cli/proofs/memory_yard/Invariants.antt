use Rattle.std.proofs.Common.{◌≡◌, [], All, vec_len}
use Rattle.tab_cli.proofs.memory_yard.Given as goal

abbrev pub invariant-loop : goal.invariant-loop
invariant-loop l = record {
  count : vec_len l.yard ≡ l.counter;
  empty : All (λ disk. disk.log ≡ []) l.yard.items;
}
