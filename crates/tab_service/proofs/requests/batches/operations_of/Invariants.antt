use Rattle.std.proofs.Common.{◌≡◌, drop}
use Rattle.tab_service.specs.Batches.{operations_from}
use Rattle.tab_service.proofs.BatchLemmas.{behind}
use Rattle.tab_service.proofs.requests.batches.operations_of.Given as goal

abbrev pub invariant-loop-index : goal.invariant-loop-index
invariant-loop-index l = operations_from 0 l.account l.messages ≡ behind l.operations (operations_from l.index l.account (drop l.index l.messages))
