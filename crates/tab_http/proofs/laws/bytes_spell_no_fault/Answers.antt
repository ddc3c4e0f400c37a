use Rattle.std.specs.Prelude.{Err}
use Rattle.tab_http.proofs.MessageLemmas.{spelled_of_bytes}
use Rattle.tab_http.specs.declared.refusals.HttpRefused.TheVariants.{ReadFault, Memory}
use Rattle.tab_http.proofs.laws.bytes_spell_no_fault.Goals as goal

pub returns-clause-fault : goal.returns-clause-fault
returns-clause-fault c = λ bytes spells. spelled_of_bytes bytes (Err ReadFault) spells

pub returns-clause-memory : goal.returns-clause-memory
returns-clause-memory c = λ bytes spells. spelled_of_bytes bytes (Err Memory) spells
