use Rattle.std.proofs.Common.{arith}
use Rattle.tab_journal.proofs.store.Store.spelled.Goals as goal

pub returns-clause-fit_a : goal.returns-clause-fit_a
returns-clause-fit_a g c = λ i. omega (arith, c.type_inv.a i)

pub returns-clause-fit_b : goal.returns-clause-fit_b
returns-clause-fit_b g c = λ i. omega (arith, c.type_inv.b i)
