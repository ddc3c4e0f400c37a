use Rattle.tab_auth.specs.Checks.{refusal}
use Rattle.tab_auth.proofs.Signings.{taken_exactly}
use Rattle.tab_auth.proofs.checks.check.Goals as goal

pub returns-in-Some-clause-signed : goal.returns-in-Some-clause-signed
unfolding refusal
returns-in-Some-clause-signed c =
    rw c.in-Some.is (taken_exactly c.args.keys.now.account c.in-Some.key c.args.signed.now c.args.now)
