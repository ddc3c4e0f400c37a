-- What calls answer, from what the calls in them answered.
use Rattle.std.proofs.Common.{Result, Ok, Err}
use Rattle.tab_service.specs.Answers.{Answers}
use Rattle.tab_service.specs.declared.refusals.Refused.{Refused}
use Rattle.tab_service.specs.declared.refusals.Refused.TheVariants as refused

-- what is due by one word is due by another
pub answers-weaker : {A W : Type 0} (P Q : Result A W → Type 0) (r : Result A (Refused W)) → ((a : Result A W) → P a → Q a) → Answers P r → Answers Q r
answers-weaker P Q (Ok found) weaker is = weaker (Ok found) is
answers-weaker P Q (Err (refused.Why why)) weaker is = weaker (Err why) is
answers-weaker P Q (Err refused.Memory) weaker is = tt
