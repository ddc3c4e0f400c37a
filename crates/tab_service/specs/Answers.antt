-- What calls answer that may refuse a request, and that may find no memory.
use Rattle.std.specs.Prelude.{◌≡◌, Result, Ok, Err, ⊤}
use Rattle.tab_service.specs.declared.refusals.Refused.{Refused}
use Rattle.tab_service.specs.declared.refusals.Refused.TheVariants as refused

-- the refusal is one that is due, unless no memory was found
abbrev pub IsDue : {A W : Type 0} → (Result A W → Type 0) → Refused W → Type 0
IsDue due (refused.Why why) = due (Err why)
IsDue due refused.Memory = ⊤

-- what a call answered is an answer that is due, unless no memory was found
abbrev pub Answers : {A W : Type 0} → (Result A W → Type 0) → Result A (Refused W) → Type 0
Answers due (Ok found) = due (Ok found)
Answers due (Err refusal) = IsDue due refusal

-- and the same where one answer alone is due
abbrev pub Gives : {A W : Type 0} → Result A (Refused W) → Result A W → Type 0
Gives result due = Answers (λ answer. due ≡ answer) result
