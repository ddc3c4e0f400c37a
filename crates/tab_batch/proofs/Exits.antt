-- What is known where a function passes a refusal on.
use Rattle.std.proofs.Common.{◌≡◌, sym, subst}
use Rattle.tab_batch.specs.Parts.{Found}
use Rattle.tab_batch.specs.Reading.{Tells}
use Rattle.tab_batch.specs.declared.refusals.BatchRefused.{BatchRefused}

-- a refusal tells of what is the same
pub told : (all left : Found) (refused : BatchRefused) → all ≡ left → Tells left refused → Tells all refused
told all left refused same tells = subst (λ (found : Found). Tells found refused) (sym same) tells
