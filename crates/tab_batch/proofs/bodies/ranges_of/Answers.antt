use Rattle.std.proofs.Common.{◌∙◌}
use Rattle.tab_http.proofs.Exits.{passed_on}
use Rattle.tab_batch.proofs.Exits.{told}
use Rattle.tab_batch.specs.Parts.{ranges_of}
use Rattle.tab_batch.specs.Reading.{Tells}
use Rattle.tab_batch.proofs.bodies.ranges_of.Goals as goal

pub returns-in_err-set-clause-refused : goal.returns-in_err-set-clause-refused
returns-in_err-set-clause-refused c =
    passed_on (Tells (ranges_of c.args.boundary.now c.args.bytes.now)) _ c.in_err-set.field-0.0 c.from_residual-in_err-set.ensures.1
    (told _ _ c.in_err-set.field-0.0 (c.in_ok-head.ensures.found ∙ c.in_ok-inner.ensures.found) (c.in_err-set.ensures.refused c.in_ok-inner.inner.now))
