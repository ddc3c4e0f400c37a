use Rattle.std.proofs.Common.{◌≡◌, ◌<◌, ◌^◌, take}
use Rattle.tab_edm.specs.Moments.{last_digits}
use Rattle.tab_edm.proofs.moments.read_number.Given as goal

abbrev pub invariant-loop-digit : goal.invariant-loop-digit
invariant-loop-digit l =
    (l.n < 10 ^ l.digit-index) × (take l.digit-index l.digits ≡ last_digits l.digit-index l.n)
