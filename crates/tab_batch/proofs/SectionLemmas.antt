-- Spans that lie before an offset lie before each later one.
use Rattle.std.proofs.Common.{ℕ, ◌≤◌, List, arith}
use Rattle.std.specs.Prelude.{All}
use Rattle.std.proofs.lemmas.List.Elements.{All-weaker}
use Rattle.tab_batch.specs.Reading.{IsBelow}
use Rattle.tab_batch.specs.declared.byte_ranges.ByteRange.{ByteRange}

pub later : (at next : ℕ) (ranges : List ByteRange) → at ≤ next → All (IsBelow at) ranges → All (IsBelow next) ranges
later at next ranges up below = All-weaker (IsBelow at) (IsBelow next) (λ range is. record { ordered = is.ordered; below = omega (arith, is.below, up) }) ranges below
