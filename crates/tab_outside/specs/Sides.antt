-- What lies beside a direction of a connection that goes both ways.
use Rattle.std.specs.Prelude.{ℕ, List, Option, None}

-- what the other direction tells: its bytes, where it tells them, and its count of faults
pub record Side : Type 0 where
  pub bytes : Option (List ℕ)
  pub faults : ℕ

-- beside a value of one direction lies nothing
abbrev pub nothing_beside : Side
nothing_beside = record { bytes = None; faults = 0 }
