-- Counts of faults, which never fall and end at the greatest number of 64 bits.
use Rattle.std.specs.Prelude.{ℕ, ◌+◌, ◌-◌, ◌^◌, ◌≤◌, min, Result, OnErr, IsErrOf}

-- a count rose; one that stands at its end counts as risen
abbrev pub Rose : ℕ → ℕ → Type 0
Rose before now = min (before + 1) (2 ^ 64 - 1) ≤ now

-- a count never falls, and a call fails only where it rose
pub record HasCause {T E : Type 0} (before now : ℕ) (result : Result T E) : Type 0 where
  pub later : before ≤ now
  pub failed : OnErr result (Rose before now)

-- the same of the one refusal that stands for such a failure
pub record HasCauseFor {T E : Type 0} (before now : ℕ) (result : Result T E) (refusal : E) : Type 0 where
  pub later : before ≤ now
  pub failed : IsErrOf result refusal → Rose before now
