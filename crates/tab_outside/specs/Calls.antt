-- Calls that are counted, and of which listed ones fail.
use Rattle.std.specs.Prelude.{◌≡◌, ℕ, ◌+◌, ◌-◌, ◌^◌, min, List, Contains, Result, OnOk}
use Rattle.tab_outside.specs.Faults.{HasCause}

-- how many calls were made, the numbers of those that are to fail, and how many failed
pub record Calls : Type 0 where
  pub made : ℕ
  pub fails : List ℕ
  pub faults : ℕ

-- before the first call
abbrev pub no_calls : List ℕ → Calls
no_calls fails = record { made = 0; fails = fails; faults = 0 }

-- the number of the next call; numbers begin at 1 and end at the greatest of 64 bits
abbrev pub next_call : Calls → ℕ
next_call calls = min (calls.made + 1) (2 ^ 64 - 1)

-- the next call is to fail
abbrev pub IsListed : Calls → Type 0
IsListed calls = Contains calls.fails (next_call calls)

-- one more call was made; its fault is counted where it failed, and none where it did not
pub record CountsCall {T E : Type 0} (old new : Calls) (result : Result T E) : Type 0 where
  pub made : new.made ≡ next_call old
  pub fails : new.fails ≡ old.fails
  pub cause : HasCause old.faults new.faults result
  pub faultless : OnOk result (new.faults ≡ old.faults)

-- something in memory: the bytes that it tells, and its calls
pub record InMemory : Type 0 where
  pub bytes : List ℕ
  pub calls : Calls
