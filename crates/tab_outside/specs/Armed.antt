-- Failures and stops that wait for one of the next calls of a disk.
use Rattle.std.specs.Prelude.{◌≡◌, ℕ, ◌-◌, ◌==◌, ◌||◌, max, min, Bool, true, false, Option, None, Some, cond, Result, IsErr}
use Rattle.tab_outside.specs.Calls.{Calls}

-- the call that is to fail once and the one that is to stop the disk, counted from the next as 1, and whether one has
-- met its stop
pub record Armed : Type 0 where
  pub fail : Option ℕ
  pub stop : Option ℕ
  pub stopped : Bool

-- nothing waits
abbrev pub unarmed : Armed
unarmed = record { fail = None; stop = None; stopped = false }

-- the next call is the one
abbrev pub is_next : Option ℕ → Bool
is_next None = false
is_next (Some count) = count == 1

-- the count after one more call
abbrev pub counted_down : Option ℕ → Option ℕ
counted_down None = None
counted_down (Some count) = cond (count == 1) None (Some (count - 1))

-- the next call is to fail: it meets a failure or a stop, or the disk has stopped
abbrev pub fails_next : Armed → Bool
fails_next armed = armed.stopped || is_next armed.stop || is_next armed.fail

-- the next call is the one that is stopped in
abbrev pub stops_next : Armed → Bool
stops_next armed = cond armed.stopped false (is_next armed.stop)

-- what waits after one more call
abbrev pub after_call : Armed → Armed
after_call armed = record { fail = counted_down armed.fail; stop = counted_down armed.stop; stopped = armed.stopped || is_next armed.stop }

-- a call is counted, and fails where it is to fail
pub record MeetsArmed {T E : Type 0} (old new : Armed) (result : Result T E) : Type 0 where
  pub counted : new ≡ after_call old
  pub fails : fails_next old ≡ true → IsErr result

-- one failure waits at most: a later one takes the place of an earlier; 0 counts as 1
abbrev pub with_fail : Armed → ℕ → Armed
with_fail armed after = record armed { fail = Some (max after 1) }

-- of two counts the one whose call comes first
abbrev pub sooner : Option ℕ → ℕ → Option ℕ
sooner None count = Some count
sooner (Some other) count = Some (min other count)

-- of several stops the one whose call comes first counts
abbrev pub with_stop : Armed → ℕ → Armed
with_stop armed after = record armed { stop = sooner armed.stop (max after 1) }

-- the calls of a disk in memory, and what waits for them
pub record ArmableCalls : Type 0 where
  pub calls : Calls
  pub armed : Armed
