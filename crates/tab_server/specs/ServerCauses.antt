-- Refusals of a server, and where they come from.
use Rattle.std.specs.Prelude.{◌≡◌, ℕ, ◌≤◌, ◌⊎◌, Result, Err, ⊤}
use Rattle.tab_outside.specs.Faults.{Rose}
use Rattle.tab_journal.specs.Stores.{area_a, area_b}
use Rattle.tab_journal.specs.declared.kept.KeptRefused.{KeptRefused}
use Rattle.tab_journal.specs.declared.kept.KeptRefused.TheVariants as kept
use Rattle.tab_history.specs.declared.entries.Denied.{Denied}
use Rattle.tab_history.specs.declared.entries.Denied.TheVariants as denied
use Rattle.tab_server.specs.declared.refusals.ActRefused.{ActRefused}
use Rattle.tab_server.specs.declared.refusals.ActRefused.TheVariants as refused
use Rattle.tab_server.specs.Serving.{ServerView}

-- a refusal of what is kept
abbrev pub act_refused : KeptRefused → ActRefused
act_refused (kept.DiskFault area) = refused.DiskFault area
act_refused (kept.Damaged area at) = refused.Damaged area at
act_refused kept.EpochSpent = refused.EpochSpent
act_refused kept.Memory = refused.Memory

-- a range refuses a command by these alone, but for want of memory
abbrev pub IsRangeDenial : Denied → Type 0
IsRangeDenial denied.NotFound = ⊤
IsRangeDenial (denied.Op why) = ⊤
IsRangeDenial denied.TimeSpent = ⊤
IsRangeDenial _ = ⊥

abbrev pub denied_as : Denied → ActRefused
denied_as denied.NotFound = refused.NotFound
denied_as (denied.Op why) = refused.Op why
denied_as denied.TimeSpent = refused.TimeSpent
denied_as _ = refused.Memory

-- a disk fault of an area comes only where that disk's count rose, and no count falls
pub record ServerCauses {D T X : Type 0} (faults : D → ℕ) (old new : ServerView D T) (result : Result X ActRefused) : Type 0 where
  pub later_a : faults (area_a old.store) ≤ faults (area_a new.store)
  pub later_b : faults (area_b old.store) ≤ faults (area_b new.store)
  pub fault : (area : ℕ) → result ≡ Err (refused.DiskFault area)
      → ((area ≡ 0) × Rose (faults (area_a old.store)) (faults (area_a new.store))) ⊎ ((area ≡ 1) × Rose (faults (area_b old.store)) (faults (area_b new.store)))

-- where the bytes of an area are damaged, it is area 0 or area 1
abbrev pub IsDamagedIn : {X : Type 0} → Result X ActRefused → Type 0
IsDamagedIn (Err (refused.Damaged area at)) = area ≤ 1
IsDamagedIn _ = ⊤
