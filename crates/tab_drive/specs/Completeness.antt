-- Which schedules a run serves to their end where nothing fails.
use Rattle.std.specs.Prelude.{◌≡◌, ℕ, ◌<◌, List, ◌++◌, length, flat_map}
use Rattle.std.specs.List.{AllByRecursion}
use Rattle.tab_drive.specs.Schedule.{spelling, Fits, end_line}
use Rattle.tab_drive.specs.RunStates.{last_number}
use Rattle.tab_drive.specs.declared.schedule.Scheduled.{Scheduled}

-- the bytes begin with a whole schedule: these events, one after another, and the last line
pub record IsWholeSchedule (events : List Scheduled) (bytes : List ℕ) : Type 0 where
  pub fit : AllByRecursion Fits events
  pub rest : List ℕ
  pub spelled : bytes ≡ flat_map spelling events ++ (end_line ++ rest)

-- the bytes begin with a whole schedule, and a number is left for each of its events
pub record IsServable (bytes : List ℕ) : Type 0 where
  pub events : List Scheduled
  pub whole : IsWholeSchedule events bytes
  pub numbered : length events < last_number
