-- An opening of the disks: what it finds of the operations in doubt, and of the commit.
use Rattle.std.specs.Prelude.{◌≡◌, ◌<◌, ℕ, suc, ◌+◌, ◌↔◌, List, [], ◌∷◌, ◌++◌, Bool, All, AllPairs, Contains, Option, Some, None, ◌⊎◌}
use Rattle.tab_codec.specs.declared.frames.Frame.{Frame}
use Rattle.tab_history.specs.Configurations.{bounds_of}
use Rattle.tab_history.specs.declared.entries.Entry.{Entry}
use Rattle.tab_history.specs.declared.entries.Entry.TheVariants as entry
use Rattle.tab_history.specs.declared.entries.Doubt.{Doubt}
use Rattle.tab_history.specs.declared.plans.Turn.TheVariants as turn
use Rattle.tab_core.specs.Courses.{Course, store_of}
use Rattle.tab_core.specs.Points.{Point, SpellsMap, SpellsNames, SpellsRange}
use Rattle.tab_core.specs.Steps.{after_entries}

-- ---- the entries of an opening

-- a commit in doubt stood, or nothing is told of it
abbrev pub TellsCommit : Option ℕ → List Entry → Type 0
TellsCommit None told = told ≡ []
TellsCommit (Some plan) told = (told ≡ []) ⊎ (told ≡ entry.Turn plan turn.Committed ∷ [])

-- the operations in doubt, each with whether it stands, in the order of the stores that they are about
pub record AreSettled (course : Course) (settled : List ((ℕ × Doubt) × Bool)) : Type 0 where
  pub rise : AllPairs (λ a b. store_of course.config a.0.1 < store_of course.config b.0.1) settled
  pub are : (it : ℕ × Doubt) → Contains course.past.doubts it ↔ ((stood : Bool) × Contains settled (it, stood))

abbrev pub settled_entries : List ((ℕ × Doubt) × Bool) → List Entry
settled_entries [] = []
settled_entries (it ∷ settled) = entry.Settled it.0.0 it.1 ∷ settled_entries settled

-- The entries of an opening: the commit in doubt where it stood, each operation in doubt in the order of the disks, and the bounds of the map.
pub record Reopens (course : Course) (rest : List Entry) : Type 0 where
  pub told : List Entry
  pub tells : TellsCommit course.past.commit told
  pub settled : List ((ℕ × Doubt) × Bool)
  pub are : AreSettled (after_entries course told) settled
  pub is : rest ≡ told ++ (settled_entries settled ++ (entry.Bounds (bounds_of (after_entries course told).config.rows) ∷ []))

-- ---- what is read

-- the frames that are read of each store, by its number, are such as the disks of a course may have
abbrev pub MeetPoints : ℕ → Course → (ℕ → List Frame) → Type 0
MeetPoints servers course frames = (k : ℕ) → k < servers + 2 → Point course k (frames k)

-- they spell the course, in which nothing is in doubt
pub record SpellCourse (course : Course) (frames : ℕ → List Frame) : Type 0 where
  pub map : SpellsMap course.config (frames 0)
  pub names : SpellsNames course.past.world (frames 1)
  pub ranges : All (λ row. SpellsRange course.past.world course.config row (frames (suc (suc row.server)))) course.config.rows
  pub settled : course.past.doubts ≡ []
  pub commit : course.past.commit ≡ None

-- an opening's entries, behind which the frames that were read spell the course
pub record IsFound (course : Course) (frames : ℕ → List Frame) : Type 0 where
  pub rest : List Entry
  pub reopens : Reopens course rest
  pub spell : SpellCourse (after_entries course rest) frames
