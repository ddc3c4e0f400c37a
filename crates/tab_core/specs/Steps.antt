-- How a course goes on by the entries of a history, and which entries suit it.
use Rattle.std.specs.Prelude.{◌≡◌, ◌≢◌, ℕ, List, [], ◌∷◌, true, Some, None, Ok, ⊤}
use Rattle.tab_history.specs.Legality.{after, Allows}
use Rattle.tab_history.specs.Doubts.{doubt_of, EachDoubt}
use Rattle.tab_history.specs.Configurations.{config_after, turned}
use Rattle.tab_history.specs.declared.entries.Entry.{Entry}
use Rattle.tab_history.specs.declared.entries.Entry.TheVariants as entry
use Rattle.tab_history.specs.declared.entries.Doubt.{Doubt}
use Rattle.tab_history.specs.declared.entries.Doubt.TheVariants as doubt
use Rattle.tab_core.specs.Courses.{Course, IsConfiguration, IsOfGroup, IsNotBefore, store_of}

abbrev pub after_entry : Course → Entry → Course
after_entry course entry = record course { past = after course.past entry; config = config_after course.config course.past.doubts entry }

abbrev pub after_entries : Course → List Entry → Course
after_entries course [] = course
after_entries course (entry ∷ entries) = after_entries (after_entry course entry) entries

-- where a run begins: nothing is pending, and its opening ends the plans that were made before
abbrev pub at_rest : Course → Course
at_rest course = record course { config = record course.config { stopped = true }; pending = [] }

-- ---- entries that a course may go on with

-- no operation is in doubt on the store of this one
abbrev pub IsAlone : Course → Doubt → Type 0
IsAlone course operation = EachDoubt (λ other. store_of course.config other ≢ store_of course.config operation) course.past.doubts

-- what an entry owes the configuration, besides being allowed by what the history has come to
abbrev pub SuitsConfig : ℕ → Course → Entry → Type 0
SuitsConfig servers course (entry.Change ask now table group (Ok tick)) =
    IsOfGroup (doubt.Change table group tick) × IsNotBefore course.config (doubt.Change table group tick) × IsAlone course (doubt.Change table group tick)
SuitsConfig servers course (entry.Maybe ask now what) =
    IsOfGroup what × IsNotBefore course.config what × IsAlone course what × (doubt_of course.past.doubts ask ≡ None)
SuitsConfig servers course (entry.Turn plan turn) = IsConfiguration servers course.past (turned course.config plan turn)
SuitsConfig servers course _ = ⊤

abbrev pub Suits : ℕ → Course → Entry → Type 0
Suits servers course entry = Allows course.past entry × SuitsConfig servers course entry

abbrev pub EachSuits : ℕ → Course → List Entry → Type 0
EachSuits servers course [] = ⊤
EachSuits servers course (entry ∷ entries) = Suits servers course entry × EachSuits servers (after_entry course entry) entries

-- behind an entry no doubt is open that this operation was in: it was in none, or the entry settles it
abbrev pub EndsDoubt : Course → Doubt → Entry → Type 0
EndsDoubt course operation (entry.Settled ask stood) = doubt_of course.past.doubts ask ≡ Some operation
EndsDoubt course operation _ = IsAlone course operation
