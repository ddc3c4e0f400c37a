-- The names of tables as they are kept: what the frames tell of them, their steps, and what is held in memory besides.
use Rattle.std.specs.Prelude.{◌≡◌, ℕ, ◌+◌, ◌-◌, ◌^◌, ◌<◌, ◌≤◌, ◌==◌, List, [], ◌∷◌, ◌++◌, map, take, drop, length, None, Some, true}
use Rattle.std.specs.List.{AllByRecursion, list_any}
use Rattle.tab_codec.specs.declared.frames.Frame.{Frame}
use Rattle.tab_codec.specs.declared.frames.Frame.TheVariants as frames
use Rattle.tab_codec.specs.Frames.{HasSpelling}
use Rattle.tab_journal.specs.Areas.{AreFrames}
use Rattle.tab_journal.specs.Fitting.{Fits}
use Rattle.tab_journal.specs.Keeping.{Sense}
use Rattle.tab_history.specs.World.{Named, table_of, with_name}
use Rattle.tab_master.specs.Ordered.{in_order}
use Rattle.tab_master.specs.Spelled.{SpelledNames, names_kind, spelled_names, AreNames, without_table, by_number}
use Rattle.tab_master.specs.declared.steps.NamesStep.{NamesStep}
use Rattle.tab_master.specs.declared.steps.NamesStep.TheVariants.{Create, Drop}

-- what the frames tell of the names, and how many more there is room for
pub record NamesView : Type 0 where
  pub told : SpelledNames
  pub spare : ℕ

-- frames that stand for names
pub record NamesStand (list : List Frame) (told : SpelledNames) : Type 0 where
  pub spelled : spelled_names list ≡ Some told
  pub orderly : AreNames told

-- ---- steps

-- a table may be made of the next number, which is not the greatest, under a name that is absent; one that is there may go
abbrev pub NamesFit : SpelledNames → NamesStep → Type 0
NamesFit told (Create table name) = (table ≡ told.next_table) × (table < 2 ^ 64 - 1) × (table_of told.names name ≡ None)
NamesFit told (Drop table) = list_any (λ one. one.table == table) told.names ≡ true

abbrev pub names_frame : NamesStep → Frame
names_frame (Create table name) = frames.Create table name
names_frame (Drop table) = frames.Drop table

-- the names with one more, whose table has the next number
abbrev pub created : SpelledNames → List ℕ → SpelledNames
created told name = record { next_table = told.next_table + 1; names = with_name told.names (record { spelling = name; table = told.next_table }) }

-- the names without a table
abbrev pub dropped : SpelledNames → ℕ → SpelledNames
dropped told table = record { next_table = told.next_table; names = without_table told.names table }

abbrev pub names_stepped : SpelledNames → NamesStep → SpelledNames
names_stepped told (Create table name) = record { next_table = table + 1; names = with_name told.names (record { spelling = name; table = table }) }
names_stepped told (Drop table) = dropped told table

-- a step may be done, and so its frame goes on from whatever frames stand for the names
pub record NamesGoOn (told : SpelledNames) (step : NamesStep) : Type 0 where
  pub fits : NamesFit told step
  pub goes_on : (list : List Frame) → NamesStand list told → Fits names_kind list (names_frame step) × NamesStand (list ++ names_frame step ∷ []) (names_stepped told step)

-- a table that is made wants room
abbrev pub NamesReady : NamesView → NamesStep → Type 0
NamesReady held (Create table name) = 1 ≤ held.spare
NamesReady held (Drop table) = Unit {0}

-- ---- checkpoints

-- the most names of one frame
abbrev pub most_names : ℕ
most_names = 1_000_000

-- a list in parts, one at least: each but the last is as long as a frame's names may be
abbrev pub AreParts : {A : Type 0} → List (List A) → List A → Type 0
AreParts [] xs = ⊥
AreParts (part ∷ []) xs = (part ≡ xs) × (length xs ≤ most_names)
AreParts (part ∷ next ∷ parts) xs = (part ≡ take most_names xs) × (most_names < length xs) × AreParts (next ∷ parts) (drop most_names xs)

abbrev pub pair : Named → ℕ × List ℕ
pair one = (one.table, one.spelling)

-- frames that list tables in this order
pub record AreListed (next_table : ℕ) (list : List Frame) (names : List Named) : Type 0 where
  pub spelled : AllByRecursion HasSpelling list
  pub parts : List (List (ℕ × List ℕ))
  pub are : AreParts parts (map pair names)
  pub is : list ≡ map (frames.Names next_table) parts

-- frames of a store that list all names by the numbers of their tables, a million in each, and so stand for them
pub record IsNamesCheckpoint (list : List Frame) (told : SpelledNames) : Type 0 where
  pub listed : AreListed told.next_table list (in_order by_number told.names)
  pub are : AreFrames names_kind list
  pub stand : NamesStand list told

-- ---- the whole

abbrev pub names_sense : Sense NamesView NamesStep
names_sense = record {
  kind = names_kind;
  Told = SpelledNames;
  tells = λ held. held.told;
  stands = NamesStand;
  is_checkpoint = IsNamesCheckpoint;
  fits = NamesGoOn;
  frame_of = names_frame;
  stepped = names_stepped;
  ready = NamesReady;
  done = λ old step new. Unit {0};
}
