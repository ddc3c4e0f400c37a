-- What a call on the names leaves, by its answer, and where its refusals come from.
use Rattle.std.specs.Prelude.{◌≡◌, ℕ, ◌+◌, ◌-◌, ◌^◌, ◌<◌, ◌≤◌, ◌⊎◌, List, Bool, true, false, None, Some, Result, Ok, Err, OnOk}
use Rattle.std.specs.Option.{is_some}
use Rattle.tab_outside.specs.Disks.{Watch}
use Rattle.tab_outside.specs.Pairs.{Extends, AddsNone, Since}
use Rattle.tab_outside.specs.Faults.{Rose}
use Rattle.tab_codec.specs.declared.frames.Frame.{Frame}
use Rattle.tab_journal.specs.Areas.{Spells}
use Rattle.tab_journal.specs.Stores.{area_a, area_b, IsSameStore}
use Rattle.tab_journal.specs.Keeping.{KeptView, IsSettled, IsReady, IsSound, IsRewritten}
use Rattle.tab_journal.specs.declared.kept.KeptRefused.{KeptRefused}
use Rattle.tab_journal.specs.declared.kept.KeptRefused.TheVariants as kept
use Rattle.tab_history.specs.World.{table_of, without_name}
use Rattle.tab_master.specs.Spelled.{names_kind, SpelledNames}
use Rattle.tab_master.specs.Names.{NamesView, NamesStand, names_sense, names_stepped, created}
use Rattle.tab_master.specs.declared.steps.NamesStep.{NamesStep}
use Rattle.tab_master.specs.declared.steps.NamesStep.TheVariants.{Create, Drop}
use Rattle.tab_master.specs.declared.refusals.NamesRefused.{NamesRefused}
use Rattle.tab_master.specs.declared.refusals.NamesRefused.TheVariants.{AlreadyThere, NotThere, IdsSpent, DiskFault, Memory, EpochSpent, Damaged}

-- names with their store
abbrev pub NamesKept : Type 0 → Type 0
NamesKept D = KeptView D NamesView NamesStep

-- a refusal of what is kept, on the names' disks, which are 2 and 3
abbrev pub names_refused : KeptRefused → NamesRefused
names_refused (kept.DiskFault area) = DiskFault (2 + area)
names_refused (kept.Damaged area at) = Damaged (2 + area) at
names_refused kept.EpochSpent = EpochSpent
names_refused kept.Memory = Memory

-- what the names keep at each moment: their store is one of names; nothing is in doubt while they run, and a step in doubt may
-- be done
pub record IsNames {D : Type 0} (kept : NamesKept D) : Type 0 where
  pub kind : kept.store.kind ≡ names_kind
  pub clear : kept.failed ≡ false → kept.doubt ≡ None
  pub ready : IsReady names_sense kept.held kept.doubt

-- all is as before, but for room that may have been found
abbrev pub IsStill : {D : Type 0} → NamesKept D → NamesKept D → Type 0
IsStill old new = new ≡ record old { held = record old.held { spare = new.held.spare } }

-- ---- settling

-- the names run, and the step in doubt was done or left out
pub record IsSettledTo {D : Type 0} (old new : NamesKept D) : Type 0 where
  pub stood : Bool
  pub settled : IsSettled names_sense old.held old.doubt new.held stood
  pub clear : new.doubt ≡ None
  pub running : new.failed ≡ false

-- they had failed, and nothing is known yet of the step in doubt
pub record IsUnsettled {D : Type 0} (old new : NamesKept D) : Type 0 where
  pub had_failed : old.failed ≡ true
  pub held : new.held ≡ old.held
  pub doubt : new.doubt ≡ old.doubt
  pub failed : new.failed ≡ true

abbrev pub AfterSettle : {D T : Type 0} → NamesKept D → NamesKept D → Result T NamesRefused → Type 0
AfterSettle old new (Ok x) = IsSettledTo old new
AfterSettle old new (Err (DiskFault disk)) = IsUnsettled old new
AfterSettle old new (Err (Damaged disk at)) = IsUnsettled old new
AfterSettle old new (Err Memory) = IsUnsettled old new
AfterSettle old new (Err _) = ⊥

-- ---- what a call does after it has settled names that had failed

-- the settling, and how it left the names: as they were, where they had not failed
pub record SettlesNames {D : Type 0} (w : Watch D) (honest : Type 0) (old mid : NamesKept D) (settled : Result Unit NamesRefused) : Type 0 where
  pub after : AfterSettle old mid settled
  pub same : old.failed ≡ false → mid ≡ old
  pub store : IsSameStore old.store mid.store
  pub sound : honest → IsSound w names_sense mid
  pub images_a : honest → AddsNone w (area_a old.store) (area_a mid.store)
  pub images_b : honest → AddsNone w (area_b old.store) (area_b mid.store)

-- the settling's refusal is the call's, and else the call's own clause holds
abbrev pub GoesOn : {D T : Type 0} → NamesKept D → NamesKept D → Result Unit NamesRefused → Result T NamesRefused → Type 0 → Type 0
GoesOn mid new (Ok x) result own = own
GoesOn mid new (Err refused) result own = (result ≡ Err refused) × (new ≡ mid)

-- a call settles first, and does its own then; P says what that is, of the names in between
pub record SettlesFirst {D T : Type 0} (w : Watch D) (honest : Type 0) (P : NamesKept D → Type 0) (old new : NamesKept D) (result : Result T NamesRefused) : Type 0 where
  pub mid : NamesKept D
  pub settled : Result Unit NamesRefused
  pub settles : SettlesNames w honest old mid settled
  pub own : GoesOn mid new settled result (P mid)

-- ---- a name more or less, of names that run

-- a table may be made: the name is absent, and a number is left
abbrev pub MayCreate : SpelledNames → List ℕ → Type 0
MayCreate told name = (table_of told.names name ≡ None) × (told.next_table < 2 ^ 64 - 1)

-- the number of the table that may be made of a name, or why none may
abbrev pub IsNumberFor : SpelledNames → List ℕ → Result ℕ NamesRefused → Type 0
IsNumberFor told name (Ok table) = MayCreate told name × (table ≡ told.next_table)
IsNumberFor told name (Err AlreadyThere) = is_some (table_of told.names name) ≡ true
IsNumberFor told name (Err IdsSpent) = (table_of told.names name ≡ None) × (told.next_table ≡ 2 ^ 64 - 1)
IsNumberFor told name (Err _) = ⊥

-- a step was done, or a disk failed and it is in doubt, or no memory was found
abbrev pub AfterStep : {D T : Type 0} → NamesKept D → NamesKept D → NamesStep → Result T NamesRefused → Type 0
AfterStep old new step (Ok x) = (new.held.told ≡ names_stepped old.held.told step) × (new.doubt ≡ None) × (new.failed ≡ false)
AfterStep old new step (Err (DiskFault disk)) = (new.held ≡ old.held) × (new.doubt ≡ Some step) × (new.failed ≡ true)
AfterStep old new step (Err Memory) = new ≡ old
AfterStep old new step (Err _) = ⊥

abbrev pub AfterCreate : {D : Type 0} → NamesKept D → NamesKept D → List ℕ → Result ℕ NamesRefused → Type 0
AfterCreate old new name (Ok table) =
    MayCreate old.held.told name × (table ≡ old.held.told.next_table) × (new.held.told ≡ created old.held.told name) × (new.doubt ≡ None) × (new.failed ≡ false)
AfterCreate old new name (Err AlreadyThere) = (is_some (table_of old.held.told.names name) ≡ true) × (new ≡ old)
AfterCreate old new name (Err IdsSpent) = (table_of old.held.told.names name ≡ None) × (old.held.told.next_table ≡ 2 ^ 64 - 1) × (new ≡ old)
AfterCreate old new name (Err (DiskFault disk)) =
    MayCreate old.held.told name × (new.held.told ≡ old.held.told) × (new.doubt ≡ Some (Create old.held.told.next_table name)) × (new.failed ≡ true)
AfterCreate old new name (Err Memory) = MayCreate old.held.told name × IsStill old new
AfterCreate old new name (Err _) = ⊥

-- each pair of images since the call began spells what some pair spelled then, or frames that stand for these names
abbrev pub AddsNames : {D : Type 0} → Watch D → NamesKept D → NamesKept D → SpelledNames → Type 0
AddsNames w old new told =
    Extends w (Spells old.store.kind old.store.number) (λ (frames : List Frame). NamesStand frames told) (area_a old.store) (area_b old.store) (area_a new.store) (area_b new.store)

-- a table was made in the names that the settling left
pub record Creates {D : Type 0} (w : Watch D) (honest : Type 0) (name : List ℕ) (old mid new : NamesKept D) (result : Result ℕ NamesRefused) : Type 0 where
  pub after : AfterCreate mid new name result
  pub images : honest → AddsNames w old new (created mid.held.told name)

-- the names without one
abbrev pub without : SpelledNames → List ℕ → SpelledNames
without told name = record { next_table = told.next_table; names = without_name told.names name }

-- the table of the name was dropped from the names, on the disks and in memory
pub record IsDropped {D : Type 0} (old new : NamesKept D) (name : List ℕ) : Type 0 where
  pub there : is_some (table_of old.held.told.names name) ≡ true
  pub told : new.held.told ≡ without old.held.told name
  pub clear : new.doubt ≡ None
  pub running : new.failed ≡ false

-- whether it is dropped is in doubt
pub record DropInDoubt {D : Type 0} (old new : NamesKept D) (name : List ℕ) : Type 0 where
  pub table : ℕ
  pub there : table_of old.held.told.names name ≡ Some table
  pub held : new.held ≡ old.held
  pub doubt : new.doubt ≡ Some (Drop table)
  pub failed : new.failed ≡ true

abbrev pub AfterDrop : {D T : Type 0} → NamesKept D → NamesKept D → List ℕ → Result T NamesRefused → Type 0
AfterDrop old new name (Ok x) = IsDropped old new name
AfterDrop old new name (Err NotThere) = (table_of old.held.told.names name ≡ None) × (new ≡ old)
AfterDrop old new name (Err (DiskFault disk)) = DropInDoubt old new name
AfterDrop old new name (Err Memory) = (is_some (table_of old.held.told.names name) ≡ true) × (new ≡ old)
AfterDrop old new name (Err _) = ⊥

-- a table was dropped from the names that the settling left
pub record Drops {D T : Type 0} (w : Watch D) (honest : Type 0) (name : List ℕ) (old mid new : NamesKept D) (result : Result T NamesRefused) : Type 0 where
  pub after : AfterDrop mid new name result
  pub images : honest → AddsNames w old new (without mid.held.told name)

-- ---- a checkpoint of names that run

abbrev pub AfterRewrite : {D T : Type 0} → NamesKept D → NamesKept D → Result T NamesRefused → Type 0
AfterRewrite old new (Ok x) = (new.held ≡ old.held) × (new.doubt ≡ None) × (new.failed ≡ false) × (new.store.epoch ≡ old.store.epoch + 1)
AfterRewrite old new (Err (DiskFault disk)) = (new.held ≡ old.held) × (new.doubt ≡ None) × (new.failed ≡ true)
AfterRewrite old new (Err EpochSpent) = (old.store.epoch ≡ 2 ^ 64 - 1) × (new ≡ old)
AfterRewrite old new (Err Memory) = new ≡ old
AfterRewrite old new (Err _) = ⊥

-- the names that the settling left were rewritten; each pair of images since the rewriting began spells frames that stand for them
pub record RewritesNames {D T : Type 0} (w : Watch D) (honest : Type 0) (mid new : NamesKept D) (result : Result T NamesRefused) : Type 0 where
  pub after : AfterRewrite mid new result
  pub ok : honest → OnOk result (IsRewritten w names_sense new)
  pub spent : mid.store.epoch ≡ 2 ^ 64 - 1 → (result ≡ Err EpochSpent) ⊎ (result ≡ Err Memory)
  pub images : honest
      → Since w (Spells mid.store.kind mid.store.number) (λ (frames : List Frame). NamesStand frames mid.held.told) (w.moment (area_a mid.store)) (w.moment (area_b mid.store)) (area_a new.store) (area_b new.store)

-- ---- causes

-- a disk fault comes only where that disk's count rose, and no count falls; the names' disks are 2 and 3
pub record NamesCauses {D T : Type 0} (faults : D → ℕ) (old new : NamesKept D) (result : Result T NamesRefused) : Type 0 where
  pub later_a : faults (area_a old.store) ≤ faults (area_a new.store)
  pub later_b : faults (area_b old.store) ≤ faults (area_b new.store)
  pub fault : (disk : ℕ) → result ≡ Err (DiskFault disk)
      → ((disk ≡ 2) × Rose (faults (area_a old.store)) (faults (area_a new.store))) ⊎ ((disk ≡ 3) × Rose (faults (area_b old.store)) (faults (area_b new.store)))

-- what is damaged is a disk of the names, 2 or 3
abbrev pub IsOwnDamage : {T : Type 0} → Result T NamesRefused → Type 0
IsOwnDamage (Err (Damaged disk at)) = (2 ≤ disk) × (disk ≤ 3)
IsOwnDamage _ = Unit {0}
