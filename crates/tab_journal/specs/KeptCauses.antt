-- What a call on something kept leaves, by its answer, and where its refusals come from.
use Rattle.std.specs.Prelude.{◌≡◌, ℕ, ◌-◌, ◌^◌, ◌≤◌, ◌⊎◌, Bool, false, true, Some, None, Result, Ok, Err}
use Rattle.tab_outside.specs.Faults.{Rose}
use Rattle.tab_journal.specs.Stores.{area_a, area_b}
use Rattle.tab_journal.specs.Keeping.{Sense, KeptView, IsDone, IsSettled}
use Rattle.tab_journal.specs.declared.refusals.StoreRefused.{StoreRefused}
use Rattle.tab_journal.specs.declared.refusals.StoreRefused.TheVariants as store
use Rattle.tab_journal.specs.declared.kept.KeptRefused.{KeptRefused}
use Rattle.tab_journal.specs.declared.kept.KeptRefused.TheVariants.{DiskFault, Damaged, EpochSpent, Memory}

-- a refusal of the store, as it is passed on
abbrev pub passed_on : StoreRefused → KeptRefused
passed_on (store.DiskFault area) = DiskFault area
passed_on (store.NotAStore area at) = Damaged area at
passed_on store.EpochSpent = EpochSpent
passed_on store.Memory = Memory

-- a step is done, or a disk failed and it is in doubt, or no memory was found and all is as before
abbrev pub AfterChange : {D C S T : Type 0} → Sense C S → KeptView D C S → KeptView D C S → S → Result T KeptRefused → Type 0
AfterChange sense old new step (Ok x) = IsDone sense old.held step new.held × (new.doubt ≡ None) × (new.failed ≡ false)
AfterChange sense old new step (Err (DiskFault area)) = (new.held ≡ old.held) × (new.doubt ≡ Some step) × (new.failed ≡ true)
AfterChange sense old new step (Err Memory) = new ≡ old
AfterChange sense old new step (Err _) = ⊥

-- the step in doubt stands or does not, and nothing is in doubt any more; or it is in doubt still
abbrev pub AfterSettling : {D C S : Type 0} → Sense C S → KeptView D C S → KeptView D C S → Result Bool KeptRefused → Type 0
AfterSettling sense old new (Ok stood) = IsSettled sense old.held old.doubt new.held stood × (new.doubt ≡ None) × (new.failed ≡ false)
AfterSettling sense old new (Err EpochSpent) = ⊥
AfterSettling sense old new (Err _) = (new.held ≡ old.held) × (new.doubt ≡ old.doubt) × (new.failed ≡ true)

-- what is held is held still; the store runs, or a disk failed, or the last epoch is reached or no memory was found and all is as before
abbrev pub AfterCheckpoint : {D C S T : Type 0} → KeptView D C S → KeptView D C S → Result T KeptRefused → Type 0
AfterCheckpoint old new (Ok x) = (new.held ≡ old.held) × (new.doubt ≡ None) × (new.failed ≡ false)
AfterCheckpoint old new (Err (DiskFault area)) = (new.held ≡ old.held) × (new.doubt ≡ old.doubt) × (new.failed ≡ true)
AfterCheckpoint old new (Err EpochSpent) = (new ≡ old) × (old.store.epoch ≡ 2 ^ 64 - 1)
AfterCheckpoint old new (Err Memory) = new ≡ old
AfterCheckpoint old new (Err (Damaged area at)) = ⊥

-- a call is refused by disk faults alone
abbrev pub IsKeptFaultAlone : {T : Type 0} → Result T KeptRefused → Type 0
IsKeptFaultAlone (Ok x) = Unit {0}
IsKeptFaultAlone (Err (DiskFault area)) = Unit {0}
IsKeptFaultAlone (Err _) = ⊥

-- where the bytes of an area are damaged, it is area 0 or area 1
abbrev pub IsDamaged : {T : Type 0} → Result T KeptRefused → Type 0
IsDamaged (Err (Damaged area at)) = area ≤ 1
IsDamaged _ = Unit {0}

-- a disk fault of an area comes only where that disk's count rose, and no count falls
pub record KeptCauses {D C S T : Type 0} (faults : D → ℕ) (old new : KeptView D C S) (result : Result T KeptRefused) : Type 0 where
  pub later_a : faults (area_a old.store) ≤ faults (area_a new.store)
  pub later_b : faults (area_b old.store) ≤ faults (area_b new.store)
  pub fault : (area : ℕ) → result ≡ Err (DiskFault area)
      → ((area ≡ 0) × Rose (faults (area_a old.store)) (faults (area_a new.store))) ⊎ ((area ≡ 1) × Rose (faults (area_b old.store)) (faults (area_b new.store)))
