-- What the calls on a map with its store answer and leave.
use Rattle.std.specs.Prelude.{◌≡◌, ℕ, ◌+◌, ◌-◌, ◌^◌, ◌⊎◌, [], length, Bool, false, true, None, Result, Ok, Err, OnOk}
use Rattle.tab_outside.specs.Disks.{Watch}
use Rattle.tab_outside.specs.Pairs.{AddsNone, Since}
use Rattle.tab_journal.specs.Areas.{Spells, opened, first_gate}
use Rattle.tab_journal.specs.Reading.{Found}
use Rattle.tab_journal.specs.Stores.{area_a, area_b, IsSameStore, KeepsStops}
use Rattle.tab_journal.specs.Keeping.{Sense, KeptView, IsReady, IsSound, IsRewritten, StandsFor}
use Rattle.tab_journal.specs.KeptCauses.{AfterSettling, AfterCheckpoint, IsDamaged, KeptCauses}
use Rattle.tab_journal.specs.declared.refusals.Back.{Back}
use Rattle.tab_journal.specs.declared.refusals.StoreRefused.TheVariants.{NotAStore}
use Rattle.tab_journal.specs.declared.kept.KeptRefused.{KeptRefused}
use Rattle.tab_journal.specs.declared.kept.KeptRefused.TheVariants as kept
use Rattle.tab_history.specs.declared.plans.MapRefused.{MapRefused}
use Rattle.tab_history.specs.declared.plans.MapRefused.TheVariants.{DiskFault, Damaged, EpochSpent, Memory}
use Rattle.tab_master.specs.Spelled.{map_kind}
use Rattle.tab_master.specs.Maps.{MapView, MapCommit, map_sense, IsMapOver, SpellNoMap, GoesOnFrom}

-- a map with its store
abbrev pub MapKept : Type 0 → Type 0
MapKept D = KeptView D MapView MapCommit

-- what a map with its store keeps at each moment: a commit in doubt may be done
pub record IsRangeMap {D : Type 0} (map : MapKept D) : Type 0 where
  pub ready : IsReady map_sense map.held map.doubt

-- a refusal of the map's store as the map answers it: its areas are the disks 0 and 1
abbrev pub map_refused : KeptRefused → MapRefused
map_refused (kept.DiskFault area) = DiskFault area
map_refused (kept.Damaged area at) = Damaged area at
map_refused kept.EpochSpent = EpochSpent
map_refused kept.Memory = Memory

-- an answer of the map's store is passed on
abbrev pub PassesOn : {T U : Type 0} → Result T KeptRefused → Result U MapRefused → Type 0
PassesOn (Ok x) (Ok y) = Unit {0}
PassesOn (Err refused) (Err passed) = passed ≡ map_refused refused
PassesOn _ _ = ⊥

-- ---- opening

-- a map that was opened runs, over so many servers, with nothing in doubt
pub record IsOpened {D : Type 0} (servers : ℕ) (map : MapKept D) : Type 0 where
  pub kind : map.store.kind ≡ map_kind
  pub number : map.store.number ≡ 0
  pub running : map.failed ≡ false
  pub clear : map.doubt ≡ None
  pub servers_are : map.held.servers ≡ servers
  pub next_range : map.held.next_range ≡ map.held.told.next_range
  pub next_plan : map.held.next_plan ≡ map.held.told.next_plan
  pub plans : map.held.plans ≡ []
  pub is : IsMapOver servers map.held.told

-- the areas spell frames, but these no map over so many servers, and the place is where they end
pub record IsNoMapAt (servers : ℕ) (read : Result Found (ℕ × ℕ)) (area at : ℕ) : Type 0 where
  pub found : Found
  pub read_is : read ≡ Ok found
  pub no_map : SpellNoMap servers found.frames
  pub area_is : area ≡ found.area
  pub at_is : at ≡ first_gate + length (opened found.frames)

-- an opening goes on from the map that the areas spell; or it names the first place that has no spelling, or the one where
-- frames end that spell no map
abbrev pub OpensMap : {D : Type 0} → ℕ → Result (MapKept D) (Back D) → Result Found (ℕ × ℕ) → Type 0
OpensMap servers (Ok map) read = (found : Found) × (read ≡ Ok found) × GoesOnFrom servers found.frames map.held
OpensMap servers (Err back) read = (area at : ℕ) → back.refused ≡ NotAStore area at → (read ≡ Err (area, at)) ⊎ IsNoMapAt servers read area at

-- ---- reading anew

-- A store that has failed is read anew before anything else, and one that runs is left as it is. No image of a crash is added.
pub record ReadsAnew {D C S : Type 0} (honest : Type 0) (w : Watch D) (faults : D → ℕ) (has_stops : D → Bool) (sense : Sense C S) (old mid : KeptView D C S) (answer : Result Bool KeptRefused) : Type 0 where
  pub same : old.failed ≡ false → (mid ≡ old) × (answer ≡ Ok false)
  pub after : old.failed ≡ true → AfterSettling sense old mid answer
  pub sound : honest → IsSound w sense mid
  pub never : honest → (area at : ℕ) → answer ≡ Err (kept.Damaged area at) → ⊥
  pub damaged : IsDamaged answer
  pub images_a : honest → AddsNone w (area_a old.store) (area_a mid.store)
  pub images_b : honest → AddsNone w (area_b old.store) (area_b mid.store)
  pub stands : IsSameStore old.store mid.store
  pub stops : KeepsStops has_stops old.store mid.store
  pub causes : KeptCauses faults old mid answer

-- a call that reads anew and does nothing else
pub record SettlesMap {D T : Type 0} (honest : Type 0) (w : Watch D) (faults : D → ℕ) (has_stops : D → Bool) (old new : MapKept D) (result : Result T MapRefused) : Type 0 where
  pub answer : Result Bool KeptRefused
  pub reads : ReadsAnew honest w faults has_stops map_sense old new answer
  pub passed : PassesOn answer result

-- ---- checkpoints

-- a store that runs is rewritten to what is held
pub record RewritesMap {D T : Type 0} (honest : Type 0) (w : Watch D) (faults : D → ℕ) (has_stops : D → Bool) (mid new : MapKept D) (result : Result T MapRefused) : Type 0 where
  pub answer : Result T KeptRefused
  pub passed : PassesOn answer result
  pub after : AfterCheckpoint mid new answer
  pub sound : honest → IsSound w map_sense new
  pub rewritten : honest → OnOk answer (IsRewritten w map_sense new)
  pub spent : mid.store.epoch ≡ 2 ^ 64 - 1 → (answer ≡ Err kept.EpochSpent) ⊎ (answer ≡ Err kept.Memory)
  pub images : honest → Since w (Spells mid.store.kind mid.store.number) (StandsFor map_sense mid.held) (w.moment (area_a mid.store)) (w.moment (area_b mid.store)) (area_a new.store) (area_b new.store)
  pub stands : IsSameStore mid.store new.store
  pub stops : KeepsStops has_stops mid.store new.store
  pub causes : KeptCauses faults mid new answer

-- what follows a reading: nothing where it was refused, and else the rewriting
abbrev pub RewritesBehind : {D T : Type 0} → Type 0 → Watch D → (D → ℕ) → (D → Bool) → MapKept D → MapKept D → Result Bool KeptRefused → Result T MapRefused → Type 0
RewritesBehind honest w faults has_stops mid new (Ok stood) result = RewritesMap honest w faults has_stops mid new result
RewritesBehind honest w faults has_stops mid new (Err refused) result = (new ≡ mid) × (result ≡ Err (map_refused refused))

-- A checkpoint first reads anew where the store has failed: there is the moment between, what stood then, and what the reading
-- answered.
pub record ChecksMap {D T : Type 0} (honest : Type 0) (w : Watch D) (faults : D → ℕ) (has_stops : D → Bool) (old new : MapKept D) (result : Result T MapRefused) : Type 0 where
  pub mid : MapKept D
  pub answer : Result Bool KeptRefused
  pub reads : ReadsAnew honest w faults has_stops map_sense old mid answer
  pub rewrites : RewritesBehind honest w faults has_stops mid new answer result
