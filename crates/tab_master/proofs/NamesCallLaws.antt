-- How what a call leaves, and its causes, go on from what is kept to the names, and from their settling to the call's own step.
use Rattle.std.proofs.Common.{◌≡◌, ℕ, ◌+◌, ◌≤◌, ◌⊎◌, inl, inr, List, Bool, true, Option, Some, None, Result, Ok, Err, refl, sym, ap, ◌∙◌, subst, arith}
use Rattle.tab_outside.specs.Disks.{Watch}
use Rattle.tab_outside.specs.Pairs.{Extends, AddsNone}
use Rattle.tab_codec.specs.declared.frames.Frame.{Frame}
use Rattle.tab_journal.specs.Areas.{Spells}
use Rattle.tab_journal.specs.Stores.{area_a, area_b, IsSameStore}
use Rattle.std.specs.Prelude.{◌<◌, ◌-◌, ◌^◌, OnOk}
use Rattle.std.specs.Option.{is_some}
use Rattle.tab_outside.specs.Pairs.{Since}
use Rattle.tab_outside.proofs.Moments.{extends_none}
use Rattle.tab_journal.proofs.Running.{left_alone}
use Rattle.tab_journal.specs.Keeping.{IfDoubt, StandsStill, IsRewritten, StandsFor, StandsWith}
use Rattle.tab_journal.specs.KeptCauses.{IsDamaged, AfterCheckpoint}
use Rattle.tab_journal.specs.declared.kept.KeptRefused.{KeptRefused}
use Rattle.tab_journal.specs.declared.kept.KeptRefused.TheVariants as kept
use Rattle.tab_history.specs.World.{table_of}
use Rattle.tab_master.specs.Spelled.{SpelledNames, AreNames}
use Rattle.tab_master.specs.Names.{NamesView, NamesStand, NamesGoOn, NamesReady, names_sense, created, dropped}
use Rattle.tab_master.specs.declared.steps.NamesStep.{NamesStep}
use Rattle.tab_master.specs.declared.steps.NamesStep.TheVariants.{Create, Drop}
use Rattle.tab_master.proofs.StandingLaws.{names_go_on}
use Rattle.tab_master.proofs.DropLaws.{dropped_is_without}
use Rattle.tab_master.specs.NamesCalls.{NamesKept, names_refused, AfterStep, AfterRewrite, IsStill, IsNumberFor, MayCreate, AfterCreate, AfterDrop, RewritesNames, SettlesFirst, IsOwnDamage, SettlesNames, AddsNames, Creates, Drops, without, NamesCauses}
use Rattle.tab_master.specs.declared.refusals.NamesRefused.{NamesRefused}
use Rattle.tab_master.specs.declared.refusals.NamesRefused.TheVariants.{AlreadyThere, NotThere, IdsSpent, DiskFault, Memory, EpochSpent, Damaged}

-- ---- causes

-- nothing was called
pub causes_none : {D : Type 0} (T : Type 0) (faults : D → ℕ) (old : NamesKept D) (result : Result T NamesRefused) → ((disk : ℕ) → result ≡ Err (DiskFault disk) → ⊥) → NamesCauses faults old old result
causes_none T faults old result never = record { later_a = omega arith; later_b = omega arith; fault = λ disk e. absurd (never disk e) }

-- ---- images

-- images that a call adds behind a settling that adds none
pub none_then_adds : {D : Type 0} (w : Watch D) (kind number : ℕ) (P : List Frame → Type 0) (a b a_mid b_mid a_new b_new : D) → AddsNone w a a_mid → AddsNone w b b_mid → Extends w (Spells kind number) P a_mid b_mid a_new b_new
    → Extends w (Spells kind number) P a b a_new b_new
none_then_adds w kind number P a b a_mid b_mid a_new b_new none_a none_b adds = record {
  later_a = let l = none_a.later in let m = adds.later_a in omega (arith, l, m);
  later_b = let l = none_b.later in let m = adds.later_b in omega (arith, l, m);
  each = λ ta tb in_a in_b c d c_left d_left.
      let l = none_a.later in
      let m = none_b.later in
      let was = adds.each ta tb (omega (arith, in_a, l)) (omega (arith, in_b, m)) c d c_left d_left in
      record { c_before = was.c_before; d_before = was.d_before; c_was = none_a.each ta in_a was.c_before was.c_was; d_was = none_b.each tb in_b was.d_before was.d_was; as_before = was.as_before };
}

adds_named : {D : Type 0} (w : Watch D) (P : List Frame → Type 0) (kind number other_kind other_number : ℕ) (a b a_new b_new : D) → other_kind ≡ kind → other_number ≡ number → Extends w (Spells other_kind other_number) P a b a_new b_new
    → Extends w (Spells kind number) P a b a_new b_new
adds_named w P kind number other_kind other_number a b a_new b_new same_kind same_number adds = subst (λ k. Extends w (Spells k number) P a b a_new b_new) same_kind (subst (λ n. Extends w (Spells other_kind n) P a b a_new b_new) same_number adds)

pub then_adds : {D : Type 0} (w : Watch D) (P : List Frame → Type 0) (old mid new : NamesKept D) → IsSameStore old.store mid.store → AddsNone w (area_a old.store) (area_a mid.store) → AddsNone w (area_b old.store) (area_b mid.store)
    → Extends w (Spells mid.store.kind mid.store.number) P (area_a mid.store) (area_b mid.store) (area_a new.store) (area_b new.store)
    → Extends w (Spells old.store.kind old.store.number) P (area_a old.store) (area_b old.store) (area_a new.store) (area_b new.store)
then_adds w P old mid new same none_a none_b adds =
    none_then_adds w old.store.kind old.store.number P (area_a old.store) (area_b old.store) (area_a mid.store) (area_b mid.store) (area_a new.store) (area_b new.store) none_a none_b
    (adds_named w P old.store.kind old.store.number mid.store.kind mid.store.number (area_a mid.store) (area_b mid.store) (area_a new.store) (area_b new.store) same.kind same.number adds)

pub creates_then : {D : Type 0} (w : Watch D) (honest : Type 0) (name : List ℕ) (old mid new : NamesKept D) (settled : Result (Unit {0}) NamesRefused) (result : Result ℕ NamesRefused) → SettlesNames w honest old mid settled
    → Creates w honest name mid mid new result → Creates w honest name old mid new result
creates_then w honest name old mid new settled result settles creates = record {
  after = creates.after;
  images = λ h. then_adds w _ old mid new settles.store (settles.images_a h) (settles.images_b h) (creates.images h);
}

pub drops_then : {D : Type 0} (T : Type 0) (w : Watch D) (honest : Type 0) (name : List ℕ) (old mid new : NamesKept D) (settled : Result (Unit {0}) NamesRefused) (result : Result T NamesRefused) → SettlesNames w honest old mid settled
    → Drops w honest name mid mid new result → Drops w honest name old mid new result
drops_then T w honest name old mid new settled result settles drops = record {
  after = drops.after;
  images = λ h. then_adds w _ old mid new settles.store (settles.images_a h) (settles.images_b h) (drops.images h);
}

-- ---- the settling first, and then the call's own

pub refused_first : {D : Type 0} (T : Type 0) (w : Watch D) (honest : Type 0) (P : NamesKept D → Type 0) (old mid : NamesKept D) (settled : Result (Unit {0}) NamesRefused) (refused : NamesRefused) (result : Result T NamesRefused)
    → SettlesNames w honest old mid settled → settled ≡ Err refused → result ≡ Err refused → SettlesFirst w honest P old mid result
refused_first T w honest P old mid settled refused result settles is same = record { mid = mid; settled = Err refused; settles = subst (λ s. SettlesNames w honest old mid s) is settles; own = (same, refl) }

pub then_own : {D : Type 0} (T : Type 0) (w : Watch D) (honest : Type 0) (P : NamesKept D → Type 0) (old mid new : NamesKept D) (settled : Result (Unit {0}) NamesRefused) (x : Unit {0}) (result : Result T NamesRefused)
    → SettlesNames w honest old mid settled → settled ≡ Ok x → P mid → SettlesFirst w honest P old new result
then_own T w honest P old mid new settled x result settles is own = record { mid = mid; settled = Ok x; settles = subst (λ s. SettlesNames w honest old mid s) is settles; own = own }

-- ---- room

-- frames that stood for names stand for them with other room
pub still_roomed : (old new : NamesView) (doubt : Option NamesStep) → new.told ≡ old.told → StandsStill names_sense old doubt new
still_roomed old new doubt same = record { still = λ frames stand. subst (NamesStand frames) (sym same) stand; in_doubt = λ frames stand. by_doubt doubt frames stand }
  where
    by_doubt : (d : Option NamesStep) (frames : List Frame) → IfDoubt names_sense old d frames → IfDoubt names_sense new d frames
    by_doubt None frames stand = stand
    by_doubt (Some step) frames stand = subst (λ t. NamesStand frames (Rattle.tab_master.specs.Names.names_stepped t step)) (sym same) stand

-- ---- a table more

pub create_goes_on : (told : SpelledNames) (name : List ℕ) (table : ℕ) → MayCreate told name → table ≡ told.next_table → NamesGoOn told (Create table name)
create_goes_on told name table may is = names_go_on told (Create table name) (is, subst (λ n. n < 2 ^ 64 - 1) (sym is) may.1, may.0)

no_images : {D : Type 0} (w : Watch D) (old : NamesKept D) (told : SpelledNames) → AddsNames w old old told
no_images w old told = extends_none w _ _ _ _ _ _ (left_alone w (area_a old.store)) (left_alone w (area_b old.store))

pub no_number : {D : Type 0} (w : Watch D) (honest : Type 0) (name : List ℕ) (old : NamesKept D) (number : Result ℕ NamesRefused) (refused : NamesRefused) (result : Result ℕ NamesRefused) → IsNumberFor old.held.told name number
    → number ≡ Err refused → result ≡ Err refused → Creates w honest name old old old result
no_number w honest name old number refused result for is same = subst (λ r. Creates w honest name old old old r) (sym same) (by_refusal refused (subst (IsNumberFor old.held.told name) is for))
  where
    by_refusal : (r : NamesRefused) → IsNumberFor old.held.told name (Err r) → Creates w honest name old old old (Err r)
    by_refusal AlreadyThere f = record { after = (f, refl); images = λ h. no_images w old (created old.held.told name) }
    by_refusal IdsSpent f = record { after = (f.0, f.1, refl); images = λ h. no_images w old (created old.held.told name) }
    by_refusal NotThere f = absurd f
    by_refusal (DiskFault disk) f = absurd f
    by_refusal Memory f = absurd f
    by_refusal EpochSpent f = absurd f
    by_refusal (Damaged disk at) f = absurd f

-- no number and no memory are no disk faults
pub no_fault_for : {D : Type 0} (faults : D → ℕ) (name : List ℕ) (old : NamesKept D) (number : Result ℕ NamesRefused) (refused : NamesRefused) (result : Result ℕ NamesRefused) → IsNumberFor old.held.told name number → number ≡ Err refused
    → result ≡ Err refused → NamesCauses faults old old result
no_fault_for faults name old number refused result for is same = subst (λ r. NamesCauses faults old old r) (sym same) (by_refusal refused (subst (IsNumberFor old.held.told name) is for))
  where
    by_refusal : (r : NamesRefused) → IsNumberFor old.held.told name (Err r) → NamesCauses {T = ℕ} faults old old (Err r)
    by_refusal AlreadyThere f = causes_none ℕ faults old (Err AlreadyThere) (λ disk e. cc)
    by_refusal IdsSpent f = causes_none ℕ faults old (Err IdsSpent) (λ disk e. cc)
    by_refusal NotThere f = absurd f
    by_refusal (DiskFault disk) f = absurd f
    by_refusal Memory f = absurd f
    by_refusal EpochSpent f = absurd f
    by_refusal (Damaged disk at) f = absurd f

pub no_memory_causes : {D : Type 0} (faults : D → ℕ) (old new : NamesKept D) (result : Result ℕ NamesRefused) → IsStill old new → result ≡ Err Memory → NamesCauses faults old new result
no_memory_causes faults old new result still same =
    subst (λ r. NamesCauses faults old new r) (sym same)
    (record {
      later_a = subst (λ s. faults (area_a old.store) ≤ faults (area_a s)) (sym stores) (omega arith);
      later_b = subst (λ s. faults (area_b old.store) ≤ faults (area_b s)) (sym stores) (omega arith);
      fault = λ disk e. absurd (none disk e);
    })
  where
    stores : new.store ≡ old.store
    stores = ap (λ (k : NamesKept _). k.store) still

    none : (disk : ℕ) → ◌≡◌ {A = Result ℕ NamesRefused} (Err Memory) (Err (DiskFault disk)) → ⊥
    none disk e = cc

still_images : {D : Type 0} (w : Watch D) (old new : NamesKept D) (told : SpelledNames) → IsStill old new → AddsNames w old new told
still_images w old new told still =
    subst (λ s. Extends w (Spells old.store.kind old.store.number) (λ frames. NamesStand frames told) (area_a old.store) (area_b old.store) (area_a s) (area_b s)) (sym (ap (λ (k : NamesKept _). k.store) still)) (no_images w old told)

pub no_memory_creates : {D : Type 0} (w : Watch D) (honest : Type 0) (name : List ℕ) (old new : NamesKept D) (number : Result ℕ NamesRefused) (table : ℕ) (result : Result ℕ NamesRefused) → IsNumberFor old.held.told name number → number ≡ Ok table
    → IsStill old new → result ≡ Err Memory → Creates w honest name old old new result
no_memory_creates w honest name old new number table result for is still same =
    subst (λ r. Creates w honest name old old new r) (sym same) (record { after = ((subst (IsNumberFor old.held.told name) is for).0, still); images = λ h. still_images w old new (created old.held.told name) still })

-- the same names but for room
record IsRoomed {D : Type 0} (old mid : NamesKept D) : Type 0 where
  pub told : mid.held.told ≡ old.held.told
  pub store : mid.store ≡ old.store

roomed : {D : Type 0} (old mid : NamesKept D) → IsStill old mid → IsRoomed old mid
roomed old mid still = record { told = ap (λ (k : NamesKept _). k.held.told) still; store = ap (λ (k : NamesKept _). k.store) still }

create_images : {D : Type 0} (w : Watch D) (name : List ℕ) (table : ℕ) (old mid new : NamesKept D) → IsRoomed old mid → table ≡ old.held.told.next_table
    → Extends w (Spells mid.store.kind mid.store.number) (StandsWith names_sense mid.held (Create table name)) (area_a mid.store) (area_b mid.store) (area_a new.store) (area_b new.store) → AddsNames w old new (created old.held.told name)
create_images w name table old mid new room is images =
    subst (λ s. Extends w (Spells s.kind s.number) (λ frames. NamesStand frames (created old.held.told name)) (area_a s) (area_b s) (area_a new.store) (area_b new.store)) room.store
    (subst (λ t. Extends w (Spells mid.store.kind mid.store.number) (λ frames. NamesStand frames t) (area_a mid.store) (area_b mid.store) (area_a new.store) (area_b new.store)) (stepped room.told is) images)
  where
    stepped : mid.held.told ≡ old.held.told → table ≡ old.held.told.next_table → Rattle.tab_master.specs.Names.names_stepped mid.held.told (Create table name) ≡ created old.held.told name
    stepped told same = rw (told, same) refl

pub created_so : {D : Type 0} (w : Watch D) (honest : Type 0) (name : List ℕ) (table : ℕ) (old mid new : NamesKept D) (number : Result ℕ NamesRefused) (done : Result (Unit {0}) NamesRefused) (x : Unit {0})
    → IsNumberFor old.held.told name number → number ≡ Ok table → IsStill old mid → AfterStep mid new (Create table name) done → done ≡ Ok x
    → (honest → Extends w (Spells mid.store.kind mid.store.number) (StandsWith names_sense mid.held (Create table name)) (area_a mid.store) (area_b mid.store) (area_a new.store) (area_b new.store))
    → Creates w honest name old old new (Ok table)
created_so w honest name table old mid new number done x for is still after fine images =
    let f = subst (IsNumberFor old.held.told name) is for in
    let a = subst (λ r. AfterStep mid new (Create table name) r) fine after in
    let room = roomed old mid still in
    record {
      after = (f.0, f.1, a.0 ∙ told_is room.told f.1, a.1, a.2);
      images = λ h. create_images w name table old mid new room f.1 (images h);
    }
  where
    told_is : mid.held.told ≡ old.held.told → table ≡ old.held.told.next_table → Rattle.tab_master.specs.Names.names_stepped mid.held.told (Create table name) ≡ created old.held.told name
    told_is told same = rw (told, same) refl

pub create_refused : {D : Type 0} (w : Watch D) (honest : Type 0) (name : List ℕ) (table : ℕ) (old mid new : NamesKept D) (number : Result ℕ NamesRefused) (done : Result (Unit {0}) NamesRefused) (refused : NamesRefused) (result : Result ℕ NamesRefused)
    → IsNumberFor old.held.told name number → number ≡ Ok table → IsStill old mid → AfterStep mid new (Create table name) done → done ≡ Err refused → result ≡ Err refused
    → (honest → Extends w (Spells mid.store.kind mid.store.number) (StandsWith names_sense mid.held (Create table name)) (area_a mid.store) (area_b mid.store) (area_a new.store) (area_b new.store))
    → Creates w honest name old old new result
create_refused w honest name table old mid new number done refused result for is still after bad same images =
    let f = subst (IsNumberFor old.held.told name) is for in
    let room = roomed old mid still in
    record {
      after = subst (λ r. AfterCreate old new name r) (sym same) (by_refusal f.0 f.1 room.told still refused (subst (λ r. AfterStep mid new (Create table name) r) bad after));
      images = λ h. create_images w name table old mid new room f.1 (images h);
    }
  where
    by_refusal : MayCreate old.held.told name → table ≡ old.held.told.next_table → mid.held.told ≡ old.held.told → IsStill old mid → (r : NamesRefused) → AfterStep {T = Unit {0}} mid new (Create table name) (Err r) → AfterCreate old new name (Err r)
    by_refusal may is told still (DiskFault disk) a = (may, ap (λ (h : _). h.told) a.0 ∙ told, a.1 ∙ ap (λ n. Some (Create n name)) is, a.2)
    by_refusal may is told still Memory a = (may, subst (IsStill old) (sym a) still)
    by_refusal may is told still AlreadyThere a = absurd a
    by_refusal may is told still NotThere a = absurd a
    by_refusal may is told still IdsSpent a = absurd a
    by_refusal may is told still EpochSpent a = absurd a
    by_refusal may is told still (Damaged disk at) a = absurd a

-- ---- a table less

some_there : (o : Option ℕ) (table : ℕ) → o ≡ Some table → is_some o ≡ true
some_there o table is = rw is refl

pub dropped_so : {D : Type 0} (T : Type 0) (w : Watch D) (honest : Type 0) (name : List ℕ) (table : ℕ) (old new : NamesKept D) (result : Result T NamesRefused) → AreNames old.held.told → table_of old.held.told.names name ≡ Some table
    → AfterStep old new (Drop table) result
    → (honest → Extends w (Spells old.store.kind old.store.number) (StandsWith names_sense old.held (Drop table)) (area_a old.store) (area_b old.store) (area_a new.store) (area_b new.store))
    → Drops w honest name old old new result
dropped_so T w honest name table old new result are there after images =
    let same : dropped old.held.told table ≡ without old.held.told name = dropped_is_without old.held.told name table are there in
    record {
      after = by_result same result after;
      images = λ h. subst (λ t. AddsNames w old new t) same (images h);
    }
  where
    by_result : dropped old.held.told table ≡ without old.held.told name → (r : Result T NamesRefused) → AfterStep old new (Drop table) r → AfterDrop old new name r
    by_result same (Ok x) a = record { there = some_there (table_of old.held.told.names name) table there; told = a.0 ∙ same; clear = a.1; running = a.2 }
    by_result same (Err (DiskFault disk)) a = record { table = table; there = there; held = a.0; doubt = a.1; failed = a.2 }
    by_result same (Err Memory) a = (some_there (table_of old.held.told.names name) table there, a)
    by_result same (Err AlreadyThere) a = absurd a
    by_result same (Err NotThere) a = absurd a
    by_result same (Err IdsSpent) a = absurd a
    by_result same (Err EpochSpent) a = absurd a
    by_result same (Err (Damaged disk at)) a = absurd a

-- ---- a checkpoint

-- a result of what is kept, as it is passed on
abbrev pub IsPassed : Result (Unit {0}) KeptRefused → Result (Unit {0}) NamesRefused → Type 0
IsPassed (Ok x) result = result ≡ Ok x
IsPassed (Err refused) result = result ≡ Err (names_refused refused)

pub rewrites_so : {D : Type 0} (w : Watch D) (honest : Type 0) (old new : NamesKept D) (r : Result (Unit {0}) KeptRefused) (result : Result (Unit {0}) NamesRefused) → IsPassed r result → old.doubt ≡ None → AfterCheckpoint old new r
    → (honest → OnOk r (IsRewritten w names_sense new)) → OnOk r (new.store.epoch ≡ old.store.epoch + 1)
    → (old.store.epoch ≡ 2 ^ 64 - 1 → (r ≡ Err kept.EpochSpent) ⊎ (r ≡ Err kept.Memory))
    → (honest → Since w (Spells old.store.kind old.store.number) (StandsFor names_sense old.held) (w.moment (area_a old.store)) (w.moment (area_b old.store)) (area_a new.store) (area_b new.store))
    → RewritesNames w honest old new result
rewrites_so w honest old new r result passed clear after ok epoch spent images = record {
  after = by_after r passed after epoch;
  ok = λ h. by_ok r passed (ok h);
  spent = λ at_end. by_spent r passed (spent at_end);
  images = images;
}
  where
    by_after : (r : Result (Unit {0}) KeptRefused) → IsPassed r result → AfterCheckpoint old new r → OnOk r (new.store.epoch ≡ old.store.epoch + 1) → AfterRewrite old new result
    by_after (Ok x) p a n = subst (λ q. AfterRewrite old new q) (sym p) (a.0, a.1, a.2, n)
    by_after (Err (kept.DiskFault area)) p a n = subst (λ q. AfterRewrite old new q) (sym p) (a.0, a.1 ∙ clear, a.2)
    by_after (Err (kept.Damaged area at)) p a n = absurd a
    by_after (Err kept.EpochSpent) p a n = subst (λ q. AfterRewrite old new q) (sym p) (a.1, a.0)
    by_after (Err kept.Memory) p a n = subst (λ q. AfterRewrite old new q) (sym p) a

    by_ok : (r : Result (Unit {0}) KeptRefused) → IsPassed r result → OnOk r (IsRewritten w names_sense new) → OnOk result (IsRewritten w names_sense new)
    by_ok (Ok x) p a = subst (λ q. OnOk q (IsRewritten w names_sense new)) (sym p) a
    by_ok (Err refused) p a = subst (λ q. OnOk q (IsRewritten w names_sense new)) (sym p) tt

    by_spent : (r : Result (Unit {0}) KeptRefused) → IsPassed r result → (r ≡ Err kept.EpochSpent) ⊎ (r ≡ Err kept.Memory) → (result ≡ Err EpochSpent) ⊎ (result ≡ Err Memory)
    by_spent r p (inl e) = inl (subst (λ q. IsPassed q result) e p)
    by_spent r p (inr e) = inr (subst (λ q. IsPassed q result) e p)

-- ---- damage

-- the answer of a settling, as it is passed on
abbrev pub IsSettlePassed : Result Bool KeptRefused → Result (Unit {0}) NamesRefused → Type 0
IsSettlePassed (Ok stood) result = result ≡ Ok tt
IsSettlePassed (Err refused) result = result ≡ Err (names_refused refused)

pub damage_passed : (r : Result Bool KeptRefused) (result : Result (Unit {0}) NamesRefused) → IsSettlePassed r result → IsDamaged r → IsOwnDamage result
damage_passed (Ok stood) result passed own = subst IsOwnDamage (sym passed) tt
damage_passed (Err (kept.Damaged area at)) result passed own = subst IsOwnDamage (sym passed) (let few : area ≤ 1 = own in (omega (arith, few), omega (arith, few)))
damage_passed (Err (kept.DiskFault area)) result passed own = subst IsOwnDamage (sym passed) tt
damage_passed (Err kept.EpochSpent) result passed own = subst IsOwnDamage (sym passed) tt
damage_passed (Err kept.Memory) result passed own = subst IsOwnDamage (sym passed) tt
