-- What a settling leaves of a server, from what it leaves of what is kept.
use Rattle.std.proofs.Common.{◌≡◌, ℕ, Bool, true, false, None, Ok, Err, refl, sym, subst, ap, arith, ◌+◌, ◌-◌, ◌^◌, inl, inr}
use Rattle.std.specs.Prelude.{Result, ⊤, ◌⊎◌, OnOk}
use Rattle.tab_outside.specs.Disks.{Watch}
use Rattle.tab_outside.specs.Pairs.{AddsNone, Since}
use Rattle.tab_journal.specs.Areas.{Spells}
use Rattle.tab_seats.specs.declared.views.Stroke.{Stroke}
use Rattle.tab_range.specs.declared.commands.Told.{Told}
use Rattle.tab_journal.specs.Stores.{area_a, area_b, IsSameStore}
use Rattle.tab_journal.specs.Keeping.{IsSound, IsRewritten, StandsFor}
use Rattle.tab_journal.specs.KeptCauses.{AfterSettling, AfterCheckpoint, IsDamaged, KeptCauses}
use Rattle.tab_journal.specs.declared.kept.KeptRefused.{KeptRefused}
use Rattle.tab_journal.specs.declared.kept.KeptRefused.TheVariants as kept
use Rattle.tab_server.specs.declared.refusals.ActRefused.{ActRefused}
use Rattle.tab_server.specs.Contents.{ranges_sense}
use Rattle.tab_server.specs.Serving.{ServerView}
use Rattle.tab_server.specs.ServerCauses.{act_refused, IsDamagedIn}
use Rattle.tab_server.specs.Acting.{Settles, ChecksPoint, RewritesAfter}

no_image : {D : Type 0} (w : Watch D) (x : D) → AddsNone w x x
no_image w x = record { later = grind (arith); each = λ t earlier c left. left }

module _ {D T : Type 0} (drawn : T → Stroke Told → T → Type 0) (ready : T → ℕ → Type 0) (kin : T → T → Type 0) (w : Watch D) (honest : Type 0) (faults : D → ℕ) where
  -- one that runs
  pub settles_running : (server : ServerView D T) → server.failed ≡ false → server.doubt ≡ None → (honest → IsSound w (ranges_sense drawn ready kin) server)
      → Settles drawn ready kin w honest faults server server (Ok tt)
  settles_running server running clear sound = record {
    same = λ e. (refl, refl);
    after = ((false, refl), clear, running);
    store = record { kind = refl; number = refl };
    sound = sound;
    images_a = λ h. no_image w (area_a server.store);
    images_b = λ h. no_image w (area_b server.store);
    causes = record { later_a = grind (arith); later_b = grind (arith); fault = λ area e. absurd cc };
    damaged = tt;
    never = λ h area at e. absurd cc;
  }

  -- one that was read anew
  pub settles_ok : (old new : ServerView D T) (stood : Bool) → old.failed ≡ true → AfterSettling (ranges_sense drawn ready kin) old new (Ok stood) → IsSameStore old.store new.store
      → (honest → IsSound w (ranges_sense drawn ready kin) new) → (honest → AddsNone w (area_a old.store) (area_a new.store)) → (honest → AddsNone w (area_b old.store) (area_b new.store))
      → KeptCauses faults old new (Ok stood) → Settles drawn ready kin w honest faults old new (Ok tt)
  settles_ok old new stood failed after store sound images_a images_b causes = record {
    same = λ running. absurd cc;
    after = ((stood, after.0), after.1, after.2);
    store = store;
    sound = sound;
    images_a = images_a;
    images_b = images_b;
    causes = record { later_a = causes.later_a; later_b = causes.later_b; fault = λ area e. absurd cc };
    damaged = tt;
    never = λ h area at e. absurd cc;
  }

  -- one that was not read
  pub settles_err : (old new : ServerView D T) (k : KeptRefused) → old.failed ≡ true → AfterSettling (ranges_sense drawn ready kin) old new (Err k) → IsSameStore old.store new.store
      → (honest → IsSound w (ranges_sense drawn ready kin) new) → (honest → AddsNone w (area_a old.store) (area_a new.store)) → (honest → AddsNone w (area_b old.store) (area_b new.store))
      → KeptCauses {T = Bool} faults old new (Err k) → IsDamagedIn {X = ⊤} (Err (act_refused k)) → (honest → (area at : ℕ) → k ≡ kept.Damaged area at → ⊥)
      → Settles drawn ready kin w honest faults old new (Err (act_refused k))
  settles_err old new (kept.DiskFault area) failed after store sound images_a images_b causes damaged never = record {
    same = λ running. absurd cc;
    after = (failed, after.0, after.1, after.2);
    store = store;
    sound = sound;
    images_a = images_a;
    images_b = images_b;
    causes = record { later_a = causes.later_a; later_b = causes.later_b; fault = λ a e. causes.fault a (ap (λ x. Err (kept.DiskFault x)) cc) };
    damaged = damaged;
    never = λ h a at e. absurd cc;
  }
  settles_err old new (kept.Damaged area place) failed after store sound images_a images_b causes damaged never = record {
    same = λ running. absurd cc;
    after = (failed, after.0, after.1, after.2);
    store = store;
    sound = sound;
    images_a = images_a;
    images_b = images_b;
    causes = record { later_a = causes.later_a; later_b = causes.later_b; fault = λ a e. absurd cc };
    damaged = damaged;
    never = λ h a at e. never h area place refl;
  }
  settles_err old new kept.EpochSpent failed after store sound images_a images_b causes damaged never = absurd after
  settles_err old new kept.Memory failed after store sound images_a images_b causes damaged never = record {
    same = λ running. absurd cc;
    after = (failed, after.0, after.1, after.2);
    store = store;
    sound = sound;
    images_a = images_a;
    images_b = images_b;
    causes = record { later_a = causes.later_a; later_b = causes.later_b; fault = λ a e. absurd cc };
    damaged = damaged;
    never = λ h a at e. absurd cc;
  }

-- ---- an answer of what is kept, passed on

abbrev pub IsPassedOn : {X : Type 0} → Result X KeptRefused → Result ⊤ ActRefused → Type 0
IsPassedOn (Ok x) result = result ≡ Ok tt
IsPassedOn (Err k) result = result ≡ Err (act_refused k)

damaged_in : (k : KeptRefused) → IsDamaged {T = Bool} (Err k) → IsDamagedIn {X = ⊤} (Err (act_refused k))
damaged_in (kept.DiskFault area) h = tt
damaged_in (kept.Damaged area at) h = h
damaged_in kept.EpochSpent h = tt
damaged_in kept.Memory h = tt

-- the last epoch is answered by its refusal, or by want of memory
abbrev pub IsSpent : {D T : Type 0} → ServerView D T → Result ⊤ KeptRefused → Type 0
IsSpent mid answer = mid.store.epoch ≡ 2 ^ 64 - 1 → (answer ≡ Err kept.EpochSpent) ⊎ (answer ≡ Err kept.Memory)

module _ {D T : Type 0} (drawn : T → Stroke Told → T → Type 0) (ready : T → ℕ → Type 0) (kin : T → T → Type 0) (w : Watch D) (honest : Type 0) (faults : D → ℕ) where
  -- one that had failed
  pub settles_so : (old new : ServerView D T) (answer : Result Bool KeptRefused) (result : Result ⊤ ActRefused) → IsPassedOn answer result → old.failed ≡ true → AfterSettling (ranges_sense drawn ready kin) old new answer → IsSameStore old.store new.store
      → (honest → IsSound w (ranges_sense drawn ready kin) new) → (honest → AddsNone w (area_a old.store) (area_a new.store)) → (honest → AddsNone w (area_b old.store) (area_b new.store))
      → KeptCauses faults old new answer → IsDamaged answer → (honest → (area at : ℕ) → answer ≡ Err (kept.Damaged area at) → ⊥) → Settles drawn ready kin w honest faults old new result
  settles_so old new (Ok stood) result passed failed after store sound images_a images_b causes damaged never =
      subst (Settles drawn ready kin w honest faults old new) (sym passed) (settles_ok drawn ready kin w honest faults old new stood failed after store sound images_a images_b causes)
  settles_so old new (Err k) result passed failed after store sound images_a images_b causes damaged never =
      subst (Settles drawn ready kin w honest faults old new) (sym passed)
      (settles_err drawn ready kin w honest faults old new k failed after store sound images_a images_b causes (damaged_in k damaged) (λ h area at e. never h area at (ap Err e)))

  -- ---- a checkpoint

  abbrev Images : ServerView D T → ServerView D T → Type 0
  Images mid new =
      honest → Since w (Spells mid.store.kind mid.store.number) (StandsFor (ranges_sense drawn ready kin) mid.held) (w.moment (area_a mid.store)) (w.moment (area_b mid.store)) (area_a new.store) (area_b new.store)

  ok_unspent : (x : ⊤) → ◌≡◌ {A = Result ⊤ KeptRefused} (Ok x) (Err kept.EpochSpent) ⊎ ◌≡◌ {A = Result ⊤ KeptRefused} (Ok x) (Err kept.Memory) → ⊥
  ok_unspent x (inl e) = cc
  ok_unspent x (inr e) = cc

  fault_unspent : (area : ℕ) → ◌≡◌ {A = Result ⊤ KeptRefused} (Err (kept.DiskFault area)) (Err kept.EpochSpent) ⊎ ◌≡◌ {A = Result ⊤ KeptRefused} (Err (kept.DiskFault area)) (Err kept.Memory) → ⊥
  fault_unspent area (inl e) = cc
  fault_unspent area (inr e) = cc

  rewrites_err : (mid new : ServerView D T) (k : KeptRefused) → AfterCheckpoint {T = ⊤} mid new (Err k) → IsSpent mid (Err k) → Images mid new → KeptCauses {T = ⊤} faults mid new (Err k)
      → RewritesAfter drawn ready kin w honest faults mid new (Ok tt) (Err (act_refused k))
  rewrites_err mid new (kept.DiskFault area) after spent images causes =
      ((after.0, after.1, after.2, λ e. fault_unspent area (spent e)), images, record { later_a = causes.later_a; later_b = causes.later_b; fault = λ a e. causes.fault a (ap (λ x. Err (kept.DiskFault x)) cc) })
  rewrites_err mid new (kept.Damaged area place) after spent images causes = absurd after
  rewrites_err mid new kept.EpochSpent after spent images causes = (after, images, record { later_a = causes.later_a; later_b = causes.later_b; fault = λ a e. absurd cc })
  rewrites_err mid new kept.Memory after spent images causes = (after, images, record { later_a = causes.later_a; later_b = causes.later_b; fault = λ a e. absurd cc })

  pub rewrites_so : (mid new : ServerView D T) (answer : Result ⊤ KeptRefused) (result : Result ⊤ ActRefused) → IsPassedOn answer result → AfterCheckpoint mid new answer
      → OnOk answer (new.store.epoch ≡ mid.store.epoch + 1) → IsSpent mid answer → (honest → OnOk answer (IsRewritten w (ranges_sense drawn ready kin) new)) → Images mid new → KeptCauses faults mid new answer → RewritesAfter drawn ready kin w honest faults mid new (Ok tt) result
  rewrites_so mid new (Ok x) result passed after epoch spent rewritten images causes =
      subst (RewritesAfter drawn ready kin w honest faults mid new (Ok tt)) (sym passed)
      ((after.0, after.1, after.2, rewritten, epoch, λ e. ok_unspent x (spent e)), images, record { later_a = causes.later_a; later_b = causes.later_b; fault = λ a e. absurd cc })
  rewrites_so mid new (Err k) result passed after epoch spent rewritten images causes =
      subst (RewritesAfter drawn ready kin w honest faults mid new (Ok tt)) (sym passed) (rewrites_err mid new k after spent images causes)

  -- what is not settled is not rewritten
  pub checks_refused : (old mid : ServerView D T) (settled result : Result ⊤ ActRefused) (why : ActRefused) → Settles drawn ready kin w honest faults old mid settled → settled ≡ Err why → result ≡ Err why
      → ChecksPoint drawn ready kin w honest faults old mid result
  checks_refused old mid settled result why settles was same = record {
    mid = mid;
    settled = settled;
    first = settles;
    rewritten = subst (λ s. RewritesAfter drawn ready kin w honest faults mid mid s result) (sym was) (same, refl);
  }

  pub checks_on : (old mid new : ServerView D T) (settled result : Result ⊤ ActRefused) (x : ⊤) → Settles drawn ready kin w honest faults old mid settled → settled ≡ Ok x
      → RewritesAfter drawn ready kin w honest faults mid new (Ok tt) result → ChecksPoint drawn ready kin w honest faults old new result
  checks_on old mid new settled result x settles was after = record {
    mid = mid;
    settled = settled;
    first = settles;
    rewritten = subst (λ s. RewritesAfter drawn ready kin w honest faults mid new s result) (sym was) after;
  }
