-- What is known of disks of which some were asked for their lengths.
use Rattle.std.proofs.Common.{◌≡◌, ◌≢◌, ℕ, ◌+◌, ◌<◌, ◌≤◌, List, length, get_or, set, refl, sym, subst, ◌∙◌, arith, inl, Bool, true, false, ◌==◌, get_or-set_other}
use Rattle.std.proofs.lemmas.List.{get_or_default}
use Rattle.std.specs.List.{AllZip}
use Rattle.std.specs.Prelude.{ltb, Result, Err}
use Rattle.tab_core.specs.declared.cores.InitRefused.{InitRefused}
use Rattle.tab_core.specs.declared.cores.InitRefused.TheVariants.{DiskFault}
use Rattle.std.proofs.lemmas.Bool.{eqb-true, eqb-false, ltb-true, ltb-false}
use Rattle.tab_outside.specs.Disks.{Watch, Rests}
use Rattle.tab_core.specs.Making.{IsFirstFilled}
use Rattle.tab_core.proofs.Zips.{zip_same, zip_set}

rests_same : {D : Type 0} (w : Watch D) (disk : D) → Rests w disk disk
rests_same w disk = record {
  same = refl;
  crash = λ c left. left;
  time = record { later = omega arith; nothing_else = λ t c before left. inl left; keeps = λ t c before left. left };
}

-- the disks below a place were asked, and each of them is empty; those from there on are as they were
pub record Asked {D : Type 0} (w : Watch D) (tells honest : Type 0) (faults : D → ℕ) (old now : List D) (index : ℕ) : Type 0 where
  pub later : AllZip (λ a b. faults a ≤ faults b) old now
  pub rests : honest → AllZip (Rests w) old now
  pub still : (k : ℕ) (d : D) → index ≤ k → get_or now k d ≡ get_or old k d
  pub empty : tells → (k : ℕ) (d : D) → k < index → length (w.seen (get_or old k d)) ≡ 0

pub asked_begins : {D : Type 0} (w : Watch D) (tells honest : Type 0) (faults : D → ℕ) (disks : List D) → Asked w tells honest faults disks disks 0
asked_begins w tells honest faults disks = record {
  later = zip_same (λ a b. faults a ≤ faults b) (λ a. omega arith) disks;
  rests = λ is. zip_same (Rests w) (rests_same w) disks;
  still = λ k d from. refl;
  empty = λ told k d below. absurd (omega (arith, below));
}

-- one more was asked
pub later_with : {D : Type 0} (w : Watch D) (tells honest : Type 0) (faults : D → ℕ) (old now : List D) (index : ℕ) (new d : D) → Asked w tells honest faults old now index
    → faults (get_or now index d) ≤ faults new → AllZip (λ a b. faults a ≤ faults b) old (set now index new)
later_with w tells honest faults old now index new d asked later =
    zip_set (λ a b. faults a ≤ faults b) old now index new d asked.later (subst (λ (a : _). faults a ≤ faults new) (asked.still index d (omega arith)) later)

pub rests_with : {D : Type 0} (w : Watch D) (tells honest : Type 0) (faults : D → ℕ) (old now : List D) (index : ℕ) (new d : D) → Asked w tells honest faults old now index
    → (honest → Rests w (get_or now index d) new) → honest → AllZip (Rests w) old (set now index new)
rests_with w tells honest faults old now index new d asked rests is =
    zip_set (Rests w) old now index new d (asked.rests is) (subst (λ (a : _). Rests w a new) (asked.still index d (omega arith)) (rests is))

empty_with : {D : Type 0} (w : Watch D) (old : List D) (index k : ℕ) (d : D) → ((k : ℕ) (d : D) → k < index → length (w.seen (get_or old k d)) ≡ 0)
    → length (w.seen (get_or old index d)) ≡ 0 → k < index + 1 → (same : Bool) → (k == index) ≡ same → length (w.seen (get_or old k d)) ≡ 0
empty_with {D = D} w old index k d below here within true is = subst (λ (i : ℕ). length (w.seen (get_or old i d)) ≡ 0) (sym (eqb-true k index is)) here
empty_with {D = D} w old index k d below here within false is = let apart = eqb-false k index is in below k d (omega (arith, within, apart))

pub asked_more : {D : Type 0} (w : Watch D) (tells honest : Type 0) (faults : D → ℕ) (old now : List D) (index : ℕ) (new e : D) → Asked w tells honest faults old now index
    → index < length old → faults (get_or now index e) ≤ faults new → (honest → Rests w (get_or now index e) new)
    → (tells → length (w.seen (get_or now index e)) ≡ 0) → Asked w tells honest faults old (set now index new) (index + 1)
asked_more {D = D} w tells honest faults old now index new e asked inside later rests empty = record {
  later = later_with w tells honest faults old now index new e asked later;
  rests = rests_with w tells honest faults old now index new e asked rests;
  still = λ k d from. get_or-set_other now index k new d (λ same. absurd (omega (arith, from, same))) ∙ asked.still k d (omega (arith, from));
  empty = λ told k d within. empty_with w old index k d (asked.empty told)
      (subst (λ (a : D). length (w.seen a) ≡ 0) (asked.still index e (omega arith) ∙ get_or_default old index e d inside) (empty told)) within (k == index) refl;
}

-- the one that was asked last is the first that is not empty
pub first_is : {D : Type 0} (w : Watch D) (tells honest : Type 0) (faults : D → ℕ) (old now : List D) (index : ℕ) → Asked w tells honest faults old now index → index < length old
    → ((d : D) → tells → length (w.seen (get_or now index d)) ≢ 0) → tells → IsFirstFilled w old index
first_is {D = D} w tells honest faults old now index asked within filled told = record {
  within = within;
  filled = λ d zero. filled d told (subst (λ (a : D). length (w.seen a) ≡ 0) (sym (asked.still index d (omega arith))) zero);
  before = λ k d below. asked.empty told k d below;
}

below_or : (index k : ℕ) → (k < index → ⊥) → (below : Bool) → ltb k index ≡ below → index ≤ k
below_or index k none true is = absurd (none (ltb-true k index is))
below_or index k none false is = ltb-false k index is

-- none below it is
pub none_before : {D : Type 0} (w : Watch D) (tells honest : Type 0) (faults : D → ℕ) (old now : List D) (index k : ℕ) (d : D) → Asked w tells honest faults old now index → tells
    → IsFirstFilled w old k → index ≤ k
none_before w tells honest faults old now index k d asked told first = below_or index k (λ below. first.filled d (asked.empty told k d below)) (ltb k index) refl

pub fault_is : {T : Type 0} (a b : ℕ) → ◌≡◌ {A = Result T InitRefused} (Err (DiskFault a)) (Err (DiskFault b)) → a ≡ b
fault_is a b same = cc

pub refusal_is : {T : Type 0} (refused other : InitRefused) → ◌≡◌ {A = Result T InitRefused} (Err refused) (Err other) → refused ≡ other
refusal_is refused other same = cc
