-- How `init` ends.
use Rattle.std.proofs.Common.{◌≡◌, ℕ, ◌<◌, ◌≤◌, List, [], ◌∷◌, length, get_or, refl, sym, ◌∙◌, ap, subst, arith, inl, inr, Option, Some, None, Result, Ok, Err, All}
use Rattle.std.specs.Prelude.{◌⊎◌, Contains}
use Rattle.tab_outside.specs.Disks.{Watch}
use Rattle.tab_core.specs.Making.{IsFirstFilled, RoseAt}
use Rattle.tab_core.specs.declared.cores.InitRefused.{InitRefused}
use Rattle.tab_core.specs.declared.cores.InitRefused.TheVariants.{NotEmpty, DiskFault, Memory}
use Rattle.tab_core.proofs.Refusals.{none_filled}
use Rattle.tab_drive.specs.Commands.{exit_statuses}
use Rattle.tab_drive.specs.Inits.{init_status, IsInitCause}

-- which of the first disk that is not empty and one that failed decided
abbrev Decided : {T : Type 0} → Result T InitRefused → ℕ → Type 0
Decided result disk = (result ≡ Err (NotEmpty disk)) ⊎ ((other : ℕ) × (other ≤ disk) × (result ≡ Err (DiskFault other)))

pub not_ok : {T : Type 0} (x : T) (disk : ℕ) → Decided (Ok x) disk → ⊥
not_ok x disk (inl is) = cc
not_ok x disk (inr fault) = let is = fault.2 in cc

pub not_memory : {T : Type 0} (refused : InitRefused) (disk : ℕ) → refused ≡ Memory → Decided {T = T} (Err refused) disk → ⊥
not_memory refused disk memory (inl is) = cc
not_memory refused disk memory (inr fault) = let is = fault.2 in cc

same_fault : {T : Type 0} (refused : InitRefused) (disk other : ℕ) → refused ≡ DiskFault disk → ◌≡◌ {A = Result T InitRefused} (Err refused) (Err (DiskFault other)) → other ≡ disk
same_fault refused disk other fault is = cc

no_fault : {T : Type 0} (refused : InitRefused) (disk k : ℕ) → refused ≡ DiskFault disk → ◌≡◌ {A = Result T InitRefused} (Err refused) (Err (NotEmpty k)) → ⊥
no_fault refused disk k fault is = cc

-- a disk that failed stands no further back
pub fault_before : {T : Type 0} (refused : InitRefused) (disk k : ℕ) → refused ≡ DiskFault disk → Decided {T = T} (Err refused) k → disk ≤ k
fault_before refused disk k fault (inl is) = absurd (no_fault refused disk k fault is)
fault_before refused disk k fault (inr other) = subst (λ (d : ℕ). d ≤ k) (same_fault refused disk other.0 fault other.2) other.1

pub init_listed : (refused : Option InitRefused) → Contains exit_statuses (init_status refused)
init_listed None = (0, omega arith, refl)
init_listed (Some (NotEmpty disk)) = (7, omega arith, refl)
init_listed (Some (DiskFault disk)) = (5, omega arith, refl)
init_listed (Some Memory) = (6, omega arith, refl)

pub not_usage : (refused : Option InitRefused) → init_status refused ≡ 1 → ⊥
not_usage None is = omega (arith, is)
not_usage (Some (NotEmpty disk)) is = omega (arith, is)
not_usage (Some (DiskFault disk)) is = omega (arith, is)
not_usage (Some Memory) is = omega (arith, is)

pub not_read : (refused : Option InitRefused) → init_status refused ≡ 3 → ⊥
not_read None is = omega (arith, is)
not_read (Some (NotEmpty disk)) is = omega (arith, is)
not_read (Some (DiskFault disk)) is = omega (arith, is)
not_read (Some Memory) is = omega (arith, is)

pub not_written : (refused : Option InitRefused) → init_status refused ≡ 4 → ⊥
not_written None is = omega (arith, is)
not_written (Some (NotEmpty disk)) is = omega (arith, is)
not_written (Some (DiskFault disk)) is = omega (arith, is)
not_written (Some Memory) is = omega (arith, is)

-- over empty disks none of which failed it ends well, or for want of memory
pub init_completed : {D : Type 0} (tells : Type 0) (w : Watch D) (faults : D → ℕ) (old new : List D) (refused : Option InitRefused) (status : ℕ) → IsInitCause tells w faults old new refused
    → status ≡ init_status refused → tells → All (λ disk. length (w.seen disk) ≡ 0) old → ((disk : ℕ) → RoseAt faults old new disk → ⊥) → (status ≡ 0) ⊎ (status ≡ 7)
init_completed tells w faults old new None status cause is told none sound = inl is
init_completed tells w faults old new (Some (NotEmpty disk)) status cause is told none sound = absurd (none_filled w old disk none (cause told))
init_completed tells w faults old new (Some (DiskFault disk)) status cause is told none sound = absurd (sound disk cause.0)
init_completed tells w faults old new (Some Memory) status cause is told none sound = inr is

-- one word
pub one_item : {A : Type 0} (xs : List A) (x : A) → 1 ≤ length xs → length xs < 2 → x ≡ get_or xs 0 x → xs ≡ x ∷ []
one_item [] x least most is = absurd (omega (arith, least))
one_item (y ∷ []) x least most is = ap (λ (z : _). z ∷ []) (sym is)
one_item (y ∷ z ∷ xs) x least most is = absurd (omega (arith, most))
