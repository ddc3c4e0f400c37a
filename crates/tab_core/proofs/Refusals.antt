-- Why no store was made.
use Rattle.std.proofs.Common.{◌≡◌, ◌≢◌, ℕ, ◌+◌, ◌*◌, ◌<◌, ◌≤◌, List, [], ◌∷◌, length, get_or, refl, ◌∙◌, ap, arith, inl, inr, Bool, true, false, Result, Ok, Err, OnOk, All}
use Rattle.std.specs.Prelude.{◌⊎◌, ltb}
use Rattle.std.specs.List.{AllZip}
use Rattle.std.proofs.lemmas.Bool.{ltb-true, ltb-false}
use Rattle.tab_outside.specs.Disks.{Watch}
use Rattle.tab_outside.specs.Faults.{Rose}
use Rattle.tab_core.specs.Courses.{first_course}
use Rattle.tab_core.specs.Points.{Holds}
use Rattle.tab_core.specs.Making.{IsFirstFilled, RoseAt, AreMade}
use Rattle.tab_core.specs.declared.cores.InitRefused.{InitRefused}
use Rattle.tab_core.specs.declared.cores.InitRefused.TheVariants.{NotEmpty, DiskFault, Memory}
use Rattle.tab_core.proofs.Zips.{zip_at, zip_length}
use Rattle.tab_core.proofs.Holding.{made_hold}

-- disks that are all empty have no first that is not
pub none_filled : {D : Type 0} (w : Watch D) (xs : List D) (k : ℕ) → All (λ disk. length (w.seen disk) ≡ 0) xs → IsFirstFilled w xs k → ⊥
none_filled w [] k none first = absurd (let within = first.within in omega (arith, within))
none_filled w (x ∷ xs) k none first = first.filled x (none k x first.within)

not_below : {D : Type 0} (w : Watch D) (xs : List D) (i j : ℕ) → IsFirstFilled w xs i → IsFirstFilled w xs j → i < j → ⊥
not_below w [] i j first other below = absurd (let within = first.within in omega (arith, within))
not_below w (x ∷ xs) i j first other below = first.filled x (other.before i x below)

one_of : (i j : ℕ) → (i < j → ⊥) → (j < i → ⊥) → (a b : Bool) → ltb i j ≡ a → ltb j i ≡ b → i ≡ j
one_of i j not_less not_more true b is more = absurd (not_less (ltb-true i j is))
one_of i j not_less not_more false true is more = absurd (not_more (ltb-true j i more))
one_of i j not_less not_more false false is more = let low = ltb-false i j is in let high = ltb-false j i more in omega (arith, low, high)

one_first : {D : Type 0} (w : Watch D) (xs : List D) (i j : ℕ) → IsFirstFilled w xs i → IsFirstFilled w xs j → i ≡ j
one_first w xs i j first other = one_of i j (not_below w xs i j first other) (not_below w xs j i other first) (ltb i j) (ltb j i) refl refl

-- the first that is not empty decides, or one up to it that failed
pub decides : {D T : Type 0} (w : Watch D) (xs : List D) (result : Result T InitRefused) (refused : InitRefused) (disk : ℕ) → result ≡ Err refused → refused ≢ Memory
    → ((other : ℕ) → refused ≡ NotEmpty other → IsFirstFilled w xs other) → ((other : ℕ) → refused ≡ DiskFault other → (k : ℕ) → IsFirstFilled w xs k → other ≤ k)
    → IsFirstFilled w xs disk → (result ≡ Err (NotEmpty disk)) ⊎ ((other : ℕ) × (other ≤ disk) × (result ≡ Err (DiskFault other)))
decides w xs result (NotEmpty other) disk is not_memory filled before first =
    inl (is ∙ ap (λ (i : ℕ). Err (NotEmpty i)) (one_first w xs other disk (filled other refl) first))
decides w xs result (DiskFault other) disk is not_memory filled before first = inr (other, before other refl disk first, is)
decides w xs result Memory disk is not_memory filled before first = absurd (not_memory refl)

rose_from : (old mid new : ℕ) → old ≤ mid → Rose mid new → Rose old new
rose_from old mid new later rose = omega (arith, later, rose)

-- a count that rose in the end rose since the beginning
pub rose_since : {D : Type 0} (faults : D → ℕ) (old mid new : List D) (disk : ℕ) → AllZip (λ a b. faults a ≤ faults b) old mid → RoseAt faults mid new disk → RoseAt faults old new disk
rose_since faults old mid new disk zip rose = record {
  within = let same = zip_length (λ a b. faults a ≤ faults b) old mid zip in let within = rose.within in omega (arith, same, within);
  rose = λ d e.
      rose_from (faults (get_or old disk d)) (faults (get_or mid disk d)) (faults (get_or new disk e))
      (zip_at (λ a b. faults a ≤ faults b) old mid disk d d zip (let same = zip_length (λ a b. faults a ≤ faults b) old mid zip in let within = rose.within in omega (arith, same, within)))
      (rose.rose d e);
}

-- where all stores were made the disks hold the first course
pub ok_holds : {D T E : Type 0} (w : Watch D) (result : Result T E) (yard : List D) (servers : ℕ) → 1 ≤ servers → length yard ≡ 2 * (servers + 2) → OnOk result (AreMade w yard)
    → OnOk result (Holds w first_course yard)
ok_holds w (Ok x) yard servers least size made = made_hold w yard servers least size made
ok_holds w (Err e) yard servers least size made = tt
