-- When the disks of a yard hold a course.
use Rattle.std.proofs.Common.{◌≡◌, ℕ, zero, suc, ◌+◌, ◌*◌, ◌≤◌, List, [], ◌∷◌, ◌++◌, length, refl, sym, ◌∙◌, subst, arith, inl, inr, Some, All, length-append}
use Rattle.std.specs.Prelude.{slice_get}
use Rattle.std.specs.List.{AllZip}
use Rattle.tab_outside.specs.Disks.{Watch, Rests, ReadsImage}
use Rattle.tab_outside.specs.Pairs.{Now}
use Rattle.tab_outside.proofs.Moments.{now_weaker}
use Rattle.tab_codec.specs.declared.frames.Frame.{Frame}
use Rattle.tab_journal.specs.Areas.{ShutAt, Spells}
use Rattle.tab_core.specs.Courses.{Course, first_course}
use Rattle.tab_core.specs.Points.{Point, kind_of, number_of, pairs_of, HoldStores, Holds}
use Rattle.tab_core.specs.Making.{AreMade, first_frames}
use Rattle.tab_core.proofs.FirstCourse.{is_course}
use Rattle.tab_core.proofs.FirstFrames.{first_point}
use Rattle.tab_core.proofs.Pairs.{some_is}
use Rattle.tab_core.proofs.Zips.{zip_length}

-- stores that were made hold the first course
pub made_hold : {D : Type 0} (w : Watch D) (yard : List D) (servers : ℕ) → 1 ≤ servers → length yard ≡ 2 * (servers + 2) → AreMade w yard → Holds w first_course yard
made_hold w yard servers least size made = record {
  servers = servers;
  size = size;
  is = is_course servers least;
  in_doubt = tt;
  stores = λ k pair is.
      now_weaker w (Spells (kind_of k) (number_of k)) (λ frames. frames ≡ first_frames k) (Point first_course k) pair.0 pair.1
      (λ frames same. subst (λ (fs : List Frame). Point first_course k fs) (sym same) (first_point k)) (made k pair is);
}

-- ---- disks that rest

record Rested {D : Type 0} (w : Watch D) (old : List D) (k : ℕ) (pair : D × D) : Type 0 where
  was : D × D
  here : slice_get (pairs_of old) k ≡ Some was
  first : Rests w was.0 pair.0
  second : Rests w was.1 pair.1

rested : {D : Type 0} (w : Watch D) (old new : List D) (k : ℕ) (pair : D × D) → AllZip (Rests w) old new → slice_get (pairs_of new) k ≡ Some pair → Rested w old k pair
unfolding pairs_of
rested w [] [] k pair zip is = absurd (cc)
rested w (x ∷ []) (y ∷ []) k pair zip is = absurd (cc)
rested {D = D} w (a ∷ b ∷ old) (c ∷ d ∷ new) zero pair zip is = subst (λ (p : D × D). Rested w (a ∷ b ∷ old) 0 p) (sym (some_is (c, d) pair is)) (record { was = (a, b); here = refl; first = zip.0; second = zip.1.0 })
rested w (a ∷ b ∷ old) (c ∷ d ∷ new) (suc k) pair zip is =
    let before = rested w old new k pair zip.1.1 is in record { was = before.was; here = before.here; first = before.first; second = before.second }
rested w [] (y ∷ new) k pair zip is = absurd zip
rested w (x ∷ old) [] k pair zip is = absurd zip
rested w (x ∷ []) (y ∷ z ∷ new) k pair zip is = absurd zip.1
rested w (x ∷ z ∷ old) (y ∷ []) k pair zip is = absurd zip.1

still_now : {D : Type 0} (w : Watch D) (course : Course) (old : List D) (k : ℕ) (pair : D × D) → HoldStores w course (pairs_of old) → Rested w old k pair
    → Now w (Spells (kind_of k) (number_of k)) (Point course k) pair.0 pair.1
still_now w course old k pair stores rested c d c_left d_left = stores k rested.was rested.here c d (rested.first.crash c c_left) (rested.second.crash d d_left)

-- what they hold they hold still
pub still_hold : {D : Type 0} (w : Watch D) (course : Course) (old new : List D) → AllZip (Rests w) old new → Holds w course old → Holds w course new
still_hold w course old new zip holds = record {
  servers = holds.servers;
  size = sym (zip_length (Rests w) old new zip) ∙ holds.size;
  is = holds.is;
  in_doubt = holds.in_doubt;
  stores = λ k pair is. still_now w course old k pair holds.stores (rested w old new k pair zip is);
}

-- ---- disks that hold a course are not all empty

not_empty : (before area : List ℕ) → ShutAt before area → length area ≡ 0 → ⊥
not_empty before area shut none =
    let long = length-append before (shut.gate ∷ shut.rest) in
    let size : length area ≡ length (before ++ shut.gate ∷ shut.rest) = subst (λ (x : List ℕ). length area ≡ length x) shut.is refl in
    absurd (omega (arith, none, long, size))

one_filled : (kind number : ℕ) (frames : List Frame) (a b : List ℕ) → Spells kind number frames a b → length a ≡ 0 → length b ≡ 0 → ⊥
one_filled kind number frames a b (inl keeps) none_a none_b = not_empty _ a keeps.current_is.shut none_a
one_filled kind number frames a b (inr keeps) none_a none_b = not_empty _ b keeps.current_is.shut none_b

two_filled : {D : Type 0} (w : Watch D) (course : Course) (disks : List D) → ReadsImage w → HoldStores w course (pairs_of disks) → 2 ≤ length disks
    → All (λ disk. length (w.seen disk) ≡ 0) disks → ⊥
unfolding pairs_of
two_filled w course [] reads stores long none = absurd (omega (arith, long))
two_filled w course (a ∷ []) reads stores long none = absurd (omega (arith, long))
two_filled w course (a ∷ b ∷ disks) reads stores long none =
    let tells = stores 0 (a, b) refl (w.seen a) (w.seen b) (reads a) (reads b) in
    one_filled 0 0 tells.value (w.seen a) (w.seen b) tells.spelled (none 0 a (omega arith)) (none 1 b (omega arith))

pub not_all_empty : {D : Type 0} (w : Watch D) (course : Course) (disks : List D) → ReadsImage w → Holds w course disks → All (λ disk. length (w.seen disk) ≡ 0) disks → ⊥
not_all_empty w course disks reads holds none = two_filled w course disks reads holds.stores (let size = holds.size in omega (arith, size)) none
