-- Which frames are read of two areas, and in which of them a place has no spelling, whatever the disks are.
use Rattle.std.proofs.Common.{◌≡◌, ℕ, ◌≤◌, Bool, true, false, cond, inl, inr, Result, Ok, Err, List, ap, subst, arith}
use Rattle.std.specs.Prelude.{◌==◌, nat_lt}
use Rattle.tab_codec.specs.declared.frames.Frame.{Frame}
use Rattle.tab_codec.specs.Frames.{AreBytes}
use Rattle.tab_journal.specs.Areas.{AreFrames, Spells}
use Rattle.tab_journal.specs.Reading.{Found, found, found_in, not_before, read_areas}
use Rattle.tab_journal.specs.Stores.{IsInArea, ReadsAreas}
use Rattle.tab_journal.specs.declared.reading.Front.{Front}
use Rattle.tab_journal.specs.declared.reading.Front.TheVariants.{Empty, Closed, NoHeader, Open}
use Rattle.tab_journal.specs.declared.refusals.StoreRefused.{StoreRefused}
use Rattle.tab_journal.specs.declared.refusals.StoreRefused.TheVariants.{DiskFault, NotAStore, EpochSpent, Memory}
use Rattle.tab_journal.proofs.Opening.{read_spelled}

-- frames that areas spell are frames of a store
spelled_are : (kind number : ℕ) (frames : List Frame) (a b : List ℕ) → Spells kind number frames a b → AreFrames kind frames
spelled_are kind number frames a b (inl keeps) = keeps.current_is.are
spelled_are kind number frames a b (inr keeps) = keeps.current_is.are

pub read_are : (kind number : ℕ) (f : Found) (a b : List ℕ) → AreBytes a → AreBytes b → read_areas kind number a b ≡ Ok f → AreFrames kind f.frames
read_are kind number f a b fits_a fits_b is = spelled_are kind number f.frames a b (read_spelled kind number f a b fits_a fits_b is)

-- the area of a place without a spelling
abbrev area_so : Result Found (ℕ × ℕ) → ℕ
area_so (Ok f) = 0
area_so (Err place) = place.0

first_too : 0 ≤ 1
first_too = omega arith

second_too : 1 ≤ 1
second_too = omega arith

in_found : (area epoch : ℕ) (read : Result (List Frame) ℕ) → area ≤ 1 → area_so (found_in area epoch read) ≤ 1
in_found area epoch (Ok frames) less = first_too
in_found area epoch (Err at) less = less

in_first : (read : Result (List Frame) ℕ) (at : ℕ) → area_so (not_before read at) ≤ 1
in_first (Ok frames) at = second_too
in_first (Err place) at = first_too

in_either : (b : Bool) (x y : Result Found (ℕ × ℕ)) → area_so x ≤ 1 → area_so y ≤ 1 → area_so (cond b x y) ≤ 1
in_either true x y less less_too = less
in_either false x y less less_too = less_too

in_areas : (x y : Front) (in_a in_b : Result (List Frame) ℕ) → area_so (found x y in_a in_b) ≤ 1
unfolding found
in_areas Empty y in_a in_b = first_too
in_areas (NoHeader at) y in_a in_b = first_too
in_areas Closed Empty in_a in_b = first_too
in_areas Closed Closed in_a in_b = first_too
in_areas Closed (NoHeader at) in_a in_b = second_too
in_areas Closed (Open epoch) in_a in_b = in_found 1 epoch in_b second_too
in_areas (Open epoch) Empty in_a in_b = in_first in_a 0
in_areas (Open epoch) Closed in_a in_b = in_found 0 epoch in_a first_too
in_areas (Open epoch) (NoHeader at) in_a in_b = in_first in_a at
in_areas (Open epoch) (Open other) in_a in_b =
    in_either (epoch == other) _ _ first_too (in_either (nat_lt other epoch) _ _ (in_found 0 epoch in_a first_too) (in_found 1 other in_b second_too))

-- a place without a spelling is in one of them
pub in_area : (refused : StoreRefused) (x y : Front) (in_a in_b : Result (List Frame) ℕ) → ReadsAreas (Err refused) (found x y in_a in_b) → IsInArea refused
in_area (NotAStore area at) x y in_a in_b reads = subst (λ (n : ℕ). n ≤ 1) (ap area_so reads) (in_areas x y in_a in_b)
in_area (DiskFault area) x y in_a in_b reads = absurd reads
in_area EpochSpent x y in_a in_b reads = absurd reads
in_area Memory x y in_a in_b reads = tt
