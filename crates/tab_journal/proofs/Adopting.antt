-- A store whose areas were read has the frames that were read.
use Rattle.std.proofs.Common.{◌≡◌, ℕ, ◌+◌, ◌<◌, ◌^◌, Bool, true, false, cond, inl, inr, Ok, None, List, ◌∷◌, ◌++◌, length, take, refl, sym, ap, subst, ◌∙◌, arith, length-append}
use Rattle.std.specs.Prelude.{◌==◌, vec_items}
use Rattle.std.specs.Int.{w64, to_be_bytes}
use Rattle.std.proofs.lemmas.Bool.Decides.{nat_tests}
use Rattle.std.proofs.Math.Seq.{take-length}
use Rattle.tab_outside.specs.Disks.{Watch, LeavesOnly}
use Rattle.tab_codec.specs.declared.frames.Frame.{Frame}
use Rattle.tab_codec.specs.Frames.{AreBytes}
use Rattle.tab_journal.specs.Areas.{stamp, header, opened, front, first_gate, IsOpen, IsClosed}
use Rattle.tab_journal.specs.Steps.{IsShutOn}
use Rattle.tab_journal.specs.Reading.{front_of, frames_of, is_open, Found, read_areas}
use Rattle.tab_journal.specs.Stores.{StoreView, area_a, area_b, adopted, gates_from, IsSpare, HasFrames}
use Rattle.tab_journal.specs.declared.reading.Front.{Front}
use Rattle.tab_journal.specs.declared.reading.Reading.{Reading}
use Rattle.tab_journal.proofs.Opening.{IsBelow, Counts, found_is, frames_are, open_is, closed_is}

-- where the frames of an area end
pub front_end : (kind number epoch : ℕ) (list : List Frame) → length (front kind number epoch list) ≡ first_gate + length (opened list)
unfolding front header
front_end kind number epoch list =
    let size : length (stamp kind number ++ to_be_bytes w64 epoch) ≡ 19 = refl in
    omega (arith, size, length-append (stamp kind number ++ to_be_bytes w64 epoch) (opened list))

-- the other area, by what was read of its front
spare_is : {D : Type 0} (w : Watch D) (kind number epoch : ℕ) (disk : D) (open_too : Bool) (at_front : Front) → LeavesOnly w disk (w.seen disk) → AreBytes (w.seen disk)
    → front_of kind number (w.seen disk) ≡ at_front → open_too ≡ is_open at_front → IsBelow epoch at_front → IsSpare w kind number epoch open_too disk
spare_is w kind number epoch disk open_too at_front only fits read is (inl closed) =
    let never : open_too ≡ false = is ∙ ap is_open closed in
    record {
      shut = λ e c left. subst IsClosed (sym (only c left)) (closed_is kind number (w.seen disk) (read ∙ closed));
      older = λ e. absurd (let none : ⊥ = cc in none);
    }
spare_is w kind number epoch disk open_too at_front only fits read is (inr older) =
    let always : open_too ≡ true = is ∙ ap is_open older.2 in
    let head = open_is kind number older.0 (w.seen disk) fits (read ∙ older.2) in
    record {
      shut = λ e. absurd (let none : ⊥ = cc in none);
      older = λ e. (record { older = older.0; lower = older.1; rest = head.0; is = head.2 }, only);
    }

-- the store with the area that counts, by whether it is area 1
abbrev adopted_by : {D : Type 0} → Bool → StoreView D → Reading → StoreView D
adopted_by second store reading = record {
  kind = store.kind;
  number = store.number;
  current = cond second (area_b store) (area_a store);
  other = cond second (area_a store) (area_b store);
  second = second;
  epoch = reading.epoch;
  end = reading.found.end;
  other_open = reading.other_open;
  building = None;
  places = vec_items reading.found.places;
  failed = false;
}

-- with the disks of the area that counts and of the other one
has_read : {D : Type 0} (w : Watch D) (store : StoreView D) (reading : Reading) (second : Bool) (f : Found) (disk other : D) → disk ≡ cond second (area_b store) (area_a store) → other ≡ cond second (area_a store) (area_b store)
    → LeavesOnly w disk (w.seen disk) → LeavesOnly w other (w.seen other) → AreBytes (w.seen disk) → AreBytes (w.seen other) → length (w.seen disk) < 2 ^ 64
    → (n : ℕ) → Counts n f (front_of store.kind store.number (w.seen disk)) (front_of store.kind store.number (w.seen other)) (frames_of store.kind (w.seen disk))
    → f.epoch ≡ reading.epoch → f.frames ≡ vec_items reading.found.frames
    → vec_items reading.found.places ≡ gates_from first_gate (vec_items reading.found.frames)
    → reading.found.end ≡ first_gate + length (opened (vec_items reading.found.frames))
    → reading.other_open ≡ is_open (front_of store.kind store.number (w.seen other))
    → HasFrames w (adopted_by second store reading) (vec_items reading.found.frames)
has_read {D = D} w store reading second f disk other is_disk is_other only only_other fits fits_other long n counts same_epoch same_frames places end open_too =
    let k = store.kind in
    let m = store.number in
    let list = vec_items reading.found.frames in
    let e = reading.epoch in
    let found : IsOpen k m e list (w.seen disk) =
    subst (λ (x : ℕ). IsOpen k m x list (w.seen disk)) same_epoch (subst (λ (l : List Frame). IsOpen k m f.epoch l (w.seen disk)) same_frames
    (frames_are k m f.epoch f.frames (w.seen disk) fits counts.at_front counts.frames)) in
    let size : reading.found.end ≡ length (front k m e list) = end ∙ sym (front_end k m e list) in
    let below : IsBelow e (front_of k m (w.seen other)) = subst (λ (x : ℕ). IsBelow x (front_of k m (w.seen other))) same_epoch counts.below in
    let gates = gates_from first_gate list in
    record {
      running = refl;
      within = found.within;
      are = found.are;
      current = subst (λ (d : D). IsShutOn w (front k m e list) d) is_disk (record { shut = found.shut; durable = only });
      end = size;
      short = omega (arith, size, long, ap length found.shut.is, length-append (front k m e list) (found.shut.gate ∷ found.shut.rest));
      other = subst (λ (d : D). IsSpare w k m e reading.other_open d) is_other (spare_is w k m e other reading.other_open (front_of k m (w.seen other)) only_other fits_other refl open_too below);
      places = places ∙ sym (take-length gates) ∙ ap (λ (l : List ℕ). take (length l) gates) (sym places);
    }

is_first : (n : ℕ) → n ≡ 0 → (n == 1) ≡ false
is_first n e = grind (arith, nat_tests)

is_second : (n : ℕ) → n ≡ 1 → (n == 1) ≡ true
is_second n e = grind (arith, nat_tests)

pub adopted_has : {D : Type 0} (w : Watch D) (store : StoreView D) (reading : Reading) → LeavesOnly w (area_a store) (w.seen (area_a store)) → LeavesOnly w (area_b store) (w.seen (area_b store))
    → AreBytes (w.seen (area_a store)) → AreBytes (w.seen (area_b store)) → length (w.seen (area_a store)) < 2 ^ 64 → length (w.seen (area_b store)) < 2 ^ 64
    → read_areas store.kind store.number (w.seen (area_a store)) (w.seen (area_b store)) ≡ Ok (record { area = reading.area; epoch = reading.epoch; frames = vec_items reading.found.frames })
    → vec_items reading.found.places ≡ gates_from first_gate (vec_items reading.found.frames)
    → reading.found.end ≡ first_gate + length (opened (vec_items reading.found.frames))
    → reading.other_open ≡ is_open (front_of store.kind store.number (cond (reading.area == 1) (w.seen (area_a store)) (w.seen (area_b store))))
    → HasFrames w (adopted store reading) (vec_items reading.found.frames)
adopted_has {D = D} w store reading only_a only_b fits_a fits_b long_a long_b read places end open_too =
    let k = store.kind in
    let m = store.number in
    let a = area_a store in
    let b = area_b store in
    let list = vec_items reading.found.frames in
    let f : Found = record { area = reading.area; epoch = reading.epoch; frames = list } in
    elim (found_is (front_of k m (w.seen a)) (front_of k m (w.seen b)) (frames_of k (w.seen a)) (frames_of k (w.seen b)) f read) [
      | inl h ↦
          let test : (reading.area == 1) ≡ false = is_first reading.area h.place in
          subst (λ (t : Bool). HasFrames w (adopted_by t store reading) list) (sym test)
          (has_read w store reading false f a b refl refl only_a only_b fits_a fits_b long_a 0 h refl refl places end
          (subst (λ (t : Bool). reading.other_open ≡ is_open (front_of k m (cond t (w.seen a) (w.seen b)))) test open_too))
      | inr h ↦
          let test : (reading.area == 1) ≡ true = is_second reading.area h.place in
          subst (λ (t : Bool). HasFrames w (adopted_by t store reading) list) (sym test)
          (has_read w store reading true f b a refl refl only_b only_a fits_b fits_a long_b 1 h refl refl places end
          (subst (λ (t : Bool). reading.other_open ≡ is_open (front_of k m (cond t (w.seen a) (w.seen b)))) test open_too))
    ]
