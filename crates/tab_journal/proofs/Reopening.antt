-- A store that goes on from what was read of its areas has the frames that were read.
use Rattle.std.proofs.Common.{◌≡◌, ℕ, ◌+◌, ◌<◌, ◌^◌, Bool, cond, Ok, List, length, sym, ap, subst, ◌∙◌, arith}
use Rattle.std.specs.Prelude.{◌==◌, vec_items}
use Rattle.tab_outside.specs.Disks.{Watch, LeavesOnly}
use Rattle.tab_codec.specs.Frames.{AreBytes}
use Rattle.tab_journal.specs.Areas.{first_gate, opened}
use Rattle.tab_journal.specs.Reading.{front_of, is_open, read_areas}
use Rattle.tab_journal.specs.Stores.{StoreView, area_a, area_b, adopted, gates_from, HasFrames}
use Rattle.tab_journal.specs.declared.reading.Reading.{Reading}
use Rattle.tab_journal.proofs.Adopting.{adopted_has}

-- the bytes that were read are those of the areas
pub read_same : (k n kind number : ℕ) (a b x y : List ℕ) → k ≡ kind → n ≡ number → a ≡ x → b ≡ y → read_areas k n a b ≡ read_areas kind number x y
read_same k n kind number a b x y is_k is_n is_a is_b =
    ap (λ (m : ℕ). read_areas m n a b) is_k ∙ ap (λ (m : ℕ). read_areas kind m a b) is_n ∙ ap (λ (l : List ℕ). read_areas kind number l b) is_a ∙ ap (λ (l : List ℕ). read_areas kind number x l) is_b

open_same : (k n kind number : ℕ) (a b x y : List ℕ) (second : Bool) → k ≡ kind → n ≡ number → a ≡ x → b ≡ y → is_open (front_of k n (cond second a b)) ≡ is_open (front_of kind number (cond second x y))
open_same k n kind number a b x y second is_k is_n is_a is_b =
    ap (λ (m : ℕ). is_open (front_of m n (cond second a b))) is_k ∙ ap (λ (m : ℕ). is_open (front_of kind m (cond second a b))) is_n
    ∙ ap (λ (l : List ℕ). is_open (front_of kind number (cond second l b))) is_a ∙ ap (λ (l : List ℕ). is_open (front_of kind number (cond second x l))) is_b

-- a store that goes on from what was read has its frames
pub reopened_has : {D : Type 0} (w : Watch D) (store : StoreView D) (reading : Reading) (k n : ℕ) (a b : List ℕ) → k ≡ store.kind → n ≡ store.number → a ≡ w.seen (area_a store) → b ≡ w.seen (area_b store)
    → LeavesOnly w (area_a store) (w.seen (area_a store)) → LeavesOnly w (area_b store) (w.seen (area_b store)) → AreBytes a → AreBytes b → length a < 2 ^ 64 → length b < 2 ^ 64
    → read_areas k n a b ≡ Ok (record { area = reading.area; epoch = reading.epoch; frames = vec_items reading.found.frames })
    → vec_items reading.found.places ≡ gates_from first_gate (vec_items reading.found.frames)
    → reading.found.end ≡ first_gate + length (opened (vec_items reading.found.frames))
    → reading.other_open ≡ is_open (front_of k n (cond (reading.area == 1) a b))
    → HasFrames w (adopted store reading) (vec_items reading.found.frames)
reopened_has w store reading k n a b is_k is_n is_a is_b only_a only_b fits_a fits_b long_a long_b read places end open_too =
    adopted_has w store reading only_a only_b (subst AreBytes is_a fits_a) (subst AreBytes is_b fits_b) (omega (arith, long_a, ap length is_a)) (omega (arith, long_b, ap length is_b))
    (sym (read_same k n store.kind store.number a b (w.seen (area_a store)) (w.seen (area_b store)) is_k is_n is_a is_b) ∙ read) places end
    (open_too ∙ open_same k n store.kind store.number a b (w.seen (area_a store)) (w.seen (area_b store)) (reading.area == 1) is_k is_n is_a is_b)
