-- What is read of two areas is what they spell, and what they spell is read.
use Rattle.std.proofs.Common.{◌≡◌, ℕ, suc, ◌<◌, ◌≤◌, ◌^◌, Bool, true, false, inl, inr, Result, Ok, Err, List, [], ◌∷◌, ◌++◌, length, drop, refl, sym, ap, ◌∙◌, arith, append_assoc, length-append}
use Rattle.std.specs.Prelude.{◌==◌, nat_lt}
use Rattle.std.specs.Int.{w64, to_be_bytes, from_be_bytes}
use Rattle.std.proofs.lemmas.Bool.Decides.{nat_tests}
use Rattle.std.proofs.lemmas.List.{length-drop}
use Rattle.std.proofs.lemmas.Nat.{from_be_bytes-to_be_bytes_8}
use Rattle.tab_codec.specs.declared.frames.Frame.{Frame}
use Rattle.std.proofs.lemmas.Bool.{true≢false}
use Rattle.tab_journal.specs.Fitting.{told_first, told_by, after, after_all, is_whole_store}
use Rattle.tab_journal.specs.declared.fitting.Told.{Told}
use Rattle.tab_journal.specs.declared.fitting.Told.TheVariants as told
use Rattle.tab_journal.specs.Areas.{stamp, header, opened, first_gate, AreFrames, IsOpen, IsClosed, IsOlder, IsUnder, Spells}
use Rattle.tab_journal.specs.Reading.{agreeing, header_of, front_of, frames_of, frames_from, Found, found, read_areas}
use Rattle.tab_journal.specs.declared.reading.Front.{Front}
use Rattle.tab_journal.specs.declared.reading.Front.TheVariants.{Closed, Open}
use Rattle.tab_journal.proofs.Fronts.{ReadsBack, epoch_bytes, has_header, opened_behind}
use Rattle.tab_journal.proofs.ReadingLaws.{opened_read, not_open}

agreeing_front : (xs ys : List ℕ) → agreeing xs (xs ++ ys) ≡ length xs
unfolding agreeing
agreeing_front [] ys = refl
agreeing_front (x ∷ xs) ys = let same : (x == x) ≡ true = grind (arith, nat_tests) in rw same (ap suc (agreeing_front xs ys))

test_false : (a b : ℕ) → b ≤ a → nat_lt a b ≡ false
test_false a b le = grind (arith, nat_tests)

test_true : (a b : ℕ) → a < b → nat_lt a b ≡ true
test_true a b less = grind (arith, nat_tests)

differ_false : (a b : ℕ) → b < a → (a == b) ≡ false
differ_false a b less = grind (arith, nat_tests)

header_agrees : (kind number epoch : ℕ) (rest : List ℕ) → agreeing (stamp kind number) (header kind number epoch ++ rest) ≡ 11
unfolding header
header_agrees kind number epoch rest =
    ap (agreeing (stamp kind number)) (append_assoc (stamp kind number) (to_be_bytes w64 epoch) rest) ∙ agreeing_front (stamp kind number) (to_be_bytes w64 epoch ++ rest)

header_long : (kind number epoch : ℕ) (rest : List ℕ) → 19 ≤ length (header kind number epoch ++ rest)
unfolding header
header_long kind number epoch rest =
    let size : length (stamp kind number ++ to_be_bytes w64 epoch) ≡ 19 = refl in
    omega (arith, size, length-append (stamp kind number ++ to_be_bytes w64 epoch) rest)

-- frames are of a kind that there is
told_nothing : (list : List Frame) → after_all told.Nothing list ≡ told.Nothing
unfolding after_all after
told_nothing [] = refl
told_nothing (frame ∷ list) = told_nothing list

of_no_kind : (kind : ℕ) → 2 < kind → told_first kind ≡ told.Nothing
unfolding told_first
of_no_kind kind over =
    let not_map : (kind == 0) ≡ false = grind (arith, nat_tests) in
    let not_names : (kind == 1) ≡ false = grind (arith, nat_tests) in
    let not_server : (kind == 2) ≡ false = grind (arith, nat_tests) in
    rw (not_map, not_names, not_server) refl

not_whole : (b : Bool) (kind : ℕ) (list : List Frame) → nat_lt 2 kind ≡ b → is_whole_store (told_by kind list) ≡ true → b ≡ false
unfolding is_whole_store
not_whole false kind list is whole = refl
not_whole true kind list is whole =
    let over : 2 < kind = grind (arith, nat_tests) in
    let none : told_by kind list ≡ told.Nothing = ap (λ (t : Told). after_all t list) (of_no_kind kind over) ∙ told_nothing list in
    absurd (true≢false (sym whole ∙ ap is_whole_store none))

known_kind : (kind : ℕ) (list : List Frame) → AreFrames kind list → nat_lt 2 kind ≡ false
known_kind kind list are = not_whole (nat_lt 2 kind) kind list refl are.whole

-- an open area's header is read
header_read : (kind number epoch : ℕ) (rest : List ℕ) → nat_lt 2 kind ≡ false → epoch < 2 ^ 64 → front_of kind number (1 ∷ (header kind number epoch ++ rest)) ≡ Open epoch
unfolding front_of header_of
header_read kind number epoch rest known within =
    let bytes = header kind number epoch ++ rest in
    let agrees : nat_lt (agreeing (stamp kind number) bytes) 11 ≡ false = ap (λ (n : ℕ). nat_lt n 11) (header_agrees kind number epoch rest) in
    let long : nat_lt (length bytes) 19 ≡ false = test_false (length bytes) 19 (header_long kind number epoch rest) in
    rw (known, agrees, long) (ap Open (ap (from_be_bytes w64) (epoch_bytes kind number epoch rest) ∙ from_be_bytes-to_be_bytes_8 epoch within))

open_read : (kind number epoch : ℕ) (list : List Frame) (area : List ℕ) → IsOpen kind number epoch list area → front_of kind number area ≡ Open epoch
open_read kind number epoch list area is_open =
    let head = has_header kind number epoch list area is_open in
    ap (front_of kind number) head.1 ∙ header_read kind number epoch head.0 (known_kind kind list is_open.are) is_open.within

older_read : (kind number epoch : ℕ) (area : List ℕ) (older : IsOlder kind number epoch area) → nat_lt 2 kind ≡ false → epoch < 2 ^ 64 → front_of kind number area ≡ Open older.older
older_read kind number epoch area older known within =
    ap (front_of kind number) older.is ∙ header_read kind number older.older older.rest known (omega (arith, older.lower, within))

closed_read : (kind number : ℕ) (area : List ℕ) → IsClosed area → front_of kind number area ≡ Closed
unfolding front_of
closed_read kind number area closed = ap (front_of kind number) closed.is ∙ (rw (not_open closed.gate closed.shut) refl)

frames_read : ReadsBack → (kind number epoch : ℕ) (list : List Frame) (area : List ℕ) → IsOpen kind number epoch list area → frames_of kind area ≡ Ok list
frames_read reads kind number epoch list area is_open =
    let s = is_open.shut in
    let tail : drop first_gate area ≡ opened list ++ s.gate ∷ s.rest = ap (drop first_gate) s.is ∙ opened_behind kind number epoch list (s.gate ∷ s.rest) in
    let less : length (opened list ++ s.gate ∷ s.rest) < suc (length area) = omega (arith, ap length tail, length-drop first_gate area) in
    ap (frames_from (suc (length area)) (told_first kind) first_gate) tail
    ∙ opened_read reads (suc (length area)) (told_first kind) first_gate list s.gate s.rest less s.shut is_open.are.spelled is_open.are.fit is_open.are.whole

-- the frames that were found, whatever the area
pub record WereFound (list : List Frame) (read : Result Found (ℕ × ℕ)) : Type 0 where
  pub area : ℕ
  pub epoch : ℕ
  pub is : read ≡ Ok (record { area = area; epoch = epoch; frames = list })

abbrev found_so : Found → Result Found (ℕ × ℕ)
found_so f = Ok f

abbrev place_so : ℕ × ℕ → Result Found (ℕ × ℕ)
place_so p = Err p

pub same_frames : (f g : Found) → found_so f ≡ found_so g → f.frames ≡ g.frames
same_frames f g e = let same : f ≡ g = cc in ap (λ (x : Found). x.frames) same

pub not_both : (f : Found) (p : ℕ × ℕ) → found_so f ≡ place_so p → ⊥
not_both f p e = absurd cc

first_counts : (kind epoch : ℕ) (x y : Front) (in_a in_b : Result (List Frame) ℕ) (list : List Frame) → x ≡ Open epoch → y ≡ Closed → in_a ≡ Ok list → WereFound list (found x y in_a in_b)
unfolding found
first_counts kind epoch x y in_a in_b list is_x is_y is = record { area = 0; epoch = epoch; is = rw (is_x, is_y, is) refl }

first_over : (kind epoch older : ℕ) (x y : Front) (in_a in_b : Result (List Frame) ℕ) (list : List Frame) → older < epoch → x ≡ Open epoch → y ≡ Open older → in_a ≡ Ok list → WereFound list (found x y in_a in_b)
unfolding found
first_over kind epoch older x y in_a in_b list less is_x is_y is =
    record { area = 0; epoch = epoch; is = rw (is_x, is_y, is, differ_false epoch older less, test_true older epoch less) refl }

second_counts : (kind epoch : ℕ) (x y : Front) (in_a in_b : Result (List Frame) ℕ) (list : List Frame) → x ≡ Closed → y ≡ Open epoch → in_b ≡ Ok list → WereFound list (found x y in_a in_b)
unfolding found
second_counts kind epoch x y in_a in_b list is_x is_y is = record { area = 1; epoch = epoch; is = rw (is_x, is_y, is) refl }

differ_true : (a b : ℕ) → a < b → (a == b) ≡ false
differ_true a b less = grind (arith, nat_tests)

second_over : (kind epoch older : ℕ) (x y : Front) (in_a in_b : Result (List Frame) ℕ) (list : List Frame) → older < epoch → x ≡ Open older → y ≡ Open epoch → in_b ≡ Ok list → WereFound list (found x y in_a in_b)
unfolding found
second_over kind epoch older x y in_a in_b list less is_x is_y is =
    record { area = 1; epoch = epoch; is = rw (is_x, is_y, is, differ_true older epoch less, test_false epoch older (omega (arith, less))) refl }

under_first : ReadsBack → (kind number epoch : ℕ) (list : List Frame) (a b : List ℕ) → IsOpen kind number epoch list a → IsUnder kind number epoch b → WereFound list (read_areas kind number a b)
under_first reads kind number epoch list a b is (inl closed) =
    first_counts kind epoch _ _ _ _ list (open_read kind number epoch list a is) (closed_read kind number b closed) (frames_read reads kind number epoch list a is)
under_first reads kind number epoch list a b is (inr older) =
    first_over kind epoch older.older _ _ _ _ list older.lower (open_read kind number epoch list a is) (older_read kind number epoch b older (known_kind kind list is.are) is.within) (frames_read reads kind number epoch list a is)

under_second : ReadsBack → (kind number epoch : ℕ) (list : List Frame) (a b : List ℕ) → IsOpen kind number epoch list b → IsUnder kind number epoch a → WereFound list (read_areas kind number a b)
under_second reads kind number epoch list a b is (inl closed) =
    second_counts kind epoch _ _ _ _ list (closed_read kind number a closed) (open_read kind number epoch list b is) (frames_read reads kind number epoch list b is)
under_second reads kind number epoch list a b is (inr older) =
    second_over kind epoch older.older _ _ _ _ list older.lower (older_read kind number epoch a older (known_kind kind list is.are) is.within) (open_read kind number epoch list b is) (frames_read reads kind number epoch list b is)

-- what two areas spell is read of them
pub spelled_read : ReadsBack → (kind number : ℕ) (list : List Frame) (a b : List ℕ) → Spells kind number list a b → WereFound list (read_areas kind number a b)
spelled_read reads kind number list a b (inl keeps) = under_first reads kind number keeps.epoch list a b keeps.current_is keeps.other_is
spelled_read reads kind number list a b (inr keeps) = under_second reads kind number keeps.epoch list a b keeps.current_is keeps.other_is

-- so two areas spell one list at most, and none where a place is read
pub one_spelled : ReadsBack → (kind number : ℕ) (list others : List Frame) (a b : List ℕ) → Spells kind number list a b → Spells kind number others a b → list ≡ others
one_spelled reads kind number list others a b one other =
    let x = spelled_read reads kind number list a b one in
    let y = spelled_read reads kind number others a b other in
    same_frames _ _ (sym x.is ∙ y.is)

pub none_spelled : ReadsBack → (kind number : ℕ) (list : List Frame) (a b : List ℕ) (place : ℕ × ℕ) → read_areas kind number a b ≡ Err place → Spells kind number list a b → ⊥
none_spelled reads kind number list a b place read spelled =
    let x = spelled_read reads kind number list a b spelled in
    not_both _ place (sym x.is ∙ read)
