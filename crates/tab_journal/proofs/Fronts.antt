-- How areas are spelled: one more frame behind others, and that an area has one epoch and one list of frames.
use Rattle.std.proofs.Common.{◌≡◌, ℕ, ◌<◌, ◌^◌, Bool, true, false, ◌&&◌, Result, Ok, List, [], ◌∷◌, ◌++◌, length, take, drop, refl, sym, ap, ◌∙◌, arith, append_assoc}
use Rattle.std.specs.Prelude.{◌≢◌}
use Rattle.std.specs.List.{AllByRecursion}
use Rattle.std.specs.Int.{w64, to_be_bytes, from_be_bytes}
use Rattle.std.proofs.lemmas.Nat.{from_be_bytes-to_be_bytes_8}
use Rattle.std.proofs.lemmas.List.{append-nil, take_at, drop_at}
use Rattle.tab_codec.specs.declared.frames.Frame.{Frame}
use Rattle.tab_codec.specs.Spelling.{spelling}
use Rattle.tab_codec.specs.Frames.{HasSpelling}
use Rattle.tab_codec.specs.Reading.{frame_at}
use Rattle.tab_journal.specs.Fitting.{takes, after, after_all, takes_all}
use Rattle.tab_journal.specs.declared.fitting.Told.{Told}
use Rattle.tab_journal.specs.Areas.{stamp, header, opened, front, IsOpen, IsClosed, IsOlder}

-- that reading gives back what was spelled, whatever follows
abbrev pub ReadsBack : Type 0
ReadsBack = (frame : Frame) (rest : List ℕ) → HasSpelling frame → frame_at (spelling frame ++ rest) ≡ Ok (frame, length (spelling frame))

-- ---- one frame more

pub opened_more : (list : List Frame) (frame : Frame) → opened (list ++ frame ∷ []) ≡ opened list ++ 1 ∷ spelling frame
unfolding opened
opened_more [] frame = ap (λ (l : List ℕ). 1 ∷ l) (append-nil (spelling frame))
opened_more (first ∷ list) frame =
    ap (λ (l : List ℕ). 1 ∷ (spelling first ++ l)) (opened_more list frame)
    ∙ ap (λ (l : List ℕ). 1 ∷ l) (sym (append_assoc (spelling first) (opened list) (1 ∷ spelling frame)))

pub front_more : (kind number epoch : ℕ) (list : List Frame) (frame : Frame) → front kind number epoch (list ++ frame ∷ []) ≡ front kind number epoch list ++ 1 ∷ spelling frame
unfolding front
front_more kind number epoch list frame =
    ap (λ (l : List ℕ). 1 ∷ (header kind number epoch ++ l)) (opened_more list frame)
    ∙ ap (λ (l : List ℕ). 1 ∷ l) (sym (append_assoc (header kind number epoch) (opened list) (1 ∷ spelling frame)))

pub all_more : (P : Frame → Type 0) (list : List Frame) (frame : Frame) → AllByRecursion P list → P frame → AllByRecursion P (list ++ frame ∷ [])
all_more P [] frame all has = (has, all)
all_more P (first ∷ list) frame all has = (all.0, all_more P list frame all.1 has)

pub after_more : (so_far : Told) (list : List Frame) (frame : Frame) → after_all so_far (list ++ frame ∷ []) ≡ after (after_all so_far list) frame
unfolding after_all
after_more so_far [] frame = refl
after_more so_far (first ∷ list) frame = after_more (after so_far first) list frame

pub and_true : (a b : Bool) → (a && b) ≡ true → (a ≡ true) × (b ≡ true)
and_true true b e = (refl, e)
and_true false b e = absurd cc

pub both_true : (a b : Bool) → a ≡ true → b ≡ true → (a && b) ≡ true
both_true a b e f = rw (e, f) refl

pub takes_more : (so_far : Told) (list : List Frame) (frame : Frame) → takes_all so_far list ≡ true → takes (after_all so_far list) frame ≡ true → takes_all so_far (list ++ frame ∷ []) ≡ true
unfolding takes_all after_all
takes_more so_far [] frame fit fits = both_true _ _ fits refl
takes_more so_far (first ∷ list) frame fit fits =
    let parts = and_true (takes so_far first) (takes_all (after so_far first) list) fit in
    both_true _ _ parts.0 (takes_more (after so_far first) list frame parts.1 fits)

-- ---- one epoch and one list

pub epoch_bytes : (kind number epoch : ℕ) (rest : List ℕ) → take 8 (drop 11 (header kind number epoch ++ rest)) ≡ to_be_bytes w64 epoch
unfolding header
epoch_bytes kind number epoch rest =
    ap (λ (l : List ℕ). take 8 (drop 11 l)) (append_assoc (stamp kind number) (to_be_bytes w64 epoch) rest)
    ∙ ap (take 8) (drop_at (stamp kind number) (to_be_bytes w64 epoch ++ rest) 11 refl)
    ∙ take_at (to_be_bytes w64 epoch) rest 8 refl

pub same_epoch : (kind number e f : ℕ) (x y : List ℕ) → e < 2 ^ 64 → f < 2 ^ 64 → header kind number e ++ x ≡ header kind number f ++ y → e ≡ f
same_epoch kind number e f x y in_e in_f same =
    sym (from_be_bytes-to_be_bytes_8 e in_e)
    ∙ ap (from_be_bytes w64) (sym (epoch_bytes kind number e x) ∙ ap (λ (l : List ℕ). take 8 (drop 11 l)) same ∙ epoch_bytes kind number f y)
    ∙ from_be_bytes-to_be_bytes_8 f in_f

-- what stands behind an open area's header
pub has_header : (kind number epoch : ℕ) (list : List Frame) (area : List ℕ) → IsOpen kind number epoch list area → (rest : List ℕ) × (area ≡ 1 ∷ (header kind number epoch ++ rest))
unfolding front
has_header kind number epoch list area is_open = (
  opened list ++ is_open.shut.gate ∷ is_open.shut.rest,
  is_open.shut.is ∙ ap (λ (l : List ℕ). 1 ∷ l) (append_assoc (header kind number epoch) (opened list) (is_open.shut.gate ∷ is_open.shut.rest)),
)

same_tail : (x y : ℕ) (xs ys : List ℕ) → x ∷ xs ≡ y ∷ ys → xs ≡ ys
same_tail x y xs ys e = cc

same_head : (x y : ℕ) (xs ys : List ℕ) → x ∷ xs ≡ y ∷ ys → x ≡ y
same_head x y xs ys e = cc

pub one_epoch : (kind number e f : ℕ) (list others : List Frame) (area : List ℕ) → IsOpen kind number e list area → IsOpen kind number f others area → e ≡ f
one_epoch kind number e f list others area one other =
    let x = has_header kind number e list area one in
    let y = has_header kind number f others area other in
    same_epoch kind number e f x.0 y.0 one.within other.within (same_tail 1 1 _ _ (sym x.1 ∙ y.1))

pub older_epoch : (kind number e over : ℕ) (list : List Frame) (area : List ℕ) → over < 2 ^ 64 → IsOpen kind number e list area → (older : IsOlder kind number over area) → older.older ≡ e
older_epoch kind number e over list area in_over one older =
    let x = has_header kind number e list area one in
    same_epoch kind number older.older e older.rest x.0 (omega (arith, older.lower, in_over)) one.within (same_tail 1 1 _ _ (sym older.is ∙ x.1))

pub not_closed : (kind number e : ℕ) (list : List Frame) (area : List ℕ) → IsOpen kind number e list area → IsClosed area → ⊥
not_closed kind number e list area one closed =
    let x = has_header kind number e list area one in
    closed.shut (same_head closed.gate 1 closed.rest (header kind number e ++ x.0) (sym closed.is ∙ x.1))

pub opened_behind : (kind number epoch : ℕ) (list : List Frame) (rest : List ℕ) → drop 20 (front kind number epoch list ++ rest) ≡ opened list ++ rest
unfolding front header
opened_behind kind number epoch list rest =
    ap (λ (l : List ℕ). drop 20 (1 ∷ l)) (append_assoc (header kind number epoch) (opened list) rest)
    ∙ drop_at (1 ∷ header kind number epoch) (opened list ++ rest) 20 refl

abbrev read_so : Frame × ℕ → Result (Frame × ℕ) ℕ
read_so x = Ok x

same_ok : (x y : Frame × ℕ) → read_so x ≡ read_so y → x ≡ y
same_ok x y e = cc

-- frames that are not followed by an open gate are all that bytes spell
pub same_opened : ReadsBack → (list others : List Frame) (g h : ℕ) (r s : List ℕ) → AllByRecursion HasSpelling list → AllByRecursion HasSpelling others → g ≢ 1 → h ≢ 1
    → opened list ++ g ∷ r ≡ opened others ++ h ∷ s → list ≡ others
unfolding opened
same_opened reads [] [] g h r s all all_others shut shut_other same = refl
same_opened reads [] (other ∷ others) g h r s all all_others shut shut_other same = absurd (shut (same_head g 1 r _ same))
same_opened reads (frame ∷ list) [] g h r s all all_others shut shut_other same = absurd (shut_other (sym (same_head 1 h _ s same)))
same_opened reads (frame ∷ list) (other ∷ others) g h r s all all_others shut shut_other same =
    let x = opened list ++ g ∷ r in
    let y = opened others ++ h ∷ s in
    let tails : spelling frame ++ x ≡ spelling other ++ y =
    sym (append_assoc (spelling frame) (opened list) (g ∷ r)) ∙ same_tail 1 1 _ _ same ∙ append_assoc (spelling other) (opened others) (h ∷ s) in
    let both = same_ok (frame, length (spelling frame)) (other, length (spelling other)) (sym (reads frame x all.0) ∙ ap frame_at tails ∙ reads other y all_others.0) in
    let size : length (spelling other) ≡ length (spelling frame) = sym (ap (λ (z : Frame × ℕ). z.1) both) in
    let rest : x ≡ y = sym (drop_at (spelling frame) x (length (spelling frame)) refl) ∙ ap (drop (length (spelling frame))) tails ∙ drop_at (spelling other) y (length (spelling frame)) size in
    ap (λ (z : Frame × ℕ). z.0 ∷ list) both ∙ ap (λ (l : List Frame). other ∷ l) (same_opened reads list others g h r s all.1 all_others.1 shut shut_other rest)

pub one_list : ReadsBack → (kind number e f : ℕ) (list others : List Frame) (area : List ℕ) → IsOpen kind number e list area → IsOpen kind number f others area → list ≡ others
one_list reads kind number e f list others area one other =
    let a = one.shut in
    let b = other.shut in
    same_opened reads list others a.gate b.gate a.rest b.rest one.are.spelled other.are.spelled a.shut b.shut
    (sym (opened_behind kind number e list (a.gate ∷ a.rest)) ∙ ap (drop 20) (sym a.is ∙ b.is) ∙ opened_behind kind number f others (b.gate ∷ b.rest))
