-- Reading an area frame by frame: what was read so far, and what is read behind it.
use Rattle.std.proofs.Common.{◌≡◌, ℕ, suc, ◌+◌, ◌-◌, ◌<◌, ◌≤◌, true, false, cond, Result, Ok, Err, List, [], ◌∷◌, ◌++◌, length, drop, get_or, refl, sym, ap, subst, ◌∙◌, arith, append_assoc, length-append}
use Rattle.std.specs.Prelude.{◌==◌}
use Rattle.std.proofs.lemmas.List.{append-nil, length-drop, drop-drop, drop_all, drop_more}
use Rattle.tab_codec.specs.declared.frames.Frame.{Frame}
use Rattle.tab_codec.specs.Spelling.{spelling}
use Rattle.tab_codec.specs.Reading.{frame_at}
use Rattle.tab_journal.specs.Fitting.{told_first, takes, is_whole_store}
use Rattle.tab_journal.specs.declared.fitting.Told.{Told}
use Rattle.tab_journal.specs.Areas.{opened, first_gate}
use Rattle.tab_journal.specs.Reading.{frames_from, frames_of, behind_gate, followed_by}
use Rattle.tab_journal.specs.NextFrames.{IsNext, ReadsNext}
use Rattle.tab_journal.specs.Stores.{gates_from, ReadsFrames}
use Rattle.tab_journal.specs.declared.reading.Unread.{Unread}
use Rattle.tab_journal.specs.declared.reading.Unread.TheVariants as unread
use Rattle.tab_journal.proofs.Fronts.{opened_more}
use Rattle.tab_journal.proofs.ReadingLaws.{one_read}

-- frames before those that were read
abbrev pub behind_all : List Frame → Result (List Frame) ℕ → Result (List Frame) ℕ
behind_all list (Err at) = Err at
behind_all list (Ok more) = Ok (list ++ more)

-- the frames of an area up to a gate, and that reading goes on there
pub record IsReadUpTo (kind : ℕ) (area : List ℕ) (told : Told) (list : List Frame) (places : List ℕ) (at : ℕ) : Type 0 where
  pub within : at ≤ 20 + length area
  pub steps : ℕ
  pub enough : length (drop at area) < suc steps
  pub rest : behind_all list (frames_from (suc steps) told at (drop at area)) ≡ frames_of kind area
  pub gates : places ≡ gates_from first_gate list
  pub end : at ≡ first_gate + length (opened list)

no_frames : (r : Result (List Frame) ℕ) → behind_all [] r ≡ r
no_frames (Ok list) = refl
no_frames (Err at) = refl

pub begun_reading : (kind : ℕ) (area : List ℕ) → IsReadUpTo kind area (told_first kind) [] [] 20
unfolding gates_from opened
begun_reading kind area = record {
  within = omega arith;
  steps = length area;
  enough = omega (arith, length-drop 20 area);
  rest = no_frames _;
  gates = refl;
  end = refl;
}

-- ---- one frame more

pub gates_more : (at : ℕ) (list : List Frame) (frame : Frame) → gates_from at (list ++ frame ∷ []) ≡ gates_from at list ++ (at + length (opened list)) ∷ []
unfolding gates_from opened
gates_more at [] frame = let same : at ≡ at + 0 = omega arith in ap (λ (n : ℕ). n ∷ []) same
gates_more at (first ∷ list) frame =
    let one = opened (first ∷ []) in
    let parts : opened (first ∷ list) ≡ one ++ opened list = ap (λ (l : List ℕ). 1 ∷ (l ++ opened list)) (sym (append-nil (spelling first))) in
    let size : at + length one + length (opened list) ≡ at + length (opened (first ∷ list)) = omega (arith, ap length parts, length-append one (opened list)) in
    ap (λ (l : List ℕ). at ∷ l) (gates_more (at + length one) list frame ∙ ap (λ (n : ℕ). gates_from (at + length one) list ++ n ∷ []) size)

abbrev read_so : List Frame → Result (List Frame) ℕ
read_so list = Ok list

behind_more : (list : List Frame) (frame : Frame) (r : Result (List Frame) ℕ) → behind_all list (followed_by frame r) ≡ behind_all (list ++ frame ∷ []) r
behind_more list frame (Ok more) = ap read_so (sym (append_assoc list (frame ∷ []) more))
behind_more list frame (Err at) = refl

-- the bytes from an open gate on
pub gate_open : (area : List ℕ) (at : ℕ) → at < length area → get_or area at 0 ≡ 1 → drop at area ≡ 1 ∷ drop (at + 1) area
gate_open area at less is = drop_more area at 0 less ∙ ap (λ (g : ℕ). g ∷ drop (at + 1) area) is

pub read_more : (kind : ℕ) (area : List ℕ) (told new : Told) (list : List Frame) (places : List ℕ) (at : ℕ) (frame : Frame) (size : ℕ)
    → IsReadUpTo kind area told list places at → at < length area → get_or area at 0 ≡ 1 → IsNext told new (drop (at + 1) area) frame size
    → IsReadUpTo kind area new (list ++ frame ∷ []) (places ++ at ∷ []) (at + (1 + size))
read_more kind area told new list places at frame size so less is next =
    let bytes = drop (at + 1) area in
    let steps = so.steps in
    let here = gate_open area at less is in
    let small : size ≤ length bytes = omega (arith, next.begins.count, ap length next.begins.is, length-append (spelling frame) next.begins.rest) in
    let fuel : steps ≡ suc (steps - 1) = omega (arith, so.enough, length-drop at area, less) in
    let to : at + 1 + size ≡ at + (1 + size) = omega arith in
    let behind : drop size bytes ≡ drop (at + (1 + size)) area = drop-drop size (at + 1) area ∙ ap (λ (n : ℕ). drop n area) to in
    let read : frames_from (suc steps) told at (drop at area) ≡ followed_by frame (frames_from (suc (steps - 1)) new (at + (1 + size)) (drop (at + (1 + size)) area)) =
    ap (frames_from (suc steps) told at) here
    ∙ one_read steps at size told frame bytes next.read next.fits
    ∙ ap (λ (t : Told). followed_by frame (frames_from steps t (at + 1 + size) (drop size bytes))) (sym next.told)
    ∙ ap (λ (l : List ℕ). followed_by frame (frames_from steps new (at + 1 + size) l)) behind
    ∙ ap (λ (n : ℕ). followed_by frame (frames_from n new (at + 1 + size) (drop (at + (1 + size)) area))) fuel
    ∙ ap (λ (n : ℕ). followed_by frame (frames_from (suc (steps - 1)) new n (drop (at + (1 + size)) area))) to in
    let spelled = opened_more list frame in
    record {
      within = omega (arith, small, less, length-drop (at + 1) area);
      steps = steps - 1;
      enough = omega (arith, so.enough, small, less, length-drop at area, length-drop (at + (1 + size)) area);
      rest = sym (behind_more list frame _) ∙ ap (behind_all list) (sym read) ∙ so.rest;
      gates = ap (λ (l : List ℕ). l ++ at ∷ []) so.gates ∙ ap (λ (n : ℕ). gates_from first_gate list ++ n ∷ []) so.end ∙ sym (gates_more first_gate list frame);
      end = omega (arith, so.end, next.begins.count, ap length spelled, length-append (opened list) (1 ∷ spelling frame));
    }

-- ---- the end

-- behind the frames there is none at an open gate
pub read_refused : (kind : ℕ) (area : List ℕ) (told : Told) (list : List Frame) (places : List ℕ) (at place : ℕ) → IsReadUpTo kind area told list places at → at < length area → get_or area at 0 ≡ 1
    → ((rest : Frame → ℕ → Result (List Frame) ℕ) → behind_gate told at (frame_at (drop (at + 1) area)) rest ≡ Err place) → frames_of kind area ≡ Err place
unfolding frames_from
read_refused kind area told list places at place so less is none =
    sym so.rest ∙ ap (λ (l : List ℕ). behind_all list (frames_from (suc so.steps) told at l)) (gate_open area at less is) ∙ ap (behind_all list) (none _)

pub read_missing : (kind : ℕ) (area : List ℕ) (told : Told) (list : List Frame) (places : List ℕ) (at : ℕ) → IsReadUpTo kind area told list places at → length area ≤ at → frames_of kind area ≡ Err at
unfolding frames_from
read_missing kind area told list places at so past =
    sym so.rest ∙ ap (λ (l : List ℕ). behind_all list (frames_from (suc so.steps) told at l)) (drop_all at area past)

abbrev closed_end : Told → ℕ → Result (List Frame) ℕ
closed_end told at = cond (is_whole_store told) (Ok []) (Err at)

read_closed : (kind : ℕ) (area : List ℕ) (told : Told) (list : List Frame) (places : List ℕ) (at : ℕ) → IsReadUpTo kind area told list places at → at < length area → (get_or area at 0 == 1) ≡ false
    → frames_of kind area ≡ behind_all list (closed_end told at)
unfolding frames_from
read_closed kind area told list places at so less shut =
    sym so.rest ∙ ap (λ (l : List ℕ). behind_all list (frames_from (suc so.steps) told at l)) (drop_more area at 0 less) ∙ (rw shut refl)

pub read_whole : (kind : ℕ) (area : List ℕ) (told : Told) (list : List Frame) (places : List ℕ) (at : ℕ) → IsReadUpTo kind area told list places at → at < length area → (get_or area at 0 == 1) ≡ false
    → is_whole_store told ≡ true → frames_of kind area ≡ Ok list
read_whole kind area told list places at so less shut whole =
    read_closed kind area told list places at so less shut ∙ (rw whole (ap read_so (append-nil list)))

pub read_short : (kind : ℕ) (area : List ℕ) (told : Told) (list : List Frame) (places : List ℕ) (at : ℕ) → IsReadUpTo kind area told list places at → at < length area → (get_or area at 0 == 1) ≡ false
    → is_whole_store told ≡ false → frames_of kind area ≡ Err at
read_short kind area told list places at so less shut short = read_closed kind area told list places at so less shut ∙ (rw short refl)

-- ---- one frame

pub next_refused : (told : Told) (at place : ℕ) (bytes : List ℕ) (rest : Frame → ℕ → Result (List Frame) ℕ) → frame_at bytes ≡ Err place → behind_gate told at (frame_at bytes) rest ≡ Err (at + 1 + place)
next_refused told at place bytes rest e = rw e refl

pub next_unfit : (told : Told) (at : ℕ) (bytes : List ℕ) (rest : Frame → ℕ → Result (List Frame) ℕ) (x : Frame × ℕ) → frame_at bytes ≡ Ok x → takes told x.0 ≡ false → behind_gate told at (frame_at bytes) rest ≡ Err at
next_unfit told at bytes rest x e unfit = rw (e, unfit) refl

pub begun_so : (kind : ℕ) (area : List ℕ) (told : Told) (list : List Frame) (places : List ℕ) → told ≡ told_first kind → list ≡ [] → places ≡ [] → IsReadUpTo kind area told list places 20
begun_so kind area told list places is_told none no_place = rw (is_told, none, no_place) (begun_reading kind area)

pub more_so : (kind : ℕ) (area : List ℕ) (told new : Told) (list more : List Frame) (places gates : List ℕ) (at : ℕ) (bytes : List ℕ) (frame : Frame) (size : ℕ) → IsReadUpTo kind area told list places at
    → at < length area → get_or area at 0 ≡ 1 → bytes ≡ drop (at + 1) area → IsNext told new bytes frame size → more ≡ list ++ frame ∷ [] → gates ≡ places ++ at ∷ []
    → IsReadUpTo kind area new more gates (at + (1 + size))
more_so kind area told new list more places gates at bytes frame size so less is rest next pushed pushed_place =
    rw (pushed, pushed_place) (read_more kind area told new list places at frame size so less is (subst (λ (l : List ℕ). IsNext told new l frame size) rest next))

refused_at_place : (kind : ℕ) (area : List ℕ) (told new : Told) (list : List Frame) (places : List ℕ) (at : ℕ) (why : Unread) → IsReadUpTo kind area told list places at → at < length area → get_or area at 0 ≡ 1
    → ReadsNext told new at (drop (at + 1) area) (Err why) → ReadsFrames (Err why) (frames_of kind area)
refused_at_place kind area told new list places at (unread.At place) so less is none = read_refused kind area told list places at place so less is none
refused_at_place kind area told new list places at unread.Memory so less is none = tt

pub refused_so : (kind : ℕ) (area : List ℕ) (told new : Told) (list : List Frame) (places : List ℕ) (at : ℕ) (bytes : List ℕ) (why : Unread) → IsReadUpTo kind area told list places at → at < length area
    → get_or area at 0 ≡ 1 → bytes ≡ drop (at + 1) area → ReadsNext told new at bytes (Err why) → ReadsFrames (Err why) (frames_of kind area)
refused_so kind area told new list places at bytes why so less is rest none =
    refused_at_place kind area told new list places at why so less is (subst (λ (l : List ℕ). ReadsNext told new at l (Err why)) rest none)
