-- A store that is made, frame by frame.
use Rattle.std.proofs.Common.{◌≡◌, ℕ, ◌+◌, ◌<◌, ◌≤◌, ◌^◌, true, false, None, List, [], ◌∷◌, ◌++◌, length, take, get_or, refl, sym, ap, subst, ◌∙◌, arith, append_assoc, length-append}
use Rattle.std.specs.List.{AllByRecursion}
use Rattle.tab_outside.specs.Disks.{Watch, ReadsImage}
use Rattle.tab_codec.specs.declared.frames.Frame.{Frame}
use Rattle.tab_codec.specs.Spelling.{spelling}
use Rattle.tab_codec.specs.Frames.{HasSpelling}
use Rattle.tab_journal.specs.Areas.{header, front, opened, IsClosed}
use Rattle.tab_journal.specs.Fitting.{takes_all, told_first, told_by, is_whole_store}
use Rattle.tab_journal.specs.Steps.{EachNow, IsShutOn, IsBuilt}
use Rattle.tab_journal.specs.Stores.{HasFrames}
use Rattle.tab_journal.specs.Making.{IsMade}
use Rattle.tab_journal.proofs.Fronts.{opened_more, all_more}
use Rattle.tab_journal.proofs.Compacting.{begun, no_pieces, front_size, first_size, spare_closed}
use Rattle.tab_journal.proofs.Pieces.{piece_more}

-- a header on a closed area, before any frame
pub headed : {D : Type 0} (w : Watch D) (kind number : ℕ) (old new : D) (head : List ℕ) → ReadsImage w → EachNow w IsClosed old → head ≡ header kind number 1
    → ((built : List ℕ) → IsBuilt w built old → 1 ≡ 1 + length built → IsBuilt w (built ++ head) new) → IsBuilt w (header kind number 1 ++ opened []) new
headed w kind number old new head reads each is wrote =
    subst (λ (l : List ℕ). IsBuilt w l new) (is ∙ no_pieces kind number 1) (wrote [] (begun w old reads each) refl)

pub headed_size : (kind number : ℕ) → 20 ≡ 1 + length (header kind number 1 ++ opened [])
headed_size kind number = sym (first_size kind number 1) ∙ front_size kind number 1 []

-- one frame more
pub opened_next : (head : List ℕ) (list : List Frame) (i : ℕ) (piece d : Frame) → i < length list → piece ≡ get_or list i d
    → (head ++ opened (take i list)) ++ 1 ∷ spelling piece ≡ head ++ opened (take (i + 1) list)
opened_next head list i piece d within is =
    append_assoc head (opened (take i list)) (1 ∷ spelling piece) ∙ ap (λ (l : List ℕ). head ++ l) (sym (opened_more (take i list) piece))
    ∙ ap (λ (fs : List Frame). head ++ opened fs) (sym (piece_more list i piece d within is))

pub next_size : (head : List ℕ) (list : List Frame) (i at end : ℕ) (piece d : Frame) → i < length list → piece ≡ get_or list i d → at ≡ 1 + length (head ++ opened (take i list))
    → end ≡ at + 1 + length (spelling piece) → end ≡ 1 + length (head ++ opened (take (i + 1) list))
next_size head list i at end piece d within is place size =
    omega (arith, place, size, ap length (opened_next head list i piece d within is), length-append (head ++ opened (take i list)) (1 ∷ spelling piece))

pub spelled_next : (list : List Frame) (i : ℕ) (piece d : Frame) → i < length list → piece ≡ get_or list i d → AllByRecursion HasSpelling (take i list) → HasSpelling piece → AllByRecursion HasSpelling (take (i + 1) list)
spelled_next list i piece d within is all has =
    subst (λ (fs : List Frame). AllByRecursion HasSpelling fs) (sym (piece_more list i piece d within is)) (all_more HasSpelling (take i list) piece all has)

-- all frames
pub is_made : {D : Type 0} (w : Watch D) (kind number : ℕ) (list taken : List Frame) (end : ℕ) (disk : D) → taken ≡ list → AllByRecursion HasSpelling taken
    → IsShutOn w (1 ∷ (header kind number 1 ++ opened taken)) disk → end ≡ 1 + length (header kind number 1 ++ opened taken) → end + 1 ≤ 2 ^ 62 → IsMade w kind number list end disk
unfolding front
is_made w kind number list taken end disk is spelled shut size within =
    subst (λ (fs : List Frame). IsMade w kind number fs end disk) is (record {
      spelled = spelled;
      shut = shut;
      size = size ∙ sym (front_size kind number 1 taken);
      within = omega arith;
    })

-- a store over an area that was made, and one that is closed
pub made_has : {D : Type 0} (w : Watch D) (kind number : ℕ) (list : List Frame) (end : ℕ) (a b : D) → IsMade w kind number list end a → EachNow w IsClosed b → takes_all (told_first kind) list ≡ true
    → is_whole_store (told_by kind list) ≡ true
    → HasFrames w (record { kind = kind; number = number; current = a; other = b; second = false; epoch = 1; end = end; other_open = false; building = None; places = []; failed = false }) list
made_has w kind number list end a b made closed fit whole = record {
  running = refl;
  within = omega arith;
  are = record { spelled = made.spelled; fit = fit; whole = whole };
  current = made.shut;
  end = made.size;
  short = omega (arith, made.within);
  other = spare_closed w kind number 1 false b refl closed;
  places = refl;
}
