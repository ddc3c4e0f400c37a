-- What is read of an area is what it spells, and all that it spells is read.
use Rattle.std.proofs.Common.{◌≡◌, ℕ, zero, suc, ◌+◌, ◌<◌, Bool, true, false, cond, inl, inr, Result, Ok, Err, List, [], ◌∷◌, ◌++◌, length, drop, refl, sym, ap, subst, ◌∙◌, arith, append_assoc, length-append}
use Rattle.std.specs.Prelude.{◌≢◌, ◌==◌}
use Rattle.std.specs.List.{AllByRecursion}
use Rattle.std.proofs.lemmas.Bool.Decides.{nat_tests}
use Rattle.std.proofs.lemmas.List.{drop_at}
use Rattle.tab_codec.specs.declared.frames.Frame.{Frame}
use Rattle.tab_codec.specs.Spelling.{spelling}
use Rattle.tab_codec.specs.Frames.{AreBytes, HasSpelling}
use Rattle.tab_codec.specs.Reading.{frame_at}
use Rattle.tab_codec.proofs.FrontLaws.{chosen}
use Rattle.tab_codec.proofs.FieldLaws.{drop_bytes, rest_bytes}
use Rattle.tab_codec.proofs.FrameLaws.{frame_takes}
use Rattle.tab_journal.specs.Fitting.{takes, after, after_all, takes_all, is_whole_store}
use Rattle.tab_journal.specs.declared.fitting.Told.{Told}
use Rattle.tab_journal.specs.Areas.{opened, ShutAt}
use Rattle.tab_journal.specs.Reading.{frames_from, behind_gate, followed_by}
use Rattle.tab_journal.proofs.Fronts.{ReadsBack, and_true, both_true}

abbrev read_list : List Frame → Result (List Frame) ℕ
read_list list = Ok list

abbrev refused_at : ℕ → Result (List Frame) ℕ
refused_at at = Err at

same_list : (x y : List Frame) → read_list x ≡ read_list y → x ≡ y
same_list x y e = cc

not_refused : (at : ℕ) (list : List Frame) → refused_at at ≡ read_list list → ⊥
not_refused at list e = absurd cc

not_true : (b : Bool) → (b ≡ true → ⊥) → b ≡ false
not_true false never = refl
not_true true never = absurd (never refl)

pub open_gate : (g : ℕ) → (g == 1) ≡ true → g ≡ 1
open_gate g is = grind (arith, nat_tests)

pub not_open : (gate : ℕ) → gate ≢ 1 → (gate == 1) ≡ false
not_open gate shut = not_true (gate == 1) (λ e. shut (open_gate gate e))

-- ---- all that is spelled is read

pub one_read : (steps at n : ℕ) (told : Told) (frame : Frame) (bytes : List ℕ) → frame_at bytes ≡ Ok (frame, n) → takes told frame ≡ true
    → frames_from (suc steps) told at (1 ∷ bytes) ≡ followed_by frame (frames_from steps (after told frame) (at + 1 + n) (drop n bytes))
unfolding frames_from
one_read steps at n told frame bytes read fits = rw (read, fits) refl

pub opened_read : ReadsBack → (steps : ℕ) (told : Told) (at : ℕ) (list : List Frame) (gate : ℕ) (rest : List ℕ) → length (opened list ++ gate ∷ rest) < steps → gate ≢ 1
    → AllByRecursion HasSpelling list → takes_all told list ≡ true → is_whole_store (after_all told list) ≡ true
    → frames_from steps told at (opened list ++ gate ∷ rest) ≡ Ok list
unfolding frames_from opened takes_all after_all
opened_read reads zero told at list gate rest enough shut spelled fit whole = absurd (let none : ⊥ = omega (arith, enough) in none)
opened_read reads (suc steps) told at [] gate rest enough shut spelled fit whole = rw (not_open gate shut, whole) refl
opened_read reads (suc steps) told at (frame ∷ list) gate rest enough shut spelled fit whole =
    let tail = opened list ++ gate ∷ rest in
    let n = length (spelling frame) in
    let bytes = (spelling frame ++ opened list) ++ gate ∷ rest in
    let parts : bytes ≡ spelling frame ++ tail = append_assoc (spelling frame) (opened list) (gate ∷ rest) in
    let read : frame_at bytes ≡ Ok (frame, n) = ap frame_at parts ∙ reads frame tail spelled.0 in
    let behind : drop n bytes ≡ tail = ap (drop n) parts ∙ drop_at (spelling frame) tail n refl in
    let fits = and_true (takes told frame) (takes_all (after told frame) list) fit in
    let less : length tail < steps = omega (arith, enough, ap length parts, length-append (spelling frame) tail) in
    one_read steps at n told frame bytes read fits.0
    ∙ ap (λ (l : List ℕ). followed_by frame (frames_from steps (after told frame) (at + 1 + n) l)) behind
    ∙ ap (followed_by frame) (opened_read reads steps (after told frame) (at + 1 + n) list gate rest less shut spelled.1 fits.1 whole)

-- ---- what is read is spelled

-- the frames that were read: each has a spelling and fits, and behind them is a gate that is not open
pub record WereRead (told : Told) (bytes : List ℕ) (list : List Frame) : Type 0 where
  pub spelled : AllByRecursion HasSpelling list
  pub fit : takes_all told list ≡ true
  pub whole : is_whole_store (after_all told list) ≡ true
  pub shut : ShutAt (opened list) bytes

pub closed_gate : (g : ℕ) → (g == 1) ≡ false → g ≢ 1
closed_gate g shut is = let none : ⊥ = grind (arith, nat_tests) in none

none_read : (told : Told) (gate at : ℕ) (bytes : List ℕ) (list : List Frame) → (gate == 1) ≡ false → cond (is_whole_store told) (read_list []) (refused_at at) ≡ read_list list → WereRead told (gate ∷ bytes) list
unfolding opened takes_all after_all
none_read told gate at bytes list shut e =
    elim (chosen (is_whole_store told) (read_list []) (refused_at at) (read_list list) e) [
      | inl h ↦ subst (λ (l : List Frame). WereRead told (gate ∷ bytes) l) (same_list [] list h.1) (record {
        spelled = tt;
        fit = refl;
        whole = h.0;
        shut = record { gate = gate; rest = bytes; shut = closed_gate gate shut; is = refl };
      })
      | inr h ↦ absurd (not_refused at list h.1)
    ]

abbrev ReadsSo : ℕ → Type 0
ReadsSo steps = (told : Told) (at : ℕ) (bytes : List ℕ) (list : List Frame) → AreBytes bytes → frames_from steps told at bytes ≡ Ok list → WereRead told bytes list

more_read : (steps : ℕ) (so : ReadsSo steps) (told : Told) (at gate : ℕ) (bytes : List ℕ) (list : List Frame) (x : Frame × ℕ) → AreBytes bytes → gate ≡ 1 → frame_at bytes ≡ Ok x → takes told x.0 ≡ true
    → (rest : Result (List Frame) ℕ) → frames_from steps (after told x.0) (at + 1 + x.1) (drop x.1 bytes) ≡ rest → followed_by x.0 rest ≡ read_list list → WereRead told (gate ∷ bytes) list
unfolding opened takes_all after_all
more_read steps so told at gate bytes list x fits is_open read fit (Err place) is e = absurd (not_refused place list e)
more_read steps so told at gate bytes list x fits is_open read fit (Ok rest) is e =
    let b = frame_takes bytes x fits read in
    let s = spelling x.0 in
    let behind : drop x.1 bytes ≡ b.rest = ap (drop x.1) b.is ∙ drop_at s b.rest x.1 (sym b.count) in
    let r = so (after told x.0) (at + 1 + x.1) (drop x.1 bytes) rest (drop_bytes x.1 bytes fits) is in
    let tail : b.rest ≡ opened rest ++ r.shut.gate ∷ r.shut.rest = sym behind ∙ r.shut.is in
    subst (λ (l : List Frame). WereRead told (gate ∷ bytes) l) (same_list (x.0 ∷ rest) list e) (record {
      spelled = (b.has, r.spelled);
      fit = both_true _ _ fit r.fit;
      whole = r.whole;
      shut = record {
        gate = r.shut.gate;
        rest = r.shut.rest;
        shut = r.shut.shut;
        is = ap (λ (g : ℕ). g ∷ bytes) is_open ∙ ap (λ (l : List ℕ). 1 ∷ l) (b.is ∙ ap (λ (l : List ℕ). s ++ l) tail ∙ sym (append_assoc s (opened rest) (r.shut.gate ∷ r.shut.rest)));
      };
    })

frame_read : (steps : ℕ) (so : ReadsSo steps) (told : Told) (at gate : ℕ) (bytes : List ℕ) (list : List Frame) → AreBytes bytes → gate ≡ 1 → (read : Result (Frame × ℕ) ℕ) → frame_at bytes ≡ read
    → behind_gate told at read (λ frame count. frames_from steps (after told frame) (at + 1 + count) (drop count bytes)) ≡ read_list list → WereRead told (gate ∷ bytes) list
frame_read steps so told at gate bytes list fits is_open (Err place) is e = absurd (not_refused (at + 1 + place) list e)
frame_read steps so told at gate bytes list fits is_open (Ok x) is e =
    elim (chosen (takes told x.0) (followed_by x.0 (frames_from steps (after told x.0) (at + 1 + x.1) (drop x.1 bytes))) (refused_at at) (read_list list) e) [
      | inl h ↦ more_read steps so told at gate bytes list x fits is_open is h.0 _ refl h.1
      | inr h ↦ absurd (not_refused at list h.1)
    ]

pub read_opened : (steps : ℕ) (told : Told) (at : ℕ) (bytes : List ℕ) (list : List Frame) → AreBytes bytes → frames_from steps told at bytes ≡ Ok list → WereRead told bytes list
unfolding frames_from
read_opened zero told at bytes list fits e = absurd (not_refused at list e)
read_opened (suc steps) told at [] list fits e = absurd (not_refused at list e)
read_opened (suc steps) told at (gate ∷ bytes) list fits e =
    elim (chosen (gate == 1) (behind_gate told at (frame_at bytes) (λ frame count. frames_from steps (after told frame) (at + 1 + count) (drop count bytes))) (cond (is_whole_store told) (read_list []) (refused_at at)) (read_list list) e) [
      | inl h ↦ frame_read steps (read_opened steps) told at gate bytes list (rest_bytes gate bytes fits) (open_gate gate h.0) (frame_at bytes) refl h.1
      | inr h ↦ none_read told gate at bytes list h.0 h.1
    ]
