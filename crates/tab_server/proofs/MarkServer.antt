-- A server of which a mark or a tally changes, or which lets go of a range, stands still on its disks.
use Rattle.std.proofs.Common.{◌≡◌, ◌≢◌, ℕ, List, [], ◌∷◌, Bool, true, false, not, Option, Some, None, filter, refl, sym, ap, subst, ◌∙◌, arith}
use Rattle.std.specs.Prelude.{◌==◌, ◌&&◌, IsTrue, IfSome, Contains}
use Rattle.std.proofs.lemmas.Bool.{true≢false}
use Rattle.std.proofs.lemmas.Bool.Decides.{nat_tests}
use Rattle.tab_page.proofs.RisingLists.{Contains-filter}
use Rattle.tab_seats.specs.declared.views.Stroke.{Stroke}
use Rattle.tab_codec.specs.declared.frames.Frame.{Frame}
use Rattle.tab_range.specs.declared.commands.Told.{Told}
use Rattle.tab_journal.specs.Keeping.{IsReady, StandsStill, IfDoubt, StandsFor}
use Rattle.tab_server.specs.Replays.{SpelledRange, SpellsEach}
use Rattle.tab_server.specs.Contents.{told_of, told_with, told_ranges, with_change, is_whole, TakesChange, ChangeFits, IsReadyFor, ranges_sense}
use Rattle.tab_server.specs.Serving.{ServerView, IsServer, range_of, is_marked, is_serving, is_sealed, is_copied, is_in_doubt, doubt_without, without_range, tally_out}
use Rattle.tab_server.specs.declared.marks.Mark.{Mark}
use Rattle.tab_server.specs.declared.marks.Mark.TheVariants.{Serving, Sealed, Copy}
use Rattle.tab_server.specs.declared.ranges.Marked.{Marked}
use Rattle.tab_server.specs.declared.steps.RangeChange.{RangeChange}
use Rattle.tab_server.proofs.ChangeLaws.{goes_on}
use Rattle.tab_server.proofs.Holding.{told_same}
use Rattle.tab_server.proofs.ActLaws.{has_number}
use Rattle.tab_server.proofs.MarkReady.{left_spelled, retired_ready}

-- ---- marks

whole_where : (is : Mark → Bool) → ((mark : Mark) → is mark ≡ true → is_whole mark ≡ true) → {T : Type 0} (o : Option (Marked T)) → is_marked is o ≡ true → IsTrue (is_marked is_whole o)
whole_where is all None h = absurd (true≢false (sym h))
whole_where is all (Some marked) h = all marked.mark h

serving_whole : (mark : Mark) → is_serving mark ≡ true → is_whole mark ≡ true
serving_whole Serving h = refl
serving_whole Sealed h = refl
serving_whole (Copy whole) h = absurd (true≢false (sym h))

sealed_whole : (mark : Mark) → is_sealed mark ≡ true → is_whole mark ≡ true
sealed_whole Serving h = refl
sealed_whole Sealed h = refl
sealed_whole (Copy whole) h = absurd (true≢false (sym h))

copied_whole : (mark : Mark) → is_copied mark ≡ true → is_whole mark ≡ true
copied_whole Serving h = refl
copied_whole Sealed h = refl
copied_whole (Copy whole) h = h

pub where_serving : {T : Type 0} (o : Option (Marked T)) → is_marked is_serving o ≡ true → IsTrue (is_marked is_whole o)
where_serving = whole_where is_serving serving_whole

pub where_sealed : {T : Type 0} (o : Option (Marked T)) → is_marked is_sealed o ≡ true → IsTrue (is_marked is_whole o)
where_sealed = whole_where is_sealed sealed_whole

pub where_copied : {T : Type 0} (o : Option (Marked T)) → is_marked is_copied o ≡ true → IsTrue (is_marked is_whole o)
where_copied = whole_where is_copied copied_whole

-- no range is held where none is found
pub where_held : {T : Type 0} (is : Mark → Bool) (o : Option (Marked T)) → is_marked is o ≡ true → o ≢ None
where_held is None h e = true≢false (sym h)
where_held is (Some marked) h e = absurd cc

-- ---- what frames tell is as before

module _ {T : Type 0} (drawn : T → Stroke Told → T → Type 0) (ready : T → ℕ → Type 0) (kin : T → T → Type 0) where
  pub ready_still : (old new : List (Marked T)) (doubt : Option RangeChange) → told_ranges new ≡ told_ranges old
      → ((step : RangeChange) → doubt ≡ Some step → IsReadyFor ready old step → IsReadyFor ready new step) → IsReady (ranges_sense drawn ready kin) old doubt → IsReady (ranges_sense drawn ready kin) new doubt
  ready_still old new None e keeps r = tt
  ready_still old new (Some step) e keeps r = (subst (λ (told : List SpelledRange). ChangeFits told step) (sym e) r.0, keeps step refl r.1)

  pub server_still : {D : Type 0} (old : ServerView D T) (held : List (Marked T)) → told_ranges held ≡ told_ranges old.held
      → ((step : RangeChange) → old.doubt ≡ Some step → IsReadyFor ready old.held step → IsReadyFor ready held step) → IsServer drawn ready kin old → IsServer drawn ready kin (record old { held = held })
  server_still old held e keeps is = record {
    clear = is.clear;
    ready = ready_still old.held held old.doubt e keeps is.ready;
  }

  -- a change in doubt is one of another range
  pub other_doubt : (doubt : Option RangeChange) (range : ℕ) (step : RangeChange) → is_in_doubt doubt range ≡ false → doubt ≡ Some step → (step.range == range) ≡ false
  other_doubt doubt range step none is = subst (λ (o : Option RangeChange). is_in_doubt o range ≡ false) is none

-- ---- a range is let go

told_left_one : {T : Type 0} (range : ℕ) (first : Marked T) (held : List (Marked T)) (b : Bool) → (first.range.id == range) ≡ b
    → told_ranges (without_range range held) ≡ filter (λ one. not (one.range == range)) (told_ranges held) → told_ranges (without_range range (first ∷ held)) ≡ filter (λ one. not (one.range == range)) (told_ranges (first ∷ held))
told_left_one range first held true e rest = rw e rest
told_left_one range first held false e rest = rw e (ap (λ (ones : List SpelledRange). told_of first ∷ ones) rest)

told_left : {T : Type 0} (range : ℕ) (held : List (Marked T)) → told_ranges (without_range range held) ≡ filter (λ one. not (one.range == range)) (told_ranges held)
told_left range [] = refl
told_left range (first ∷ held) = told_left_one range first held (first.range.id == range) refl (told_left range held)

left_takes : {T : Type 0} (range : ℕ) (held : List (Marked T)) (step : RangeChange) → (step.range == range) ≡ false → TakesChange (told_ranges held) step → TakesChange (told_ranges (without_range range held)) step
left_takes range held step other t = record {
  one = t.one;
  held = subst (λ (ones : List SpelledRange). Contains ones t.one) (sym (told_left range held))
      (Contains-filter (λ (one : SpelledRange). not (one.range == range)) (told_ranges held) t.one t.held (ap not (ap (λ (n : ℕ). n == range) t.number ∙ other)));
  number = t.number;
  whole = t.whole;
  inside = t.inside;
  apart = t.apart;
  few = t.few;
  in_time = t.in_time;
}

left_fits : {T : Type 0} (range : ℕ) (held : List (Marked T)) (step : RangeChange) → (step.range == range) ≡ false → ChangeFits (told_ranges held) step → ChangeFits (told_ranges (without_range range held)) step
left_fits range held step other fits =
    let takes : TakesChange (told_ranges (without_range range held)) step = left_takes range held step other fits.takes in
    record { takes = takes; goes_on = λ frames spells. goes_on frames (told_ranges (without_range range held)) step takes spells }

-- a change of a range that is let go changes none that is left
left_same : {T : Type 0} (step : RangeChange) (first : Marked T) → (first.range.id == step.range) ≡ false → told_with (Some step) (told_of first) ≡ told_of first
left_same step first other =
    let apart : (step.range == first.range.id) ≡ false = grind (arith, nat_tests) in
    rw apart refl

left_change_one : {T : Type 0} (step : RangeChange) (first : Marked T) (held : List (Marked T)) (b : Bool) → (first.range.id == step.range) ≡ b
    → with_change (told_ranges (without_range step.range held)) step ≡ told_ranges (without_range step.range held)
    → with_change (told_ranges (without_range step.range (first ∷ held))) step ≡ told_ranges (without_range step.range (first ∷ held))
left_change_one step first held true e rest = rw e rest
left_change_one step first held false e rest =
    rw e (ap (λ (one : SpelledRange). one ∷ with_change (told_ranges (without_range step.range held)) step) (left_same step first e) ∙ ap (λ (ones : List SpelledRange). told_of first ∷ ones) rest)

left_change : {T : Type 0} (step : RangeChange) (held : List (Marked T)) → with_change (told_ranges (without_range step.range held)) step ≡ told_ranges (without_range step.range held)
left_change step [] = refl
left_change step (first ∷ held) = left_change_one step first held (first.range.id == step.range) refl (left_change step held)

module _ {T : Type 0} (drawn : T → Stroke Told → T → Type 0) (ready : T → ℕ → Type 0) (kin : T → T → Type 0) where
  left_doubt : (range : ℕ) (held : List (Marked T)) (doubt : Option RangeChange) (frames : List Frame) → IfDoubt (ranges_sense drawn ready kin) held doubt frames
      → IfDoubt (ranges_sense drawn ready kin) (without_range range held) doubt frames
  left_doubt range held None frames h = absurd h
  left_doubt range held (Some step) frames h = left_spelled frames range (told_with (Some step)) held h

  pub stands_left : (range : ℕ) (held : List (Marked T)) (doubt : Option RangeChange) → StandsStill (ranges_sense drawn ready kin) held doubt (without_range range held)
  stands_left range held doubt = record {
    still = λ frames h. subst (SpellsEach frames) (told_same (told_ranges (without_range range held)))
        (left_spelled frames range (told_with None) held (subst (SpellsEach frames) (sym (told_same (told_ranges held))) h));
    in_doubt = left_doubt range held doubt;
  }

  -- what was in doubt of it is nothing that is held any more
  pub left_forgotten : (range : ℕ) (held : List (Marked T)) (doubt : Option RangeChange) → is_in_doubt doubt range ≡ true → (frames : List Frame) → IfDoubt (ranges_sense drawn ready kin) (without_range range held) doubt frames
      → StandsFor (ranges_sense drawn ready kin) (without_range range held) frames
  left_forgotten range held None e frames h = absurd h
  left_forgotten range held (Some step) e frames h =
      let same : step.range ≡ range = grind (arith, nat_tests) in
      let none : with_change (told_ranges (without_range range held)) step ≡ told_ranges (without_range range held) =
      subst (λ (n : ℕ). with_change (told_ranges (without_range n held)) step ≡ told_ranges (without_range n held)) same (left_change step held) in
      subst (SpellsEach frames) none h

  ready_left : (range : ℕ) (held : List (Marked T)) (doubt : Option RangeChange) → is_in_doubt doubt range ≡ false → IsReady (ranges_sense drawn ready kin) held doubt → IsReady (ranges_sense drawn ready kin) (without_range range held) doubt
  ready_left range held None other r = tt
  ready_left range held (Some step) other r = (left_fits range held step other r.0, retired_ready ready step held range other r.1)

  pub server_left : {D : Type 0} (range : ℕ) (old : ServerView D T) → is_in_doubt old.doubt range ≡ false → IsServer drawn ready kin old → IsServer drawn ready kin (record old { held = without_range range old.held })
  server_left range old other is = record { clear = is.clear; ready = ready_left range old.held old.doubt other is.ready }

  pub server_forgotten : {D : Type 0} (old : ServerView D T) (held : List (Marked T)) → IsServer drawn ready kin (record old { held = held; doubt = None })
  server_forgotten old held = record { clear = λ e. refl; ready = tt }

  pub doubt_kept : (range : ℕ) (doubt : Option RangeChange) → is_in_doubt doubt range ≡ false → doubt_without range doubt ≡ doubt
  doubt_kept range doubt e = rw e refl

  pub doubt_gone : (range : ℕ) (doubt : Option RangeChange) → is_in_doubt doubt range ≡ true → doubt_without range doubt ≡ None
  doubt_gone range doubt e = rw e refl

-- ---- the tally of a range that is sealed

not_free : (b c : Bool) → c ≡ true → (b && not c) ≡ false
not_free true c e = ap not e
not_free false c e = refl

not_sealed : (b c : Bool) → b ≡ false → (b && not c) ≡ false
not_sealed b c e = rw e refl

module _ {T : Type 0} (doubt : Option RangeChange) (range : ℕ) where
  free_of : (marked : Marked T) (b c : Bool) → is_sealed marked.mark ≡ b → is_in_doubt doubt marked.range.id ≡ c → (b && not c) ≡ false → tally_out doubt (Some marked) ≡ None
  free_of marked true true e f h = rw (e, f) refl
  free_of marked true false e f h = absurd (true≢false h)
  free_of marked false c e f h = rw e refl

  out_none : (o : Option (Marked T)) → ((marked : Marked T) → o ≡ Some marked → marked.range.id ≡ range) → (is_marked is_sealed o && not (is_in_doubt doubt range)) ≡ false → tally_out doubt o ≡ None
  out_none None number h = refl
  out_none (Some marked) number h =
      free_of marked (is_sealed marked.mark) (is_in_doubt doubt marked.range.id) refl refl
      (subst (λ (n : ℕ). (is_sealed marked.mark && not (is_in_doubt doubt n)) ≡ false) (sym (number marked refl)) h)

  none_out : (held : List (Marked T)) → (is_marked is_sealed (range_of held range) && not (is_in_doubt doubt range)) ≡ false → None ≡ tally_out doubt (range_of held range)
  none_out held h = sym (out_none (range_of held range) (has_number held range) h)

  pub doubted_out : (held : List (Marked T)) → is_in_doubt doubt range ≡ true → None ≡ tally_out doubt (range_of held range)
  doubted_out held e = none_out held (not_free (is_marked is_sealed (range_of held range)) (is_in_doubt doubt range) e)

  pub open_out : (held : List (Marked T)) → is_marked is_sealed (range_of held range) ≡ false → None ≡ tally_out doubt (range_of held range)
  open_out held e = none_out held (not_sealed (is_marked is_sealed (range_of held range)) (is_in_doubt doubt range) e)

  out_some : (o : Option (Marked T)) (result : Option T) → ((marked : Marked T) → o ≡ Some marked → marked.range.id ≡ range) → is_marked is_sealed o ≡ true → is_in_doubt doubt range ≡ false → IfSome o (λ marked. result ≡ marked.range.tally)
      → result ≡ tally_out doubt o
  out_some None result number sealed free taken = absurd (true≢false (sym sealed))
  out_some (Some marked) result number sealed free taken =
      let other : is_in_doubt doubt marked.range.id ≡ false = ap (is_in_doubt doubt) (number marked refl) ∙ free in
      rw (sealed, other) taken

  pub some_out : (held : List (Marked T)) (result : Option T) → is_marked is_sealed (range_of held range) ≡ true → is_in_doubt doubt range ≡ false → IfSome (range_of held range) (λ marked. result ≡ marked.range.tally)
      → result ≡ tally_out doubt (range_of held range)
  some_out held result sealed free taken = out_some (range_of held range) result (has_number held range) sealed free taken
