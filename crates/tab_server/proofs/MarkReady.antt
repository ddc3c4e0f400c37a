-- A change that may be done in memory may be so still, where a mark or a tally of a range changes or a range is let go.
use Rattle.std.proofs.Common.{◌≡◌, ℕ, zero, suc, ◌<◌, ◌≤◌, List, [], ◌∷◌, Bool, true, false, not, Option, Some, None, length, map, set, filter, refl, sym, ap, subst, ◌∙◌, arith}
use Rattle.std.specs.Prelude.{◌==◌, ◌&&◌, if◌then◌else◌, ⊤, MatchOption, is_some, AllPairs, IsTrue, slice_get, option_map}
use Rattle.std.proofs.lemmas.Bool.{true≢false}
use Rattle.std.proofs.lemmas.Bool.Decides.{nat_tests}
use Rattle.std.proofs.lemmas.Option.{slice_get-map}
use Rattle.std.proofs.Math.Seq.{map-set_same}
use Rattle.std.proofs.lemmas.List.{set-get_or}
use Rattle.std.proofs.lemmas.List.Elements.{All-filter}
use Rattle.std.proofs.lemmas.List.Kept.{AllPairs-filter}
use Rattle.tab_keys.specs.Spans.{has}
use Rattle.tab_ops.specs.Changes.{applied}
use Rattle.tab_codec.specs.declared.frames.Frame.{Frame}
use Rattle.tab_range.specs.Commands.{command_key}
use Rattle.tab_range.specs.Outcomes.{accepted}
use Rattle.tab_range.specs.Ranges.{RangeView, range_outcome}
use Rattle.tab_server.specs.Contents.{numbers, told_of, told_ranges, is_whole, IsHolding, IsUncounted, IsReadyFor}
use Rattle.tab_server.specs.Replays.{SpelledRange, spelled_range, SpellsEach}
use Rattle.tab_server.specs.Serving.{range_of, at_number, with_mark, with_tally, with_spare, lacks_tally, takes_commands, without_range, is_marked}
use Rattle.tab_server.specs.declared.marks.Mark.{Mark}
use Rattle.tab_server.specs.declared.marks.Mark.TheVariants.{Serving, Sealed, Copy}
use Rattle.tab_server.specs.declared.ranges.Marked.{Marked}
use Rattle.tab_server.specs.declared.steps.RangeChange.{RangeChange}
use Rattle.tab_server.proofs.ActLaws.{whole_mark, found_at}
use Rattle.tab_server.proofs.MarkLaws.{IsPlaced, placed_alone, placed_holding}

-- ---- a change in doubt

-- what a change asks of its range
pub record IsReadyOne {T : Type 0} (is_ready : T → ℕ → Type 0) (step : RangeChange) (marked : Marked T) : Type 0 where
  pub number : marked.range.id ≡ step.range
  pub due : range_outcome marked.range step.told.command step.moment ≡ accepted step.changes.tick (applied marked.range.rows step.changes.list)
  pub inside : IsTrue (has marked.range.span (command_key step.told.command))
  pub room : length step.changes.list ≤ marked.range.spare
  pub ready : (tally : T) × (marked.range.tally ≡ Some tally) × is_ready tally 1

one_of : {T : Type 0} (is_ready : T → ℕ → Type 0) (held : List (Marked T)) (step : RangeChange) (r : IsReadyFor is_ready held step) → IsReadyOne is_ready step r.marked
one_of is_ready held step r = record { number = r.stands.number; due = r.due; inside = r.inside; room = r.room; ready = r.ready }

for_one : {T : Type 0} (is_ready : T → ℕ → Type 0) (held after : List (Marked T)) (step : RangeChange) (place : ℕ) (marked : Marked T) → IsReadyFor is_ready held step → slice_get after place ≡ Some marked → IsReadyOne is_ready step marked
    → IsReadyFor is_ready after step
for_one is_ready held after step place marked r here one = record {
  place = place;
  marked = marked;
  stands = record { here = here; number = one.number };
  due = one.due;
  tick = r.tick;
  inside = one.inside;
  room = one.room;
  ready = one.ready;
}

module _ {T : Type 0} (is_ready : T → ℕ → Type 0) (step : RangeChange) where
  at_ready : (range : ℕ) (change : Marked T → Marked T) (marked : Marked T) (b : Bool) → (marked.range.id == range) ≡ b → (b ≡ true → IsReadyOne is_ready step marked → IsReadyOne is_ready step (change marked))
      → IsReadyOne is_ready step marked → IsReadyOne is_ready step (if marked.range.id == range then change marked else marked)
  at_ready range change marked true e keeps one = rw e (keeps refl one)
  at_ready range change marked false e keeps one = rw e one

  pub ready_kept : (held : List (Marked T)) (range : ℕ) (marked : Marked T) (change : Marked T → Marked T) → IsHolding held → range_of held range ≡ Some marked
      → (IsReadyOne is_ready step marked → IsReadyOne is_ready step (change marked)) → IsReadyFor is_ready held step → IsReadyFor is_ready (at_number range change held) step
  ready_kept held range marked change holding found keeps r =
      let f : Marked T → Marked T = λ m. if m.range.id == range then change m else m in
      let here : slice_get (map f held) r.place ≡ Some (f r.marked) = slice_get-map f held r.place ∙ ap (option_map f) r.stands.here in
      let same : (r.marked.range.id == range) ≡ true → marked ≡ r.marked = λ e.
      let number : r.marked.range.id ≡ range = grind (arith, nat_tests) in
      let both : Some marked ≡ Some r.marked = sym found ∙ found_at held range r.place r.marked holding.apart r.stands.here number in
      cc in
      let keeps_it : (r.marked.range.id == range) ≡ true → IsReadyOne is_ready step r.marked → IsReadyOne is_ready step (change r.marked) =
      λ e. subst (λ (m : Marked T). IsReadyOne is_ready step m → IsReadyOne is_ready step (change m)) (same e) keeps in
      for_one is_ready held (at_number range change held) step r.place (f r.marked) r here
      (at_ready range change r.marked (r.marked.range.id == range) refl keeps_it (one_of is_ready held step r))

  pub mark_ready : (held : List (Marked T)) (range : ℕ) (marked : Marked T) (mark : Mark) → IsHolding held → range_of held range ≡ Some marked → IsReadyFor is_ready held step
      → IsReadyFor is_ready (at_number range (with_mark mark) held) step
  mark_ready held range marked mark holding found =
      ready_kept held range marked (with_mark mark) holding found (λ one. record { number = one.number; due = one.due; inside = one.inside; room = one.room; ready = one.ready })

  -- a range that lacks a tally has no change in doubt
  pub given_ready : (held : List (Marked T)) (range : ℕ) (marked : Marked T) (tally : Option T) → IsHolding held → range_of held range ≡ Some marked → marked.range.tally ≡ None → IsReadyFor is_ready held step
      → IsReadyFor is_ready (at_number range (with_tally tally) held) step
  given_ready held range marked tally holding found none =
      ready_kept held range marked (with_tally tally) holding found (λ one.
      let clash : None ≡ Some one.ready.0 = sym none ∙ one.ready.1 in
      absurd cc)

  -- nor has another range
  pub other_ready : (held : List (Marked T)) (range : ℕ) (marked : Marked T) (change : Marked T → Marked T) → IsHolding held → range_of held range ≡ Some marked → marked.range.id ≡ range → (step.range == range) ≡ false
      → IsReadyFor is_ready held step → IsReadyFor is_ready (at_number range change held) step
  other_ready held range marked change holding found number other =
      ready_kept held range marked change holding found (λ one.
      let same : (step.range == range) ≡ true = subst (λ (n : ℕ). (n == range) ≡ true) (one.number) (subst (λ (n : ℕ). (n == range) ≡ true) (sym number) (grind (arith, nat_tests))) in
      absurd (true≢false (sym same ∙ other)))

get_set : {X : Type 0} (xs : List X) (i : ℕ) (x y : X) → slice_get xs i ≡ Some x → slice_get (set xs i y) i ≡ Some y
get_set [] i x y here = absurd cc
get_set (z ∷ xs) zero x y here = refl
get_set (z ∷ xs) (suc i) x y here = get_set xs i x y here

-- ---- at the place where a number was found

pub placed_told : {T : Type 0} (items held : List (Marked T)) (range place : ℕ) (marked after : Marked T) → IsPlaced items held range place marked → told_of after ≡ told_of marked → told_ranges (set items place after) ≡ told_ranges held
placed_told items held range place marked after at same = map-set_same told_of items place after marked (same ∙ ap told_of at.is) ∙ ap told_ranges at.same

free_mark : {T : Type 0} (mark : Mark) (tally : Option T) → IsTrue (takes_commands mark) → IsUncounted mark tally
free_mark Serving tally h = tt
free_mark Sealed tally h = tt
free_mark (Copy whole) tally h = absurd (true≢false (sym h))

told_mark : {T : Type 0} (marked : Marked T) (mark : Mark) → is_whole mark ≡ is_whole marked.mark → told_of (with_mark mark marked) ≡ told_of marked
told_mark marked mark e = rw e refl

module _ {T : Type 0} (items held : List (Marked T)) (range place : ℕ) (marked : Marked T) (at : IsPlaced items held range place marked) where
  whole_at : IsTrue (is_marked is_whole (range_of held range)) → is_whole marked.mark ≡ true
  whole_at whole = subst (λ (o : Option (Marked T)). is_marked is_whole o ≡ true) at.found whole

  pub remarked_told : (mark : Mark) → IsTrue (takes_commands mark) → IsTrue (is_marked is_whole (range_of held range)) → told_ranges (set items place (with_mark mark marked)) ≡ told_ranges held
  remarked_told mark takes whole = placed_told items held range place marked (with_mark mark marked) at (told_mark marked mark (whole_mark mark takes ∙ sym (whole_at whole)))

  pub remarked_holding : (mark : Mark) → IsTrue (takes_commands mark) → IsHolding (set items place (with_mark mark marked))
  remarked_holding mark takes = placed_holding items held range place marked (with_mark mark marked) at refl (free_mark mark marked.range.tally takes)

  holding_held : IsHolding held
  holding_held = subst IsHolding at.same at.holding

  pub remarked_ready : (is_ready : T → ℕ → Type 0) (mark : Mark) (step : RangeChange) → IsReadyFor is_ready held step → IsReadyFor is_ready (set items place (with_mark mark marked)) step
  remarked_ready is_ready mark step r =
      subst (λ (xs : List (Marked T)). IsReadyFor is_ready xs step) (sym (placed_alone items held range place marked (with_mark mark marked) (with_mark mark) at refl))
      (mark_ready is_ready step held range marked mark holding_held at.found r)

-- with another tally
module _ {T : Type 0} (items held : List (Marked T)) (range place : ℕ) (marked : Marked T) (at : IsPlaced items held range place marked) (tally : Option T) (after : RangeView T) (made : after ≡ record marked.range { tally = tally }) where
  tallied : record marked { range = after } ≡ with_tally tally marked
  tallied = ap (λ (r : RangeView T). record marked { range = r }) made

  pub tallied_is : set items place (record marked { range = after }) ≡ at_number range (with_tally tally) held
  tallied_is = placed_alone items held range place marked (record marked { range = after }) (with_tally tally) at tallied

  pub tallied_told : told_ranges (set items place (record marked { range = after })) ≡ told_ranges held
  tallied_told = placed_told items held range place marked (record marked { range = after }) at (ap told_of tallied)

  pub tallied_holding : IsUncounted marked.mark tally → IsHolding (set items place (record marked { range = after }))
  tallied_holding uncounted =
      placed_holding items held range place marked (record marked { range = after }) at (ap (λ (r : RangeView T). r.id) made) (subst (λ (r : RangeView T). IsUncounted marked.mark r.tally) (sym made) uncounted)

  pub given_still : (is_ready : T → ℕ → Type 0) (step : RangeChange) → marked.range.tally ≡ None → IsReadyFor is_ready held step → IsReadyFor is_ready (set items place (record marked { range = after })) step
  given_still is_ready step none r =
      subst (λ (xs : List (Marked T)). IsReadyFor is_ready xs step) (sym tallied_is) (given_ready is_ready step held range marked tally (subst IsHolding at.same at.holding) at.found none r)

  pub taken_still : (is_ready : T → ℕ → Type 0) (step : RangeChange) → (step.range == range) ≡ false → IsReadyFor is_ready held step → IsReadyFor is_ready (set items place (record marked { range = after })) step
  taken_still is_ready step other r =
      subst (λ (xs : List (Marked T)). IsReadyFor is_ready xs step) (sym tallied_is)
      (other_ready is_ready step held range marked (with_tally tally) (subst IsHolding at.same at.holding) at.found at.number other r)

-- with other room
module _ {T : Type 0} (items held : List (Marked T)) (range place : ℕ) (marked : Marked T) (at : IsPlaced items held range place marked) (after : RangeView T) (made : after ≡ record marked.range { spare = after.spare }) where
  pub roomed_is : set items place (record marked { range = after }) ≡ at_number range (with_spare after.spare) held
  roomed_is = placed_alone items held range place marked (record marked { range = after }) (with_spare after.spare) at (ap (λ (r : RangeView T). record marked { range = r }) made)

  pub roomed_holding : IsHolding (set items place (record marked { range = after }))
  roomed_holding =
      placed_holding items held range place marked (record marked { range = after }) at (ap (λ (r : RangeView T). r.id) made) (subst (λ (r : RangeView T). IsUncounted marked.mark r.tally) (sym made) at.uncounted)

  pub roomed_found : range_of (set items place (record marked { range = after })) range ≡ Some (record marked { range = after })
  roomed_found =
      found_at (set items place (record marked { range = after })) range place (record marked { range = after }) (roomed_holding.apart)
      (get_set items place marked (record marked { range = after }) at.stands.here) (ap (λ (r : RangeView T). r.id) made ∙ at.number)

-- what lacks a tally takes commands, and has none
module _ {T : Type 0} (marked : Marked T) (lacks : IsTrue (takes_commands marked.mark && not (is_some marked.range.tally))) where
  lacking : (b c : Bool) → (b && not c) ≡ true → (b ≡ true) × (c ≡ false)
  lacking true false e = (refl, refl)
  lacking true true e = absurd (true≢false (sym e))
  lacking false c e = absurd (true≢false (sym e))

  no_tally : (o : Option T) → is_some o ≡ false → o ≡ None
  no_tally None e = refl
  no_tally (Some t) e = absurd (true≢false e)

  pub lacks_none : marked.range.tally ≡ None
  lacks_none = no_tally marked.range.tally (lacking (takes_commands marked.mark) (is_some marked.range.tally) lacks).1

  pub lacks_free : (tally : Option T) → IsUncounted marked.mark tally
  lacks_free tally = free_mark marked.mark tally (lacking (takes_commands marked.mark) (is_some marked.range.tally) lacks).0

-- a tally that was not there was not taken
pub untaken : {T : Type 0} (items held : List (Marked T)) (range place : ℕ) (marked : Marked T) → IsPlaced items held range place marked → (after : RangeView T) → after ≡ record marked.range { tally = None } → marked.range.tally ≡ None
    → set items place (record marked { range = after }) ≡ held
untaken items held range place marked at after made none =
    let back : record marked.range { tally = None } ≡ marked.range = ap (λ (o : Option _). record marked.range { tally = o }) (sym none) in
    ap (λ (r : RangeView _). set items place (record marked { range = r })) (made ∙ back) ∙ ap (set items place) at.is ∙ set-get_or items place marked ∙ at.same

pub match_more : {T : Type 0} (P Q : T → Type 0) (o : Option T) → ((t : T) → P t → Q t) → MatchOption o ⊤ P → MatchOption o ⊤ Q
match_more P Q None more h = tt
match_more P Q (Some t) more h = more t h

pub lacks_at : {T : Type 0} (items held : List (Marked T)) (range place : ℕ) (marked : Marked T) → IsPlaced items held range place marked → IsTrue (lacks_tally (range_of held range)) → marked.range.tally ≡ None
lacks_at items held range place marked at lacks = lacks_none marked (subst (λ (o : Option (Marked _)). lacks_tally o ≡ true) at.found lacks)

pub free_at : {T : Type 0} (items held : List (Marked T)) (range place : ℕ) (marked : Marked T) → IsPlaced items held range place marked → IsTrue (lacks_tally (range_of held range)) → (tally : Option T) → IsUncounted marked.mark tally
free_at items held range place marked at lacks = lacks_free marked (subst (λ (o : Option (Marked _)). lacks_tally o ≡ true) at.found lacks)

pub no_tally_free : (T : Type 0) (mark : Mark) → IsUncounted {T = T} mark None
no_tally_free T Serving = tt
no_tally_free T Sealed = tt
no_tally_free T (Copy whole) = refl

-- ---- a range is let go

kept_behind : {X : Type 0} (p : X → Bool) (y : X) (xs : List X) (x : X) (b : Bool) → p y ≡ b → ((j : ℕ) × (slice_get (filter p xs) j ≡ Some x)) → (j : ℕ) × (slice_get (filter p (y ∷ xs)) j ≡ Some x)
kept_behind p y xs x true e at = (suc at.0, rw e at.1)
kept_behind p y xs x false e at = (at.0, rw e at.1)

kept_at : {X : Type 0} (p : X → Bool) (xs : List X) (i : ℕ) (x : X) → slice_get xs i ≡ Some x → p x ≡ true → (j : ℕ) × (slice_get (filter p xs) j ≡ Some x)
kept_at p [] i x here e = absurd cc
kept_at p (y ∷ xs) zero x here e =
    let same : y ≡ x = cc in
    let passes : p y ≡ true = ap p same ∙ e in
    (0, rw passes (ap Some same))
kept_at p (y ∷ xs) (suc i) x here e = kept_behind p y xs x (p y) refl (kept_at p xs i x here e)

module _ {T : Type 0} (is_ready : T → ℕ → Type 0) (step : RangeChange) where
  pub retired_ready : (held : List (Marked T)) (range : ℕ) → (step.range == range) ≡ false → IsReadyFor is_ready held step → IsReadyFor is_ready (without_range range held) step
  retired_ready held range other r =
      let passes : (not (r.marked.range.id == range)) ≡ true = ap not (ap (λ (n : ℕ). n == range) r.stands.number ∙ other) in
      let at = kept_at (λ (m : Marked T). not (m.range.id == range)) held r.place r.marked r.stands.here passes in
      for_one is_ready held (without_range range held) step at.0 r.marked r at.1 (one_of is_ready held step r)

-- frames that spell each range spell each of those that are left
module _ {T : Type 0} (frames : List Frame) (range : ℕ) (change : SpelledRange → SpelledRange) where
  left_one : (first : Marked T) (held : List (Marked T)) (b : Bool) → (first.range.id == range) ≡ b → spelled_range frames (change (told_of first)).range ≡ Some (change (told_of first))
      → SpellsEach frames (map change (told_ranges (without_range range held))) → SpellsEach frames (map change (told_ranges (without_range range (first ∷ held))))
  left_one first held true e one rest = rw e rest
  left_one first held false e one rest = rw e (one, rest)

  pub left_spelled : (held : List (Marked T)) → SpellsEach frames (map change (told_ranges held)) → SpellsEach frames (map change (told_ranges (without_range range held)))
  left_spelled [] h = tt
  left_spelled (first ∷ held) h = left_one first held (first.range.id == range) refl h.0 (left_spelled held h.1)

-- the numbers that are left are those but one
one_left : {T : Type 0} (range : ℕ) (first : Marked T) (held : List (Marked T)) (b : Bool) → (first.range.id == range) ≡ b → numbers (without_range range held) ≡ filter (λ n. not (n == range)) (numbers held)
    → numbers (without_range range (first ∷ held)) ≡ filter (λ n. not (n == range)) (numbers (first ∷ held))
one_left range first held true e rest = rw e rest
one_left range first held false e rest = rw e (ap (λ (ns : List ℕ). first.range.id ∷ ns) rest)

all_left : {T : Type 0} (range : ℕ) (held : List (Marked T)) → numbers (without_range range held) ≡ filter (λ n. not (n == range)) (numbers held)
all_left range [] = refl
all_left range (first ∷ held) = one_left range first held (first.range.id == range) refl (all_left range held)

numbers_left : {T : Type 0} (held : List (Marked T)) (range : ℕ) → AllPairs (λ a b. a < b) (numbers held) → AllPairs (λ a b. a < b) (numbers (without_range range held))
numbers_left held range apart = subst (AllPairs (λ a b. a < b)) (sym (all_left range held)) (AllPairs-filter (λ a b. a < b) (λ n. not (n == range)) (numbers held) apart)

pub left_holding : {T : Type 0} (held : List (Marked T)) (range : ℕ) → IsHolding held → IsHolding (without_range range held)
left_holding held range holding = record {
  apart = numbers_left held range holding.apart;
  uncounted = All-filter (λ m. not (m.range.id == range)) (λ m. IsUncounted m.mark m.range.tally) held holding.uncounted;
}
