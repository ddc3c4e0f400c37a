-- What a server holds, beside what frames spell of it.
use Rattle.std.proofs.Common.{◌≡◌, ℕ, ◌+◌, ◌<◌, ◌≤◌, List, [], ◌∷◌, ◌++◌, Bool, true, false, ltb, length, get_or, take, set, map, Some, None, refl, sym, ap, subst, ◌∙◌, arith}
use Rattle.std.specs.Prelude.{◌==◌, ◌≢◌, Option, option_map, All, AllPairs, IsTrue, slice_get}
use Rattle.std.specs.List.{AllByRecursion}
use Rattle.std.proofs.lemmas.Bool.Decides.{nat_tests}
use Rattle.std.proofs.lemmas.List.{take_all, take_more, map-append, map-set, set-get_or, length-map}
use Rattle.std.proofs.lemmas.List.Concat.{flat_map-append, flat_map-cons}
use Rattle.std.proofs.lemmas.List.{append-nil}
use Rattle.std.proofs.lemmas.List.Elements.{All-from_recursion, All-get_or, All-set, All-more}
use Rattle.std.proofs.lemmas.Option.{slice_get-map, slice_get_within, get_or_from_slice_get}
use Rattle.tab_codec.specs.declared.frames.Frame.{Frame}
use Rattle.tab_codec.specs.Frames.{HasSpelling}
use Rattle.tab_server.specs.Replays.{SpelledRange, with_changes, spelled_range, SpellsEach}
use Rattle.tab_server.specs.Rewriting.{range_frames, checkpoint_frames, IsHeld, IsCheckpoint}
use Rattle.tab_keys.specs.Spans.{has}
use Rattle.tab_ops.specs.Changes.{applied}
use Rattle.tab_seats.specs.declared.views.Stroke.{Stroke}
use Rattle.tab_range.specs.declared.commands.Told.{Told}
use Rattle.tab_range.specs.Commands.{command_key}
use Rattle.tab_range.specs.Outcomes.{accepted}
use Rattle.tab_range.specs.Ranges.{RangeView, DrewOne, range_outcome}
use Rattle.tab_server.specs.declared.marks.Mark.{Mark}
use Rattle.tab_server.specs.declared.marks.Mark.TheVariants.{Serving, Sealed, Copy}
use Rattle.tab_server.specs.Contents.{told_of, told_with, told_ranges, numbers, IsHolding, IsUncounted, StandsAt, with_change, IsReadyFor, IsChanged}
use Rattle.tab_server.specs.declared.steps.RangeChange.{RangeChange}
use Rattle.tab_server.specs.declared.ranges.Marked.{Marked}
use Rattle.tab_server.proofs.ChangeLaws.{changed_alone}

-- ---- what frames spell of each

-- the frames spell it, with the step where there is one
abbrev pub IsSpelledWith : {T : Type 0} → List Frame → Option RangeChange → Marked T → Type 0
IsSpelledWith frames step marked = spelled_range frames marked.range.id ≡ Some (told_with step (told_of marked))

changed_number : (range : ℕ) (step : RangeChange) (one : SpelledRange) (b : Bool) → (step.range == one.range) ≡ b → (told_with (Some step) one).range ≡ one.range
changed_number range step one true e = rw e refl
changed_number range step one false e = rw e refl

same_number : (step : Option RangeChange) (one : SpelledRange) → (told_with step one).range ≡ one.range
same_number None one = refl
same_number (Some step) one = changed_number step.range step one (step.range == one.range) refl

pub each_told : {T : Type 0} (frames : List Frame) (step : Option RangeChange) (held : List (Marked T)) → AllByRecursion (IsSpelledWith frames step) held → SpellsEach frames (map (told_with step) (told_ranges held))
each_told frames step [] h = tt
each_told frames step (marked ∷ held) h = (ap (spelled_range frames) (same_number step (told_of marked)) ∙ h.0, each_told frames step held h.1)

pub told_each : {T : Type 0} (frames : List Frame) (step : Option RangeChange) (held : List (Marked T)) → SpellsEach frames (map (told_with step) (told_ranges held)) → AllByRecursion (IsSpelledWith frames step) held
told_each frames step [] h = tt
told_each frames step (marked ∷ held) h = (ap (spelled_range frames) (sym (same_number step (told_of marked))) ∙ h.0, told_each frames step held h.1)

pub told_one : {T : Type 0} (frames : List Frame) (step : Option RangeChange) (held : List (Marked T)) (i : ℕ) (marked : Marked T) → i < length held → marked ≡ get_or held i marked
    → SpellsEach frames (map (told_with step) (told_ranges held)) → IsSpelledWith frames step marked
told_one frames step held i marked within is h =
    subst (IsSpelledWith frames step) (sym is) (All-get_or (IsSpelledWith frames step) held i marked within (All-from_recursion (IsSpelledWith frames step) held (told_each frames step held h)))

pub told_same : (ranges : List SpelledRange) → map (told_with None) ranges ≡ ranges
told_same [] = refl
told_same (one ∷ ranges) = ap (λ (rest : List SpelledRange). one ∷ rest) (told_same ranges)

-- without a step frames stand for just what is told
pub told_still : (frames : List Frame) (ranges : List SpelledRange) → SpellsEach frames (map (told_with None) ranges) → SpellsEach frames ranges
told_still frames ranges h = subst (SpellsEach frames) (told_same ranges) h

pub told_so : (frames : List Frame) (ranges : List SpelledRange) → SpellsEach frames ranges → SpellsEach frames (map (told_with None) ranges)
told_so frames ranges h = subst (SpellsEach frames) (sym (told_same ranges)) h

-- ---- the frames of a checkpoint

pub told_more : {T : Type 0} (held : List (Marked T)) (i : ℕ) (marked : Marked T) → i < length held → marked ≡ get_or held i marked → told_ranges (take (i + 1) held) ≡ told_ranges (take i held) ++ told_of marked ∷ []
told_more held i marked within is =
    ap (map told_of) (take_more held i marked within ∙ ap (λ x. take i held ++ x ∷ []) (sym is)) ∙ map-append told_of (take i held) (marked ∷ [])

pub frames_more : {T : Type 0} (held : List (Marked T)) (i : ℕ) (marked : Marked T) → i < length held → marked ≡ get_or held i marked
    → checkpoint_frames (told_ranges (take (i + 1) held)) ≡ checkpoint_frames (told_ranges (take i held)) ++ range_frames (told_of marked)
frames_more held i marked within is =
    ap checkpoint_frames (told_more held i marked within is)
    ∙ flat_map-append range_frames (told_ranges (take i held)) (told_of marked ∷ [])
    ∙ ap (λ (ys : List Frame). checkpoint_frames (told_ranges (take i held)) ++ ys) (flat_map-cons range_frames (told_of marked) [] ∙ append-nil (range_frames (told_of marked)))

all_pushed : (xs : List SpelledRange) (x : SpelledRange) → AllByRecursion IsHeld xs → IsHeld x → AllByRecursion IsHeld (xs ++ x ∷ [])
all_pushed [] x h p = (p, tt)
all_pushed (y ∷ ys) x h p = (h.0, all_pushed ys x h.1 p)

pub held_more : {T : Type 0} (held : List (Marked T)) (i : ℕ) (marked : Marked T) → i < length held → marked ≡ get_or held i marked → AllByRecursion IsHeld (told_ranges (take i held)) → IsHeld (told_of marked)
    → AllByRecursion IsHeld (told_ranges (take (i + 1) held))
held_more held i marked within is h one = subst (AllByRecursion IsHeld) (sym (told_more held i marked within is)) (all_pushed (told_ranges (take i held)) (told_of marked) h one)

pub told_numbers : {T : Type 0} (held : List (Marked T)) → map (λ (one : SpelledRange). one.range) (told_ranges held) ≡ numbers held
told_numbers [] = refl
told_numbers (marked ∷ held) = ap (λ (rest : List ℕ). marked.range.id ∷ rest) (told_numbers held)

-- the frames of all ranges are those of a checkpoint
pub all_checked : {T : Type 0} (held : List (Marked T)) (n : ℕ) (pieces : List Frame) → length held ≤ n → IsHolding held → pieces ≡ checkpoint_frames (told_ranges (take n held)) → AllByRecursion IsHeld (told_ranges (take n held))
    → AllByRecursion HasSpelling pieces → IsCheckpoint pieces (told_ranges held)
all_checked held n pieces over holding is each spelled =
    let whole : take n held ≡ held = take_all n held over in
    let apart : AllPairs (λ a b. a < b) (map (λ (one : SpelledRange). one.range) (told_ranges held)) = subst (AllPairs (λ a b. a < b)) (sym (told_numbers held)) holding.apart in
    let all_held : AllByRecursion IsHeld (told_ranges held) = subst (λ (xs : List (Marked _)). AllByRecursion IsHeld (told_ranges xs)) whole each in
    record { held = record { apart = apart; each = all_held }; are = is ∙ ap (λ (xs : List (Marked _)). checkpoint_frames (told_ranges xs)) whole; spelled = spelled }

-- ---- one range among others

number_at : {T : Type 0} (held : List (Marked T)) (range place : ℕ) (marked : Marked T) → StandsAt held range place marked → (d : ℕ) → get_or (numbers held) place d ≡ range
number_at held range place marked at d =
    get_or_from_slice_get (numbers held) place range d (slice_get-map (λ (m : Marked _). m.range.id) held place ∙ ap (option_map (λ (m : Marked _). m.range.id)) at.here ∙ ap Some at.number)

not_after : {T : Type 0} (held : List (Marked T)) (range p q : ℕ) (m k : Marked T) → IsHolding held → StandsAt held range p m → StandsAt held range q k → p < q → ⊥
not_after held range p q m k holding at other before =
    let within : q < length (numbers held) = omega (arith, length-map held (λ (x : Marked _). x.range.id), slice_get_within held q k other.here) in
    let less : range < range = subst (λ (x : ℕ). x < range) (number_at held range p m at 0) (subst (λ (y : ℕ). get_or (numbers held) p 0 < y) (number_at held range q k other 0) (holding.apart p q 0 before within)) in
    let none : ⊥ = omega (arith, less) in
    none

same_place : {T : Type 0} (held : List (Marked T)) (range p q : ℕ) (m k : Marked T) → IsHolding held → StandsAt held range p m → StandsAt held range q k → (b c : Bool) → ltb p q ≡ b → ltb q p ≡ c → p ≡ q
same_place held range p q m k holding at other true c e f = absurd (not_after held range p q m k holding at other (grind (arith, nat_tests)))
same_place held range p q m k holding at other false true e f = absurd (not_after held range q p k m holding other at (grind (arith, nat_tests)))
same_place held range p q m k holding at other false false e f = grind (arith, nat_tests)

-- a number stands at one place
pub stands_once : {T : Type 0} (held : List (Marked T)) (range p q : ℕ) (m k : Marked T) → IsHolding held → StandsAt held range p m → StandsAt held range q k → (p ≡ q) × (m ≡ k)
stands_once held range p q m k holding at other =
    let same : p ≡ q = same_place held range p q m k holding at other (ltb p q) (ltb q p) refl refl in
    let found : Some m ≡ Some k = sym at.here ∙ ap (slice_get held) same ∙ other.here in
    (same, cc)

-- what frames tell of ranges of which one is changed
pub told_changed : {T : Type 0} (held : List (Marked T)) (step : RangeChange) (place : ℕ) (marked after : Marked T) → IsHolding held → StandsAt held step.range place marked
    → told_of after ≡ with_changes step.changes.list (step.changes.tick + 1) (told_of marked) → told_ranges (set held place after) ≡ with_change (told_ranges held) step
told_changed held step place marked after holding at changed =
    let here : slice_get (told_ranges held) place ≡ Some (told_of marked) = slice_get-map told_of held place ∙ ap (option_map told_of) at.here in
    map-set told_of held place after
    ∙ ap (set (told_ranges held) place) changed
    ∙ changed_alone step.range step.changes.list (step.changes.tick + 1) (told_ranges held) place (told_of marked) here at.number (subst (AllPairs (λ a b. a < b)) (sym (told_numbers held)) holding.apart)

-- ranges are held as before where one has the same number, and a copy no tally
pub still_holding : {T : Type 0} (held : List (Marked T)) (range place : ℕ) (marked after : Marked T) → IsHolding held → StandsAt held range place marked → after.range.id ≡ marked.range.id → IsUncounted after.mark after.range.tally
    → IsHolding (set held place after)
still_holding held range place marked after holding at same uncounted =
    let numbers_same : numbers (set held place after) ≡ numbers held =
    map-set (λ (m : Marked _). m.range.id) held place after ∙ ap (set (numbers held) place) (same ∙ at.number ∙ sym (number_at held range place marked at 0)) ∙ set-get_or (numbers held) place 0 in
    record {
      apart = subst (AllPairs (λ a b. a < b)) (sym numbers_same) holding.apart;
      uncounted = All-set (λ m. IsUncounted m.mark m.range.tally) held place after uncounted holding.uncounted;
    }

-- where a number stands not so far
pub none_so_far : {T : Type 0} (held : List (Marked T)) (range i : ℕ) (marked : Marked T) → i < length held → marked ≡ get_or held i marked → marked.range.id ≢ range → All (λ m. m.range.id ≢ range) (take i held)
    → All (λ m. m.range.id ≢ range) (take (i + 1) held)
none_so_far held range i marked within is differs h =
    All-more (λ m. m.range.id ≢ range) held i marked within h (subst (λ m. m.range.id ≢ range) is differs)

-- ---- what one call finds

-- ranges that are all spelled so far are all spelled
pub all_spelled : {T : Type 0} (frames : List Frame) (step : Option RangeChange) (items held : List (Marked T)) (n : ℕ) → take n items ≡ items → items ≡ held → AllByRecursion (IsSpelledWith frames step) (take n items)
    → SpellsEach frames (map (told_with step) (told_ranges held))
all_spelled frames step items held n whole same h = each_told frames step held (subst (AllByRecursion (IsSpelledWith frames step)) (whole ∙ same) h)

-- one range that is not spelled
pub one_not : {T : Type 0} (frames : List Frame) (step : Option RangeChange) (items held : List (Marked T)) (i : ℕ) (marked : Marked T) (is : Bool) → items ≡ held → i < length items → marked ≡ get_or items i marked
    → (IsSpelledWith frames step marked → IsTrue is) → is ≡ false → SpellsEach frames (map (told_with step) (told_ranges held)) → IsTrue false
one_not frames step items held i marked is same within at found wrong h =
    sym wrong ∙ found (told_one frames step items i marked within at (subst (λ (xs : List (Marked _)). SpellsEach frames (map (told_with step) (told_ranges xs))) (sym same) h))

-- the range at a place is ready for a change of it
pub record ReadyAt {T : Type 0} (is_ready : T → ℕ → Type 0) (held : List (Marked T)) (step : RangeChange) (place : ℕ) (marked : Marked T) : Type 0 where
  pub stands : StandsAt held step.range place marked
  pub due : range_outcome marked.range step.told.command step.moment ≡ accepted step.changes.tick (applied marked.range.rows step.changes.list)
  pub inside : IsTrue (has marked.range.span (command_key step.told.command))
  pub room : length step.changes.list ≤ marked.range.spare
  pub ready : (tally : T) × (marked.range.tally ≡ Some tally) × is_ready tally 1

ready_here : {T : Type 0} (is_ready : T → ℕ → Type 0) (held : List (Marked T)) (step : RangeChange) (place : ℕ) (found marked : Marked T) → IsHolding held → IsReadyFor is_ready held step → StandsAt held step.range place found
    → marked ≡ get_or held place marked → ReadyAt is_ready held step place marked
ready_here is_ready held step place found marked holding ready at is =
    let once = stands_once held step.range ready.place place ready.marked found holding ready.stands at in
    let same : ready.marked ≡ marked = once.1 ∙ sym (is ∙ get_or_from_slice_get held place found marked at.here) in
    let at_place : StandsAt held step.range place ready.marked = record { here = at.here ∙ ap Some (sym once.1); number = ready.stands.number } in
    let all : ReadyAt is_ready held step place ready.marked = record { stands = at_place; due = ready.due; inside = ready.inside; room = ready.room; ready = ready.ready } in
    subst (λ (m : Marked _). ReadyAt is_ready held step place m) same all

pub ready_at : {T : Type 0} (is_ready : T → ℕ → Type 0) (items held : List (Marked T)) (step : RangeChange) (place : ℕ) (marked : Marked T) → items ≡ held → IsHolding items → IsReadyFor is_ready held step
    → ((found : Marked T) × StandsAt held step.range place found) → marked ≡ get_or items place marked → ReadyAt is_ready items step place marked
ready_at is_ready items held step place marked same holding ready found is =
    ready_here is_ready items step place found.0 marked holding (subst (λ (xs : List (Marked _)). IsReadyFor is_ready xs step) (sym same) ready)
    (subst (λ (xs : List (Marked _)). StandsAt xs step.range place found.0) (sym same) found.1) is

counted : {T : Type 0} (mark : Mark) (before after : Option T) (tally : T) → before ≡ Some tally → IsUncounted mark before → IsUncounted mark after
counted Serving before after tally e f = tt
counted Sealed before after tally e f = tt
counted (Copy whole) before after tally e f = absurd cc

module _ {T : Type 0} (is_ready : T → ℕ → Type 0) (items : List (Marked T)) (step : RangeChange) (place : ℕ) (marked : Marked T) (range : RangeView T) where
  -- a range that was changed
  abbrev pub IsMadeOf : Type 0
  IsMadeOf = range ≡ record marked.range { rows = applied marked.range.rows step.changes.list; next_tick = step.changes.tick + 1; spare = range.spare; tally = range.tally }

  pub changed_holding : IsHolding items → ReadyAt is_ready items step place marked → IsMadeOf → IsHolding (set items place (record marked { range = range }))
  changed_holding holding ready made =
      let within : place < length items = slice_get_within items place marked ready.stands.here in
      let at : get_or items place marked ≡ marked = get_or_from_slice_get items place marked marked ready.stands.here in
      let before : IsUncounted marked.mark marked.range.tally =
      subst (λ (m : Marked T). IsUncounted m.mark m.range.tally) at (All-get_or (λ (m : Marked T). IsUncounted m.mark m.range.tally) items place marked within holding.uncounted) in
      still_holding items step.range place marked (record marked { range = range }) holding ready.stands (ap (λ (r : RangeView T). r.id) made) (counted marked.mark marked.range.tally range.tally ready.ready.0 ready.ready.1 before)

  pub changed_told : (held : List (Marked T)) → items ≡ held → IsHolding items → ReadyAt is_ready items step place marked → IsMadeOf → told_ranges (set items place (record marked { range = range })) ≡ with_change (told_ranges held) step
  changed_told held same holding ready made =
      told_changed items step place marked (record marked { range = range }) holding ready.stands (ap (λ (r : RangeView T). told_of (record marked { range = r })) made)
      ∙ ap (λ (xs : List (Marked T)). with_change (told_ranges xs) step) same

  pub changed_done : (is_drawn : T → Stroke Told → T → Type 0) (are_kin : T → T → Type 0) (held : List (Marked T)) → items ≡ held → ReadyAt is_ready items step place marked → IsMadeOf
      → DrewOne is_drawn is_ready are_kin step.told step.moment marked.range.tally range.tally → IsChanged is_drawn is_ready are_kin held step (set items place (record marked { range = range }))
  changed_done is_drawn are_kin held same ready made drew =
      let is_done : IsChanged is_drawn is_ready are_kin items step (set items place (record marked { range = range })) =
      record { place = place; marked = marked; stands = ready.stands; range = range; is = refl; made = made; drew = drew } in
      subst (λ (xs : List (Marked T)). IsChanged is_drawn is_ready are_kin xs step (set items place (record marked { range = range }))) same is_done
