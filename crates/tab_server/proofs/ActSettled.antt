-- What a command finds of a server that was settled before.
use Rattle.std.proofs.Common.{◌≡◌, ℕ, suc, List, [], ◌∷◌, cond, Bool, true, false, Option, Some, None, Ok, Err, refl, sym, subst, ap, ◌∙◌, set, inr, arith}
use Rattle.std.specs.Prelude.{Result, ⊤, IsTrue, is_some, option_map, ◌==◌, ◌&&◌, slice_get, find, if◌then◌else◌}
use Rattle.std.proofs.lemmas.Bool.Decides.{nat_tests}
use Rattle.std.proofs.lemmas.Option.{none-some}
use Rattle.tab_outside.specs.Disks.{Watch}
use Rattle.tab_keys.specs.Spans.{has}
use Rattle.tab_keys.specs.declared.keys.Key.{Key}
use Rattle.tab_seats.specs.declared.views.Stroke.{Stroke}
use Rattle.tab_ops.specs.Changes.{applied}
use Rattle.tab_history.specs.declared.asks.Reply.{Reply}
use Rattle.tab_range.specs.declared.commands.Command.{Command}
use Rattle.tab_range.specs.declared.commands.Told.{Told}
use Rattle.tab_range.specs.Commands.{command_key}
use Rattle.tab_range.specs.Ranges.{RangeView}
use Rattle.tab_journal.specs.Keeping.{IsSettled}
use Rattle.tab_server.specs.declared.marks.Mark.{Mark}
use Rattle.tab_server.specs.declared.marks.Mark.TheVariants.{Serving, Sealed, Copy}
use Rattle.tab_server.specs.declared.refusals.ActRefused.{ActRefused}
use Rattle.tab_server.specs.declared.refusals.ActRefused.TheVariants as refused
use Rattle.tab_server.specs.declared.steps.RangeChange.{RangeChange}
use Rattle.tab_server.specs.declared.ranges.Marked.{Marked}
use Rattle.tab_server.specs.Contents.{IsHolding, IsChanged, ranges_sense}
use Rattle.tab_server.specs.Serving.{ServerView, range_of, range_for, is_for, is_sealed, is_in_doubt, takes_commands, at_number, IsServed}
use Rattle.tab_server.specs.Acting.{AfterSettle, IsSettledTo, Settles, IsReadyToAct, AnswersAfter, Answers, ActsAt, ActsUnlessSealed, Acts}
use Rattle.tab_server.proofs.ActLaws.{found_at, set_at, find_at, at_one, has_number}

-- where nothing is in doubt, no change of a range is
none_doubted : (d : Option RangeChange) (n : ℕ) → d ≡ None → IsTrue (is_in_doubt d n) → ⊥
none_doubted None n e h = absurd cc
none_doubted (Some step) n e h = absurd cc

-- a range with other rows, next tick and room, whose tally, where it has one, is this one
abbrev as_changed : {T : Type 0} → RangeView T → T → Marked T → Marked T
as_changed new tally marked = record marked { range = record marked.range { rows = new.rows; next_tick = new.next_tick; spare = new.spare; tally = option_map (λ t. tally) marked.range.tally } }

has_still : {T : Type 0} (tally : T) (o : Option T) → is_some (option_map (λ (t : T). tally) o) ≡ is_some o
has_still tally None = refl
has_still tally (Some t) = refl

for_still : {T : Type 0} (new : RangeView T) (tally : T) (key : Key) (marked : Marked T) → is_for key (as_changed new tally marked) ≡ is_for key marked
for_still new tally key marked = ap (λ b. takes_commands marked.mark && b && has marked.range.span key) (has_still tally marked.range.tally)

module _ {T : Type 0} (drawn : T → Stroke Told → T → Type 0) (ready : T → ℕ → Type 0) (kin : T → T → Type 0) where
  -- the range of which a change was done
  changed_is : (held after : List (Marked T)) (step : RangeChange) → (ch : IsChanged drawn ready kin held step after) → as_changed ch.range ch.drew.to ch.marked ≡ record ch.marked { range = ch.range }
  changed_is held after step ch =
      let old : RangeView T = ch.marked.range in
      let new : RangeView T = ch.range in
      let tallies : option_map (λ (t : T). ch.drew.to) old.tally ≡ new.tally = ap (option_map (λ (t : T). ch.drew.to)) ch.drew.held ∙ sym ch.drew.holds in
      let first = ap (λ (t : Option T). record old { rows = new.rows; next_tick = new.next_tick; spare = new.spare; tally = t }) tallies in
      let second = ap (λ (r : _). record old { rows = r; next_tick = new.next_tick; spare = new.spare; tally = new.tally }) (ap (λ (v : RangeView T). v.rows) ch.made) in
      let third = ap (λ (n : ℕ). record old { rows = applied old.rows step.changes.list; next_tick = n; spare = new.spare; tally = new.tally }) (ap (λ (v : RangeView T). v.next_tick) ch.made) in
      ap (λ (v : RangeView T). record ch.marked { range = v }) (first ∙ second ∙ third ∙ sym ch.made)

  held_changed : (held after : List (Marked T)) (step : RangeChange) → IsHolding held → (ch : IsChanged drawn ready kin held step after) → after ≡ at_number step.range (as_changed ch.range ch.drew.to) held
  held_changed held after step holding ch =
      ch.is ∙ ap (set held ch.place) (sym (changed_is held after step ch)) ∙ set_at held step.range ch.place (as_changed ch.range ch.drew.to) ch.marked holding.apart ch.stands.here ch.stands.number

module _ {D T : Type 0} (drawn : T → Stroke Told → T → Type 0) (ready : T → ℕ → Type 0) (kin : T → T → Type 0) where
  -- the range of this number is for the command still, and its tally is ready
  pub record IsServedStill (range : ℕ) (command : Command) (new : ServerView D T) : Type 0 where
    pub marked : Marked T
    pub served : IsServed new.held range command marked
    pub can : IsReadyToAct drawn ready kin new command

  -- where what is held is as before
  served_same : (old new : ServerView D T) (range : ℕ) (command : Command) (marked : Marked T) → IsServed old.held range command marked → IsReadyToAct drawn ready kin old command → new.held ≡ old.held → new.doubt ≡ None
      → IsServedStill range command new
  served_same old new range command marked served ready_to same clear = record {
    marked = marked;
    served = subst (λ (h : List (Marked T)). IsServed h range command marked) (sym same) served;
    can = λ m tally meant has_tally. (
      (ready_to m tally (ap (λ (h : List (Marked T)). range_for h (command_key command)) (sym same) ∙ meant) has_tally).0,
      λ doubted. absurd (none_doubted new.doubt m.range.id clear doubted),
    );
  }

  -- after a change the tally of the range that is for the command is ready
  ready_by : (old : ServerView D T) (after : List (Marked T)) (range : ℕ) (command : Command) (marked : Marked T) (step : RangeChange) → IsHolding old.held → IsServed old.held range command marked → IsReadyToAct drawn ready kin old command
      → old.doubt ≡ Some step → (ch : IsChanged drawn ready kin old.held step after) → (b : Bool) → (marked.range.id == step.range) ≡ b → (tally : T)
      → (if b then as_changed ch.range ch.drew.to marked else marked).range.tally ≡ Some tally → ready tally 1
  ready_by old after range command marked step holding served ready_to doubt ch true e tally has_tally =
      let number : marked.range.id ≡ step.range = grind (arith, nat_tests) in
      let same_range : range ≡ step.range = sym (has_number old.held range marked served.number) ∙ number in
      let both : Some ch.marked ≡ Some marked = sym (found_at old.held step.range ch.place ch.marked holding.apart ch.stands.here ch.stands.number) ∙ ap (λ n. range_of old.held n) (sym same_range) ∙ served.number in
      let one : ch.marked ≡ marked = cc in
      let from : marked.range.tally ≡ Some ch.drew.from = ap (λ (m : Marked T). m.range.tally) (sym one) ∙ ch.drew.held in
      let to : Some ch.drew.to ≡ Some tally = sym (ap (option_map (λ (t : T). ch.drew.to)) from) ∙ has_tally in
      let same : ch.drew.to ≡ tally = cc in
      let is_its : (step.range == marked.range.id) ≡ true = grind (arith, nat_tests) in
      let doubted : IsTrue (is_in_doubt old.doubt marked.range.id) = subst (λ (d : Option RangeChange). IsTrue (is_in_doubt d marked.range.id)) (sym doubt) is_its in
      subst (λ (t : T). ready t 1) same (ch.drew.ready 1 ((ready_to marked ch.drew.from served.meant from).1 doubted))
  ready_by old after range command marked step holding served ready_to doubt ch false e tally has_tally = (ready_to marked tally served.meant has_tally).0

  served_changed : (old new : ServerView D T) (range : ℕ) (command : Command) (marked : Marked T) (step : RangeChange) → IsHolding old.held → IsServed old.held range command marked → IsReadyToAct drawn ready kin old command
      → old.doubt ≡ Some step → IsChanged drawn ready kin old.held step new.held → new.doubt ≡ None → IsServedStill range command new
  served_changed old new range command marked step holding served ready_to doubt ch clear =
      let change : Marked T → Marked T = as_changed ch.range ch.drew.to in
      let held : new.held ≡ at_number step.range change old.held = held_changed drawn ready kin old.held new.held step holding ch in
      let key : Key = command_key command in
      let meant : range_for new.held key ≡ Some (at_one step.range change marked) =
      ap (λ (h : List (Marked T)). range_for h key) held ∙ find_at (is_for key) step.range change (for_still ch.range ch.drew.to key) old.held ∙ ap (option_map (at_one step.range change)) served.meant in
      let number : range_of new.held range ≡ Some (at_one step.range change marked) =
      ap (λ (h : List (Marked T)). range_of h range) held ∙ find_at (λ (m : Marked T). m.range.id == range) step.range change (λ m. refl) old.held ∙ ap (option_map (at_one step.range change)) served.number in
      record {
        marked = at_one step.range change marked;
        served = record { number = number; meant = meant };
        can = λ m tally meant_now has_tally. (
          by_mark m tally (sym meant ∙ meant_now) has_tally,
          λ doubted. absurd (none_doubted new.doubt m.range.id clear doubted),
        );
      }
    where
      by_mark : (m : Marked T) (tally : T) → Some (at_one step.range (as_changed ch.range ch.drew.to) marked) ≡ Some m → m.range.tally ≡ Some tally → ready tally 1
      by_mark m tally both has_tally =
          let same : at_one step.range (as_changed ch.range ch.drew.to) marked ≡ m = cc in
          ready_by old new.held range command marked step holding served ready_to doubt ch (marked.range.id == step.range) refl tally (ap (λ (x : Marked T). x.range.tally) same ∙ has_tally)

  -- a range that was for a command is for it after a settling
  pub served_settled : (old new : ServerView D T) (range : ℕ) (command : Command) (marked : Marked T) → IsHolding old.held → IsServed old.held range command marked → IsReadyToAct drawn ready kin old command
      → IsSettledTo drawn ready kin old new → IsServedStill range command new
  served_settled old new range command marked holding served ready_to to = by_stood to.0.0 to.0.1
    where
      by_doubt : (d : Option RangeChange) → old.doubt ≡ d → IsSettled (ranges_sense drawn ready kin) old.held d new.held true → IsServedStill range command new
      by_doubt None e settled = absurd settled
      by_doubt (Some step) e settled = served_changed old new range command marked step holding served ready_to e settled.done to.1

      by_stood : (stood : Bool) → IsSettled (ranges_sense drawn ready kin) old.held old.doubt new.held stood → IsServedStill range command new
      by_stood false settled = served_same old new range command marked served ready_to settled to.1
      by_stood true settled = by_doubt old.doubt refl settled

  -- ---- the call

  module _ (w : Watch D) (honest : Type 0) (faults : D → ℕ) (command : Command) (now : ℕ) where
    pub acts_unless_sealed : (old new : ServerView D T) (result : Result Reply ActRefused) (marked : Marked T) → range_for old.held (command_key command) ≡ Some marked → is_sealed marked.mark ≡ false
        → Answers drawn ready kin w honest faults command now old new result → Acts drawn ready kin w honest faults command now old new result
    acts_unless_sealed old new result marked meant unsealed answers =
        inr (subst (λ (o : Option (Marked T)). ActsAt drawn ready kin w honest faults command now old new result o) (sym meant)
        (subst (λ b. ActsUnlessSealed drawn ready kin w honest faults command now old new result marked b) (sym unsealed) answers))

    -- it was not settled
    pub acts_refused : (old mid : ServerView D T) (settled : Result ⊤ ActRefused) (why : ActRefused) (result : Result Reply ActRefused) (marked : Marked T) → range_for old.held (command_key command) ≡ Some marked → is_sealed marked.mark ≡ false
        → Settles drawn ready kin w honest faults old mid settled → settled ≡ Err why → result ≡ Err why → Acts drawn ready kin w honest faults command now old mid result
    acts_refused old mid settled why result marked meant unsealed first is same =
        acts_unless_sealed old mid result marked meant unsealed
        (record { mid = mid; settled = Err why; first = subst (λ s. Settles drawn ready kin w honest faults old mid s) is first; answered = (same, refl) })

    -- it was settled, and the range answered
    pub acts_then : (old mid new : ServerView D T) (settled : Result ⊤ ActRefused) (x : ⊤) (result : Result Reply ActRefused) (marked : Marked T) → range_for old.held (command_key command) ≡ Some marked → is_sealed marked.mark ≡ false
        → Settles drawn ready kin w honest faults old mid settled → settled ≡ Ok x → AnswersAfter drawn ready kin w honest faults command now mid new (Ok tt) result → Acts drawn ready kin w honest faults command now old new result
    acts_then old mid new settled x result marked meant unsealed first is answered =
        acts_unless_sealed old new result marked meant unsealed
        (record { mid = mid; settled = Ok x; first = subst (λ s. Settles drawn ready kin w honest faults old mid s) is first; answered = answered })

    pub acts_sealed : (old : ServerView D T) (marked : Marked T) → range_for old.held (command_key command) ≡ Some marked → is_sealed marked.mark ≡ true
        → Acts drawn ready kin w honest faults command now old old (Err (refused.Sealed marked.range.id))
    acts_sealed old marked meant sealed =
        inr (subst (λ (o : Option (Marked T)). ActsAt drawn ready kin w honest faults command now old old (Err (refused.Sealed marked.range.id)) o) (sym meant)
        (subst (λ b. ActsUnlessSealed drawn ready kin w honest faults command now old old (Err (refused.Sealed marked.range.id)) marked b) (sym sealed) (refl, refl)))

    pub acts_none : (old : ServerView D T) → range_for old.held (command_key command) ≡ None → Acts drawn ready kin w honest faults command now old old (Err refused.NotHeld)
    acts_none old none = inr (subst (λ (o : Option (Marked T)). ActsAt drawn ready kin w honest faults command now old old (Err refused.NotHeld) o) (sym none) (refl, refl))

-- ---- the range that is for a command, by its number

find_place : {X : Type 0} (p : X → Bool) (xs : List X) (x : X) → find p xs ≡ Some x → (place : ℕ) × (slice_get xs place ≡ Some x)
find_place p [] x found = absurd (none-some x found)
find_place {X} p (y ∷ ys) x found = by_test (λ rest. find_place p ys x rest) (p y) refl
  where
    by_test : (find p ys ≡ Some x → (place : ℕ) × (slice_get ys place ≡ Some x)) → (b : Bool) → p y ≡ b → (place : ℕ) × (slice_get (y ∷ ys) place ≡ Some x)
    by_test more true e = (0, ap (λ b. cond b (Some y) (find p ys)) (sym e) ∙ found)
    by_test more false e = let rest = more (ap (λ b. cond b (Some y) (find p ys)) (sym e) ∙ found) in (suc rest.0, rest.1)

pub served_by : {T : Type 0} (held : List (Marked T)) (command : Command) (marked : Marked T) → IsHolding held → range_for held (command_key command) ≡ Some marked → IsServed held marked.range.id command marked
served_by held command marked holding meant =
    let at = find_place (is_for (command_key command)) held marked meant in
    record { number = found_at held marked.range.id at.0 marked holding.apart at.1 refl; meant = meant }

-- what a settling that went well leaves
pub settled_to : {D T : Type 0} (drawn : T → Stroke Told → T → Type 0) (ready : T → ℕ → Type 0) (kin : T → T → Type 0) (w : Watch D) (honest : Type 0) (faults : D → ℕ) (old new : ServerView D T) (settled : Result ⊤ ActRefused) (x : ⊤)
    → Settles drawn ready kin w honest faults old new settled → settled ≡ Ok x → IsSettledTo drawn ready kin old new
settled_to drawn ready kin w honest faults old new settled x first is = subst (λ s. AfterSettle drawn ready kin old new s) is first.after

-- a mark that is not the sealed one
pub unsealed : (mark : Mark) → (mark ≡ Sealed → ⊥) → is_sealed mark ≡ false
unsealed Serving differs = refl
unsealed Sealed differs = absurd (differs refl)
unsealed (Copy whole) differs = refl
