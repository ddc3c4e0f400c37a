-- What a command leaves of a server, from what its parts leave.
use Rattle.std.proofs.Common.{◌≡◌, ℕ, ◌≤◌, List, [], ◌∷◌, Bool, true, false, ◌&&◌, Option, Some, None, Ok, Err, refl, sym, subst, ap, ◌∙◌, set, cond, length, get_or, arith}
use Rattle.std.specs.Prelude.{Result, ⊤, OnOk, All, max, nat_lt, if◌then◌else◌, IfErr, IsTrue, IfSome, is_some, find, ◌≢◌}
use Rattle.std.specs.Result.{is_err}
use Rattle.std.proofs.lemmas.List.{set-get_or}
use Rattle.std.proofs.lemmas.Option.{none-some, get_or_from_slice_get}
use Rattle.tab_outside.specs.Disks.{Watch}
use Rattle.tab_outside.specs.Pairs.{Extends}
use Rattle.tab_keys.specs.Spans.{has}
use Rattle.tab_keys.specs.declared.keys.Key.{Key}
use Rattle.tab_seats.specs.declared.views.Stroke.{Stroke}
use Rattle.tab_keys.specs.declared.bounds.Bound.{Bound}
use Rattle.tab_edm.specs.declared.TheConstants.{GREATEST}
use Rattle.tab_rows.specs.Rows.{RowView, row_at}
use Rattle.tab_ops.specs.declared.groups.OpRefused.{OpRefused}
use Rattle.tab_range.specs.declared.commands.What.{What}
use Rattle.tab_range.specs.declared.commands.What.TheVariants as what
use Rattle.tab_range.specs.declared.commands.Answer.{Answer}
use Rattle.tab_ops.specs.Changes.{applied, group_outcome}
use Rattle.tab_ops.specs.declared.plans.Changes.{Changes}
use Rattle.tab_history.specs.declared.asks.Reply.{Reply}
use Rattle.tab_history.specs.declared.asks.Reply.TheVariants as reply
use Rattle.tab_history.specs.declared.entries.Denied.{Denied}
use Rattle.tab_history.specs.declared.entries.Denied.TheVariants as denied
use Rattle.tab_range.specs.declared.commands.Command.{Command}
use Rattle.tab_range.specs.declared.commands.Told.{Told}
use Rattle.tab_range.specs.declared.commands.Answer.TheVariants as answer
use Rattle.tab_range.specs.Commands.{command_key}
use Rattle.tab_range.specs.Outcomes.{Outcome, accepted, unchanged, found_or_not, group_answered, outcome_of, IsDue, AreOf}
use Rattle.tab_range.specs.Ranges.{RangeView, DrewOne, range_outcome}
use Rattle.tab_journal.specs.Areas.{Spells}
use Rattle.tab_journal.specs.Stores.{area_a, area_b}
use Rattle.tab_journal.specs.Keeping.{StandsWith, StandsStill, IsDone, IsReady}
use Rattle.tab_journal.specs.KeptCauses.{AfterChange, IsKeptFaultAlone, KeptCauses}
use Rattle.tab_journal.specs.declared.kept.KeptRefused.{KeptRefused}
use Rattle.tab_journal.specs.declared.kept.KeptRefused.TheVariants as kept
use Rattle.tab_server.specs.declared.marks.Mark.{Mark}
use Rattle.tab_server.specs.declared.marks.Mark.TheVariants.{Serving, Sealed, Copy}
use Rattle.tab_server.specs.declared.refusals.ActRefused.{ActRefused}
use Rattle.tab_server.specs.declared.refusals.ActRefused.TheVariants as refused
use Rattle.tab_server.specs.declared.steps.RangeChange.{RangeChange}
use Rattle.tab_server.specs.declared.ranges.Marked.{Marked}
use Rattle.tab_server.specs.Replays.{SpellsEach}
use Rattle.tab_server.specs.Contents.{told_ranges, with_change, IsHolding, IsUncounted, StandsAt, ChangeFits, IsAcceptedChange, IsReadyFor, ranges_sense}
use Rattle.tab_server.specs.Serving.{ServerView, range_of, range_for, is_for, takes_commands, at_number, with_spare, with_tally, IsServed, IsServer}
use Rattle.tab_server.specs.ServerCauses.{ServerCauses, IsRangeDenial, act_refused, denied_as}
use Rattle.tab_server.specs.Acting.{IsStill, IsTold, IsChangeOf, StepImages, IsReadyToAct, AnswersAfter, Replies}
use Rattle.tab_server.proofs.Accepted.{fits_answer}
use Rattle.tab_server.proofs.ActLaws.{whole_mark, still_told, found_roomed, no_place, read_at, one_set, found_at, placed, has_number, set_at, told_at}

-- ---- the range that is for a command

find_holds : {X : Type 0} (p : X → Bool) (xs : List X) (x : X) → find p xs ≡ Some x → p x ≡ true
find_holds p [] x found = absurd (none-some x found)
find_holds {X} p (y ∷ ys) x found = by_test (λ rest. find_holds p ys x rest) (p y) refl
  where
    by_test : (find p ys ≡ Some x → p x ≡ true) → (b : Bool) → p y ≡ b → p x ≡ true
    by_test more true e =
        let here : Some y ≡ Some x = ap (λ b. cond b (Some y) (find p ys)) (sym e) ∙ found in
        let same : y ≡ x = cc in
        subst (λ (z : X). p z ≡ true) same e
    by_test more false e = more (ap (λ b. cond b (Some y) (find p ys)) (sym e) ∙ found)

record IsMeant {T : Type 0} (key : Key) (marked : Marked T) : Type 0 where
  pub takes : takes_commands marked.mark ≡ true
  pub tally : (tally : T) × (marked.range.tally ≡ Some tally)
  pub inside : has marked.range.span key ≡ true

meant_by : {T : Type 0} (takes : Bool) (tally : Option T) (inside : Bool) → (takes && is_some tally && inside) ≡ true → (takes ≡ true) × ((t : T) × (tally ≡ Some t)) × (inside ≡ true)
meant_by true (Some t) true is = (refl, (t, refl), refl)
meant_by true (Some t) false is = absurd cc
meant_by true None inside is = absurd cc
meant_by false tally inside is = absurd cc

is_meant : {T : Type 0} (held : List (Marked T)) (key : Key) (marked : Marked T) → range_for held key ≡ Some marked → IsMeant key marked
is_meant held key marked found =
    let parts = meant_by (takes_commands marked.mark) marked.range.tally (has marked.range.span key) (find_holds (is_for key) held marked found) in
    record { takes = parts.0; tally = parts.1; inside = parts.2 }

-- ---- a change that is asked for

abbrev pub step_of : ℕ → Command → Changes → ℕ → RangeChange
step_of range command changes now = record { range = range; changes = changes; told = record { command = command; tick = Some changes.tick }; moment = now }

-- a command that this range is for, and the changes that it comes to
pub record IsAsked {T : Type 0} (held : List (Marked T)) (range : ℕ) (command : Command) (changes : Changes) (now : ℕ) (marked : Marked T) : Type 0 where
  pub served : IsServed held range command marked
  pub due : range_outcome marked.range command now ≡ accepted changes.tick (applied marked.range.rows changes.list)
  pub of : AreOf command (answer.Change changes)

pub is_accepted : {T : Type 0} (held : List (Marked T)) (range : ℕ) (command : Command) (changes : Changes) (now : ℕ) (marked : Marked T) → IsAsked held range command changes now marked
    → IsAcceptedChange held (step_of range command changes now)
is_accepted held range command changes now marked asked =
    let meant = is_meant held (command_key command) marked asked.served.meant in
    let at = placed held range marked asked.served.number in
    record { place = at.0; marked = marked; stands = at.1; whole = whole_mark marked.mark meant.takes; inside = meant.inside; due = asked.due; of = asked.of }

pub asked_fits : {T : Type 0} (held : List (Marked T)) (range : ℕ) (command : Command) (changes : Changes) (now : ℕ) (marked : Marked T) → IsAsked held range command changes now marked
    → ChangeFits (told_ranges held) (step_of range command changes now)
asked_fits held range command changes now marked asked = fits_answer held (step_of range command changes now) (is_accepted held range command changes now marked asked)

-- ---- room

-- all is as before where the room is what it was
pub roomed_same : {T : Type 0} (held : List (Marked T)) (range : ℕ) (marked : Marked T) → IsHolding held → range_of held range ≡ Some marked → held ≡ at_number range (with_spare marked.range.spare) held
roomed_same held range marked holding found =
    let at = placed held range marked found in
    let here : get_or held at.0 marked ≡ marked = get_or_from_slice_get held at.0 marked marked at.1.here in
    sym (set-get_or held at.0 marked) ∙ ap (set held at.0) here ∙ set_at held range at.0 (with_spare marked.range.spare) marked holding.apart at.1.here at.1.number

-- a result of what is kept, as a change passes it on
abbrev pub IsMadePassed : ℕ → Result ⊤ KeptRefused → Result Reply ActRefused → Type 0
IsMadePassed tick (Ok x) result = result ≡ Ok (reply.Changed tick)
IsMadePassed tick (Err refused) result = result ≡ Err (act_refused refused)

pub made_ok : (tick : ℕ) (r : Result ⊤ KeptRefused) (x : ⊤) → r ≡ Ok x → IsMadePassed tick r (Ok (reply.Changed tick))
made_ok tick r x is = subst (λ q. IsMadePassed tick q (Ok (reply.Changed tick))) (sym is) refl

pub made_err : (tick : ℕ) (r : Result ⊤ KeptRefused) (k : KeptRefused) (why : ActRefused) → r ≡ Err k → why ≡ act_refused k → IsMadePassed tick r (Err why)
made_err tick r k why is same = subst (λ q. IsMadePassed tick q (Err why)) (sym is) (ap Err same)

-- memory that was found leaves room
pub room_left : {E P : Type 0} (r : Result ⊤ E) → false ≡ is_err r → OnOk r P → P
room_left (Ok x) found room = room
room_left (Err why) found room = absurd cc

-- what a range answers without a change
pub due_reply : (rows : List RowView) (next_tick : ℕ) (o : Outcome) (r : Result Answer Denied) (given : Answer) (replied : Reply) → r ≡ Ok given → given ≡ answer.Reply replied → IsDue rows next_tick o r
    → o ≡ unchanged rows next_tick (Ok replied)
due_reply rows next_tick o r given replied is same due = subst (λ (x : Answer). IsDue rows next_tick o (Ok x)) same (subst (λ (q : Result Answer Denied). IsDue rows next_tick o q) is due)

pub due_denial : (rows : List RowView) (next_tick : ℕ) (o : Outcome) (r : Result Answer Denied) (why : Denied) → r ≡ Err why → why ≢ denied.Memory → IsDue rows next_tick o r → o ≡ unchanged rows next_tick (Err why)
due_denial rows next_tick o r why is differs due = subst (λ (q : Result Answer Denied). IsDue rows next_tick o q) is due differs

pub is_denial : (r : Result Answer Denied) (why : Denied) → r ≡ Err why → why ≢ denied.Memory → IfErr r (λ d. d ≢ denied.Memory → IsRangeDenial d) → IsRangeDenial why
is_denial r why is differs denial = subst (λ (q : Result Answer Denied). IfErr q (λ d. d ≢ denied.Memory → IsRangeDenial d)) is denial differs

module _ {D T : Type 0} (drawn : T → Stroke Told → T → Type 0) (ready : T → ℕ → Type 0) (kin : T → T → Type 0) where
  -- the tally of the range that is for a command may draw a stroke
  pub can_draw : (server : ServerView D T) (command : Command) (marked : Marked T) → IsReadyToAct drawn ready kin server command → range_for server.held (command_key command) ≡ Some marked
      → (tally : T) × (marked.range.tally ≡ Some tally) × ready tally 1
  can_draw server command marked ready_to meant =
      let tally = (is_meant server.held (command_key command) marked meant).tally in
      (tally.0, tally.1, (ready_to marked tally.0 meant tally.1).0)

  -- behind a change nothing is in doubt, or this change is
  pub server_changed : (old new : ServerView D T) (step : RangeChange) (r : Result ⊤ KeptRefused) → AfterChange (ranges_sense drawn ready kin) old new step r → IsKeptFaultAlone r → ChangeFits (told_ranges old.held) step
      → IsReadyFor ready old.held step → IsServer drawn ready kin new
  server_changed old new step (Ok x) after alone fits can = record {
    clear = λ e. after.1;
    ready = subst (λ (d : Option RangeChange). IsReady (ranges_sense drawn ready kin) new.held d) (sym after.1) tt;
  }
  server_changed old new step (Err (kept.DiskFault area)) after alone fits can = record {
    clear = λ e. absurd (let failed = after.2 in cc);
    ready = subst (λ (d : Option RangeChange). IsReady (ranges_sense drawn ready kin) new.held d) (sym after.1)
        (subst (λ (h : List (Marked T)). IsReady (ranges_sense drawn ready kin) h (Some step)) (sym after.0) (fits, can));
  }
  server_changed old new step (Err (kept.Damaged area at)) after alone fits can = absurd alone
  server_changed old new step (Err kept.EpochSpent) after alone fits can = absurd alone
  server_changed old new step (Err kept.Memory) after alone fits can = absurd alone

  -- with room a change that is asked for may be done
  pub asked_ready : (old mid : ServerView D T) (range : ℕ) (command : Command) (changes : Changes) (now : ℕ) (marked : Marked T) → IsAsked old.held range command changes now marked
      → IsReadyToAct drawn ready kin old command → IsStill drawn ready kin range old mid → IfSome (range_of mid.held range) (λ m. length changes.list ≤ m.range.spare)
      → IsReadyFor ready mid.held (step_of range command changes now)
  asked_ready old mid range command changes now marked asked ready_to still room =
      let held : mid.held ≡ at_number range (with_spare still.0) old.held = ap (λ (k : ServerView D T). k.held) still.1 in
      let found : range_of mid.held range ≡ Some (with_spare still.0 marked) = ap (λ (h : List (Marked T)). range_of h range) held ∙ found_roomed old.held range still.0 marked asked.served.number in
      let at = placed mid.held range (with_spare still.0 marked) found in
      let meant = is_meant old.held (command_key command) marked asked.served.meant in
      record {
        place = at.0;
        marked = with_spare still.0 marked;
        stands = at.1;
        due = asked.due;
        tick = refl;
        inside = meant.inside;
        room = subst (λ (o : Option (Marked T)). IfSome o (λ m. length changes.list ≤ m.range.spare)) found room;
        ready = can_draw old command marked ready_to asked.served.meant;
      }

  still_tells : (old mid : ServerView D T) (range : ℕ) → IsStill drawn ready kin range old mid → told_ranges mid.held ≡ told_ranges old.held
  still_tells old mid range still = ap (λ (k : ServerView D T). told_ranges k.held) still.1 ∙ told_at range (with_spare still.0) (λ m. refl) old.held

  pub still_fits : (old mid : ServerView D T) (range : ℕ) (command : Command) (changes : Changes) (now : ℕ) (marked : Marked T) → IsAsked old.held range command changes now marked → IsStill drawn ready kin range old mid
      → ChangeFits (told_ranges mid.held) (step_of range command changes now)
  still_fits old mid range command changes now marked asked still =
      subst (λ (t : _). ChangeFits t (step_of range command changes now)) (sym (still_tells old mid range still)) (asked_fits old.held range command changes now marked asked)

  -- ---- answers

  module _ (w : Watch D) (honest : Type 0) (faults : D → ℕ) where
    -- no disk was called, and the refusal is no fault
    no_fault : {X : Type 0} (old new : ServerView D T) (result : Result X ActRefused) → new.store ≡ old.store → ((area : ℕ) → result ≡ Err (refused.DiskFault area) → ⊥) → ServerCauses faults old new result
    no_fault old new result same never = record {
      later_a = subst (λ s. faults (area_a old.store) ≤ faults (area_a s)) (sym same) (omega arith);
      later_b = subst (λ s. faults (area_b old.store) ≤ faults (area_b s)) (sym same) (omega arith);
      fault = λ area e. absurd (never area e);
    }

    -- no memory was found
    pub no_memory : (old new : ServerView D T) (range : ℕ) (command : Command) (now : ℕ) (marked : Marked T) → IsServed old.held range command marked → IsStill drawn ready kin range old new
        → AnswersAfter drawn ready kin w honest faults command now old new (Ok tt) (Err refused.Memory)
    no_memory old new range command now marked served still = (
      marked,
      served.meant,
      subst (λ n. IsStill drawn ready kin n old new) (sym (has_number old.held range marked served.number)) still,
      no_fault old new (Err refused.Memory) (ap (λ (k : ServerView D T). k.store) still.1) (λ area e. cc),
    )

    pub no_memory_yet : (old : ServerView D T) (range : ℕ) (command : Command) (now : ℕ) (marked : Marked T) → IsHolding old.held → IsServed old.held range command marked
        → AnswersAfter drawn ready kin w honest faults command now old old (Ok tt) (Err refused.Memory)
    no_memory_yet old range command now marked holding served =
        no_memory old old range command now marked served (marked.range.spare, ap (λ (h : List (Marked T)). record old { held = h }) (roomed_same old.held range marked holding served.number))

    abbrev pub WasTold : ServerView D T → ServerView D T → Command → ℕ → Type 0
    WasTold old new command now = (marked : Marked T) × (range_for old.held (command_key command) ≡ Some marked) × IsTold drawn ready kin marked command now old new

    -- a command that changes nothing was answered
    pub replied : (old new : ServerView D T) (command : Command) (now : ℕ) (marked : Marked T) (answered : Reply) → range_for old.held (command_key command) ≡ Some marked
        → range_outcome marked.range command now ≡ unchanged marked.range.rows marked.range.next_tick (Ok answered) → WasTold old new command now
        → AnswersAfter drawn ready kin w honest faults command now old new (Ok tt) (Ok answered)
    replied old new command now marked answered meant due told =
        let same : told.0 ≡ marked = let both : Some told.0 ≡ Some marked = sym told.1 ∙ meant in cc in
        let is_told : IsTold drawn ready kin marked command now old new = subst (λ (m : Marked T). IsTold drawn ready kin m command now old new) same told.2 in (
          marked,
          meant,
          subst (λ (t : Option ℕ). Replies drawn ready kin w honest marked command now old new (Ok answered) t) (sym (ap (λ (o : Outcome). o.tick) due)) (ap (λ (o : Outcome). o.answer) due, is_told),
          no_fault old new (Ok answered) (ap (λ (k : ServerView D T). k.store) is_told.is) (λ area e. cc),
        )

    -- a command was refused
    pub denied_so : (old new : ServerView D T) (command : Command) (now : ℕ) (marked : Marked T) (why : Denied) → IsRangeDenial why → range_for old.held (command_key command) ≡ Some marked
        → range_outcome marked.range command now ≡ unchanged marked.range.rows marked.range.next_tick (Err why) → WasTold old new command now
        → AnswersAfter drawn ready kin w honest faults command now old new (Ok tt) (Err (denied_as why))
    denied_so old new command now marked why is meant due told =
        let same : told.0 ≡ marked = let both : Some told.0 ≡ Some marked = sym told.1 ∙ meant in cc in
        let is_told : IsTold drawn ready kin marked command now old new = subst (λ (m : Marked T). IsTold drawn ready kin m command now old new) same told.2 in
        by_denial why is (ap (λ (o : Outcome). o.answer) due) is_told (ap (λ (k : ServerView D T). k.store) is_told.is)
      where
        by_denial : (d : Denied) → IsRangeDenial d → (range_outcome marked.range command now).answer ≡ Err d → IsTold drawn ready kin marked command now old new → new.store ≡ old.store
            → AnswersAfter drawn ready kin w honest faults command now old new (Ok tt) (Err (denied_as d))
        by_denial denied.NotFound i e t s = (marked, meant, (e, t), no_fault old new (Err refused.NotFound) s (λ area x. cc))
        by_denial (denied.Op reason) i e t s = (marked, meant, (e, t), no_fault old new (Err (refused.Op reason)) s (λ area x. cc))
        by_denial denied.TimeSpent i e t s = (marked, meant, (e, t), no_fault old new (Err refused.TimeSpent) s (λ area x. cc))
        by_denial denied.NoTable i e t s = absurd i
        by_denial denied.TableThere i e t s = absurd i
        by_denial (denied.Busy plan) i e t s = absurd i
        by_denial denied.IdsSpent i e t s = absurd i
        by_denial (denied.DiskFault disk) i e t s = absurd i
        by_denial denied.Memory i e t s = absurd i
        by_denial (denied.Damaged disk at) i e t s = absurd i

    ok_apart : {answered : Reply} (a : ℕ) → ◌≡◌ {A = Result Reply ActRefused} (Ok answered) (Err (refused.DiskFault a)) → ⊥
    ok_apart a e = cc

    -- a fault that is passed on is one of what is kept
    fault_as : (k : KeptRefused) (a : ℕ) → ◌≡◌ {A = Result Reply ActRefused} (Err (act_refused k)) (Err (refused.DiskFault a)) → ◌≡◌ {A = Result ⊤ KeptRefused} (Err k) (Err (kept.DiskFault a))
    fault_as (kept.DiskFault area) a e = let same : area ≡ a = cc in ap (λ n. Err (kept.DiskFault n)) same
    fault_as (kept.Damaged area at) a e = absurd cc
    fault_as kept.EpochSpent a e = absurd cc
    fault_as kept.Memory a e = absurd cc

    causes_from : (old mid new : ServerView D T) (r : Result ⊤ KeptRefused) (q : Result Reply ActRefused) → mid.store ≡ old.store → KeptCauses faults mid new r
        → ((area : ℕ) → q ≡ Err (refused.DiskFault area) → r ≡ Err (kept.DiskFault area)) → ServerCauses faults old new q
    causes_from old mid new r q store c same =
        subst (λ s. ServerCauses faults (record old { store = s }) new q) store (record { later_a = c.later_a; later_b = c.later_b; fault = λ area e. c.fault area (same area e) })

    pub made_so : (old mid new : ServerView D T) (range : ℕ) (command : Command) (changes : Changes) (now : ℕ) (marked : Marked T) (r : Result ⊤ KeptRefused) (result : Result Reply ActRefused)
        → IsAsked old.held range command changes now marked → IsStill drawn ready kin range old mid → AfterChange (ranges_sense drawn ready kin) mid new (step_of range command changes now) r → IsKeptFaultAlone r
        → StepImages drawn ready kin w honest mid new (step_of range command changes now) → KeptCauses faults mid new r → IsMadePassed changes.tick r result
        → AnswersAfter drawn ready kin w honest faults command now old new (Ok tt) result
    made_so old mid new range command changes now marked r result asked still after alone images causes passed =
        (marked, asked.served.meant, by_result r result passed after alone, passed_causes r result passed causes)
      where
        step : RangeChange
        step = step_of range command changes now

        store : mid.store ≡ old.store
        store = ap (λ (k : ServerView D T). k.store) still.1

        number : marked.range.id ≡ range
        number = has_number old.held range marked asked.served.number

        tick : (range_outcome marked.range command now).tick ≡ Some changes.tick
        tick = ap (λ (o : Outcome). o.tick) asked.due

        is_asked : IsChangeOf marked command now changes.tick step
        is_asked = record { range = sym number; told = refl; moment = refl; changes = refl; due = asked.due; of = asked.of }

        held : mid.held ≡ at_number marked.range.id (with_spare still.0) old.held
        held = ap (λ (k : ServerView D T). k.held) still.1 ∙ ap (λ n. at_number n (with_spare still.0) old.held) (sym number)

        images_from : StepImages drawn ready kin w honest old new step
        images_from h =
            subst (λ s. Extends w (Spells s.kind s.number) (StandsWith (ranges_sense drawn ready kin) old.held step) (area_a s) (area_b s) (area_a new.store) (area_b new.store)) store
            (subst (λ t. Extends w (Spells mid.store.kind mid.store.number) (λ frames. SpellsEach frames (with_change t step)) (area_a mid.store) (area_b mid.store) (area_a new.store) (area_b new.store))
            (still_tells old mid range still) (images h))

        by_result : (r : Result ⊤ KeptRefused) (result : Result Reply ActRefused) → IsMadePassed changes.tick r result → AfterChange (ranges_sense drawn ready kin) mid new step r → IsKeptFaultAlone r
            → Replies drawn ready kin w honest marked command now old new result ((range_outcome marked.range command now).tick)
        by_result (Ok x) result p a i =
            subst (λ q. Replies drawn ready kin w honest marked command now old new q ((range_outcome marked.range command now).tick)) (sym p)
            (subst (λ (t : Option ℕ). Replies drawn ready kin w honest marked command now old new (Ok (reply.Changed changes.tick)) t) (sym tick) (
              ap (λ (o : Outcome). o.answer) asked.due,
              record { step = step; asked = is_asked; spare = still.0; done = subst (λ (h : List (Marked T)). IsDone (ranges_sense drawn ready kin) h step new.held) held a.0; clear = a.1; running = a.2; images = images_from },
            ))
        by_result (Err (kept.DiskFault area)) result p a i =
            subst (λ q. Replies drawn ready kin w honest marked command now old new q ((range_outcome marked.range command now).tick)) (sym p)
            (subst (λ (t : Option ℕ). Replies drawn ready kin w honest marked command now old new (Err (refused.DiskFault area)) t) (sym tick)
            (record { step = step; asked = is_asked; spare = still.0; held = a.0 ∙ held; doubt = a.1; failed = a.2; images = images_from }))
        by_result (Err (kept.Damaged area at)) result p a i = absurd i
        by_result (Err kept.EpochSpent) result p a i = absurd i
        by_result (Err kept.Memory) result p a i = absurd i

        passed_causes : (r : Result ⊤ KeptRefused) (result : Result Reply ActRefused) → IsMadePassed changes.tick r result → KeptCauses faults mid new r → ServerCauses faults old new result
        passed_causes (Ok x) result p c = subst (λ q. ServerCauses faults old new q) (sym p) (causes_from old mid new (Ok x) (Ok (reply.Changed changes.tick)) store c (λ a e. absurd (ok_apart a e)))
        passed_causes (Err k) result p c = subst (λ q. ServerCauses faults old new q) (sym p) (causes_from old mid new (Err k) (Err (act_refused k)) store c (λ a e. fault_as k a e))

-- ---- what calls on what is held find

-- the key of a command lies in the range that it is for
pub key_inside : {T : Type 0} (held : List (Marked T)) (range : ℕ) (command : Command) (marked read : Marked T) → IsServed held range command marked → Some read ≡ range_of held range → IsTrue (has read.range.span (command_key command))
key_inside held range command marked read served is =
    let both : Some read ≡ Some marked = is ∙ served.number in
    let same : marked ≡ read = cc in
    subst (λ (m : Marked _). IsTrue (has m.range.span (command_key command))) same (is_meant held (command_key command) marked served.meant).inside

pub no_place_served : {T : Type 0} (held : List (Marked T)) (range : ℕ) (command : Command) (marked : Marked T) → IsServed held range command marked → All (λ m. m.range.id ≢ range) held → ⊥
no_place_served held range command marked served none = none-some marked (sym (no_place held range none) ∙ served.number)

-- at a place stands a range that is for a command which changes nothing, and its tally may draw a stroke
pub record IsSilent {T : Type 0} (is_ready : T → ℕ → Type 0) (items : List (Marked T)) (range place : ℕ) (command : Command) (now : ℕ) (marked : Marked T) : Type 0 where
  pub stands : StandsAt items range place marked
  pub served : IsServed items range command marked
  pub due : (range_outcome marked.range command now).tick ≡ None
  pub inside : IsTrue (has marked.range.span (command_key command))
  pub ready : (tally : T) × (marked.range.tally ≡ Some tally) × is_ready tally 1

pub silent_at : {T : Type 0} (ready : T → ℕ → Type 0) (items held : List (Marked T)) (range place : ℕ) (command : Command) (now : ℕ) (marked : Marked T) → items ≡ held → IsHolding items
    → ((m : Marked T) × IsServed held range command m × ((range_outcome m.range command now).tick ≡ None) × ((tally : T) × (m.range.tally ≡ Some tally) × ready tally 1))
    → ((found : Marked T) × StandsAt held range place found) → marked ≡ get_or items place marked → IsSilent ready items range place command now marked
silent_at ready items held range place command now marked same holding due found is =
    let at = read_at items held range place marked same found is in
    let served : IsServed items range command due.0 = subst (λ (xs : List (Marked _)). IsServed xs range command due.0) (sym same) due.1 in
    let both : Some due.0 ≡ Some marked = sym served.number ∙ found_at items range place marked holding.apart at.here at.number in
    let one : due.0 ≡ marked = cc in
    let silent : IsSilent ready items range place command now due.0 = record {
      stands = subst (λ (m : Marked _). StandsAt items range place m) (sym one) at;
      served = served;
      due = due.2;
      inside = (is_meant items (command_key command) due.0 served.meant).inside;
      ready = due.3;
    } in
    subst (λ (m : Marked _). IsSilent ready items range place command now m) one silent

tallied : {T : Type 0} (mark : Mark) (before after : Option T) → takes_commands mark ≡ true → IsUncounted mark after
tallied Serving before after takes = tt
tallied Sealed before after takes = tt
tallied (Copy whole) before after takes = absurd cc

pub tally_set : {T : Type 0} (drawn : T → Stroke Told → T → Type 0) (ready : T → ℕ → Type 0) (kin : T → T → Type 0) (items held : List (Marked T)) (range place : ℕ) (told : Told) (now : ℕ) (marked : Marked T) (new : RangeView T) → items ≡ held → IsHolding items
    → IsSilent ready items range place told.command now marked → new ≡ record marked.range { tally = new.tally } → DrewOne drawn ready kin told now marked.range.tally new.tally
    → IsHolding (set items place (record marked { range = new }))
    × ((m : Marked T) × (tally : Option T) × IsServed held range told.command m × (set items place (record marked { range = new }) ≡ at_number range (with_tally tally) held) × DrewOne drawn ready kin told now m.range.tally tally)
tally_set drawn ready kin items held range place told now marked new same holding silent kept drew =
    let changed : with_tally new.tally marked ≡ record marked { range = new } = ap (λ (r : RangeView _). record marked { range = r }) (sym kept) in
    let takes = (is_meant items (command_key told.command) marked silent.served.meant).takes in
    let both = one_set items held range place marked (with_tally new.tally) same holding silent.stands refl (tallied marked.mark marked.range.tally new.tally takes) in (
      subst (λ (m : Marked _). IsHolding (set items place m)) changed both.0,
      (marked, new.tally, subst (λ (xs : List (Marked _)). IsServed xs range told.command marked) same silent.served, ap (set items place) (sym changed) ∙ both.1, drew),
    )

-- ---- denials

by_row : (o : Option RowView) (why : Denied) → found_or_not o ≡ Err why → IsRangeDenial why
by_row (Some row) why e = absurd cc
by_row None why e = let same : denied.NotFound ≡ why = cc in subst IsRangeDenial same tt

by_group : (rows : List RowView) (next_tick tick : ℕ) (b : Bool) (r : Result (List RowView) OpRefused) (why : Denied)
    → (if b then unchanged rows next_tick (Err denied.TimeSpent) else group_answered rows next_tick tick r).answer ≡ Err why → IsRangeDenial why
by_group rows next_tick tick true r why e = let same : denied.TimeSpent ≡ why = cc in subst IsRangeDenial same tt
by_group rows next_tick tick false (Ok after) why e = absurd cc
by_group rows next_tick tick false (Err reason) why e = let same : denied.Op reason ≡ why = cc in subst IsRangeDenial same tt

denial_is : (rows : List RowView) (next_tick : ℕ) (hi : Bound) (table : ℕ) (asked : What) (now : ℕ) (why : Denied) → (outcome_of rows next_tick hi table asked now).answer ≡ Err why → IsRangeDenial why
denial_is rows next_tick hi table (what.Get pk rk) now why e = by_row (row_at rows (record { table = table; pk = pk; rk = rk })) why e
denial_is rows next_tick hi table (what.Page options) now why e = absurd cc
denial_is rows next_tick hi table (what.Change group) now why e =
    by_group rows next_tick (max now next_tick) (nat_lt GREATEST (max now next_tick)) (group_outcome rows table (max now next_tick) group) why e

-- what a range denies a command by
pub denials : {T : Type 0} (range : RangeView T) (command : Command) (now : ℕ) (r : Result Answer Denied) → IsDue range.rows range.next_tick (range_outcome range command now) r → IfErr r (λ d. d ≢ denied.Memory → IsRangeDenial d)
denials range command now (Ok answered) due = tt
denials range command now (Err why) due = λ differs. denial_is range.rows range.next_tick range.span.hi command.table command.what now why (ap (λ (o : Outcome). o.answer) (due differs))

-- ---- what is changed in memory alone

-- the tally of a range drew the stroke of a command that changes nothing
abbrev pub IsTallied : {T : Type 0} → (T → Stroke Told → T → Type 0) → (T → ℕ → Type 0) → (T → T → Type 0) → ℕ → Command → ℕ → List (Marked T) → List (Marked T) → Type 0
IsTallied {T} drawn ready kin range command now lent new = (marked : Marked T) × (tally : Option T) × IsServed lent range command marked × (new ≡ at_number range (with_tally tally) lent)
    × DrewOne drawn ready kin (record { command = command; tick = None }) now marked.range.tally tally

module _ {D T : Type 0} (drawn : T → Stroke Told → T → Type 0) (ready : T → ℕ → Type 0) (kin : T → T → Type 0) where
  pub roomed_still : (inside old : ServerView D T) (lent new : List (Marked T)) (range : ℕ) → inside ≡ old → lent ≡ inside.held → ((spare : ℕ) × (new ≡ at_number range (with_spare spare) lent))
      → IsStill drawn ready kin range old (record inside { held = new })
  roomed_still inside old lent new range same is kept =
      let held : new ≡ at_number range (with_spare kept.0) inside.held = kept.1 ∙ ap (at_number range (with_spare kept.0)) is in
      (kept.0, ap (λ (h : List (Marked T)). record inside { held = h }) held ∙ ap (λ (k : ServerView D T). record k { held = at_number range (with_spare kept.0) k.held }) same)

  pub roomed_stands : (inside : ServerView D T) (lent new : List (Marked T)) (range : ℕ) → lent ≡ inside.held → ((spare : ℕ) × (new ≡ at_number range (with_spare spare) lent)) → StandsStill (ranges_sense drawn ready kin) inside.held inside.doubt new
  roomed_stands inside lent new range is kept =
      still_told drawn ready kin inside.held new inside.doubt (ap told_ranges kept.1 ∙ told_at range (with_spare kept.0) (λ m. refl) lent ∙ ap told_ranges is)

  pub stroke_told : (inside old : ServerView D T) (lent new : List (Marked T)) (range : ℕ) (command : Command) (now : ℕ) → inside ≡ old → lent ≡ inside.held → IsTallied drawn ready kin range command now lent new
      → (marked : Marked T) × (range_for old.held (command_key command) ≡ Some marked) × IsTold drawn ready kin marked command now old (record inside { held = new })
  stroke_told inside old lent new range command now same is told =
      let lent_is : lent ≡ old.held = is ∙ ap (λ (k : ServerView D T). k.held) same in
      let number : range ≡ told.0.range.id = sym (has_number lent range told.0 told.2.number) in
      let held : new ≡ at_number told.0.range.id (with_tally told.1) inside.held = told.3 ∙ ap (λ n. at_number n (with_tally told.1) lent) number ∙ ap (at_number told.0.range.id (with_tally told.1)) is in (
        told.0,
        ap (λ (h : List (Marked T)). range_for h (command_key command)) (sym lent_is) ∙ told.2.meant,
        record {
          tally = told.1;
          is = ap (λ (h : List (Marked T)). record inside { held = h }) held ∙ ap (λ (k : ServerView D T). record k { held = at_number told.0.range.id (with_tally told.1) k.held }) same;
          drew = told.4;
        },
      )

  pub tallied_stands : (inside : ServerView D T) (lent new : List (Marked T)) (range : ℕ) (command : Command) (now : ℕ) → lent ≡ inside.held → IsTallied drawn ready kin range command now lent new → StandsStill (ranges_sense drawn ready kin) inside.held inside.doubt new
  tallied_stands inside lent new range command now is told =
      still_told drawn ready kin inside.held new inside.doubt (ap told_ranges told.3 ∙ told_at range (with_tally told.1) (λ m. refl) lent ∙ ap told_ranges is)

  pub silent_there : (old inside : ServerView D T) (lent : List (Marked T)) (range : ℕ) (command : Command) (now : ℕ) → inside ≡ old → lent ≡ inside.held → IsReadyToAct drawn ready kin old command
      → ((marked : Marked T) × IsServed old.held range command marked × ((range_outcome marked.range command now).tick ≡ None))
      → (marked : Marked T) × IsServed lent range command marked × ((range_outcome marked.range command now).tick ≡ None) × ((tally : T) × (marked.range.tally ≡ Some tally) × ready tally 1)
  silent_there old inside lent range command now same is ready_to due =
      let lent_is : old.held ≡ lent = ap (λ (k : ServerView D T). k.held) (sym same) ∙ sym is in
      (due.0, subst (λ (h : List (Marked T)). IsServed h range command due.0) lent_is due.1, due.2, can_draw drawn ready kin old command due.0 ready_to due.1.meant)

pub found_there : {T : Type 0} (held : List (Marked T)) (range : ℕ) (command : Command) (marked : Marked T) → IsServed held range command marked → range_of held range ≢ None
found_there held range command marked served none = none-some marked (sym none ∙ served.number)
