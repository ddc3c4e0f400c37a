-- Why a run over a schedule that it can serve stops only at its end, for want of memory, or at a fault.
use Rattle.std.proofs.Common.{◌≡◌, ℕ, ◌+◌, ◌≤◌, ◌<◌, ◌⊎◌, List, [], ◌∷◌, ◌++◌, length, map, refl, sym, ◌∙◌, subst, arith, inl, inr, append_assoc, length-append, Option, Some, None}
use Rattle.std.specs.Prelude.{flat_map, Contains}
use Rattle.std.specs.List.{AllByRecursion}
use Rattle.std.specs.Io.KnownBytes.{Consumes}
use Rattle.tab_auth.specs.declared.signatures.Keys.{Keys}
use Rattle.tab_history.specs.declared.entries.Entry.{Entry}
use Rattle.tab_drive.specs.Schedule.{spelling, Fits, end_line}
use Rattle.tab_drive.specs.RunStates.{RunState, Exchange, opened_state, last_number, Follows, state_after, state_after_all, bytes_of, IsRefused}
use Rattle.tab_drive.specs.Runs.{Traffic, RefusedNext, Stops}
use Rattle.tab_drive.specs.Commands.{status_of, exit_statuses}
use Rattle.tab_drive.specs.Completeness.{IsServable}
use Rattle.tab_drive.specs.declared.schedule.Scheduled.{Scheduled}
use Rattle.tab_drive.specs.declared.serving.RunStop.{RunStop}
use Rattle.tab_drive.specs.declared.serving.RunStop.TheVariants.{End, Refused, ReadFault, WriteFault, Memory}
use Rattle.tab_drive.proofs.Spellings.{one_event, event_not_end}

-- the events of exchanges
abbrev events_of : List Exchange → List Scheduled
events_of exchanges = map (λ exchange. exchange.event) exchanges

-- the events of exchanges are the first of a schedule whose bytes begin with theirs, and the bytes behind are the others'
record IsFront (events : List Scheduled) (exchanges : List Exchange) (behind rest : List ℕ) : Type 0 where
  pub others : List Scheduled
  pub fit : AllByRecursion Fits others
  pub events_are : events ≡ events_of exchanges ++ others
  pub behind_is : behind ≡ flat_map spelling others ++ (end_line ++ rest)

one_more : (x e : Scheduled) (xs : List Exchange) (es others : List Scheduled) → x ≡ e → es ≡ events_of xs ++ others → e ∷ es ≡ x ∷ (events_of xs ++ others)
one_more x e xs es others same are = cc

front_is : (keys : Keys) (state : RunState) (exchanges : List Exchange) (events : List Scheduled) (behind rest : List ℕ) → Follows keys state exchanges → AllByRecursion Fits events
    → bytes_of exchanges ++ behind ≡ flat_map spelling events ++ (end_line ++ rest) → IsFront events exchanges behind rest
front_is keys state [] events behind rest follows fit is = record { others = events; fit = fit; events_are = refl; behind_is = is }
front_is keys state (x ∷ xs) [] behind rest follows fit is =
    absurd (event_not_end x.event (bytes_of xs ++ behind) rest follows.0 (sym (append_assoc (spelling x.event) (bytes_of xs) behind) ∙ is))
front_is keys state (x ∷ xs) (e ∷ es) behind rest follows fit is =
    let first = one_event x.event e (bytes_of xs ++ behind) (flat_map spelling es ++ (end_line ++ rest)) follows.0 fit.0
    (sym (append_assoc (spelling x.event) (bytes_of xs) behind) ∙ is ∙ append_assoc (spelling e) (flat_map spelling es) (end_line ++ rest)) in
    let front = front_is keys (state_after state x.event x.entries) xs es behind rest follows.3 fit.1 first.1 in
    record { others = front.others; fit = front.fit; events_are = one_more x.event e xs es front.others first.0 front.events_are; behind_is = front.behind_is }

-- where the schedule goes on, or ends, nothing is refused but for want of a number
none_refused : (state : RunState) (others : List Scheduled) (behind rest : List ℕ) → AllByRecursion Fits others → behind ≡ flat_map spelling others ++ (end_line ++ rest)
    → (0 < length others → state.number < last_number) → IsRefused state behind → ⊥
none_refused state [] behind rest fit is numbered (inl none) = none.no_end rest is
none_refused state [] behind rest fit is numbered (inr spent) = spent.1 rest is
none_refused state (event ∷ later) behind rest fit is numbered (inl none) =
    none.no_event event (flat_map spelling later ++ (end_line ++ rest)) fit.0 (is ∙ append_assoc (spelling event) (flat_map spelling later) (end_line ++ rest))
none_refused state (event ∷ later) behind rest fit is numbered (inr spent) =
    let more : 0 < length (event ∷ later) = omega arith in
    let below : state.number < last_number = numbered more in
    let over : last_number ≤ state.number = spent.0 in
    omega arith

-- each exchange takes one number
number_after : (state : RunState) (exchanges : List Exchange) → (state_after_all state exchanges).number ≡ state.number + length exchanges
unfolding state_after
number_after state [] = omega arith
number_after state (x ∷ xs) = let later = number_after (state_after state x.event x.entries) xs in omega (arith, later)

first_number : (moment : ℕ) → (opened_state moment).number ≡ 1
unfolding opened_state
first_number moment = refl

as_many_events : (exchanges : List Exchange) → length (events_of exchanges) ≡ length exchanges
as_many_events [] = refl
as_many_events (x ∷ xs) = let later = as_many_events xs in omega (arith, later)

-- a number is left for each event of a schedule that is servable
numbered_next : (moment : ℕ) (exchanges : List Exchange) (events others : List Scheduled) → events ≡ events_of exchanges ++ others → length events < last_number
    → 0 < length others → (state_after_all (opened_state moment) exchanges).number < last_number
numbered_next moment exchanges events others are below more =
    let all : length (events_of exchanges ++ others) < last_number = subst (λ (e : List Scheduled). length e < last_number) are below in
    let at = number_after (opened_state moment) exchanges in
    omega (arith, all, more, at, first_number moment, length-append (events_of exchanges) others, as_many_events exchanges)

told_rest : (left behind : Option (List ℕ)) (bytes taken : List ℕ) → left ≡ Some bytes → Consumes left behind taken → (rest : List ℕ) × (behind ≡ Some rest) × (bytes ≡ taken ++ rest)
told_rest None behind bytes taken told read = absurd (cc)
told_rest (Some left) None bytes taken told read = absurd read
told_rest (Some left) (Some rest) bytes taken told read = (rest, refl, cc)

not_refused : (keys : Keys) (bytes : List ℕ) (moment : ℕ) (traffic : Traffic) (history : List Entry) (done : ℕ) → traffic.left_before ≡ Some bytes → IsServable bytes
    → RefusedNext keys moment traffic history done → ⊥
not_refused keys bytes moment traffic history done told servable refused =
    let xs = refused.exchanges in
    let parts = told_rest traffic.left_before refused.behind bytes (bytes_of xs) told refused.read in
    let whole = servable.whole in
    let front = front_is keys (opened_state moment) xs servable.events parts.0 whole.rest refused.ran.follows whole.fit (sym parts.2 ∙ whole.spelled) in
    none_refused (state_after_all (opened_state moment) xs) front.others parts.0 whole.rest front.fit front.behind_is
    (numbered_next moment xs servable.events front.others front.events_are servable.numbered)
    (refused.refused parts.0 parts.1)

-- a run over such a schedule stops at its end or for want of memory, where neither fault came
pub completed : (keys : Keys) (bytes : List ℕ) (moment : ℕ) (traffic : Traffic) (history : List Entry) (done : ℕ) (stop : RunStop) (P Q : Type 0)
    → traffic.left_before ≡ Some bytes → IsServable bytes → Stops keys moment traffic history done stop
    → (stop ≡ ReadFault → P) → (stop ≡ WriteFault → Q) → (P → ⊥) → (Q → ⊥) → (status_of stop ≡ 0) ⊎ (status_of stop ≡ 7)
completed keys bytes moment traffic history done End P Q told servable stops read write sound kept = inl refl
completed keys bytes moment traffic history done Refused P Q told servable stops read write sound kept =
    absurd (not_refused keys bytes moment traffic history done told servable stops)
completed keys bytes moment traffic history done ReadFault P Q told servable stops read write sound kept = absurd (sound (read refl))
completed keys bytes moment traffic history done WriteFault P Q told servable stops read write sound kept = absurd (kept (write refl))
completed keys bytes moment traffic history done Memory P Q told servable stops read write sound kept = inr refl

-- each stop has one of the exit statuses
pub status_listed : (stop : RunStop) → Contains exit_statuses (status_of stop)
status_listed End = (0, omega arith, refl)
status_listed Refused = (2, omega arith, refl)
status_listed ReadFault = (3, omega arith, refl)
status_listed WriteFault = (4, omega arith, refl)
status_listed Memory = (6, omega arith, refl)
