-- Exchanges put together, and what a run that goes on or stops has come to.
use Rattle.std.proofs.Common.{◌≡◌, ℕ, ◌+◌, List, [], ◌∷◌, ◌++◌, length, take, refl, sym, ap, ◌∙◌, subst, arith, append-nil, length-append}
use Rattle.std.specs.Prelude.{Option, Some, None}
use Rattle.std.specs.Io.KnownBytes.{Consumes, Appends}
use Rattle.std.proofs.KnownBytes.{Consumes-trans, Appends-trans}
use Rattle.std.proofs.lemmas.Grind.{flat_map-append}
use Rattle.std.specs.Prelude.{IsTrue}
use Rattle.std.proofs.lemmas.List.Elements.{All-cons, All-nil}
use Rattle.tab_keys.specs.Order.{bound_lt}
use Rattle.tab_keys.specs.declared.bounds.Bound.TheVariants.{At, End}
use Rattle.tab_auth.specs.declared.signatures.Keys.{Keys}
use Rattle.tab_history.specs.Legality.{State, EachAllowed, Legal, after_all}
use Rattle.tab_history.specs.declared.entries.Entry.{Entry}
use Rattle.tab_history.proofs.DoubtLaws.{none_open}
use Rattle.tab_history.proofs.HistoryLaws.{after_all-append, Legal-more}
use Rattle.tab_drive.specs.Schedule.{spelling, end_line}
use Rattle.tab_core.specs.Courses.{first_state}
use Rattle.tab_drive.specs.RunStates.{RunState, Exchange, opened_state, opening, Follows, state_after, state_after_all, bytes_of, entries_of, text_of}
use Rattle.tab_drive.specs.Sessions.{Keeps}
use Rattle.tab_drive.specs.Runs.{Exchanged, EventServed, NoneServed, StopsServing, LeftOff, Stops}
use Rattle.tab_drive.specs.declared.session.Session.{Session}
use Rattle.tab_drive.specs.declared.serving.RunStop.{RunStop}
use Rattle.tab_drive.specs.declared.serving.RunStop.TheVariants.{End, Refused, ReadFault, WriteFault, Memory}

Follows-append : (keys : Keys) (state : RunState) (xs ys : List Exchange) → Follows keys state xs → Follows keys (state_after_all state xs) ys → Follows keys state (xs ++ ys)
Follows-append keys state [] ys first rest = rest
Follows-append keys state (x ∷ xs) ys first rest =
    (first.0, first.1, first.2, Follows-append keys (state_after state x.event x.entries) xs ys first.3 rest)

state_after_all-append : (state : RunState) (xs ys : List Exchange) → state_after_all state (xs ++ ys) ≡ state_after_all (state_after_all state xs) ys
state_after_all-append state [] ys = refl
state_after_all-append state (x ∷ xs) ys = state_after_all-append (state_after state x.event x.entries) xs ys

state_after-past : (state : RunState) (x : Exchange) → (state_after state x.event x.entries).past ≡ after_all state.past x.entries
unfolding state_after
state_after-past state x = refl

state_after-number : (state : RunState) (x : Exchange) → (state_after state x.event x.entries).number ≡ state.number + 1
unfolding state_after
state_after-number state x = refl

state_after_all-past : (state : RunState) (xs : List Exchange) → (state_after_all state xs).past ≡ after_all state.past (entries_of xs)
state_after_all-past state [] = refl
state_after_all-past state (x ∷ xs) =
    state_after_all-past (state_after state x.event x.entries) xs
    ∙ ap (λ (s : State). after_all s (entries_of xs)) (state_after-past state x)
    ∙ sym (after_all-append state.past x.entries (entries_of xs))

opened_state-past : (moment : ℕ) → (opened_state moment).past ≡ after_all first_state (opening ∷ [])
unfolding opened_state
opened_state-past moment = refl

-- the state is that where the history ended
past_is : (moment : ℕ) (xs : List Exchange) → (state_after_all (opened_state moment) xs).past ≡ after_all first_state (opening ∷ entries_of xs)
past_is moment xs = state_after_all-past (opened_state moment) xs ∙ ap (λ (s : State). after_all s (entries_of xs)) (opened_state-past moment)

bytes_of-push : (xs : List Exchange) (x : Exchange) → bytes_of (xs ++ x ∷ []) ≡ bytes_of xs ++ spelling x.event
bytes_of-push xs x = flat_map-append (λ (y : Exchange). spelling y.event) xs (x ∷ []) ∙ ap (λ (b : List ℕ). bytes_of xs ++ b) (append-nil (spelling x.event))

entries_of-push : (xs : List Exchange) (x : Exchange) → entries_of (xs ++ x ∷ []) ≡ entries_of xs ++ x.entries
entries_of-push xs x = flat_map-append (λ (y : Exchange). y.entries) xs (x ∷ []) ∙ ap (λ (b : List Entry). entries_of xs ++ b) (append-nil x.entries)

text_of-push : (xs : List Exchange) (x : Exchange) → text_of (xs ++ x ∷ []) ≡ text_of xs ++ x.text
text_of-push xs x = flat_map-append (λ (y : Exchange). y.text) xs (x ∷ []) ∙ ap (λ (b : List ℕ). text_of xs ++ b) (append-nil x.text)

-- what a run has come to that has not stopped
pub record Going (keys : Keys) (moment : ℕ) (left_before left taken_before taken : Option (List ℕ)) (session : Session) (done : ℕ) : Type 0 where
  pub exchanges : List Exchange
  pub follows : Follows keys (opened_state moment) exchanges
  pub history : session.history ≡ opening ∷ entries_of exchanges
  pub legal : Legal first_state session.history
  pub keeps : Keeps session (state_after_all (opened_state moment) exchanges)
  pub read : Consumes left_before left (bytes_of exchanges)
  pub written : Appends taken_before taken (text_of exchanges)
  pub counted : done ≡ length exchanges
  pub numbered : session.number ≡ done + 1

-- the history with one more exchange
history_push : (keys : Keys) (moment : ℕ) (xs : List Exchange) (x : Exchange) (old new : Session) → old.history ≡ opening ∷ entries_of xs
    → Exchanged keys (state_after_all (opened_state moment) xs) x old new → new.history ≡ opening ∷ entries_of (xs ++ x ∷ [])
history_push keys moment xs x old new before more =
    more.history ∙ ap (λ (h : List Entry). h ++ x.entries) before ∙ ap (λ (h : List Entry). opening ∷ h) (sym (entries_of-push xs x))

legal_push : (keys : Keys) (moment : ℕ) (xs : List Exchange) (x : Exchange) (old new : Session) → old.history ≡ opening ∷ entries_of xs → Legal first_state old.history
    → Exchanged keys (state_after_all (opened_state moment) xs) x old new → Legal first_state new.history
legal_push keys moment xs x old new before legal more =
    subst (λ (h : List Entry). Legal first_state h) (sym more.history)
    (Legal-more first_state old.history x.entries legal
    (subst (λ (s : State). EachAllowed s x.entries) (past_is moment xs ∙ ap (λ (h : List Entry). after_all first_state h) (sym before)) more.allowed))

follows_push : (keys : Keys) (moment : ℕ) (xs : List Exchange) (x : Exchange) (old new : Session) → Follows keys (opened_state moment) xs
    → Exchanged keys (state_after_all (opened_state moment) xs) x old new → Follows keys (opened_state moment) (xs ++ x ∷ [])
follows_push keys moment xs x old new before more =
    Follows-append keys (opened_state moment) xs (x ∷ []) before (more.fits, more.numbered, more.happens, tt)

-- a run that goes on by one exchange
pub going_on : (keys : Keys) (moment : ℕ) (l0 l1 l2 t0 t1 t2 : Option (List ℕ)) (old new : Session) (done : ℕ) → (going : Going keys moment l0 l1 t0 t1 old done)
    → EventServed keys (state_after_all (opened_state moment) going.exchanges) (record { left_before = l1; left = l2; taken_before = t1; taken = t2 }) old new
    → Going keys moment l0 l2 t0 t2 new (done + 1)
going_on keys moment l0 l1 l2 t0 t1 t2 old new done going served =
    let xs = going.exchanges in
    let x = served.exchange in
    let keeps : Keeps new (state_after_all (opened_state moment) (xs ++ x ∷ [])) = rw (state_after_all-append (opened_state moment) xs (x ∷ [])) served.exchanged.keeps in
    record {
      exchanges = xs ++ x ∷ [];
      follows = follows_push keys moment xs x old new going.follows served.exchanged;
      history = history_push keys moment xs x old new going.history served.exchanged;
      legal = legal_push keys moment xs x old new going.history going.legal served.exchanged;
      keeps = keeps;
      read = rw (bytes_of-push xs x) (Consumes-trans l0 l1 l2 (bytes_of xs) (spelling x.event) going.read served.read);
      written = rw (text_of-push xs x) (Appends-trans t0 t1 t2 (text_of xs) x.text going.written served.written);
      counted = let n = length-append xs (x ∷ []) in let c : done ≡ length xs = going.counted in omega (arith, n, c);
      numbered = served.exchanged.keeps.number ∙ state_after-number (state_after_all (opened_state moment) xs) x ∙ ap (λ (n : ℕ). n + 1) (sym going.keeps.number ∙ going.numbered);
    }

-- what was written stays where nothing was
written_still : (t0 t1 t2 : Option (List ℕ)) (text : List ℕ) → t2 ≡ t1 → Appends t0 t1 text → Appends t0 t2 text
written_still t0 t1 t2 text same written = subst (λ (t : Option (List ℕ)). Appends t0 t text) (sym same) written

left_off : (P : List ℕ → Type 0) (keys : Keys) (moment : ℕ) (l0 l1 l2 t0 t1 t2 : Option (List ℕ)) (old new : Session) (done : ℕ) → Going keys moment l0 l1 t0 t1 old done
    → NoneServed P (record { left_before = l1; left = l2; taken_before = t1; taken = t2 }) old new
    → LeftOff P keys moment (record { left_before = l0; left = l2; taken_before = t0; taken = t2 }) new.history done
left_off P keys moment l0 l1 l2 t0 t1 t2 old new done going idle = record {
  exchanges = going.exchanges;
  ran = record { follows = going.follows; acted = idle.history ∙ going.history };
  part = idle.part;
  are = idle.are;
  read = Consumes-trans l0 l1 l2 (bytes_of going.exchanges) idle.part going.read idle.read;
  written = written_still t0 t1 t2 (text_of going.exchanges) idle.written going.written;
  counted = going.counted;
}

-- a run that stops
pub stopped : (keys : Keys) (moment : ℕ) (l0 l1 l2 t0 t1 t2 : Option (List ℕ)) (old new : Session) (done : ℕ) (stop : RunStop) → (going : Going keys moment l0 l1 t0 t1 old done)
    → StopsServing keys (state_after_all (opened_state moment) going.exchanges) (record { left_before = l1; left = l2; taken_before = t1; taken = t2 }) old new stop
    → Stops keys moment (record { left_before = l0; left = l2; taken_before = t0; taken = t2 }) new.history done stop
stopped keys moment l0 l1 l2 t0 t1 t2 old new done End going halts = record {
  exchanges = going.exchanges;
  ran = record { follows = going.follows; acted = halts.history ∙ going.history };
  read = Consumes-trans l0 l1 l2 (bytes_of going.exchanges) end_line going.read (subst (λ (b : List ℕ). Consumes l1 l2 b) halts.are halts.read);
  written = written_still t0 t1 t2 (text_of going.exchanges) halts.written going.written;
  counted = going.counted;
}
stopped keys moment l0 l1 l2 t0 t1 t2 old new done Refused going halts = record {
  exchanges = going.exchanges;
  ran = record { follows = going.follows; acted = halts.1.history ∙ going.history };
  behind = l1;
  read = going.read;
  refused = halts.0;
  part = halts.1.part;
  within = halts.1.are;
  further = halts.1.read;
  written = written_still t0 t1 t2 (text_of going.exchanges) halts.1.written going.written;
  counted = going.counted;
}
stopped keys moment l0 l1 l2 t0 t1 t2 old new done ReadFault going halts = left_off _ keys moment l0 l1 l2 t0 t1 t2 old new done going halts
stopped keys moment l0 l1 l2 t0 t1 t2 old new done WriteFault going halts =
    let xs = going.exchanges in
    let x = halts.exchange in
    record {
      exchanges = xs;
      last = x;
      ran = record { follows = follows_push keys moment xs x old new going.follows halts.exchanged; acted = history_push keys moment xs x old new going.history halts.exchanged };
      read = rw (bytes_of-push xs x) (Consumes-trans l0 l1 l2 (bytes_of xs) (spelling x.event) going.read halts.read);
      count = halts.written.count;
      short = halts.written.short;
      written = Appends-trans t0 t1 t2 (text_of xs) (take halts.written.count x.text) going.written halts.written.taken;
      counted = going.counted;
    }
stopped keys moment l0 l1 l2 t0 t1 t2 old new done Memory going halts = left_off _ keys moment l0 l1 l2 t0 t1 t2 old new done going halts

legal_still : (old new : Session) → new.history ≡ old.history → Legal first_state old.history → Legal first_state new.history
legal_still old new same legal = subst (λ (h : List Entry). Legal first_state h) (sym same) legal

-- its history is legal
pub stopped_legal : (keys : Keys) (moment : ℕ) (l0 l1 l2 t0 t1 t2 : Option (List ℕ)) (old new : Session) (done : ℕ) (stop : RunStop) → (going : Going keys moment l0 l1 t0 t1 old done)
    → StopsServing keys (state_after_all (opened_state moment) going.exchanges) (record { left_before = l1; left = l2; taken_before = t1; taken = t2 }) old new stop
    → Legal first_state new.history
stopped_legal keys moment l0 l1 l2 t0 t1 t2 old new done End going halts = legal_still old new halts.history going.legal
stopped_legal keys moment l0 l1 l2 t0 t1 t2 old new done Refused going halts = legal_still old new halts.1.history going.legal
stopped_legal keys moment l0 l1 l2 t0 t1 t2 old new done ReadFault going halts = legal_still old new halts.history going.legal
stopped_legal keys moment l0 l1 l2 t0 t1 t2 old new done WriteFault going halts = legal_push keys moment going.exchanges halts.exchange old new going.history going.legal halts.exchanged
stopped_legal keys moment l0 l1 l2 t0 t1 t2 old new done Memory going halts = legal_still old new halts.history going.legal

-- a run begins
pub going_first : (keys : Keys) (moment : ℕ) (l t : Option (List ℕ)) (session : Session) → Keeps session (opened_state moment) → session.history ≡ opening ∷ [] → Going keys moment l l t t session 0
unfolding opened_state
going_first keys moment l t session keeps history = record {
  exchanges = [];
  follows = tt;
  history = history;
  legal = subst (λ (h : List Entry). Legal first_state h) (sym history) (record { doubts = none_open first_state.world; steps = ((refl, (λ i j d h k. absurd (omega arith)), All-cons (λ b. IsTrue (bound_lt b End)) (At 0 []) [] refl (All-nil (λ b. IsTrue (bound_lt b End)))), tt) });
  keeps = keeps;
  read = nothing_read l;
  written = nothing_written t;
  counted = refl;
  numbered = keeps.number;
}
  where
    nothing_read : (l : Option (List ℕ)) → Consumes l l []
    nothing_read None = tt
    nothing_read (Some bytes) = refl

    nothing_written : (t : Option (List ℕ)) → Appends t t []
    nothing_written None = tt
    nothing_written (Some bytes) = sym (append-nil bytes)
