-- Bytes that come read by read.
use Rattle.std.proofs.Common.{◌≡◌, ◌≢◌, ℕ, ◌+◌, ◌-◌, ◌<◌, ◌≤◌, ◌↔◌, ◌⊎◌, ⊎_elim, inl, inr, List, ◌++◌, length, take, drop, refl, sym, ap, ◌∙◌, subst, arith, append_assoc, length-append, take-append-drop}
use Rattle.std.specs.Prelude.{Option, Bool, true, false, fold}
use Rattle.std.specs.Io.KnownBytes.{IsAtEnd}
use Rattle.std.proofs.KnownBytes.{Consumes-trans}
use Rattle.std.proofs.lemmas.Bool.{both_ways}
use Rattle.std.proofs.lemmas.List.{take-append-le, take_at, take_rest, append-nil, drop_at, drop-append-le}
use Rattle.std.proofs.lemmas.List.Sums.{fold-append}
use Rattle.httparse.specs.Grammar.{RequestHead, print_request, ReadsRequest}
use Rattle.tab_http.proofs.HeadStateLemmas.{head_ends, ended_within}
use Rattle.tab_http.specs.Heads.{HasNoHead}
use Rattle.tab_http.specs.Messages.{RefusesHeadless, IsParsed, IsOpen, in_head}
use Rattle.tab_http.specs.HeadStates.{next_state, state_after}
use Rattle.tab_http.specs.Reading.{WereNeeded, none, last, Gathered, NeverHasHead, HeadRefused, IsReadRefusal, ReadRefused}
use Rattle.tab_http.specs.declared.head_states.HeadState.{HeadState}
use Rattle.tab_http.specs.declared.head_states.HeadState.TheVariants.{Blank, Ended}
use Rattle.tab_http.specs.declared.refusals.HttpRefused.{HttpRefused}
use Rattle.tab_http.specs.declared.refusals.HttpRefused.TheVariants.{EndBetween, EndInside, Malformed, HeadTooLong, NoLength, BodyTooLong, ReadFault, Memory}
use Rattle.tab_outside.specs.Transfers.{Moved}
use Rattle.tab_http.specs.declared.TheConstants.{LONGEST_HEAD, LONGEST_READ}

-- ---- read by read

-- one read more of what is still open
pub gathered_more : (old middle new : Option (List ℕ)) (before there after : List ℕ) → Gathered old middle before there → IsOpen there → Moved middle new there after → length after ≤ length there + LONGEST_READ
    → Gathered old new before after
gathered_more old middle new before there after first is_open moved little = record {
  came = first.came ++ moved.bytes;
  consumed = Consumes-trans old middle new first.came moved.bytes first.consumed moved.consumed;
  needed = last first.came moved.bytes refl (omega (arith, ap length moved.behind, length-append there moved.bytes, little)) (subst IsOpen first.behind is_open);
  behind = moved.behind ∙ ap (λ (xs : List ℕ). xs ++ moved.bytes) first.behind ∙ append_assoc before first.came moved.bytes;
}

-- bytes in which no head has ended are open
pub open_before_end : (bytes : List ℕ) → state_after bytes ≢ Ended → length bytes < LONGEST_HEAD → IsOpen bytes
open_before_end bytes not_yet short = in_head (λ h rest begins. not_yet (head_ends bytes h rest begins.reads)) short

-- bytes that never have a head still have none when more have come
pub still_none : (old new : Option (List ℕ)) (before after : List ℕ) → NeverHasHead before → Gathered old new before after → HasNoHead after
still_none old new before after never gathered = subst HasNoHead (sym gathered.behind) (never gathered.came)

-- bytes that never have a head are open
pub open_without_head : (old new : Option (List ℕ)) (before after : List ℕ) → NeverHasHead before → Gathered old new before after → length after < LONGEST_HEAD → IsOpen after
open_without_head old new before after never gathered short = in_head (still_none old new before after never gathered) short

-- the state behind all bytes, from that behind those which were seen
pub state_behind : (bytes : List ℕ) (seen : ℕ) (state : HeadState) → state ≡ state_after (take seen bytes) → fold next_state state (drop seen bytes) ≡ state_after bytes
state_behind bytes seen state is =
    ap (λ (p : HeadState). fold next_state p (drop seen bytes)) is ∙ sym (fold-append next_state Blank (take seen bytes) (drop seen bytes)) ∙ ap state_after (take-append-drop seen bytes)

-- the state is that of the bytes that were there
pub state_kept : (old new : Option (List ℕ)) (there after : List ℕ) (seen : ℕ) (state : HeadState) → seen ≡ length there → state ≡ state_after there → Moved old new there after → state ≡ state_after (take seen after)
state_kept old new there after seen state size is moved = is ∙ ap state_after (sym (ap (take seen) moved.behind ∙ take_at there moved.bytes seen (sym size)))

-- the state behind all bytes, as a scan from those that were seen on gives it
pub state_read : (bytes shown : List ℕ) (seen : ℕ) (state after : HeadState) → shown ≡ bytes → state ≡ state_after (take seen bytes) → after ≡ fold next_state state (take (length shown - seen) (drop seen shown)) → after ≡ state_after bytes
state_read bytes shown seen state after same is scanned = rw same at (rw take_rest at scanned) ∙ state_behind bytes seen state is

-- bytes behind which no head has ended, by a test of their state
pub open_at : (bytes : List ℕ) (state : HeadState) (test : Bool) → state ≡ state_after bytes → ((test ≡ true) ↔ (state ≡ Ended)) → test ≡ false → length bytes < LONGEST_HEAD → IsOpen bytes
open_at bytes state test is tells not_yet short = open_before_end bytes (λ ended. both_ways test not_yet (tells.1 (is ∙ ended))) short

-- a read that was refused where the bytes are open
pub read_refused : (bytes : List ℕ) (refused : HttpRefused) → IsReadRefusal refused → IsOpen bytes → ReadRefused bytes refused
read_refused bytes ReadFault may is_open = is_open
read_refused bytes Memory may is_open = tt
read_refused bytes EndBetween may is_open = absurd may
read_refused bytes EndInside may is_open = absurd may
read_refused bytes Malformed may is_open = absurd may
read_refused bytes HeadTooLong may is_open = absurd may
read_refused bytes NoLength may is_open = absurd may
read_refused bytes BodyTooLong may is_open = absurd may

-- the same as a head that is not given
pub head_unread : (new : Option (List ℕ)) (bytes : List ℕ) (refused : HttpRefused) → ReadRefused bytes refused → HeadRefused new bytes refused
head_unread new bytes ReadFault is_open = is_open
head_unread new bytes Memory is_open = tt
head_unread new bytes EndBetween is_open = absurd is_open
head_unread new bytes EndInside is_open = absurd is_open
head_unread new bytes Malformed is_open = absurd is_open
head_unread new bytes HeadTooLong is_open = absurd is_open
head_unread new bytes NoLength is_open = absurd is_open
head_unread new bytes BodyTooLong is_open = absurd is_open

-- two gatherings, one after the other, where the bytes between them never have a head
pub gathered_on : (old middle new : Option (List ℕ)) (before there after : List ℕ) → Gathered old middle before there → Gathered middle new there after → Gathered old new before after
gathered_on old middle new before there after first second = record {
  came = first.came ++ second.came;
  consumed = Consumes-trans old middle new first.came second.came first.consumed second.consumed;
  needed = needed_on before there first.came second.came first.behind first.needed second.needed;
  behind = second.behind ∙ ap (λ (xs : List ℕ). xs ++ second.came) first.behind ∙ append_assoc before first.came second.came;
}
  where
    needed_on : (before there xs ys : List ℕ) → there ≡ before ++ xs → WereNeeded before xs → WereNeeded there ys → WereNeeded before (xs ++ ys)
    needed_on before there xs ys is (none e) (none f) = none (ap (λ (zs : List ℕ). zs ++ ys) e ∙ f)
    needed_on before there xs ys is (last front more e little is_open) (none f) = last front more (ap (λ (zs : List ℕ). xs ++ zs) f ∙ append-nil xs ∙ e) little is_open
    needed_on before there xs ys is first (last front more e little is_open) =
        last (xs ++ front) more (ap (λ (zs : List ℕ). xs ++ zs) e ∙ sym (append_assoc xs front more)) little (subst IsOpen (ap (λ (zs : List ℕ). zs ++ front) is ∙ append_assoc before xs front) is_open)

-- ---- heads

-- a head in bytes that it does not go past is theirs
pub head_within : (bytes more : List ℕ) (h : RequestHead) (rest : List ℕ) → ReadsRequest (bytes ++ more) h rest → length (print_request h) ≤ length bytes
    → ReadsRequest bytes h (drop (length (print_request h)) bytes) × (rest ≡ drop (length (print_request h)) bytes ++ more)
head_within bytes more h rest reads short =
    let size = length (print_request h) in
    let front : take size bytes ≡ print_request h = sym (take-append-le size bytes more short) ∙ ap (take size) reads.1 ∙ take_at (print_request h) rest size refl in
    let behind : rest ≡ drop size bytes ++ more = sym (drop_at (print_request h) rest size refl) ∙ ap (drop size) (sym reads.1) ∙ drop-append-le size bytes more short in
    ((reads.0, sym (take-append-drop size bytes) ∙ ap (λ (xs : List ℕ). xs ++ drop size bytes) front), behind)

-- bytes in which a head may have ended, or which are as many as a head may have, never have one that they have not
pub never_later : (bytes : List ℕ) → HasNoHead bytes → (state_after bytes ≡ Ended) ⊎ (LONGEST_HEAD ≤ length bytes) → NeverHasHead bytes
never_later bytes no_head reached more h rest begins =
    let inside : length (print_request h) ≤ length bytes = ⊎_elim (λ ended. ended_within bytes more h rest ended begins.reads) (λ many. omega (arith, many, begins.short)) reached in
    no_head h (drop (length (print_request h)) bytes) (record { reads = (head_within bytes more h rest begins.reads inside).0; few = begins.few; short = begins.short })

-- bytes that are refused without a head, as too many or as the input ends
pub refused_headless : (new : Option (List ℕ)) (shown bytes : List ℕ) (refused : HttpRefused) → shown ≡ bytes → HasNoHead bytes → RefusesHeadless (length shown) refused → IsParsed shown refused
    → (LONGEST_HEAD ≤ length bytes) ⊎ IsAtEnd new → HeadRefused new bytes refused
refused_headless new shown bytes EndBetween same no_head cause parsed reached = record {
  no_head = no_head;
  cause = rw (sym same) cause;
  parsed = tt;
  settled = ⊎_elim (λ many. absurd (omega (arith, many, cause, ap length same))) inr reached;
}
refused_headless new shown bytes EndInside same no_head cause parsed reached = record {
  no_head = no_head;
  cause = rw (sym same) cause;
  parsed = rw (sym same) parsed;
  settled = ⊎_elim (λ many. absurd (omega (arith, many, cause.1, ap length same))) inr reached;
}
refused_headless new shown bytes Malformed same no_head cause parsed reached = record {
  no_head = no_head;
  cause = rw (sym same) cause;
  parsed = rw (sym same) parsed;
  settled = ⊎_elim (λ many. absurd (omega (arith, many, cause.1, ap length same))) inr reached;
}
refused_headless new shown bytes HeadTooLong same no_head cause parsed reached = record { no_head = no_head; cause = rw (sym same) cause; parsed = tt; settled = inl refl }
refused_headless new shown bytes NoLength same no_head cause parsed reached = absurd cause
refused_headless new shown bytes BodyTooLong same no_head cause parsed reached = absurd cause
refused_headless new shown bytes ReadFault same no_head cause parsed reached = absurd cause
refused_headless new shown bytes Memory same no_head cause parsed reached = absurd cause
