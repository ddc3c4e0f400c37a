-- How far past a message the bytes may have come that spell it.
use Rattle.std.proofs.Common.{◌≡◌, ℕ, ◌-◌, ◌<◌, ◌≤◌, ⊎_elim, max, List, ◌++◌, length, take, drop, refl, sym, ap, ◌∙◌, subst, arith, append-nil, append_assoc, length-append}
use Rattle.std.specs.Prelude.{Option, Result, Ok, Err}
use Rattle.std.proofs.lemmas.Bool.{cases_lt}
use Rattle.std.proofs.lemmas.List.{take-append-le, length-drop}
use Rattle.httparse.specs.Grammar.{RequestHead, print_request}
use Rattle.tab_http.proofs.MessageLemmas.{body_short, body_whole, no_message, pair_of, open_spells_none}
use Rattle.tab_http.proofs.ReadingLemmas.{head_within}
use Rattle.tab_http.specs.Messages.{message_of, size_of_body, with_body, answer_of, Spells, behind_head, without_head}
use Rattle.tab_http.specs.Reading.{WereNeeded, none, last, TookMessage}
use Rattle.tab_http.specs.declared.messages.Message.{Message}
use Rattle.tab_http.specs.declared.refusals.HttpRefused.{HttpRefused}
use Rattle.tab_http.specs.declared.refusals.HttpRefused.TheVariants.{EndInside}
use Rattle.tab_http.specs.declared.TheConstants.{LONGEST_READ}

-- a message that a head and the bytes behind it make, by the size of its body
record Made (h : RequestHead) (behind : List ℕ) (size : Result ℕ HttpRefused) (message : Message) (after : List ℕ) : Type 0 where
  count : ℕ
  sized : size ≡ Ok count
  within : count ≤ length behind
  message_is : message ≡ message_of h (take count behind)
  after_is : after ≡ drop count behind

made : (h : RequestHead) (behind : List ℕ) (size : Result ℕ HttpRefused) (message : Message) (after : List ℕ) → with_body h behind size ≡ Ok (message, after) → Made h behind size message after
made h behind (Err e) message after is = absurd (no_message message after e is)
made h behind (Ok count) message after is = ⊎_elim short whole (cases_lt (length behind) count)
  where
    short : length behind < count → Made h behind (Ok count) message after
    short fewer = absurd (no_message message after EndInside (sym (body_short h behind count fewer) ∙ is))

    whole : count ≤ length behind → Made h behind (Ok count) message after
    whole enough =
        let same = pair_of (message, after) (message_of h (take count behind), drop count behind) (sym is ∙ body_whole h behind count enough) in
        record { count = count; sized = refl; within = enough; message_is = ap (λ (p : Message × List ℕ). p.0) same; after_is = ap (λ (p : Message × List ℕ). p.1) same }

-- what is behind a message is part of the bytes
after_within : (bytes : List ℕ) (message : Message) (after : List ℕ) → Spells bytes (Ok (message, after)) → length after ≤ length bytes
after_within bytes message after (behind_head h behind begins is) =
    let whole = made h behind (size_of_body h) message after (sym is) in
    omega (arith, ap length whole.after_is, length-drop whole.count behind, ap length begins.reads.1, length-append (print_request h) behind)
after_within bytes message after (without_head refused no_head cause is) = absurd (no_message message after refused (sym is))

-- bytes that are all behind the message are not needed for it
spelled_before : (bytes more : List ℕ) (message : Message) (after : List ℕ) → Spells (bytes ++ more) (Ok (message, after)) → length more ≤ length after → (rest : List ℕ) × Spells bytes (Ok (message, rest))
spelled_before bytes more message after (without_head refused no_head cause is) enough = absurd (no_message message after refused (sym is))
spelled_before bytes more message after (behind_head h behind begins is) enough =
    let whole = made h behind (size_of_body h) message after (sym is) in
    let size = length (print_request h) in
    let all = ap length begins.reads.1 in
    let parts = length-append (print_request h) behind in
    let both = length-append bytes more in
    let left = ap length whole.after_is in
    let dropped = length-drop whole.count behind in
    let inside = whole.within in
    let there = head_within bytes more h behind begins.reads (omega (arith, all, parts, both, left, dropped, inside, enough)) in
    let room : whole.count ≤ length (drop size bytes) = omega (arith, all, parts, both, left, dropped, inside, enough, length-drop size bytes) in
    let body : take whole.count behind ≡ take whole.count (drop size bytes) = ap (take whole.count) there.1 ∙ take-append-le whole.count (drop size bytes) more room in
    let answers : Ok (message, drop whole.count (drop size bytes)) ≡ answer_of h (drop size bytes) =
    ap (λ (m : Message). Ok (m, drop whole.count (drop size bytes))) (whole.message_is ∙ ap (message_of h) body) ∙ sym (body_whole h (drop size bytes) whole.count room) ∙ sym (ap (with_body h (drop size bytes)) whole.sized) in
    (drop whole.count (drop size bytes), behind_head h (drop size bytes) (record { reads = there.0; few = begins.few; short = begins.short }) answers)

by_needed : (before came : List ℕ) (message : Message) (after : List ℕ) → WereNeeded before came → Spells (before ++ came) (Ok (message, after)) → length after ≤ max (length before) (LONGEST_READ - 1)
by_needed before came message after (none e) spells =
    let within = after_within (before ++ came) message after spells in
    omega (arith, within, ap length (ap (λ (xs : List ℕ). before ++ xs) e ∙ append-nil before))
by_needed before came message after (last front more e little is_open) spells = ⊎_elim (λ fewer. omega arith) past (cases_lt (length after) (length more))
  where
    past : length more ≤ length after → length after ≤ max (length before) (LONGEST_READ - 1)
    past enough =
        let same = ap (λ (xs : List ℕ). before ++ xs) e ∙ sym (append_assoc before front more) in
        let found = spelled_before (before ++ front) more message after (subst (λ (bytes : List ℕ). Spells bytes (Ok (message, after))) same spells) enough in
        absurd (open_spells_none (before ++ front) message found.0 is_open found.1)

pub little_past : (old new : Option (List ℕ)) (before after : List ℕ) (message : Message) → TookMessage old new before after message → length after ≤ max (length before) (LONGEST_READ - 1)
little_past old new before after message took = by_needed before took.came message after took.needed took.spells
