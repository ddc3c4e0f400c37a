-- What reading a message took, from what its head and its body took.
use Rattle.std.proofs.Common.{◌≡◌, ℕ, ◌+◌, ◌-◌, ◌<◌, ◌≤◌, ◌⊎◌, inl, inr, ⊎_elim, List, [], ◌∷◌, ◌++◌, length, take, drop, refl, sym, ap, ◌∙◌, subst, arith, append_assoc, length-append, length-drop, take-append-drop}
use Rattle.std.specs.Prelude.{Option, Some, None, Result, Ok, Err, IfOk, IfErr}
use Rattle.std.specs.Io.KnownBytes.{Consumes, IsAtEnd}
use Rattle.std.proofs.KnownBytes.{Consumes-trans}
use Rattle.std.proofs.lemmas.List.{append-nil, drop_at, length-take, take_at}
use Rattle.httparse.specs.Grammar.{RequestHead}
use Rattle.tab_http.proofs.MessageLemmas.{IsSizeRefusal, size_refused, begins_more, body_short, body_whole, spells_more}
use Rattle.tab_http.proofs.ReadingLemmas.{never_later}
use Rattle.tab_http.specs.Headers.{body_size}
use Rattle.tab_http.specs.Heads.{BeginsWithHead, HasNoHead, HasParts}
use Rattle.tab_http.specs.Messages.{Answer, message_of, size_of_body, with_body, answer_of, RefusesHeadless, IsParsed, Spells, behind_head, without_head, IsOpen, in_body}
use Rattle.tab_http.specs.Reading.{WereNeeded, last, TookMessage, StaysRefused, TookRefused, Refuses, AnswersAll, Gathered, WithoutHead, HeadRefused, TookBody, TookPart, BodyRefused}
use Rattle.tab_http.specs.declared.heads.Head.{Head}
use Rattle.tab_http.specs.declared.messages.Header.{Header}
use Rattle.tab_http.specs.declared.messages.Message.{Message}
use Rattle.tab_http.specs.declared.refusals.HttpRefused.{HttpRefused}
use Rattle.tab_http.specs.declared.refusals.HttpRefused.TheVariants.{EndBetween, EndInside, Malformed, HeadTooLong, NoLength, BodyTooLong, ReadFault, Memory}
use Rattle.tab_http.specs.declared.TheConstants.{LONGEST_HEAD, LONGEST_READ}

-- ---- no head

stays_too_long : (bytes : List ℕ) → HasNoHead bytes → LONGEST_HEAD ≤ length bytes → StaysRefused bytes HeadTooLong
stays_too_long bytes no_head many more = without_head HeadTooLong (never_later bytes no_head (inr many) more) (omega (arith, length-append bytes more, many)) refl

settled_headless : (new : Option (List ℕ)) (bytes : List ℕ) (refused : HttpRefused) → WithoutHead new bytes refused → StaysRefused bytes refused ⊎ IsAtEnd new
settled_headless new bytes refused without = ⊎_elim (λ long. inl (stays long)) inr without.settled
  where
    stays : refused ≡ HeadTooLong → StaysRefused bytes refused
    stays long = subst (StaysRefused bytes) (sym long) (stays_too_long bytes without.no_head (subst (RefusesHeadless (length bytes)) long without.cause))

took_headless : (old new : Option (List ℕ)) (before after : List ℕ) (refused : HttpRefused) → Gathered old new before after → WithoutHead new after refused → TookRefused old new before refused
took_headless old new before after refused gathered without = record {
  came = gathered.came;
  consumed = gathered.consumed;
  needed = gathered.needed;
  spells = subst (λ (bytes : List ℕ). Spells bytes (Err refused)) gathered.behind (without_head refused without.no_head without.cause refl);
  parsed = λ _. subst (λ (bytes : List ℕ). IsParsed bytes refused) gathered.behind without.parsed;
  settled = subst (λ (bytes : List ℕ). StaysRefused bytes refused ⊎ IsAtEnd new) gathered.behind (settled_headless new after refused without);
}

pub refuses_head : (old new : Option (List ℕ)) (before after : List ℕ) (refused : HttpRefused) → Gathered old new before after → HeadRefused new after refused → Refuses old new before refused
refuses_head old new before after ReadFault gathered is = record { came = gathered.came; consumed = gathered.consumed; still_open = subst IsOpen gathered.behind is }
refuses_head old new before after Memory gathered is = record { came = gathered.came; consumed = gathered.consumed; needed = gathered.needed }
refuses_head old new before after EndBetween gathered is = took_headless old new before after EndBetween gathered is
refuses_head old new before after EndInside gathered is = took_headless old new before after EndInside gathered is
refuses_head old new before after Malformed gathered is = took_headless old new before after Malformed gathered is
refuses_head old new before after HeadTooLong gathered is = took_headless old new before after HeadTooLong gathered is
refuses_head old new before after NoLength gathered is = took_headless old new before after NoLength gathered is
refuses_head old new before after BodyTooLong gathered is = took_headless old new before after BodyTooLong gathered is

-- ---- no size

took_unsized : (old new : Option (List ℕ)) (before after : List ℕ) (refused : HttpRefused) (h : RequestHead) (behind : List ℕ) → Gathered old new before after → BeginsWithHead after h behind
    → size_of_body h ≡ Err refused → TookRefused old new before refused
took_unsized old new before after refused h behind gathered begins is = record {
  came = gathered.came;
  consumed = gathered.consumed;
  needed = gathered.needed;
  spells = subst (λ (bytes : List ℕ). Spells bytes (Err refused)) gathered.behind (behind_head h behind begins (sym (ap (with_body h behind) is)));
  parsed = λ no_head. absurd (no_head h behind (subst (λ (bytes : List ℕ). BeginsWithHead bytes h behind) gathered.behind begins));
  settled = inl (subst (λ (bytes : List ℕ). StaysRefused bytes refused) gathered.behind (λ more. behind_head h (behind ++ more) (begins_more after h behind more begins) (sym (ap (with_body h (behind ++ more)) is))));
}

pub refuses_size : (old new : Option (List ℕ)) (before after : List ℕ) (refused : HttpRefused) (h : RequestHead) (behind : List ℕ) → IsSizeRefusal refused → Gathered old new before after
    → BeginsWithHead after h behind → size_of_body h ≡ Err refused → Refuses old new before refused
refuses_size old new before after Malformed h behind may gathered begins is = took_unsized old new before after Malformed h behind gathered begins is
refuses_size old new before after NoLength h behind may gathered begins is = took_unsized old new before after NoLength h behind gathered begins is
refuses_size old new before after BodyTooLong h behind may gathered begins is = took_unsized old new before after BodyTooLong h behind gathered begins is
refuses_size old new before after _ h behind may gathered begins is = absurd may

-- ---- bodies

-- what came for the head and then for the body, where the bytes before the last read were short of a body
needed_on : (before there xs ys : List ℕ) (h : RequestHead) (behind : List ℕ) (size : ℕ) → there ≡ before ++ xs → BeginsWithHead there h behind → size_of_body h ≡ Ok size
    → WereNeeded before xs → (0 < length ys → (front : List ℕ) × (more : List ℕ) × (ys ≡ front ++ more) × (length more ≤ LONGEST_READ) × (length (behind ++ front) < size)) → WereNeeded before (xs ++ ys)
needed_on before there xs [] h behind size is begins sized first later = subst (WereNeeded before) (sym (append-nil xs)) first
needed_on before there xs (y ∷ ys) h behind size is begins sized first later =
    let short = later (omega arith) in
    last (xs ++ short.0) short.1 (ap (λ (zs : List ℕ). xs ++ zs) short.2 ∙ sym (append_assoc xs short.0 short.1)) short.3
    (subst IsOpen (ap (λ (zs : List ℕ). zs ++ short.0) is ∙ append_assoc before xs short.0) (in_body h (behind ++ short.0) size (begins_more there h behind short.0 begins) sized short.4))

whole_is_short : (behind ys : List ℕ) (size : ℕ) → length (behind ++ ys) < size → (front : List ℕ) × (more : List ℕ) × (ys ≡ front ++ more) × (length more ≤ LONGEST_READ) × (length (behind ++ front) < size)
whole_is_short behind ys size short = (ys, [], sym (append-nil ys), omega arith, short)

-- the bytes of a head and a body that is not whole are open
open_body : (before there xs ys : List ℕ) (h : RequestHead) (behind : List ℕ) (size : ℕ) → there ≡ before ++ xs → BeginsWithHead there h behind → size_of_body h ≡ Ok size
    → length (behind ++ ys) < size → IsOpen (before ++ (xs ++ ys))
open_body before there xs ys h behind size is begins sized short =
    subst IsOpen (ap (λ (zs : List ℕ). zs ++ ys) is ∙ append_assoc before xs ys) (in_body h (behind ++ ys) size (begins_more there h behind ys begins) sized short)

-- what the bytes of a head and of what came behind it spell
spells_behind : (before there xs ys : List ℕ) (h : RequestHead) (behind : List ℕ) (answer : Answer) → there ≡ before ++ xs → BeginsWithHead there h behind → answer ≡ answer_of h (behind ++ ys)
    → Spells (before ++ (xs ++ ys)) answer
spells_behind before there xs ys h behind answer is begins answers =
    subst (λ (bytes : List ℕ). Spells bytes answer) (ap (λ (zs : List ℕ). zs ++ ys) is ∙ append_assoc before xs ys) (behind_head h (behind ++ ys) (begins_more there h behind ys begins) answers)

has_head : (before there xs ys : List ℕ) (h : RequestHead) (behind : List ℕ) → there ≡ before ++ xs → BeginsWithHead there h behind → HasNoHead (before ++ (xs ++ ys)) → ⊥
has_head before there xs ys h behind is begins no_head =
    no_head h (behind ++ ys) (subst (λ (bytes : List ℕ). BeginsWithHead bytes h (behind ++ ys)) (ap (λ (zs : List ℕ). zs ++ ys) is ∙ append_assoc before xs ys) (begins_more there h behind ys begins))

refuses_part : (old middle new : Option (List ℕ)) (before there : List ℕ) (h : RequestHead) (behind : List ℕ) (size : ℕ) → Gathered old middle before there → BeginsWithHead there h behind
    → size_of_body h ≡ Ok size → TookPart middle new behind size → IsAtEnd new → TookRefused old new before EndInside
refuses_part old middle new before there h behind size gathered begins sized part ended = record {
  came = gathered.came ++ part.came;
  consumed = Consumes-trans old middle new gathered.came part.came gathered.consumed part.consumed;
  needed = needed_on before there gathered.came part.came h behind size gathered.behind begins sized gathered.needed (λ _. whole_is_short behind part.came size part.short);
  spells = spells_behind before there gathered.came part.came h behind (Err EndInside) gathered.behind begins
      (sym (ap (with_body h (behind ++ part.came)) sized ∙ body_short h (behind ++ part.came) size part.short));
  parsed = λ no_head. absurd (has_head before there gathered.came part.came h behind gathered.behind begins no_head);
  settled = inr ended;
}

pub refuses_body : (old middle new : Option (List ℕ)) (before there : List ℕ) (h : RequestHead) (behind : List ℕ) (size : ℕ) (refused : HttpRefused) → Gathered old middle before there
    → BeginsWithHead there h behind → size_of_body h ≡ Ok size → BodyRefused middle new behind size refused → Refuses old new before refused
refuses_body old middle new before there h behind size EndInside gathered begins sized is = refuses_part old middle new before there h behind size gathered begins sized is.0 is.1
refuses_body old middle new before there h behind size ReadFault gathered begins sized is = record {
  came = gathered.came ++ is.came;
  consumed = Consumes-trans old middle new gathered.came is.came gathered.consumed is.consumed;
  still_open = open_body before there gathered.came is.came h behind size gathered.behind begins sized is.short;
}
refuses_body old middle new before there h behind size Memory gathered begins sized is = record {
  came = gathered.came ++ is.0;
  consumed = Consumes-trans old middle new gathered.came is.0 gathered.consumed is.1;
  needed = needed_on before there gathered.came is.0 h behind size gathered.behind begins sized gathered.needed (λ some. whole_is_short behind is.0 size (is.2 some));
}
refuses_body old middle new before there h behind size _ gathered begins sized is = absurd is

-- the front of what came for a body, without its last byte, is short of it
front_is_short : (behind ys body after : List ℕ) (size : ℕ) → behind ++ ys ≡ body ++ after → length body ≡ size → (0 < length ys → after ≡ []) → 0 < length ys
    → (front : List ℕ) × (more : List ℕ) × (ys ≡ front ++ more) × (length more ≤ LONGEST_READ) × (length (behind ++ front) < size)
front_is_short behind ys body after size whole exact missing some =
    let count = length ys - 1 in
    let full : length behind + length ys ≡ size =
    omega (arith, length-append behind ys, ap length whole, length-append body after, ap length (missing some), exact) in
    (take count ys, drop count ys, sym (take-append-drop count ys), omega (arith, length-drop count ys), omega (arith, length-append behind (take count ys), length-take count ys, full, some))

pub took_message : (old middle new : Option (List ℕ)) (before there after : List ℕ) (h : RequestHead) (behind : List ℕ) (size : ℕ) (body : List ℕ) (message : Message) → Gathered old middle before there
    → BeginsWithHead there h behind → size_of_body h ≡ Ok size → TookBody middle new behind after size body → message ≡ message_of h body → TookMessage old new before after message
took_message old middle new before there after h behind size body message gathered begins sized took is = record {
  came = gathered.came ++ took.came;
  consumed = Consumes-trans old middle new gathered.came took.came gathered.consumed took.consumed;
  needed = needed_on before there gathered.came took.came h behind size gathered.behind begins sized gathered.needed
      (front_is_short behind took.came body after size took.whole took.exact took.missing);
  spells = spells_behind before there gathered.came took.came h behind (Ok (message, after)) gathered.behind begins (sym answers);
}
  where
    room : size ≤ length (behind ++ took.came)
    room = omega (arith, ap length took.whole, length-append body after, took.exact)

    first : take size (behind ++ took.came) ≡ body
    first = ap (take size) took.whole ∙ take_at body after size took.exact

    later : drop size (behind ++ took.came) ≡ after
    later = ap (drop size) took.whole ∙ drop_at body after size took.exact

    answers : answer_of h (behind ++ took.came) ≡ Ok (message, after)
    answers =
        ap (with_body h (behind ++ took.came)) sized ∙ body_whole h (behind ++ took.came) size room
        ∙ ap (λ (xs : List ℕ). Ok (message_of h xs, drop size (behind ++ took.came))) first ∙ ap (λ (xs : List ℕ). Ok (message_of h body, xs)) later ∙ ap (λ (m : Message). Ok (m, after)) (sym is)

-- ---- all the bytes

told_message : (old new : Option (List ℕ)) (left before after : List ℕ) (message : Message) → old ≡ Some left → TookMessage old new before after message → AnswersAll new left before after (Ok message)
told_message old new left before after message is took = by_rest new (subst (λ (o : Option (List ℕ)). Consumes o new took.came) is took.consumed)
  where
    by_rest : (now : Option (List ℕ)) → Consumes (Some left) now took.came → AnswersAll now left before after (Ok message)
    by_rest None gone = absurd gone
    by_rest (Some rest) parts = (
      rest,
      refl,
      subst (λ (bytes : List ℕ). Spells bytes (Ok (message, after ++ rest))) (append_assoc before took.came rest ∙ ap (λ (xs : List ℕ). before ++ xs) (sym parts))
          (spells_more (before ++ took.came) rest message after took.spells),
    )

told_refused : (old new : Option (List ℕ)) (left before : List ℕ) (refused : HttpRefused) → old ≡ Some left → TookRefused old new before refused → Spells (before ++ left) (Err refused)
told_refused old new left before refused is took = by_rest new (subst (λ (o : Option (List ℕ)). Consumes o new took.came) is took.consumed) took.settled
  where
    by_rest : (now : Option (List ℕ)) → Consumes (Some left) now took.came → StaysRefused (before ++ took.came) refused ⊎ IsAtEnd now → Spells (before ++ left) (Err refused)
    by_rest None gone settled = absurd gone
    by_rest (Some rest) parts (inl stays) = subst (λ (bytes : List ℕ). Spells bytes (Err refused)) (append_assoc before took.came rest ∙ ap (λ (xs : List ℕ). before ++ xs) (sym parts)) (stays rest)
    by_rest (Some rest) parts (inr ended) =
        subst (λ (bytes : List ℕ). Spells bytes (Err refused)) (ap (λ (xs : List ℕ). before ++ xs) (sym (parts ∙ ap (λ (xs : List ℕ). took.came ++ xs) ended ∙ append-nil took.came))) took.spells

told_refusal : (old new : Option (List ℕ)) (left before after : List ℕ) (refused : HttpRefused) → old ≡ Some left → Refuses old new before refused → AnswersAll new left before after (Err refused)
told_refusal old new left before after ReadFault is took = tt
told_refusal old new left before after Memory is took = tt
told_refusal old new left before after EndBetween is took = told_refused old new left before EndBetween is took
told_refusal old new left before after EndInside is took = told_refused old new left before EndInside is took
told_refusal old new left before after Malformed is took = told_refused old new left before Malformed is took
told_refusal old new left before after HeadTooLong is took = told_refused old new left before HeadTooLong is took
told_refusal old new left before after NoLength is took = told_refused old new left before NoLength is took
told_refusal old new left before after BodyTooLong is took = told_refused old new left before BodyTooLong is took

-- what is known of the bytes that came tells the answer to all of them
pub told : (old new : Option (List ℕ)) (before after : List ℕ) (result : Result Message HttpRefused) → IfOk result (TookMessage old new before after) → IfErr result (Refuses old new before)
    → (left : List ℕ) → old ≡ Some left → AnswersAll new left before after result
told old new before after (Ok message) took refused left is = told_message old new left before after message is took
told old new before after (Err e) took refused left is = told_refusal old new left before after e is refused

-- ---- the parts of a head

-- the size that was read from the parts of a head is the size of its body
pub size_said : (h : RequestHead) (head : Head) (method : List ℕ) (headers : List Header) (size : Result ℕ HttpRefused) → HasParts h head → method ≡ head.method → headers ≡ head.headers
    → size ≡ body_size method headers → size_of_body h ≡ size
size_said h head method headers size parts same_method same_headers is =
    sym (is ∙ ap (λ (m : List ℕ). body_size m headers) (same_method ∙ parts.method) ∙ ap (body_size h.method) (same_headers ∙ parts.headers))

-- a refused size is no fault of the source
pub no_fault : (method : List ℕ) (headers : List Header) (refused : HttpRefused) → Err refused ≡ body_size method headers → refused ≡ ReadFault → ⊥
no_fault method headers refused is fault = subst IsSizeRefusal fault (size_refused method headers refused (sym is))
