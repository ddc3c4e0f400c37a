-- What bytes spell, and what more bytes leave of it.
use Rattle.std.proofs.Common.{◌≡◌, ℕ, ◌<◌, ◌≤◌, ◌⊎◌, inl, inr, ⊎_elim, Bool, true, false, List, ◌++◌, length, take, drop, refl, sym, ap, ◌∙◌, subst, arith, length-append, cond}
use Rattle.std.specs.Prelude.{Option, Some, None, Result, Ok, Err, nat_le, ⊤}
use Rattle.std.proofs.lemmas.Bool.{cases_lt, le-leb, lt-leb, cond-true, cond-false}
use Rattle.std.proofs.lemmas.List.{take-append-le, drop-append-le}
use Rattle.httparse.proofs.GrammarLemmas.{ReadsRequest-append, request_unique}
use Rattle.httparse.specs.Grammar.{RequestHead}
use Rattle.tab_http.specs.Headers.{decimal_value, have_length, some_length, length_from, announced, needs_length, size_for, size_unless_coded, body_size}
use Rattle.tab_http.specs.Heads.{BeginsWithHead, HasNoHead, headers_of}
use Rattle.tab_http.specs.Messages.{Answer, message_of, size_of_body, with_body, answer_of, RefusesHeadless, Spells, behind_head, without_head, IsParsers, IsOpen, in_head, in_body}
use Rattle.tab_http.specs.declared.messages.Header.{Header}
use Rattle.tab_http.specs.declared.messages.Message.{Message}
use Rattle.tab_http.specs.declared.refusals.HttpRefused.{HttpRefused}
use Rattle.tab_http.specs.declared.refusals.HttpRefused.TheVariants.{EndBetween, EndInside, Malformed, HeadTooLong, NoLength, BodyTooLong, ReadFault, Memory}
use Rattle.tab_http.specs.declared.TheConstants.{LONGEST_BODY, LONGEST_HEAD}

-- ---- the size of a body

-- a head may be refused so
abbrev pub IsSizeRefusal : HttpRefused → Type 0
IsSizeRefusal Malformed = ⊤
IsSizeRefusal NoLength = ⊤
IsSizeRefusal BodyTooLong = ⊤
IsSizeRefusal _ = ⊥

abbrev Refusal : {T : Type 0} → Result T HttpRefused → Type 0
Refusal (Ok x) = ⊤
Refusal (Err e) = IsSizeRefusal e

by_cond : {T : Type 0} (b : Bool) (x y : Result T HttpRefused) → Refusal x → Refusal y → Refusal (cond b x y)
by_cond true x y p q = p
by_cond false x y p q = q

some_refusal : (o : Option ℕ) → Refusal (some_length o)
some_refusal None = tt
some_refusal (Some n) = tt

length_refusal : (headers : List Header) (o : Option (List ℕ)) → Refusal (length_from headers o)
length_refusal headers None = tt
length_refusal headers (Some first) = by_cond (have_length first headers) (some_length (decimal_value first)) (Err Malformed) (some_refusal (decimal_value first)) tt

announced_refusal : (headers : List Header) → Refusal (announced headers)
unfolding announced
announced_refusal headers = length_refusal headers _

size_refusal : (method : List ℕ) (o : Option ℕ) → Refusal (size_for method o)
size_refusal method None = by_cond (needs_length method) (Err NoLength) (Ok 0) tt tt
size_refusal method (Some n) = by_cond (nat_le n LONGEST_BODY) (Ok n) (Err BodyTooLong) tt tt

coded_refusal : (method : List ℕ) (coded : Bool) (r : Result (Option ℕ) HttpRefused) → Refusal r → Refusal (size_unless_coded method coded r)
coded_refusal method coded (Err e) is = is
coded_refusal method coded (Ok o) is = by_cond coded (Err NoLength) (size_for method o) tt (size_refusal method o)

body_refusal : (method : List ℕ) (headers : List Header) → Refusal (body_size method headers)
unfolding body_size
body_refusal method headers = coded_refusal method _ (announced headers) (announced_refusal headers)

-- the size of a body is refused in three ways only
pub size_refused : (method : List ℕ) (headers : List Header) (refused : HttpRefused) → body_size method headers ≡ Err refused → IsSizeRefusal refused
size_refused method headers refused is = subst Refusal is (body_refusal method headers)

-- ---- more bytes

pub begins_more : (bytes : List ℕ) (h : RequestHead) (behind more : List ℕ) → BeginsWithHead bytes h behind → BeginsWithHead (bytes ++ more) h (behind ++ more)
begins_more bytes h behind more begins = record { reads = ReadsRequest-append bytes h behind more begins.reads; few = begins.few; short = begins.short }

pub body_whole : (h : RequestHead) (behind : List ℕ) (size : ℕ) → size ≤ length behind → with_body h behind (Ok size) ≡ Ok (message_of h (take size behind), drop size behind)
body_whole h behind size enough = cond-true (nat_le size (length behind)) _ _ (le-leb size (length behind) enough)

pub body_short : (h : RequestHead) (behind : List ℕ) (size : ℕ) → length behind < size → with_body h behind (Ok size) ≡ Err EndInside
body_short h behind size fewer = cond-false (nat_le size (length behind)) _ _ (lt-leb size (length behind) fewer)

pub no_message : (message : Message) (rest : List ℕ) (refused : HttpRefused) → ◌≡◌ {A = Answer} (Err refused) (Ok (message, rest)) → ⊥
no_message message rest refused is = absurd (cc)

pub pair_of : (a b : Message × List ℕ) → ◌≡◌ {A = Answer} (Ok a) (Ok b) → a ≡ b
pair_of a b is = cc

body_more : (h : RequestHead) (behind more : List ℕ) (size : Result ℕ HttpRefused) (message : Message) (rest : List ℕ) → with_body h behind size ≡ Ok (message, rest)
    → with_body h (behind ++ more) size ≡ Ok (message, rest ++ more)
body_more h behind more (Err e) message rest is = absurd (no_message message rest e is)
body_more h behind more (Ok size) message rest is = ⊎_elim short whole (cases_lt (length behind) size)
  where
    short : length behind < size → with_body h (behind ++ more) (Ok size) ≡ Ok (message, rest ++ more)
    short fewer = absurd (no_message message rest EndInside (sym (body_short h behind size fewer) ∙ is))

    whole : size ≤ length behind → with_body h (behind ++ more) (Ok size) ≡ Ok (message, rest ++ more)
    whole enough =
        let same = pair_of (message_of h (take size behind), drop size behind) (message, rest) (sym (body_whole h behind size enough) ∙ is) in
        let room : size ≤ length (behind ++ more) = omega (arith, length-append behind more, enough) in
        body_whole h (behind ++ more) size room ∙ rw (take-append-le size behind more enough, drop-append-le size behind more enough) (ap (λ (p : Message × List ℕ). Ok (p.0, p.1 ++ more)) same)

pub spells_more : (bytes more : List ℕ) (message : Message) (rest : List ℕ) → Spells bytes (Ok (message, rest)) → Spells (bytes ++ more) (Ok (message, rest ++ more))
spells_more bytes more message rest (behind_head h behind begins is) = behind_head h (behind ++ more) (begins_more bytes h behind more begins) (sym (body_more h behind more (size_of_body h) message rest (sym is)))
spells_more bytes more message rest (without_head refused none cause is) = absurd (cc)

-- ---- one answer

-- the answers of bytes without a head and those of bytes with one have no bytes in common
headless_answers : (bytes : List ℕ) (a b : HttpRefused) → RefusesHeadless (length bytes) a → RefusesHeadless (length bytes) b → (a ≡ b) ⊎ (IsParsers (Err a) × IsParsers (Err b))
headless_answers bytes EndBetween EndBetween p q = inl refl
headless_answers bytes EndBetween EndInside p q = absurd (omega (arith, p, q.0))
headless_answers bytes EndBetween Malformed p q = absurd (omega (arith, p, q.0))
headless_answers bytes EndBetween HeadTooLong p q = absurd (omega (arith, p, q))
headless_answers bytes EndInside EndBetween p q = absurd (omega (arith, p.0, q))
headless_answers bytes EndInside EndInside p q = inl refl
headless_answers bytes EndInside Malformed p q = inr (inr refl, inl refl)
headless_answers bytes EndInside HeadTooLong p q = absurd (omega (arith, p.1, q))
headless_answers bytes Malformed EndBetween p q = absurd (omega (arith, p.0, q))
headless_answers bytes Malformed EndInside p q = inr (inl refl, inr refl)
headless_answers bytes Malformed Malformed p q = inl refl
headless_answers bytes Malformed HeadTooLong p q = absurd (omega (arith, p.1, q))
headless_answers bytes HeadTooLong EndBetween p q = absurd (omega (arith, p, q))
headless_answers bytes HeadTooLong EndInside p q = absurd (omega (arith, p, q.1))
headless_answers bytes HeadTooLong Malformed p q = absurd (omega (arith, p, q.1))
headless_answers bytes HeadTooLong HeadTooLong p q = inl refl
headless_answers bytes _ NoLength p q = absurd q
headless_answers bytes _ BodyTooLong p q = absurd q
headless_answers bytes _ ReadFault p q = absurd q
headless_answers bytes _ Memory p q = absurd q
headless_answers bytes _ _ p q = absurd p

pub bytes_spell_one_answer : (bytes : List ℕ) (a b : Answer) → Spells bytes a → Spells bytes b → (a ≡ b) ⊎ (HasNoHead bytes × IsParsers a × IsParsers b)
bytes_spell_one_answer bytes a b (behind_head h x p e) (behind_head k y q f) =
    let same = request_unique bytes h k x y p.reads q.reads in
    inl (e ∙ ap (λ (g : RequestHead). answer_of g x) same.0 ∙ ap (answer_of k) same.1 ∙ sym f)
bytes_spell_one_answer bytes a b (behind_head h x p e) (without_head r none cause f) = absurd (none h x p)
bytes_spell_one_answer bytes a b (without_head r none cause e) (behind_head h x p f) = absurd (none h x p)
bytes_spell_one_answer bytes a b (without_head r none p e) (without_head s none_too q f) =
    ⊎_elim (λ same. inl (e ∙ ap Err same ∙ sym f)) (λ parsers. inr (none, subst IsParsers (sym e) parsers.0, subst IsParsers (sym f) parsers.1)) (headless_answers bytes r s p q)

-- ---- some answer

pub bytes_spell_some_answer : (bytes : List ℕ) → ((answer : Answer) → Spells bytes answer → ⊥) → ⊥
bytes_spell_some_answer bytes none = refuse (cases_lt (length bytes) LONGEST_HEAD)
  where
    no_head : HasNoHead bytes
    no_head h behind begins = none (answer_of h behind) (behind_head h behind begins refl)

    refuse : (length bytes < LONGEST_HEAD) ⊎ (LONGEST_HEAD ≤ length bytes) → ⊥
    refuse (inr many) = none (Err HeadTooLong) (without_head HeadTooLong no_head many refl)
    refuse (inl few) = few_bytes (cases_lt 0 (length bytes))
      where
        few_bytes : (0 < length bytes) ⊎ (length bytes ≤ 0) → ⊥
        few_bytes (inl some) = none (Err EndInside) (without_head EndInside no_head (some, few) refl)
        few_bytes (inr nothing) = none (Err EndBetween) (without_head EndBetween no_head (omega arith) refl)

-- ---- no fault

-- a refusal for what the bytes are
abbrev IsOfBytes : HttpRefused → Type 0
IsOfBytes ReadFault = ⊥
IsOfBytes Memory = ⊥
IsOfBytes _ = ⊤

abbrev SaysOfBytes : Answer → Type 0
SaysOfBytes (Ok found) = ⊤
SaysOfBytes (Err refused) = IsOfBytes refused

size_of_bytes : (refused : HttpRefused) → IsSizeRefusal refused → IsOfBytes refused
size_of_bytes EndBetween is = tt
size_of_bytes EndInside is = tt
size_of_bytes Malformed is = tt
size_of_bytes HeadTooLong is = tt
size_of_bytes NoLength is = tt
size_of_bytes BodyTooLong is = tt
size_of_bytes ReadFault is = is
size_of_bytes Memory is = is

headless_of_bytes : (size : ℕ) (refused : HttpRefused) → RefusesHeadless size refused → IsOfBytes refused
headless_of_bytes size EndBetween is = tt
headless_of_bytes size EndInside is = tt
headless_of_bytes size Malformed is = tt
headless_of_bytes size HeadTooLong is = tt
headless_of_bytes size NoLength is = tt
headless_of_bytes size BodyTooLong is = tt
headless_of_bytes size ReadFault is = is
headless_of_bytes size Memory is = is

either_of_bytes : (b : Bool) (x y : Answer) → SaysOfBytes x → SaysOfBytes y → SaysOfBytes (cond b x y)
either_of_bytes true x y p q = p
either_of_bytes false x y p q = q

body_of_bytes : (h : RequestHead) (behind : List ℕ) (size : Result ℕ HttpRefused) → Refusal size → SaysOfBytes (with_body h behind size)
body_of_bytes h behind (Err refused) is = size_of_bytes refused is
body_of_bytes h behind (Ok size) is = either_of_bytes (nat_le size (length behind)) (Ok (message_of h (take size behind), drop size behind)) (Err EndInside) tt tt

-- bytes spell no refusal but for what they are
pub spelled_of_bytes : (bytes : List ℕ) (answer : Answer) → Spells bytes answer → SaysOfBytes answer
spelled_of_bytes bytes answer (behind_head h behind begins is) = subst SaysOfBytes (sym is) (body_of_bytes h behind (size_of_body h) (body_refusal h.method (headers_of h)))
spelled_of_bytes bytes answer (without_head refused none cause is) = subst SaysOfBytes (sym is) (headless_of_bytes (length bytes) refused cause)

-- ---- open bytes

pub open_spells_none : (bytes : List ℕ) (message : Message) (rest : List ℕ) → IsOpen bytes → Spells bytes (Ok (message, rest)) → ⊥
open_spells_none bytes message rest (in_head no_head short) (behind_head h behind begins is) = no_head h behind begins
open_spells_none bytes message rest (in_body h behind size begins sized short) (behind_head k other reads is) =
    let same = request_unique bytes k h other behind reads.reads begins.reads in
    no_message message rest EndInside (sym (body_short h behind size short) ∙ ap (with_body h behind) (sym sized) ∙ ap (answer_of h) (sym same.1) ∙ ap (λ (g : RequestHead). answer_of g other) (sym same.0) ∙ sym is)
open_spells_none bytes message rest is_open (without_head refused none cause is) = no_message message rest refused (sym is)
