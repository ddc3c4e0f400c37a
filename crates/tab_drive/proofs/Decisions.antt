-- Why the bytes of a message come to one decision.
use Rattle.std.proofs.Common.{◌≡◌, ℕ, ◌⊎◌, List, [], ◌∷◌, refl, sym, ap, ◌∙◌, subst, inl, inr, Some, Result, Ok, Err}
use Rattle.tab_auth.specs.SignedRequests.{IsSigned}
use Rattle.tab_auth.specs.declared.signatures.Keys.{Keys}
use Rattle.tab_http.specs.Heads.{HasNoHead}
use Rattle.tab_http.specs.Messages.{Answer, Spells, IsParsers}
use Rattle.tab_http.specs.declared.messages.Message.{Message}
use Rattle.tab_http.specs.declared.refusals.HttpRefused.{HttpRefused}
use Rattle.tab_http.specs.declared.refusals.HttpRefused.TheVariants as http
use Rattle.tab_service.specs.Decisions.{IsDecision}
use Rattle.tab_service.specs.Refusals.{http_fault}
use Rattle.tab_service.specs.Signing.{signed_of}
use Rattle.tab_service.specs.declared.forms.Request.{Request}
use Rattle.tab_service.specs.declared.requests.decide.Decided.{Decided}
use Rattle.tab_service.specs.declared.requests.decide.Decided.TheVariants.{Go, No}
use Rattle.tab_drive.specs.Messages.{inside, whole, AreRead, AreSigned, ComeTo}
use Rattle.tab_drive.specs.Messages.ComeTo.{as_message, as_none}

-- the law that bytes spell one answer, but where the parser decides between two refusals
abbrev pub OneAnswer : Type 0
OneAnswer = (bytes : List ℕ) (a b : Answer) → Spells bytes a → Spells bytes b → (a ≡ b) ⊎ (HasNoHead bytes × IsParsers a × IsParsers b)

-- the law that a message has one decision
abbrev pub HaveOneDecision : Type 0
HaveOneDecision = (keys : Keys) (now : ℕ) (message : Message) (a b : Decided) → IsDecision keys now message a → IsDecision keys now message b → a ≡ b

-- the law that bytes come to one decision
abbrev pub OneDecision : Type 0
OneDecision = (keys : Keys) (moment : ℕ) (bytes : List ℕ) (a b : Decided) → ComeTo keys moment bytes a → ComeTo keys moment bytes b → a ≡ b

-- the two refusals between which the parser decides
abbrev IsParsersRefusal : Result Message HttpRefused → Type 0
IsParsersRefusal found = (found ≡ Err http.Malformed) ⊎ (found ≡ Err http.EndInside)

parsers_whole : (answer : Answer) → IsParsers answer → IsParsersRefusal (whole answer)
parsers_whole answer (inl malformed) = inl (ap whole malformed)
parsers_whole answer (inr ended) = inr (ap whole ended)

one_reading : OneAnswer → (bytes : List ℕ) (a b : Result Message HttpRefused) → AreRead bytes a → AreRead bytes b
    → (a ≡ b) ⊎ (IsParsersRefusal a × IsParsersRefusal b)
one_reading law bytes a b x y = by_law (law bytes x.answer y.answer x.spells y.spells)
  where
    by_law : (x.answer ≡ y.answer) ⊎ (HasNoHead bytes × IsParsers x.answer × IsParsers y.answer) → (a ≡ b) ⊎ (IsParsersRefusal a × IsParsersRefusal b)
    by_law (inl same) = inl (x.found_is ∙ ap whole same ∙ sym y.found_is)
    by_law (inr parsers) =
        inr (subst IsParsersRefusal (sym x.found_is) (parsers_whole x.answer parsers.1), subst IsParsersRefusal (sym y.found_is) (parsers_whole y.answer parsers.2))

ok_or_parsers : (message : Message) → IsParsersRefusal (Ok message) → ⊥
ok_or_parsers message (inl is) = cc
ok_or_parsers message (inr is) = cc

same_message : (a b : Message) → ◌≡◌ {A = Result Message HttpRefused} (Ok a) (Ok b) → a ≡ b
same_message a b is = cc

message_or_none : (a : Message) (b : HttpRefused) → ◌≡◌ {A = Result Message HttpRefused} (Ok a) (Err b) → ⊥
message_or_none a b is = cc

same_refusal : (a b : HttpRefused) → ◌≡◌ {A = Result Message HttpRefused} (Err a) (Err b) → a ≡ b
same_refusal a b is = cc

-- the reply to either of the parser's refusals
parsers_fault : (refused : HttpRefused) → IsParsersRefusal (Err refused) → http_fault refused ≡ http_fault http.EndInside
unfolding http_fault
parsers_fault refused (inl is) = rw (same_refusal refused http.Malformed is) refl
parsers_fault refused (inr is) = rw (same_refusal refused http.EndInside is) refl

same_fault : (a b : HttpRefused) → (◌≡◌ {A = Result Message HttpRefused} (Err a) (Err b)) ⊎ (IsParsersRefusal (Err a) × IsParsersRefusal (Err b)) → http_fault a ≡ http_fault b
same_fault a b (inl is) = ap http_fault (same_refusal a b is)
same_fault a b (inr both) = parsers_fault a both.0 ∙ sym (parsers_fault b both.1)

some_is : (x y : List ℕ) → Some x ≡ Some y → x ≡ y
some_is x y is = cc

apart : (message : Message) (refused : HttpRefused) → (◌≡◌ {A = Result Message HttpRefused} (Ok message) (Err refused)) ⊎ (IsParsersRefusal (Ok message) × IsParsersRefusal (Err refused)) → ⊥
apart message refused (inl is) = message_or_none message refused is
apart message refused (inr both) = ok_or_parsers message both.0

one_message : (a b : Message) → (◌≡◌ {A = Result Message HttpRefused} (Ok a) (Ok b)) ⊎ (IsParsersRefusal (Ok a) × IsParsersRefusal (Ok b)) → a ≡ b
one_message a b (inl is) = same_message a b is
one_message a b (inr both) = absurd (ok_or_parsers a both.0)

pub one_decision : OneAnswer → HaveOneDecision → OneDecision
one_decision law messages keys moment bytes a b (as_message m read is) (as_message n other also) =
    messages keys moment n a b (subst (λ (message : Message). IsDecision keys moment message a) (one_message m n (one_reading law bytes (Ok m) (Ok n) read other)) is) also
one_decision law messages keys moment bytes a b (as_message m read is) (as_none r reply other fault also) = absurd (apart m r (one_reading law bytes (Ok m) (Err r) read other))
one_decision law messages keys moment bytes a b (as_none r reply other fault also) (as_message m read is) = absurd (apart m r (one_reading law bytes (Ok m) (Err r) read other))
one_decision law messages keys moment bytes a b (as_none r reply read fault is) (as_none s answer other cause also) =
    is ∙ ap No (some_is reply answer (sym fault ∙ same_fault r s (one_reading law bytes (Err r) (Err s) read other) ∙ cause)) ∙ sym also

-- ---- every call comes to something

-- the law that bytes spell some answer
abbrev pub SomeAnswer : Type 0
SomeAnswer = (bytes : List ℕ) → ((answer : Answer) → Spells bytes answer → ⊥) → ⊥

-- the law that a message has some decision
abbrev pub HaveSomeDecision : Type 0
HaveSomeDecision = (keys : Keys) (now : ℕ) (message : Message) → ((decided : Decided) → IsDecision keys now message decided → ⊥) → ⊥

-- the laws that bytes spell no fault of a read, and no want of memory
abbrev pub NoFault : HttpRefused → Type 0
NoFault refused = (bytes : List ℕ) → Spells bytes (Err refused) → ⊥

-- a refusal that bytes spell has a reply
fault_reply : NoFault http.ReadFault → NoFault http.Memory → (bytes : List ℕ) (refused : HttpRefused) → Spells bytes (Err refused)
    → (reply : List ℕ) × (http_fault (inside refused) ≡ Some reply)
unfolding http_fault
fault_reply fault memory bytes http.EndBetween spells = (_, refl)
fault_reply fault memory bytes http.EndInside spells = (_, refl)
fault_reply fault memory bytes http.Malformed spells = (_, refl)
fault_reply fault memory bytes http.HeadTooLong spells = (_, refl)
fault_reply fault memory bytes http.NoLength spells = (_, refl)
fault_reply fault memory bytes http.BodyTooLong spells = (_, refl)
fault_reply fault memory bytes http.ReadFault spells = absurd (fault bytes spells)
fault_reply fault memory bytes http.Memory spells = absurd (memory bytes spells)

inside_reply : (reply : List ℕ) × (http_fault http.EndInside ≡ Some reply)
unfolding http_fault
inside_reply = (_, refl)

-- bytes that spell an answer come to something
answer_comes : NoFault http.ReadFault → NoFault http.Memory → HaveSomeDecision → (keys : Keys) (moment : ℕ) (bytes : List ℕ)
    → ((decided : Decided) → ComeTo keys moment bytes decided → ⊥) → (answer : Answer) → Spells bytes answer → ⊥
answer_comes fault memory messages keys moment bytes none (Ok (message, [])) spells =
    let read : AreRead bytes (Ok message) = record { answer = Ok (message, []); spells = spells; found_is = refl } in
    messages keys moment message (λ decided is. none decided (as_message message read is))
answer_comes fault memory messages keys moment bytes none (Ok (message, b ∷ behind)) spells =
    let read : AreRead bytes (Err http.EndInside) = record { answer = Ok (message, b ∷ behind); spells = spells; found_is = refl } in
    none (No inside_reply.0) (as_none http.EndInside inside_reply.0 read inside_reply.1 refl)
answer_comes fault memory messages keys moment bytes none (Err refused) spells =
    let read : AreRead bytes (Err (inside refused)) = record { answer = Err refused; spells = spells; found_is = refl } in
    let reply = fault_reply fault memory bytes refused spells in
    none (No reply.0) (as_none (inside refused) reply.0 read reply.1 refl)

pub some_decision : SomeAnswer → NoFault http.ReadFault → NoFault http.Memory → HaveSomeDecision → (keys : Keys) (moment : ℕ) (bytes : List ℕ)
    → ((decided : Decided) → ComeTo keys moment bytes decided → ⊥) → ⊥
some_decision answers fault memory messages keys moment bytes none = answers bytes (answer_comes fault memory messages keys moment bytes none)

-- ---- signed calls

-- the law that a message comes to a request only where it is signed
abbrev pub RequestsAreSigned : Type 0
RequestsAreSigned = (keys : Keys) (key : List ℕ) (now : ℕ) (message : Message) (request : Request) → keys.key ≡ Some key
    → IsDecision keys now message (Go request) → IsSigned keys.account key (signed_of message) now

goes_or_not : (request : Request) (reply : List ℕ) → Go request ≡ No reply → ⊥
goes_or_not request reply is = cc

pub signed_calls : RequestsAreSigned → (keys : Keys) (key : List ℕ) (moment : ℕ) (bytes : List ℕ) (request : Request) → keys.key ≡ Some key
    → ComeTo keys moment bytes (Go request) → AreSigned keys.account key bytes moment
signed_calls law keys key moment bytes request is (as_message message read decided) =
    record { message = message; read = read; signed = law keys key moment message request is decided }
signed_calls law keys key moment bytes request is (as_none refused reply read fault other) = absurd (goes_or_not request reply other)
