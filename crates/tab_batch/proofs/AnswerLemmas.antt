-- The bytes of a batch decide its answer, and have one.
use Rattle.std.proofs.Common.{◌≡◌, ℕ, suc, List, [], ◌∷◌, ◌++◌, length, drop, refl, sym, ap, ◌∙◌, subst}
use Rattle.std.specs.Prelude.{Option, Some, Result, Ok, Err}
use Rattle.httparse.specs.Grammar.{RequestHead, print_request}
use Rattle.httparse.proofs.GrammarLemmas.{request_unique}
use Rattle.tab_http.specs.declared.messages.Message.{Message}
use Rattle.tab_batch.specs.Parts.{requests_of}
use Rattle.tab_batch.specs.Requests.{ending, target_of, addressed, IsRequest, IsNoRequest, AreRequests}
use Rattle.tab_batch.specs.Refusals.{IsBatch, FirstBad, Answer, IsBatchAnswer}
use Rattle.tab_batch.specs.declared.refusals.BatchRefused.{BatchRefused}
use Rattle.tab_batch.specs.declared.refusals.BatchRefused.TheVariants.{BadMultipart, BadPart, Memory}

-- ---- requests

same_some : (a b : List ℕ) → ◌≡◌ {A = Option (List ℕ)} (Some a) (Some b) → a ≡ b
same_some a b is = cc

-- the bytes of a part are one request
same_request : (part : List ℕ) (a b : Message) → IsRequest part a → IsRequest part b → a ≡ b
same_request part a b p q =
    let heads = request_unique (part ++ ending) p.h q.h p.rest q.rest p.begins.reads q.begins.reads in
    let targets = same_some p.target q.target (sym p.named ∙ ap (λ (h : RequestHead). target_of h.target) heads.0 ∙ q.named) in
    p.is ∙ ap (λ (h : RequestHead). addressed h (drop (length (print_request h)) part) p.target) heads.0 ∙ ap (addressed q.h (drop (length (print_request q.h)) part)) targets ∙ sym q.is

same_requests : (parts : List (List ℕ)) (ms ns : List Message) → AreRequests parts ms → AreRequests parts ns → ms ≡ ns
same_requests [] [] [] p q = refl
same_requests [] (a ∷ ms) ns p q = absurd p
same_requests [] [] (b ∷ ns) p q = absurd q
same_requests (part ∷ parts) [] ns p q = absurd p
same_requests (part ∷ parts) (a ∷ ms) [] p q = absurd q
same_requests (part ∷ parts) (a ∷ ms) (b ∷ ns) p q =
    let first = same_request part a b p.0 q.0 in
    let rest = same_requests parts ms ns p.1 q.1 in
    cc

-- ---- parts

no_bad : (front : List (List ℕ)) (part : List ℕ) (more : List (List ℕ)) (messages : List Message) → AreRequests (front ++ part ∷ more) messages → IsNoRequest part → ⊥
no_bad [] part more [] are bad = are
no_bad [] part more (m ∷ messages) are bad = bad m are.0
no_bad (p ∷ front) part more [] are bad = are
no_bad (p ∷ front) part more (m ∷ messages) are bad = no_bad front part more messages are.1 bad

same_heads : (p q : List ℕ) (ps qs : List (List ℕ)) → p ∷ ps ≡ q ∷ qs → (p ≡ q) × (ps ≡ qs)
same_heads p q ps qs is = (cc, cc)

same_count : (front other : List (List ℕ)) (part bad : List ℕ) (more rest : List (List ℕ)) (ms ns : List Message) → front ++ part ∷ more ≡ other ++ bad ∷ rest → AreRequests front ms → AreRequests other ns
    → IsNoRequest part → IsNoRequest bad → length front ≡ length other
same_count [] [] part bad more rest ms ns is p q bad_here bad_there = refl
same_count [] (o ∷ other) part bad more rest ms [] is p q bad_here bad_there = absurd q
same_count [] (o ∷ other) part bad more rest ms (b ∷ ns) is p q bad_here bad_there = absurd (bad_here b (subst (λ (x : List ℕ). IsRequest x b) (sym (same_heads part o more (other ++ bad ∷ rest) is).0) q.0))
same_count (f ∷ front) [] part bad more rest [] ns is p q bad_here bad_there = absurd p
same_count (f ∷ front) [] part bad more rest (a ∷ ms) ns is p q bad_here bad_there = absurd (bad_there a (subst (λ (x : List ℕ). IsRequest x a) (same_heads f bad (front ++ part ∷ more) rest is).0 p.0))
same_count (f ∷ front) (o ∷ other) part bad more rest [] ns is p q bad_here bad_there = absurd p
same_count (f ∷ front) (o ∷ other) part bad more rest (a ∷ ms) [] is p q bad_here bad_there = absurd q
same_count (f ∷ front) (o ∷ other) part bad more rest (a ∷ ms) (b ∷ ns) is p q bad_here bad_there =
    ap suc (same_count front other part bad more rest ms ns (same_heads f o (front ++ part ∷ more) (other ++ bad ∷ rest) is).1 p.1 q.1 bad_here bad_there)

-- ---- answers

same_parts : (r : Result (List (List ℕ)) ℕ) (ps qs : List (List ℕ)) → r ≡ Ok ps → r ≡ Ok qs → ps ≡ qs
same_parts r ps qs p q = same ps qs (sym p ∙ q)
  where
    same : (xs ys : List (List ℕ)) → ◌≡◌ {A = Result (List (List ℕ)) ℕ} (Ok xs) (Ok ys) → xs ≡ ys
    same xs ys is = cc

same_offsets : (r : Result (List (List ℕ)) ℕ) (i j : ℕ) → r ≡ Err i → r ≡ Err j → i ≡ j
same_offsets r i j p q = same i j (sym p ∙ q)
  where
    same : (x y : ℕ) → ◌≡◌ {A = Result (List (List ℕ)) ℕ} (Err x) (Err y) → x ≡ y
    same x y is = cc

either_way : (r : Result (List (List ℕ)) ℕ) (ps : List (List ℕ)) (at : ℕ) → r ≡ Ok ps → r ≡ Err at → ⊥
either_way r ps at p q = differ ps at (sym p ∙ q)
  where
    differ : (xs : List (List ℕ)) (x : ℕ) → ◌≡◌ {A = Result (List (List ℕ)) ℕ} (Ok xs) (Err x) → ⊥
    differ xs x is = absurd (cc)

-- what is read has no bad part
read_or_bad : (r : Result (List (List ℕ)) ℕ) (ps qs : List (List ℕ)) (messages : List Message) (i : ℕ) → r ≡ Ok ps → r ≡ Ok qs → AreRequests ps messages → FirstBad qs i → ⊥
read_or_bad r ps qs messages i p q are bad =
    no_bad bad.front bad.part bad.more messages (subst (λ (xs : List (List ℕ)). AreRequests xs messages) (same_parts r ps qs p q ∙ bad.are) are) bad.bad

same_refusal : (boundary bytes : List ℕ) (a b : BatchRefused) → IsBatchAnswer boundary bytes (Err a) → IsBatchAnswer boundary bytes (Err b) → a ≡ b
same_refusal boundary bytes (BadMultipart i) (BadMultipart j) p q = ap BadMultipart (same_offsets (requests_of boundary bytes) i j p.1 q.1)
same_refusal boundary bytes (BadMultipart i) (BadPart j) p q = absurd (either_way (requests_of boundary bytes) q.1.0 i q.1.1 p.1)
same_refusal boundary bytes (BadPart i) (BadMultipart j) p q = absurd (either_way (requests_of boundary bytes) p.1.0 j p.1.1 q.1)
same_refusal boundary bytes (BadPart i) (BadPart j) p q =
    let same = same_parts (requests_of boundary bytes) p.1.0 q.1.0 p.1.1 q.1.1 in
    let first = p.1.2 in
    let second = q.1.2 in
    ap BadPart (sym first.count ∙ same_count first.front second.front first.part second.part first.more second.more first.messages second.messages (sym first.are ∙ same ∙ second.are) first.before second.before first.bad second.bad ∙ second.count)
same_refusal boundary bytes Memory b p q = absurd p.0
same_refusal boundary bytes (BadMultipart i) Memory p q = absurd q.0
same_refusal boundary bytes (BadPart i) Memory p q = absurd q.0

read_or_refused : (boundary bytes : List ℕ) (messages : List Message) (b : BatchRefused) → IsBatch boundary bytes messages → IsBatchAnswer boundary bytes (Err b) → ⊥
read_or_refused boundary bytes messages (BadMultipart i) p q = either_way (requests_of boundary bytes) p.parts i p.cut q.1
read_or_refused boundary bytes messages (BadPart i) p q = read_or_bad (requests_of boundary bytes) p.parts q.1.0 messages i p.cut q.1.1 p.read q.1.2
read_or_refused boundary bytes messages Memory p q = q.0

pub a_batch_has_one_answer : (boundary bytes : List ℕ) (a b : Answer) → IsBatchAnswer boundary bytes a → IsBatchAnswer boundary bytes b → a ≡ b
a_batch_has_one_answer boundary bytes (Ok ms) (Ok ns) p q =
    let same = same_parts (requests_of boundary bytes) p.parts q.parts p.cut q.cut in
    ap Ok (same_requests q.parts ms ns (subst (λ (xs : List (List ℕ)). AreRequests xs ms) same p.read) q.read)
a_batch_has_one_answer boundary bytes (Ok ms) (Err b) p q = absurd (read_or_refused boundary bytes ms b p q)
a_batch_has_one_answer boundary bytes (Err a) (Ok ns) p q = absurd (read_or_refused boundary bytes ns a q p)
a_batch_has_one_answer boundary bytes (Err a) (Err b) p q = ap Err (same_refusal boundary bytes a b p q)

-- ---- some answer

behind_one : (part : List ℕ) (message : Message) (parts : List (List ℕ)) (index : ℕ) → IsRequest part message → FirstBad parts index → FirstBad (part ∷ parts) (suc index)
behind_one part message parts index is bad = record {
  front = part ∷ bad.front;
  messages = message ∷ bad.messages;
  part = bad.part;
  more = bad.more;
  are = ap (λ (l : List (List ℕ)). part ∷ l) bad.are;
  count = ap (λ (n : ℕ). suc n) bad.count;
  before = (is, bad.before);
  bad = bad.bad;
}

-- parts are all requests, or one is the first that is none
parts_have_an_answer : (parts : List (List ℕ)) → ((messages : List Message) → AreRequests parts messages → ⊥) → ((index : ℕ) → FirstBad parts index → ⊥) → ⊥
parts_have_an_answer [] no_requests no_bad = no_requests [] tt
parts_have_an_answer (part ∷ parts) no_requests no_bad = by_later (parts_have_an_answer parts)
  where
    by_later : (((messages : List Message) → AreRequests parts messages → ⊥) → ((index : ℕ) → FirstBad parts index → ⊥) → ⊥) → ⊥
    by_later later =
        no_bad 0 (record {
          front = [];
          messages = [];
          part = part;
          more = parts;
          are = refl;
          count = refl;
          before = tt;
          bad = λ message is. later (λ messages are. no_requests (message ∷ messages) (is, are)) (λ index bad. no_bad (suc index) (behind_one part message parts index is bad));
        })

pub a_batch_has_some_answer : (boundary bytes : List ℕ) → ((answer : Answer) → IsBatchAnswer boundary bytes answer → ⊥) → ⊥
a_batch_has_some_answer boundary bytes none = by_cut (requests_of boundary bytes) refl
  where
    by_cut : (r : Result (List (List ℕ)) ℕ) → requests_of boundary bytes ≡ r → ⊥
    by_cut (Ok parts) e =
        parts_have_an_answer parts (λ messages are. none (Ok messages) (record { parts = parts; cut = e; read = are })) (λ index bad. none (Err (BadPart index)) (tt, (parts, e, bad)))
    by_cut (Err at) e = none (Err (BadMultipart at)) (tt, e)
