-- The head that the bytes of a part begin with, as if an empty line followed them, and the request that it makes of them.
use Rattle.std.proofs.Common.{◌≡◌, ℕ, ◌<◌, ◌≤◌, ⊎_elim, min, true, false, List, ◌++◌, length, take, drop, refl, sym, ap, ◌∙◌, cond, arith, take-append-drop}
use Rattle.std.specs.Prelude.{Option, Some, None}
use Rattle.std.proofs.Math.Seq.{drop-length}
use Rattle.std.proofs.lemmas.Bool.{cases_lt}
use Rattle.std.proofs.lemmas.List.{take_at, take-append-le, drop_all}
use Rattle.httparse.specs.Grammar.{RequestHead, print_request}
use Rattle.httparse.proofs.GrammarLemmas.{ReadsRequest-append, request_unique}
use Rattle.tab_http.specs.Heads.{BeginsWithHead, HasNoHead, HasParts, IsHead}
use Rattle.tab_http.specs.Messages.{message_of}
use Rattle.tab_http.specs.declared.heads.Head.{Head}
use Rattle.tab_http.specs.declared.messages.Message.{Message}
use Rattle.tab_http.specs.declared.TheConstants.{LONGEST_HEAD}
use Rattle.tab_batch.specs.Requests.{ending, is_path, target_on_web, target_of, IsRequest, IsNoRequest}
use Rattle.url.specs.Parser.{parse_url}

-- ---- heads

-- a head of the part is a head of it and what follows
pub head_of_more : (part : List ℕ) (head : Head) → IsHead part head → (h : RequestHead) × (rest : List ℕ) × BeginsWithHead (part ++ ending) h rest × HasParts h head
head_of_more part head is =
    (is.h, drop head.len part ++ ending, record { reads = ReadsRequest-append part is.h (drop head.len part) ending is.begins.reads; few = is.begins.few; short = is.begins.short }, is.parts)

-- what ends within the first bytes is at their front
fronted : (part tail front rest : List ℕ) → part ++ tail ≡ front ++ rest → length front ≤ length part → part ≡ front ++ drop (length front) part
fronted part tail front rest whole within =
    let same : take (length front) part ≡ front = sym (take-append-le (length front) part tail within) ∙ ap (take (length front)) whole ∙ take_at front rest (length front) refl in
    sym (take-append-drop (length front) part) ∙ ap (λ (xs : List ℕ). xs ++ drop (length front) part) same

-- as many bytes as a head may have begin with the same heads, whatever follows them
pub no_head_of_more : (part : List ℕ) → HasNoHead part → LONGEST_HEAD ≤ length part → HasNoHead (part ++ ending)
no_head_of_more part none long h rest begins =
    none h (drop (length (print_request h)) part) (record {
      reads = (begins.reads.0, fronted part ending (print_request h) rest begins.reads.1 (omega (arith, begins.short, long)));
      few = begins.few;
      short = begins.short;
    })

-- ---- requests

pub drop_least : (n : ℕ) (xs : List ℕ) → drop (min n (length xs)) xs ≡ drop n xs
drop_least n xs = ⊎_elim long short (cases_lt (length xs) n)
  where
    long : length xs < n → drop (min n (length xs)) xs ≡ drop n xs
    long more = let least : min n (length xs) ≡ length xs = omega arith in rw least (drop-length xs ∙ sym (drop_all n xs (omega arith)))

    short : n ≤ length xs → drop (min n (length xs)) xs ≡ drop n xs
    short fewer = let least : min n (length xs) ≡ n = omega arith in rw least refl

-- the body is all that is behind the head
body_is : (part : List ℕ) (h : RequestHead) (head : Head) (body : List ℕ) → HasParts h head → body ≡ drop head.len part → body ≡ drop (length (print_request h)) part
body_is part h head body parts is = is ∙ ap (λ (n : ℕ). drop n part) parts.len

path_is : (target : List ℕ) → true ≡ is_path target → target_of target ≡ Some target
unfolding target_of
path_is target is = ap (λ v. cond v (Some target) (target_on_web (parse_url None target))) (sym is)

address_is : (target : List ℕ) → false ≡ is_path target → target_of target ≡ target_on_web (parse_url None target)
unfolding target_of
address_is target is = ap (λ v. cond v (Some target) (target_on_web (parse_url None target))) (sym is)

-- the request of a path
pub at_path : (part : List ℕ) (h : RequestHead) (rest : List ℕ) (head : Head) (body : List ℕ) (message : Message) → BeginsWithHead (part ++ ending) h rest → HasParts h head
    → body ≡ drop head.len part → message ≡ message_of h body → true ≡ is_path message.target → IsRequest part message
at_path part h rest head body message begins parts whole is path = record {
  h = h;
  rest = rest;
  begins = begins;
  target = h.target;
  named = path_is h.target (path ∙ ap (λ (m : Message). is_path m.target) is);
  is = is ∙ ap (message_of h) (body_is part h head body parts whole);
}

-- the request of an address
pub at_address : (part : List ℕ) (h : RequestHead) (rest : List ℕ) (head : Head) (body target : List ℕ) (message : Message) → BeginsWithHead (part ++ ending) h rest → HasParts h head
    → body ≡ drop head.len part → message ≡ message_of h body → false ≡ is_path message.target → Some target ≡ target_on_web (parse_url None message.target)
    → IsRequest part (record message { target = target })
at_address part h rest head body target message begins parts whole is path found = record {
  h = h;
  rest = rest;
  begins = begins;
  target = target;
  named = address_is h.target (path ∙ ap (λ (m : Message). is_path m.target) is) ∙ sym (found ∙ ap (λ (m : Message). target_on_web (parse_url None m.target)) is);
  is = ap (λ (m : Message). record m { target = target }) (is ∙ ap (message_of h) (body_is part h head body parts whole));
}

-- an address that is none of the web makes no request
pub nowhere : (part : List ℕ) (h : RequestHead) (rest : List ℕ) (body : List ℕ) (message : Message) → BeginsWithHead (part ++ ending) h rest → message ≡ message_of h body
    → false ≡ is_path message.target → None ≡ target_on_web (parse_url None message.target) → IsNoRequest part
nowhere part h rest body message begins is path none other request =
    let same = request_unique (part ++ ending) request.h h request.rest rest request.begins.reads begins.reads in
    let named : target_of h.target ≡ Some request.target = ap (λ (g : RequestHead). target_of g.target) (sym same.0) ∙ request.named in
    let unnamed : target_of h.target ≡ None = address_is h.target (path ∙ ap (λ (m : Message). is_path m.target) is) ∙ sym (none ∙ ap (λ (m : Message). target_on_web (parse_url None m.target)) is) in
    differ request.target (sym named ∙ unnamed)
  where
    differ : (t : List ℕ) → ◌≡◌ {A = Option (List ℕ)} (Some t) None → ⊥
    differ t is = absurd (cc)
