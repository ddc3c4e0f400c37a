-- The requests of the parts, one by one.
use Rattle.std.proofs.Common.{ℕ, suc, ◌+◌, ◌<◌, List, [], ◌∷◌, ◌++◌, length, get_or, take, drop, map, refl, sym, ap, ◌∙◌, arith, add-one, take-append-drop, drop-cons}
use Rattle.std.proofs.Math.Seq.{take-suc}
use Rattle.std.proofs.lemmas.List.{length-map, length-take, map-append}
use Rattle.tab_batch.specs.Parts.{between}
use Rattle.tab_batch.specs.Requests.{IsRequest, IsNoRequest, AreRequests}
use Rattle.tab_batch.specs.Refusals.{FirstBad}
use Rattle.tab_batch.specs.declared.byte_ranges.ByteRange.{ByteRange}
use Rattle.tab_http.specs.declared.messages.Message.{Message}

one_more : (parts : List (List ℕ)) (messages : List Message) (part : List ℕ) (message : Message) → AreRequests parts messages → IsRequest part message
    → AreRequests (parts ++ part ∷ []) (messages ++ message ∷ [])
one_more [] [] part message are is = (is, tt)
one_more [] (m ∷ messages) part message are is = absurd are
one_more (p ∷ parts) [] part message are is = absurd are
one_more (p ∷ parts) (m ∷ messages) part message are is = (are.0, one_more parts messages part message are.1 is)

-- the next part is a request
pub next_request : (bytes : List ℕ) (ranges : List ByteRange) (i : ℕ) (none : ByteRange) (messages : List Message) (message : Message) → i < length ranges → AreRequests (map (between bytes) (take i ranges)) messages
    → IsRequest (between bytes (get_or ranges i none)) message → AreRequests (map (between bytes) (take (i + 1) ranges)) (messages ++ message ∷ [])
next_request bytes ranges i none messages message inside are is =
    rw (add-one, take-suc ranges i none inside, map-append) (one_more (map (between bytes) (take i ranges)) messages (between bytes (get_or ranges i none)) message are is)

-- the next part is none
pub first_bad : (bytes : List ℕ) (ranges : List ByteRange) (i : ℕ) (none : ByteRange) (messages : List Message) → i < length ranges → AreRequests (map (between bytes) (take i ranges)) messages
    → IsNoRequest (between bytes (get_or ranges i none)) → FirstBad (map (between bytes) ranges) i
first_bad bytes ranges i none messages inside are bad = record {
  front = map (between bytes) (take i ranges);
  messages = messages;
  part = between bytes (get_or ranges i none);
  more = map (between bytes) (drop (suc i) ranges);
  are = ap (map (between bytes)) (sym (take-append-drop i ranges)) ∙ rw (map-append, drop-cons ranges i none inside) refl;
  count = omega (arith, length-map (take i ranges) (between bytes), length-take i ranges, inside);
  before = are;
  bad = bad;
}
