-- The operations of parts that have been read, and of those behind them.
use Rattle.std.proofs.Common.{◌≡◌, ℕ, ◌+◌, ◌<◌, ◌≤◌, Bool, List, [], ◌∷◌, ◌++◌, length, drop, get_or, Option, Some, Result, Ok, Err, refl, sym, ap, subst, ◌∙◌, append_assoc, append-nil, drop-cons, add-one}
use Rattle.std.proofs.lemmas.List.{drop_all}
use Rattle.tab_http.specs.declared.messages.Message.{Message}
use Rattle.tab_service.specs.Answers.{IsDue}
use Rattle.tab_service.specs.Batches.{of_part, Operations, refused_at, with_part, part_of, operations_from, grouped_request, unread, batch_request, boundary_in, IsReadUnder, IsBatchOf}
use Rattle.tab_batch.specs.Refusals.{IsBatch, Refuses, IsDecided}
use Rattle.tab_batch.specs.declared.refusals.BatchRefused.{BatchRefused}
use Rattle.tab_service.specs.declared.forms.Request.{Request}
use Rattle.tab_service.specs.declared.refusals.PartRefusal.{PartRefusal}
use Rattle.tab_service.specs.declared.refusals.Refusal.{Refusal}
use Rattle.tab_service.specs.declared.refusals.Refused.{Refused}
use Rattle.tab_service.specs.declared.refusals.Refused.TheVariants as refused
use Rattle.tab_service.specs.declared.requests.writes.Operation.{Operation}

-- more operations behind these
abbrev pub behind : Operations → Result Operations PartRefusal → Result Operations PartRefusal
behind front (Err refused) = Err refused
behind front (Ok more) = Ok (front.0 ++ more.0, front.1 ++ more.1)

behind_part : (front : Operations) (index : ℕ) (part : Operation) (more : Result Operations PartRefusal)
    → behind front (with_part index (Ok part) more) ≡ behind (front.0 ++ part.item ∷ [], front.1 ++ part.form ∷ []) more
behind_part front index part (Err refused) = refl
behind_part front index part (Ok more) = simp append_assoc

one_more : (index : ℕ) (account : List ℕ) (messages : List Message) (message : Message) → index < length messages → message ≡ get_or messages index message
    → operations_from index account (drop index messages) ≡ with_part index (part_of account message) (operations_from (index + 1) account (drop (index + 1) messages))
unfolding operations_from
one_more index account messages message within is = rw (drop-cons messages index message, ← is, add-one) refl

-- a part that is an operation
pub read_part : (index : ℕ) (account : List ℕ) (messages : List Message) (message : Message) (front : Operations) (part : Operation) → index < length messages → message ≡ get_or messages index message
    → Ok part ≡ part_of account message
    → behind front (operations_from index account (drop index messages)) ≡ behind (front.0 ++ part.item ∷ [], front.1 ++ part.form ∷ []) (operations_from (index + 1) account (drop (index + 1) messages))
read_part index account messages message front part within is found =
    ap (behind front) (one_more index account messages message within is ∙ ap (λ (p : Result Operation Refusal). with_part index p (operations_from (index + 1) account (drop (index + 1) messages))) (sym found))
    ∙ behind_part front index part (operations_from (index + 1) account (drop (index + 1) messages))

-- a part that is refused
pub refused_part : (index : ℕ) (account : List ℕ) (messages : List Message) (message : Message) (front : Operations) (why : Refusal) → index < length messages → message ≡ get_or messages index message
    → Err why ≡ part_of account message → behind front (operations_from index account (drop index messages)) ≡ Err (refused_at index why)
refused_part index account messages message front why within is found =
    ap (behind front) (one_more index account messages message within is ∙ ap (λ (p : Result Operation Refusal). with_part index p (operations_from (index + 1) account (drop (index + 1) messages))) (sym found))

-- a part that is not read
pub stopped_part : (index : ℕ) (account : List ℕ) (messages : List Message) (message : Message) (front : Operations) (stop : Refused Refusal) → index < length messages → message ≡ get_or messages index message
    → IsDue (λ answer. part_of account message ≡ answer) stop → IsDue (λ answer. behind front (operations_from index account (drop index messages)) ≡ answer) (of_part index stop)
stopped_part index account messages message front (refused.Why why) within is found = refused_part index account messages message front why within is (sym found)
stopped_part index account messages message front refused.Memory within is found = tt

nothing_more : (front : Operations) → behind front (Ok ([], [])) ≡ Ok front
nothing_more front = simp append-nil

-- no part is left
pub all_read : (index : ℕ) (account : List ℕ) (messages : List Message) (front : Operations) → length messages ≤ index → behind front (operations_from index account (drop index messages)) ≡ Ok front
unfolding operations_from
all_read index account messages front within =
    ap (λ (left : List Message). behind front (operations_from index account left)) (drop_all index messages within) ∙ nothing_more front

-- ---- bodies

-- the body gives its requests
pub batch_read : (account : List ℕ) (minimal : Bool) (message : Message) (boundary bytes : List ℕ) (messages seen : List Message) (found : Result Request PartRefusal)
    → Some boundary ≡ boundary_in message.headers → bytes ≡ message.body → seen ≡ messages → IsBatch boundary bytes messages
    → found ≡ grouped_request account minimal (operations_from 0 account seen) → IsBatchOf account minimal message found
unfolding IsBatchOf
batch_read account minimal message boundary bytes messages seen found named body same is made =
    let gives : IsBatch boundary message.body messages = subst (λ (b : List ℕ). IsBatch boundary b messages) body is in
    let makes : found ≡ batch_request account minimal (Ok messages) = made ∙ ap (λ (ms : List Message). batch_request account minimal (Ok ms)) same in
    let read : IsReadUnder account minimal message.body (Some boundary) found = (Ok messages, gives, makes) in
    subst (λ (b : Option (List ℕ)). IsReadUnder account minimal message.body b found) named read

-- the body is refused
pub batch_unread : (account : List ℕ) (minimal : Bool) (message : Message) (boundary bytes : List ℕ) (why : BatchRefused) (refused : PartRefusal)
    → Some boundary ≡ boundary_in message.headers → bytes ≡ message.body → Refuses boundary bytes why → IsDecided why → refused ≡ unread why
    → IsBatchOf account minimal message (Err refused)
unfolding IsBatchOf
batch_unread account minimal message boundary bytes why refused named body is decided made =
    let refuses : Refuses boundary message.body why = subst (λ (b : List ℕ). Refuses boundary b why) body is in
    let makes : ◌≡◌ {A = Result Request PartRefusal} (Err refused) (Err (unread why)) = ap (λ (r : PartRefusal). Err r) made in
    let read : IsReadUnder account minimal message.body (Some boundary) (Err refused) = (Err why, (decided, refuses), makes) in
    subst (λ (b : Option (List ℕ)). IsReadUnder account minimal message.body b (Err refused)) named read
