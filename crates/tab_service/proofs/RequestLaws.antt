-- The requests that messages come to are in their form and signed, and a message comes to just one thing.
use Rattle.std.proofs.Common.{◌≡◌, ℕ, ◌+◌, List, [], ◌∷◌, Bool, true, false, cond, Option, Some, None, Result, Ok, Err, IfOk, if◌then◌else◌, refl, sym, ap, subst, ◌∙◌, codes, bytes_eq, ◌||◌}
use Rattle.std.specs.Prelude.{⊤}
use Rattle.tab_keys.specs.Results.{◌>>=◌}
use Rattle.tab_auth.specs.Checks.{refusal, account_refusal}
use Rattle.tab_auth.specs.SignedRequests.{IsSigned}
use Rattle.tab_auth.proofs.Signings.{taken_exactly}
use Rattle.tab_auth.specs.declared.checks.AuthRefused.{AuthRefused}
use Rattle.tab_auth.specs.declared.signatures.Keys.{Keys}
use Rattle.tab_edm.specs.Entities.{EntityView}
use Rattle.tab_http.specs.declared.messages.Header.{Header}
use Rattle.tab_http.specs.declared.messages.Message.{Message}
use Rattle.tab_ops.specs.declared.ops.Match.{Match}
use Rattle.tab_ops.specs.declared.ops.Op.TheVariants.{Insert, Delete}
use Rattle.tab_json.specs.declared.bodies.BodyEntity.{BodyEntity}
use Rattle.tab_ops.specs.Groups.{ItemView, group_refusal, items_or_refusal}
use Rattle.tab_ops.specs.declared.groups.GroupRefused.{GroupRefused}
use Rattle.tab_batch.specs.Refusals.{Answer, IsBatchAnswer}
use Rattle.tab_service.specs.Targets.{query_of}
use Rattle.tab_service.specs.Signing.{signed_of}
use Rattle.tab_service.specs.TableQueries.{table_window}
use Rattle.tab_service.specs.Preferences.{format_for, format_with_body, preference_for}
use Rattle.tab_service.specs.Conditions.{condition_for, needed_condition}
use Rattle.tab_service.specs.Refusals.{refusal_text}
use Rattle.tab_service.specs.Requests.{tables_request, create_request, drop_request, page_request, row_request, change_operation, single, table_name, row_keys, body_name, query_options, query_select, read_body, given_keys, entity_for, op_for, insert_from, write_from, decided_tables, decided_create, decided_drop, decided_page, decided_row, decided_insert, decided_write, decided_delete, change_in_rows, change_of_row, resource_at}
use Rattle.tab_service.specs.Forms.{IsPartOf, ArePartsOf, IsInForm}
use Rattle.tab_service.specs.Batches.{Operations, part_on, part_of, with_part, operations_from, request_for, grouped_request, batch_request, boundary_in, IsReadUnder, IsBatchOf}
use Rattle.tab_service.specs.Decisions.{on_tables, on_table, on_rows, on_row, on_batch, one_request, decided_on, decided_at, if_signed, asked_of, answered, ComesTo, IsDecision}
use Rattle.tab_service.specs.declared.refusals.PartRefusal.{PartRefusal}
use Rattle.tab_service.specs.declared.requests.decide.Asked.{Asked}
use Rattle.tab_service.specs.declared.requests.decide.Asked.TheVariants.{One, Many}
use Rattle.tab_service.specs.declared.requests.decide.Decided.{Decided}
use Rattle.tab_service.specs.declared.requests.decide.Decided.TheVariants.{Go, No}
use Rattle.tab_service.specs.declared.forms.PartForm.{PartForm}
use Rattle.tab_service.specs.declared.forms.Prefer.{Prefer}
use Rattle.tab_service.specs.declared.forms.Prefer.TheVariants.{Unsaid}
use Rattle.tab_service.specs.declared.forms.Request.{Request}
use Rattle.tab_service.specs.declared.refusals.Refusal.{Refusal}
use Rattle.tab_service.specs.declared.refusals.Refusal.TheVariants.{Method, NoBoundary}
use Rattle.tab_service.specs.declared.requests.targets.Resource.{Resource}
use Rattle.tab_service.specs.declared.requests.targets.Resource.TheVariants.{Tables, Table, Rows, Row, Batch}
use Rattle.tab_service.specs.declared.requests.writes.Operation.{Operation}
use Rattle.tab_service.specs.declared.requests.writes.Writing.{Writing}
use Rattle.tab_service.specs.declared.requests.writes.Writing.TheVariants.{Replacing, Merging}

abbrev Keeps : List ℕ → Result Request Refusal → Type 0
Keeps account decided = IfOk decided (λ request. IsInForm account request)

-- the form is that of the operation
abbrev OfItem : Operation → Type 0
OfItem part = IsPartOf part.item part.form

abbrev IsSound : Result Operation Refusal → Type 0
IsSound decided = IfOk decided OfItem

-- what comes of anything that was found
through : {A B : Type 0} → (P : B → Type 0) (found : Result A Refusal) (next : A → Result B Refusal) → ((a : A) → IfOk (next a) P) → IfOk (found >>= next) P
through P (Ok a) next keeps = keeps a
through P (Err why) next keeps = tt

either : {B : Type 0} → (P : B → Type 0) (test : Bool) (a b : Result B Refusal) → IfOk a P → IfOk b P → IfOk (cond test a b) P
either P true a b x y = x
either P false a b x y = y

-- what is made of what was found
made : {A B : Type 0} → (P : B → Type 0) (found : Result A Refusal) (make : A → B) → ((a : A) → P (make a)) → IfOk (found >>= λ a. Ok (make a)) P
made P (Ok a) make is = is a
made P (Err why) make is = tt

-- ---- requests that are no change

tables_keep : (account query : List ℕ) (headers : List Header) → Keeps account (decided_tables account query headers)
unfolding decided_tables
tables_keep account query headers =
    through (IsInForm account) (format_for headers) (λ minimal. table_window query >>= λ window. Ok (tables_request account minimal window))
    (λ minimal. made (IsInForm account) (table_window query) (λ window. tables_request account minimal window)
    (λ window. record { of_account = refl; suits = (record { plain = record { insert = refl; delete = refl }; prefer = refl }, refl) }))

create_keeps : (account : List ℕ) (headers : List Header) (body : List ℕ) → Keeps account (decided_create account headers body)
unfolding decided_create
create_keeps account headers body =
    through (IsInForm account) (format_with_body headers) (λ minimal. body_name body >>= λ name. Ok (create_request account minimal (preference_for headers) name))
    (λ minimal. made (IsInForm account) (body_name body) (λ name. create_request account minimal (preference_for headers) name)
    (λ name. record { of_account = refl; suits = (record { insert = refl; delete = refl }, refl) }))

drop_keeps : (account : List ℕ) (headers : List Header) (name : List ℕ) → Keeps account (decided_drop account headers name)
unfolding decided_drop
drop_keeps account headers name =
    made (IsInForm account) (format_for headers) (λ minimal. drop_request account minimal name)
    (λ minimal. record { of_account = refl; suits = (record { plain = record { insert = refl; delete = refl }; prefer = refl }, refl) })

page_keeps : (account query : List ℕ) (headers : List Header) (name : List ℕ) → Keeps account (decided_page account query headers name)
unfolding decided_page
page_keeps account query headers name =
    through (IsInForm account) (format_for headers) (λ minimal. query_options query >>= λ options. Ok (page_request account minimal name options))
    (λ minimal. made (IsInForm account) (query_options query) (λ options. page_request account minimal name options)
    (λ options. record { of_account = refl; suits = (record { plain = record { insert = refl; delete = refl }; prefer = refl }, refl) }))

row_keeps : (account query : List ℕ) (headers : List Header) (name : List ℕ) (keys : List ℕ × List ℕ) → Keeps account (decided_row account query headers name keys)
unfolding decided_row
row_keeps account query headers name keys =
    through (IsInForm account) (format_for headers) (λ minimal. query_select query >>= λ select. Ok (row_request account minimal select name keys))
    (λ minimal. made (IsInForm account) (query_select query) (λ select. row_request account minimal select name keys)
    (λ select. record { of_account = refl; suits = (record { plain = record { insert = refl; delete = refl }; prefer = refl }, refl) }))

-- ---- operations

insert_from_sound : (minimal : Bool) (prefer : Prefer) (name : List ℕ) (body : BodyEntity) → IsSound (insert_from minimal prefer name body)
insert_from_sound minimal prefer name body =
    through OfItem (given_keys body) (λ keys. entity_for keys body >>= λ entity. Ok (change_operation minimal prefer name keys (Insert entity)))
    (λ keys. made OfItem (entity_for keys body) (λ entity. change_operation minimal prefer name keys (Insert entity))
    (λ entity. record { insert = refl; delete = refl; prefer = tt }))

insert_sound : (headers : List Header) (name body : List ℕ) → IsSound (decided_insert headers name body)
unfolding decided_insert
insert_sound headers name body =
    through OfItem (format_with_body headers) (λ minimal. read_body body >>= λ given. insert_from minimal (preference_for headers) name given)
    (λ minimal. through OfItem (read_body body) (λ given. insert_from minimal (preference_for headers) name given)
    (λ given. insert_from_sound minimal (preference_for headers) name given))

op_sound : (minimal : Bool) (name : List ℕ) (keys : List ℕ × List ℕ) (writing : Writing) (entity : EntityView) (condition : Option Match)
    → IsPartOf (change_operation minimal Unsaid name keys (op_for writing entity condition)).item (change_operation minimal Unsaid name keys (op_for writing entity condition)).form
op_sound minimal name keys Replacing entity None = record { insert = refl; delete = refl; prefer = refl }
op_sound minimal name keys Replacing entity (Some condition) = record { insert = refl; delete = refl; prefer = refl }
op_sound minimal name keys Merging entity None = record { insert = refl; delete = refl; prefer = refl }
op_sound minimal name keys Merging entity (Some condition) = record { insert = refl; delete = refl; prefer = refl }

write_from_sound : (minimal : Bool) (writing : Writing) (name : List ℕ) (keys : List ℕ × List ℕ) (condition : Option Match) (body : BodyEntity)
    → IsSound (write_from minimal writing name keys condition body)
write_from_sound minimal writing name keys condition body =
    made OfItem (entity_for keys body) (λ entity. change_operation minimal Unsaid name keys (op_for writing entity condition)) (λ entity. op_sound minimal name keys writing entity condition)

write_sound : (headers : List Header) (name : List ℕ) (keys : List ℕ × List ℕ) (writing : Writing) (body : List ℕ) → IsSound (decided_write headers name keys writing body)
unfolding decided_write
write_sound headers name keys writing body =
    through OfItem (format_with_body headers) (λ minimal. condition_for headers >>= λ condition. read_body body >>= λ given. write_from minimal writing name keys condition given)
    (λ minimal. through OfItem (condition_for headers) (λ condition. read_body body >>= λ given. write_from minimal writing name keys condition given)
    (λ condition. through OfItem (read_body body) (λ given. write_from minimal writing name keys condition given)
    (λ given. write_from_sound minimal writing name keys condition given)))

delete_sound : (headers : List Header) (name : List ℕ) (keys : List ℕ × List ℕ) → IsSound (decided_delete headers name keys)
unfolding decided_delete
delete_sound headers name keys =
    through OfItem (format_for headers) (λ minimal. condition_for headers >>= λ found. needed_condition found >>= λ condition. Ok (change_operation minimal Unsaid name keys (Delete condition)))
    (λ minimal. through OfItem (condition_for headers) (λ found. needed_condition found >>= λ condition. Ok (change_operation minimal Unsaid name keys (Delete condition)))
    (λ found. made OfItem (needed_condition found) (λ condition. change_operation minimal Unsaid name keys (Delete condition)) (λ condition. record { insert = refl; delete = refl; prefer = refl })))

in_rows_sound : (message : Message) (name : List ℕ) → IsSound (change_in_rows message name)
unfolding change_in_rows
in_rows_sound message name =
    either OfItem (bytes_eq message.method (codes "POST")) (decided_insert message.headers name message.body) (Err Method) (insert_sound message.headers name message.body) tt

of_row_sound : (message : Message) (name : List ℕ) (keys : List ℕ × List ℕ) → IsSound (change_of_row message name keys)
unfolding change_of_row
of_row_sound message name keys =
    let is_merge = bytes_eq message.method (codes "MERGE") || bytes_eq message.method (codes "PATCH") in
    let replace = decided_write message.headers name keys Replacing message.body in
    let merge = decided_write message.headers name keys Merging message.body in
    let deletes : Result Operation Refusal = if bytes_eq message.method (codes "DELETE") then decided_delete message.headers name keys else Err Method in
    let merges : Result Operation Refusal = if is_merge then merge else deletes in
    either OfItem (bytes_eq message.method (codes "PUT")) replace merges (write_sound message.headers name keys Replacing message.body)
    (either OfItem is_merge merge deletes (write_sound message.headers name keys Merging message.body)
    (either OfItem (bytes_eq message.method (codes "DELETE")) (decided_delete message.headers name keys) (Err Method) (delete_sound message.headers name keys) tt))

-- the request for one operation
single_keeps : (account : List ℕ) (part : Result Operation Refusal) → IsSound part → Keeps account (single account part)
single_keeps account (Ok part) is = record { of_account = refl; suits = ((is, tt), refl) }
single_keeps account (Err why) is = tt

-- ---- by method and resource

on_tables_keeps : (account : List ℕ) (message : Message) → Keeps account (on_tables account message)
unfolding on_tables
on_tables_keeps account message =
    let query = query_of message.target in
    let create : Result Request Refusal = if bytes_eq message.method (codes "POST") then decided_create account message.headers message.body else Err Method in
    either (IsInForm account) (bytes_eq message.method (codes "GET")) (decided_tables account query message.headers) create (tables_keep account query message.headers)
    (either (IsInForm account) (bytes_eq message.method (codes "POST")) (decided_create account message.headers message.body) (Err Method) (create_keeps account message.headers message.body) tt)

on_table_keeps : (account : List ℕ) (message : Message) (name : List ℕ) → Keeps account (on_table account message name)
unfolding on_table
on_table_keeps account message name =
    either (IsInForm account) (bytes_eq message.method (codes "DELETE")) (decided_drop account message.headers name) (Err Method) (drop_keeps account message.headers name) tt

on_rows_keeps : (account : List ℕ) (message : Message) (name : List ℕ) → Keeps account (on_rows account message name)
unfolding on_rows
on_rows_keeps account message name =
    let query = query_of message.target in
    either (IsInForm account) (bytes_eq message.method (codes "GET")) (decided_page account query message.headers name) (single account (change_in_rows message name)) (page_keeps account query message.headers name)
    (single_keeps account (change_in_rows message name) (in_rows_sound message name))

on_row_keeps : (account : List ℕ) (message : Message) (name : List ℕ) (keys : List ℕ × List ℕ) → Keeps account (on_row account message name keys)
unfolding on_row
on_row_keeps account message name keys =
    let query = query_of message.target in
    either (IsInForm account) (bytes_eq message.method (codes "GET")) (decided_row account query message.headers name keys) (single account (change_of_row message name keys)) (row_keeps account query message.headers name keys)
    (single_keeps account (change_of_row message name keys) (of_row_sound message name keys))

-- what is asked keeps to the account
abbrev IsKept : List ℕ → Asked → Type 0
IsKept account (One request) = IsInForm account request
IsKept account (Many minimal) = ⊤

abbrev KeepsAsked : List ℕ → Result Asked Refusal → Type 0
KeepsAsked account decided = IfOk decided (λ asked. IsKept account asked)

one_keeps : (account : List ℕ) (found : Result Request Refusal) → Keeps account found → KeepsAsked account (one_request found)
one_keeps account (Ok request) keeps = keeps
one_keeps account (Err why) keeps = tt

batch_keeps : (account : List ℕ) (message : Message) → KeepsAsked account (on_batch message)
unfolding on_batch
batch_keeps account message =
    let many : Result Asked Refusal = format_with_body message.headers >>= λ minimal. Ok (Many minimal) in
    either (IsKept account) (bytes_eq message.method (codes "POST")) many (Err Method) (made (IsKept account) (format_with_body message.headers) (λ minimal. Many minimal) (λ minimal. tt)) tt

on_keeps : (account : List ℕ) (message : Message) (resource : Resource) → KeepsAsked account (decided_on account message resource)
on_keeps account message Tables = one_keeps account (on_tables account message) (on_tables_keeps account message)
on_keeps account message (Table name) =
    one_keeps account (table_name name >>= λ found. on_table account message found)
    (through (IsInForm account) (table_name name) (λ found. on_table account message found) (λ found. on_table_keeps account message found))
on_keeps account message (Rows name) =
    one_keeps account (table_name name >>= λ found. on_rows account message found)
    (through (IsInForm account) (table_name name) (λ found. on_rows account message found) (λ found. on_rows_keeps account message found))
on_keeps account message (Row name pk rk) =
    one_keeps account (table_name name >>= λ found. row_keys pk rk >>= λ keys. on_row account message found keys)
    (through (IsInForm account) (table_name name) (λ found. row_keys pk rk >>= λ keys. on_row account message found keys)
    (λ found. through (IsInForm account) (row_keys pk rk) (λ keys. on_row account message found keys) (λ keys. on_row_keeps account message found keys)))
on_keeps account message Batch = batch_keeps account message

at_keeps : (account : List ℕ) (message : Message) → KeepsAsked account (decided_at account message)
unfolding decided_at
at_keeps account message =
    through (IsKept account) (resource_at account message) (λ resource. decided_on account message resource) (λ resource. on_keeps account message resource)

denied_keeps : (account : List ℕ) (why : Option AuthRefused) (decided : Result Asked Refusal) → KeepsAsked account decided → KeepsAsked account (if_signed why decided)
denied_keeps account None decided keeps = keeps
denied_keeps account (Some why) decided keeps = tt

of_keeps : (keys : Keys) (now : ℕ) (message : Message) → KeepsAsked keys.account (asked_of keys now message)
unfolding asked_of
of_keeps keys now message = denied_keeps keys.account (refusal keys (signed_of message) now) (decided_at keys.account message) (at_keeps keys.account message)

-- ---- batches

part_on_sound : (message : Message) (resource : Resource) → IsSound (part_on message resource)
part_on_sound message Tables = tt
part_on_sound message (Table name) = tt
part_on_sound message (Rows name) = through OfItem (table_name name) (λ found. change_in_rows message found) (λ found. in_rows_sound message found)
part_on_sound message (Row name pk rk) =
    through OfItem (table_name name) (λ found. row_keys pk rk >>= λ keys. change_of_row message found keys)
    (λ found. through OfItem (row_keys pk rk) (λ keys. change_of_row message found keys) (λ keys. of_row_sound message found keys))
part_on_sound message Batch = tt

part_sound : (account : List ℕ) (message : Message) → IsSound (part_of account message)
unfolding part_of
part_sound account message = through OfItem (resource_at account message) (λ resource. part_on message resource) (λ resource. part_on_sound message resource)

abbrev AreSound : Result Operations PartRefusal → Type 0
AreSound found = IfOk found (λ operations. ArePartsOf operations.0 operations.1)

with_sound : (index : ℕ) (part : Result Operation Refusal) (more : Result Operations PartRefusal) → IsSound part → AreSound more → AreSound (with_part index part more)
with_sound index (Err why) more is are = tt
with_sound index (Ok part) (Err refused) is are = tt
with_sound index (Ok part) (Ok more) is are = (is, are)

operations_sound : (index : ℕ) (account : List ℕ) (messages : List Message) → AreSound (operations_from index account messages)
unfolding operations_from
operations_sound index account [] = tt
operations_sound index account (message ∷ messages) =
    with_sound index (part_of account message) (operations_from (index + 1) account messages) (part_sound account message) (operations_sound (index + 1) account messages)

abbrev KeepsBatch : List ℕ → Result Request PartRefusal → Type 0
KeepsBatch account found = IfOk found (λ request. IsInForm account request)

group_keeps : (account : List ℕ) (minimal : Bool) (items : List ItemView) (parts : List PartForm) (why : Option GroupRefused) → ArePartsOf items parts
    → KeepsBatch account (request_for account minimal parts (items_or_refusal items why))
group_keeps account minimal items parts None are = record { of_account = refl; suits = are }
group_keeps account minimal items parts (Some why) are = tt

grouped_keeps : (account : List ℕ) (minimal : Bool) (found : Result Operations PartRefusal) → AreSound found → KeepsBatch account (grouped_request account minimal found)
grouped_keeps account minimal (Ok operations) are = group_keeps account minimal operations.0 operations.1 (group_refusal operations.0) are
grouped_keeps account minimal (Err refused) are = tt

answer_keeps : (account : List ℕ) (minimal : Bool) (answer : Answer) → KeepsBatch account (batch_request account minimal answer)
answer_keeps account minimal (Ok messages) = grouped_keeps account minimal (operations_from 0 account messages) (operations_sound 0 account messages)
answer_keeps account minimal (Err why) = tt

under_keeps : (account : List ℕ) (minimal : Bool) (body : List ℕ) (boundary : Option (List ℕ)) (found : Result Request PartRefusal) → IsReadUnder account minimal body boundary found → KeepsBatch account found
under_keeps account minimal body None found is = subst (KeepsBatch account) (sym is) tt
under_keeps account minimal body (Some boundary) found is = subst (KeepsBatch account) (sym is.2) (answer_keeps account minimal is.0)

many_keep : (account : List ℕ) (minimal : Bool) (message : Message) (found : Result Request PartRefusal) → IsBatchOf account minimal message found → KeepsBatch account found
unfolding IsBatchOf
many_keep account minimal message found is = under_keeps account minimal message.body (boundary_in message.headers) found is

-- ---- messages

go_is : (a b : Request) → Go a ≡ Go b → a ≡ b
go_is a b e = cc

no_go : (bytes : List ℕ) (b : Request) → Go b ≡ No bytes → ⊥
no_go bytes b e = cc

gone : (account : List ℕ) (found : Result Request PartRefusal) (request : Request) → KeepsBatch account found → Go request ≡ answered found → IsInForm account request
gone account (Ok found) request keeps is = let same = go_is request found is in rw same keeps
gone account (Err refused) request keeps is = absurd (no_go _ request is)

come_in_form : (account : List ℕ) (message : Message) (asked : Result Asked Refusal) (request : Request) → KeepsAsked account asked → ComesTo account message asked (Go request) → IsInForm account request
come_in_form account message (Err why) request keeps is = absurd (no_go _ request is)
come_in_form account message (Ok (One found)) request keeps is = let same = go_is request found is in rw same keeps
come_in_form account message (Ok (Many minimal)) request keeps is = gone account is.0 request (many_keep account minimal message is.0 is.1) is.2

pub requests_are_in_form : (keys : Keys) (now : ℕ) (message : Message) (request : Request) → IsDecision keys now message (Go request) → IsInForm keys.account request
requests_are_in_form keys now message request is = come_in_form keys.account message (asked_of keys now message) request (of_keeps keys now message) is

-- ---- one decision

-- the bytes of a batch decide its answer
abbrev pub HaveOneAnswer : Type 0
HaveOneAnswer = (boundary bytes : List ℕ) (a b : Answer) → IsBatchAnswer boundary bytes a → IsBatchAnswer boundary bytes b → a ≡ b

one_read : HaveOneAnswer → (account : List ℕ) (minimal : Bool) (body : List ℕ) (boundary : Option (List ℕ)) (a b : Result Request PartRefusal) → IsReadUnder account minimal body boundary a → IsReadUnder account minimal body boundary b → a ≡ b
one_read law account minimal body None a b p q = p ∙ sym q
one_read law account minimal body (Some boundary) a b p q = p.2 ∙ ap (batch_request account minimal) (law boundary body p.0 q.0 p.1 q.1) ∙ sym q.2

one_batch : HaveOneAnswer → (account : List ℕ) (minimal : Bool) (message : Message) (a b : Result Request PartRefusal) → IsBatchOf account minimal message a → IsBatchOf account minimal message b → a ≡ b
unfolding IsBatchOf
one_batch law account minimal message a b p q = one_read law account minimal message.body (boundary_in message.headers) a b p q

one_outcome : HaveOneAnswer → (account : List ℕ) (message : Message) (asked : Result Asked Refusal) (a b : Decided) → ComesTo account message asked a → ComesTo account message asked b → a ≡ b
one_outcome law account message (Err why) a b p q = p ∙ sym q
one_outcome law account message (Ok (One request)) a b p q = p ∙ sym q
one_outcome law account message (Ok (Many minimal)) a b p q = p.2 ∙ ap answered (one_batch law account minimal message p.0 q.0 p.1 q.1) ∙ sym q.2

pub messages_have_one_decision : HaveOneAnswer → (keys : Keys) (now : ℕ) (message : Message) (a b : Decided) → IsDecision keys now message a → IsDecision keys now message b → a ≡ b
messages_have_one_decision law keys now message a b p q = one_outcome law keys.account message (asked_of keys now message) a b p q

-- ---- some decision

-- no batch is without an answer
abbrev pub HaveSomeAnswer : Type 0
HaveSomeAnswer = (boundary bytes : List ℕ) → ((answer : Answer) → IsBatchAnswer boundary bytes answer → ⊥) → ⊥

some_read : HaveSomeAnswer → (account : List ℕ) (minimal : Bool) (body : List ℕ) (boundary : Option (List ℕ)) → ((found : Result Request PartRefusal) → IsReadUnder account minimal body boundary found → ⊥) → ⊥
some_read law account minimal body None none = none (Err (record { index = None; why = NoBoundary })) refl
some_read law account minimal body (Some boundary) none = law boundary body (λ answer is. none (batch_request account minimal answer) (answer, is, refl))

some_batch : HaveSomeAnswer → (account : List ℕ) (minimal : Bool) (message : Message) → ((found : Result Request PartRefusal) → IsBatchOf account minimal message found → ⊥) → ⊥
unfolding IsBatchOf
some_batch law account minimal message none = some_read law account minimal message.body (boundary_in message.headers) none

some_outcome : HaveSomeAnswer → (account : List ℕ) (message : Message) (asked : Result Asked Refusal) → ((decided : Decided) → ComesTo account message asked decided → ⊥) → ⊥
some_outcome law account message (Err why) none = none (No (refusal_text None why)) refl
some_outcome law account message (Ok (One request)) none = none (Go request) refl
some_outcome law account message (Ok (Many minimal)) none = some_batch law account minimal message (λ found is. none (answered found) (found, is, refl))

pub messages_have_some_decision : HaveSomeAnswer → (keys : Keys) (now : ℕ) (message : Message) → ((decided : Decided) → IsDecision keys now message decided → ⊥) → ⊥
messages_have_some_decision law keys now message none = some_outcome law keys.account message (asked_of keys now message) none

-- ---- signatures

signed_by : (account : List ℕ) (message : Message) (why : Option AuthRefused) (asked : Result Asked Refusal) (request : Request) → ComesTo account message (if_signed why asked) (Go request) → why ≡ None
signed_by account message None asked request is = refl
signed_by account message (Some why) asked request is = absurd (no_go _ request is)

pub requests_are_signed : (keys : Keys) (key : List ℕ) (now : ℕ) (message : Message) (request : Request) → keys.key ≡ Some key → IsDecision keys now message (Go request) → IsSigned keys.account key (signed_of message) now
unfolding asked_of refusal
requests_are_signed keys key now message request has is =
    let taken = signed_by keys.account message (refusal keys (signed_of message) now) (decided_at keys.account message) request is in
    (taken_exactly keys.account key (signed_of message) now).0 (ap (λ (k : Option (List ℕ)). account_refusal keys.account k (signed_of message) now) (sym has) ∙ taken)
