-- What a batch comes to: the operations of its parts as one group, or its first refusal.
use Rattle.std.specs.Prelude.{◌≡◌, ℕ, ◌+◌, List, [], ◌∷◌, Bool, true, Option, Some, None, option_and_then, Result, Ok, Err, codes}
use Rattle.tab_keys.specs.Results.{◌>>=◌}
use Rattle.tab_ops.specs.Groups.{ItemView, most_items, grouped}
use Rattle.tab_ops.specs.declared.groups.GroupRefused.{GroupRefused}
use Rattle.tab_ops.specs.declared.groups.GroupRefused.TheVariants as group
use Rattle.tab_page.specs.declared.selects.Select.TheVariants.{All}
use Rattle.tab_history.specs.declared.asks.Ask.TheVariants as ask
use Rattle.tab_http.specs.Headers.{first_value}
use Rattle.tab_http.specs.declared.messages.Header.{Header}
use Rattle.tab_http.specs.declared.messages.Message.{Message}
use Rattle.tab_batch.specs.Boundaries.{boundary_of}
use Rattle.tab_batch.specs.Refusals.{Answer, IsBatchAnswer}
use Rattle.tab_batch.specs.declared.refusals.BatchRefused.{BatchRefused}
use Rattle.tab_batch.specs.declared.refusals.BatchRefused.TheVariants as batch
use Rattle.tab_service.specs.Requests.{table_name, row_keys, change_in_rows, change_of_row, resource_at}
use Rattle.tab_service.specs.declared.refusals.PartRefusal.{PartRefusal}
use Rattle.tab_service.specs.declared.forms.Form.{Form}
use Rattle.tab_service.specs.declared.forms.PartForm.{PartForm}
use Rattle.tab_service.specs.declared.forms.Request.{Request}
use Rattle.tab_service.specs.declared.refusals.Refusal.{Refusal}
use Rattle.tab_service.specs.declared.refusals.Refusal.TheVariants.{Path, NoBoundary, Multipart, Group}
use Rattle.tab_service.specs.declared.refusals.Refused.{Refused}
use Rattle.tab_service.specs.declared.refusals.Refused.TheVariants as refused
use Rattle.tab_service.specs.declared.requests.targets.Resource.{Resource}
use Rattle.tab_service.specs.declared.requests.targets.Resource.TheVariants.{Tables, Table, Rows, Row, Batch}
use Rattle.tab_service.specs.declared.requests.writes.Operation.{Operation}

-- ---- parts

-- the operation that a part asks for: rows alone are changed in a batch
abbrev pub part_on : Message → Resource → Result Operation Refusal
part_on message Tables = Err Path
part_on message (Table name) = Err Path
part_on message (Rows name) = table_name name >>= λ found. change_in_rows message found
part_on message (Row name pk rk) =
    table_name name >>= λ found.
    row_keys pk rk >>= λ keys.
    change_of_row message found keys
part_on message Batch = Err Path

unfoldable pub part_of : List ℕ → Message → Result Operation Refusal
part_of account message = resource_at account message >>= λ resource. part_on message resource

-- operations, and the forms of their parts
abbrev pub Operations : Type 0
Operations = List ItemView × List PartForm

-- the refusal of the part of this index
abbrev pub refused_at : ℕ → Refusal → PartRefusal
refused_at index why = record { index = Some index; why = why }

-- the same of the batch, where a part is refused or no memory was found
abbrev pub of_part : ℕ → Refused Refusal → Refused PartRefusal
of_part index (refused.Why why) = refused.Why (refused_at index why)
of_part index refused.Memory = refused.Memory

abbrev pub with_part : ℕ → Result Operation Refusal → Result Operations PartRefusal → Result Operations PartRefusal
with_part index (Err why) more = Err (refused_at index why)
with_part index (Ok part) (Err refused) = Err refused
with_part index (Ok part) (Ok more) = Ok (part.item ∷ more.0, part.form ∷ more.1)

-- the operations of parts, the first of which has this index in its batch, or the refusal of the first that has one
unfoldable pub operations_from : ℕ → List ℕ → List Message → Result Operations PartRefusal
operations_from index account [] = Ok ([], [])
operations_from index account (message ∷ messages) = with_part index (part_of account message) (operations_from (index + 1) account messages)

-- ---- groups

-- The index of the part for which operations make no group: for too many, that of the first behind the most. An empty change
-- set is refused as a whole.
abbrev pub group_index : GroupRefused → Option ℕ
group_index group.Empty = None
group_index group.TooMany = Some most_items
group_index (group.MixedPartitions index) = Some index
group_index (group.DoubledRow index) = Some index
group_index group.Memory = None

-- these parts, in their order
abbrev pub batch_form : List ℕ → Bool → List PartForm → Form
batch_form account minimal parts = record { account = account; batch = true; json = record { minimal = minimal; select = All }; parts = parts }

abbrev pub request_for : List ℕ → Bool → List PartForm → Result (List ItemView) GroupRefused → Result Request PartRefusal
request_for account minimal parts (Ok group) = Ok (record { ask = ask.Change group; form = batch_form account minimal parts })
request_for account minimal parts (Err why) = Err (record { index = group_index why; why = Group why })

abbrev pub grouped_request : List ℕ → Bool → Result Operations PartRefusal → Result Request PartRefusal
grouped_request account minimal (Ok operations) = request_for account minimal operations.1 (grouped operations.0)
grouped_request account minimal (Err refused) = Err refused

-- ---- batches

-- the index of the part that is no request
abbrev pub multipart_index : BatchRefused → Option ℕ
multipart_index (batch.BadMultipart offset) = None
multipart_index (batch.BadPart index) = Some index
multipart_index batch.Memory = None

-- the refusal of a batch whose requests are not read
abbrev pub unread : BatchRefused → PartRefusal
unread why = record { index = multipart_index why; why = Multipart why }

-- the request that the parts of a body make, or the first refusal
abbrev pub batch_request : List ℕ → Bool → Answer → Result Request PartRefusal
batch_request account minimal (Ok messages) = grouped_request account minimal (operations_from 0 account messages)
batch_request account minimal (Err why) = Err (unread why)

-- the boundary that the first Content-Type header gives
abbrev pub boundary_in : List Header → Option (List ℕ)
boundary_in headers = option_and_then boundary_of (first_value (codes "content-type") headers)

-- what the body gives under this boundary makes the request
abbrev pub IsReadUnder : List ℕ → Bool → List ℕ → Option (List ℕ) → Result Request PartRefusal → Type 0
IsReadUnder account minimal body None found = found ≡ Err (record { index = None; why = NoBoundary })
IsReadUnder account minimal body (Some boundary) found = (answer : Answer) × IsBatchAnswer boundary body answer × (found ≡ batch_request account minimal answer)

-- the request of a batch, or its first refusal
unfoldable pub IsBatchOf : List ℕ → Bool → Message → Result Request PartRefusal → Type 0
IsBatchOf account minimal message found = IsReadUnder account minimal message.body (boundary_in message.headers) found
