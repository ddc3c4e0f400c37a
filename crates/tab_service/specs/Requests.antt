-- What is asked of a table or of one of its rows, in the order in which such a request may be refused.
use Rattle.std.specs.Prelude.{ℕ, List, [], ◌∷◌, length, Bool, true, false, Option, Some, None, Result, Ok, Err, if◌then◌else◌, codes, bytes_eq, ◌||◌}
use Rattle.tab_keys.specs.Results.{◌>>=◌}
use Rattle.tab_keys.specs.KeyTexts.{units_of, key_refusal}
use Rattle.tab_keys.specs.TableNames.{name_refusal}
use Rattle.tab_keys.specs.declared.table_names.NameRefused.{NameRefused}
use Rattle.tab_keys.specs.declared.key_texts.KeyRefused.{KeyRefused}
use Rattle.tab_edm.specs.Entities.{EntityView, made}
use Rattle.tab_edm.specs.declared.entities.EdmRefused.{EdmRefused}
use Rattle.tab_page.specs.Queries.{read_options, read_select}
use Rattle.tab_page.specs.declared.pages.Options.{Options}
use Rattle.tab_page.specs.declared.selects.Select.{Select}
use Rattle.tab_page.specs.declared.selects.Select.TheVariants.{All}
use Rattle.tab_ops.specs.Groups.{ItemView}
use Rattle.tab_ops.specs.declared.ops.Match.{Match}
use Rattle.tab_ops.specs.declared.ops.Op.{Op}
use Rattle.tab_ops.specs.declared.ops.Op.TheVariants.{Insert, Update, Replace, Merge, MergeIn, Delete}
use Rattle.tab_history.specs.declared.asks.Ask.TheVariants as ask
use Rattle.tab_http.specs.declared.messages.Header.{Header}
use Rattle.tab_http.specs.declared.messages.Message.{Message}
use Rattle.tab_json.specs.Bodies.{entity_body, table_body}
use Rattle.tab_json.specs.declared.bodies.BodyEntity.{BodyEntity}
use Rattle.tab_json.specs.declared.bodies.JsonRefused.{JsonRefused}
use Rattle.tab_json.specs.declared.bodies.JsonRefused.TheVariants as json
use Rattle.tab_service.specs.Conditions.{condition_for, needed_condition}
use Rattle.tab_service.specs.Preferences.{format_for, format_with_body, preference_for}
use Rattle.tab_service.specs.TableQueries.{options_result, table_window}
use Rattle.tab_service.specs.Targets.{path_of, resource_in}
use Rattle.tab_service.specs.declared.forms.Form.{Form}
use Rattle.tab_service.specs.declared.forms.PartForm.{PartForm}
use Rattle.tab_service.specs.declared.forms.Prefer.{Prefer}
use Rattle.tab_service.specs.declared.forms.Prefer.TheVariants.{Unsaid}
use Rattle.tab_service.specs.declared.forms.Request.{Request}
use Rattle.tab_service.specs.declared.refusals.Refusal.{Refusal}
use Rattle.tab_service.specs.declared.refusals.Refusal.TheVariants.{Path, Method, Key, Name, Body, NoTableName, KeysMissing, Entity}
use Rattle.tab_service.specs.declared.requests.table_queries.TableWindow.{TableWindow}
use Rattle.tab_service.specs.declared.requests.targets.Resource.{Resource}
use Rattle.tab_service.specs.declared.requests.writes.Operation.{Operation}
use Rattle.tab_service.specs.declared.requests.writes.Writing.{Writing}
use Rattle.tab_service.specs.declared.requests.writes.Writing.TheVariants.{Replacing, Merging}

-- ---- requests

-- these properties, with the reply of the only part
abbrev pub form_of : List ℕ → Select → PartForm → Form
form_of account select part =
    record { account = account; batch = false; json = record { minimal = part.minimal; select = select }; parts = part ∷ [] }

-- the form of a part that is no operation
abbrev pub plain_part : Bool → Prefer → PartForm
plain_part minimal prefer = record { insert = false; delete = false; minimal = minimal; prefer = prefer }

-- the request for a page
abbrev pub page_request : List ℕ → Bool → List ℕ → Options → Request
page_request account minimal name options = record { ask = ask.Page name options; form = form_of account options.select (plain_part minimal Unsaid) }

-- the request for one row
abbrev pub row_request : List ℕ → Bool → Select → List ℕ → List ℕ × List ℕ → Request
row_request account minimal select name keys =
    record { ask = ask.Get name keys.0 keys.1; form = form_of account select (plain_part minimal Unsaid) }

-- an operation that inserts
abbrev pub is_insert : Op → Bool
is_insert (Insert entity) = true
is_insert (Update entity condition) = false
is_insert (Replace entity) = false
is_insert (Merge entity condition) = false
is_insert (MergeIn entity) = false
is_insert (Delete condition) = false

-- an operation that deletes
abbrev pub is_delete : Op → Bool
is_delete (Insert entity) = false
is_delete (Update entity condition) = false
is_delete (Replace entity) = false
is_delete (Merge entity condition) = false
is_delete (MergeIn entity) = false
is_delete (Delete condition) = true

-- an operation, with how its reply is wanted
abbrev pub change_operation : Bool → Prefer → List ℕ → List ℕ × List ℕ → Op → Operation
change_operation minimal prefer name keys op =
    let item : ItemView = record { name = name; pk = keys.0; rk = keys.1; op = op } in
    let form : PartForm = record { insert = is_insert op; delete = is_delete op; minimal = minimal; prefer = prefer } in
    record { item = item; form = form }

-- the request for one operation
abbrev pub change_request : List ℕ → Operation → Request
change_request account part = record { ask = ask.Change (part.item ∷ []); form = form_of account All part.form }

abbrev pub single : List ℕ → Result Operation Refusal → Result Request Refusal
single account (Ok part) = Ok (change_request account part)
single account (Err why) = Err why

-- the request for a list of tables
abbrev pub tables_request : List ℕ → Bool → TableWindow → Request
tables_request account minimal window = record { ask = ask.Tables window.after window.top; form = form_of account All (plain_part minimal Unsaid) }

-- the request for a table to be made
abbrev pub create_request : List ℕ → Bool → Prefer → List ℕ → Request
create_request account minimal prefer name = record { ask = ask.Create name; form = form_of account All (plain_part minimal prefer) }

-- the request for a table to be dropped
abbrev pub drop_request : List ℕ → Bool → List ℕ → Request
drop_request account minimal name = record { ask = ask.Drop name; form = form_of account All (plain_part minimal Unsaid) }

-- ---- parts of requests

abbrev pub valid_name : List ℕ → Option NameRefused → Result (List ℕ) Refusal
valid_name text None = Ok text
valid_name text (Some why) = Err Name

-- the name of a table, in a path or a body
unfoldable pub table_name : List ℕ → Result (List ℕ) Refusal
table_name text = valid_name text (name_refusal text)

abbrev pub valid_key : List ℕ → Option KeyRefused → Result (List ℕ) Refusal
valid_key text None = Ok text
valid_key text (Some why) = Err (Key why)

-- a key of a path
unfoldable pub path_key : List ℕ → Result (List ℕ) Refusal
path_key text = valid_key text (key_refusal text)

-- the keys of a path
unfoldable pub row_keys : List ℕ → List ℕ → Result (List ℕ × List ℕ) Refusal
row_keys pk rk =
    path_key pk >>= λ p.
    path_key rk >>= λ r.
    Ok (p, r)

-- the options of a query
unfoldable pub query_options : List ℕ → Result Options Refusal
query_options query = options_result (read_options query)

-- the properties that a query asks for
unfoldable pub query_select : List ℕ → Result Select Refusal
query_select query = options_result (read_select query)

abbrev pub body_result : Result BodyEntity JsonRefused → Result BodyEntity Refusal
body_result (Ok body) = Ok body
body_result (Err why) = Err (Body why)

-- what a body says
unfoldable pub read_body : List ℕ → Result BodyEntity Refusal
read_body bytes = body_result (entity_body bytes)

-- why a body names no table
abbrev pub name_fault : JsonRefused → Refusal
name_fault json.NotJson = Body json.NotJson
name_fault json.NotObject = Body json.NotObject
name_fault (json.ValueType member) = NoTableName
name_fault (json.Key why) = Body (json.Key why)
name_fault json.Memory = Body json.Memory

abbrev pub named_in : Result (List ℕ) JsonRefused → Result (List ℕ) Refusal
named_in (Ok text) = table_name text
named_in (Err why) = Err (name_fault why)

-- the name of the table that a body gives
unfoldable pub body_name : List ℕ → Result (List ℕ) Refusal
body_name bytes = named_in (table_body bytes)

-- a key that a body has to give
abbrev pub given_key : Option (List ℕ) → Result (List ℕ) Refusal
given_key None = Err KeysMissing
given_key (Some key) = Ok key

abbrev pub given_keys : BodyEntity → Result (List ℕ × List ℕ) Refusal
given_keys body =
    given_key body.pk >>= λ pk.
    given_key body.rk >>= λ rk.
    Ok (pk, rk)

abbrev pub entity_result : Result EntityView EdmRefused → Result EntityView Refusal
entity_result (Ok entity) = Ok entity
entity_result (Err why) = Err (Entity why)

-- the entity of a body, for a row with these keys
abbrev pub entity_for : List ℕ × List ℕ → BodyEntity → Result EntityView Refusal
entity_for keys body = entity_result (made (length (units_of keys.0)) (length (units_of keys.1)) body.properties)

-- ---- requests in the order of their refusals

unfoldable pub decided_tables : List ℕ → List ℕ → List Header → Result Request Refusal
decided_tables account query headers =
    format_for headers >>= λ minimal.
    table_window query >>= λ window.
    Ok (tables_request account minimal window)

unfoldable pub decided_create : List ℕ → List Header → List ℕ → Result Request Refusal
decided_create account headers body =
    format_with_body headers >>= λ minimal.
    body_name body >>= λ name.
    Ok (create_request account minimal (preference_for headers) name)

unfoldable pub decided_drop : List ℕ → List Header → List ℕ → Result Request Refusal
decided_drop account headers name = format_for headers >>= λ minimal. Ok (drop_request account minimal name)

unfoldable pub decided_page : List ℕ → List ℕ → List Header → List ℕ → Result Request Refusal
decided_page account query headers name =
    format_for headers >>= λ minimal.
    query_options query >>= λ options.
    Ok (page_request account minimal name options)

unfoldable pub decided_row : List ℕ → List ℕ → List Header → List ℕ → List ℕ × List ℕ → Result Request Refusal
decided_row account query headers name keys =
    format_for headers >>= λ minimal.
    query_select query >>= λ select.
    Ok (row_request account minimal select name keys)

abbrev pub insert_from : Bool → Prefer → List ℕ → BodyEntity → Result Operation Refusal
insert_from minimal prefer name body =
    given_keys body >>= λ keys.
    entity_for keys body >>= λ entity.
    Ok (change_operation minimal prefer name keys (Insert entity))

unfoldable pub decided_insert : List Header → List ℕ → List ℕ → Result Operation Refusal
decided_insert headers name body =
    format_with_body headers >>= λ minimal.
    read_body body >>= λ given.
    insert_from minimal (preference_for headers) name given

-- an entity that is written whole or into a kept one, on its condition, if it has one
abbrev pub op_for : Writing → EntityView → Option Match → Op
op_for Replacing entity None = Replace entity
op_for Replacing entity (Some condition) = Update entity condition
op_for Merging entity None = MergeIn entity
op_for Merging entity (Some condition) = Merge entity condition

abbrev pub write_from : Bool → Writing → List ℕ → List ℕ × List ℕ → Option Match → BodyEntity → Result Operation Refusal
write_from minimal writing name keys condition body =
    entity_for keys body >>= λ entity.
    Ok (change_operation minimal Unsaid name keys (op_for writing entity condition))

-- the keys in the body are read, and those of the path taken
unfoldable pub decided_write : List Header → List ℕ → List ℕ × List ℕ → Writing → List ℕ → Result Operation Refusal
decided_write headers name keys writing body =
    format_with_body headers >>= λ minimal.
    condition_for headers >>= λ condition.
    read_body body >>= λ given.
    write_from minimal writing name keys condition given

unfoldable pub decided_delete : List Header → List ℕ → List ℕ × List ℕ → Result Operation Refusal
decided_delete headers name keys =
    format_for headers >>= λ minimal.
    condition_for headers >>= λ found.
    needed_condition found >>= λ condition.
    Ok (change_operation minimal Unsaid name keys (Delete condition))

-- ---- operations by method

-- the operation that is asked for in a table's rows
unfoldable pub change_in_rows : Message → List ℕ → Result Operation Refusal
change_in_rows message name =
    if bytes_eq message.method (codes "POST") then decided_insert message.headers name message.body else Err Method

-- the operation that is asked for on one row; the method PATCH is MERGE
unfoldable pub change_of_row : Message → List ℕ → List ℕ × List ℕ → Result Operation Refusal
change_of_row message name keys =
    if bytes_eq message.method (codes "PUT") then decided_write message.headers name keys Replacing message.body
    else (if bytes_eq message.method (codes "MERGE") || bytes_eq message.method (codes "PATCH") then decided_write message.headers name keys Merging message.body
    else (if bytes_eq message.method (codes "DELETE") then decided_delete message.headers name keys
    else Err Method))

-- ---- what a path names

abbrev pub named_or_refused : Option Resource → Result Resource Refusal
named_or_refused None = Err Path
named_or_refused (Some resource) = Ok resource

-- the resource that the path of a message names
abbrev pub resource_at : List ℕ → Message → Result Resource Refusal
resource_at account message = named_or_refused (resource_in account (path_of message.target))
