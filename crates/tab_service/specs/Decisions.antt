-- What a message comes to: a request to the store, or a refusal.
use Rattle.std.specs.Prelude.{◌≡◌, ℕ, List, Option, Some, None, Result, Ok, Err, if◌then◌else◌, codes, bytes_eq}
use Rattle.tab_keys.specs.Results.{◌>>=◌}
use Rattle.tab_auth.specs.Checks.{refusal}
use Rattle.tab_auth.specs.declared.checks.AuthRefused.{AuthRefused}
use Rattle.tab_auth.specs.declared.signatures.Keys.{Keys}
use Rattle.tab_http.specs.declared.messages.Message.{Message}
use Rattle.tab_service.specs.Targets.{query_of}
use Rattle.tab_service.specs.Signing.{signed_of}
use Rattle.tab_service.specs.Preferences.{format_with_body}
use Rattle.tab_service.specs.Refusals.{refusal_text}
use Rattle.tab_service.specs.Requests.{single, table_name, row_keys, decided_tables, decided_create, decided_drop, decided_page, decided_row, change_in_rows, change_of_row, resource_at}
use Rattle.tab_service.specs.Batches.{IsBatchOf}
use Rattle.tab_service.specs.declared.refusals.PartRefusal.{PartRefusal}
use Rattle.tab_service.specs.declared.requests.decide.Asked.{Asked}
use Rattle.tab_service.specs.declared.requests.decide.Asked.TheVariants.{One, Many}
use Rattle.tab_service.specs.declared.requests.decide.Decided.{Decided}
use Rattle.tab_service.specs.declared.requests.decide.Decided.TheVariants.{Go, No}
use Rattle.tab_service.specs.declared.forms.Request.{Request}
use Rattle.tab_service.specs.declared.refusals.Refusal.{Refusal}
use Rattle.tab_service.specs.declared.refusals.Refusal.TheVariants.{Auth, Method}
use Rattle.tab_service.specs.declared.requests.targets.Resource.{Resource}
use Rattle.tab_service.specs.declared.requests.targets.Resource.TheVariants.{Tables, Table, Rows, Row, Batch}

-- ---- by method

-- what is asked of the list of tables
unfoldable pub on_tables : List ℕ → Message → Result Request Refusal
on_tables account message =
    if bytes_eq message.method (codes "GET") then decided_tables account (query_of message.target) message.headers
    else (if bytes_eq message.method (codes "POST") then decided_create account message.headers message.body
    else Err Method)

-- what is asked of a table
unfoldable pub on_table : List ℕ → Message → List ℕ → Result Request Refusal
on_table account message name =
    if bytes_eq message.method (codes "DELETE") then decided_drop account message.headers name else Err Method

-- what is asked of a table's rows
unfoldable pub on_rows : List ℕ → Message → List ℕ → Result Request Refusal
on_rows account message name =
    if bytes_eq message.method (codes "GET") then decided_page account (query_of message.target) message.headers name
    else single account (change_in_rows message name)

-- what is asked of one row
unfoldable pub on_row : List ℕ → Message → List ℕ → List ℕ × List ℕ → Result Request Refusal
on_row account message name keys =
    if bytes_eq message.method (codes "GET") then decided_row account (query_of message.target) message.headers name keys
    else single account (change_of_row message name keys)

-- whether the reply to a batch is to have minimal metadata, which is said of every request with a body
unfoldable pub on_batch : Message → Result Asked Refusal
on_batch message =
    if bytes_eq message.method (codes "POST") then (format_with_body message.headers >>= λ minimal. Ok (Many minimal))
    else Err Method

-- ---- by resource

abbrev pub one_request : Result Request Refusal → Result Asked Refusal
one_request (Ok request) = Ok (One request)
one_request (Err why) = Err why

-- what is asked of a resource, whose name and keys are read before the method
abbrev pub decided_on : List ℕ → Message → Resource → Result Asked Refusal
decided_on account message Tables = one_request (on_tables account message)
decided_on account message (Table name) = one_request (table_name name >>= λ found. on_table account message found)
decided_on account message (Rows name) = one_request (table_name name >>= λ found. on_rows account message found)
decided_on account message (Row name pk rk) =
    one_request (table_name name >>= λ found. row_keys pk rk >>= λ keys. on_row account message found keys)
decided_on account message Batch = on_batch message

-- what is asked of what the path names
unfoldable pub decided_at : List ℕ → Message → Result Asked Refusal
decided_at account message = resource_at account message >>= λ resource. decided_on account message resource

-- ---- messages

abbrev pub if_signed : Option AuthRefused → Result Asked Refusal → Result Asked Refusal
if_signed None decided = decided
if_signed (Some why) decided = Err (Auth why)

-- What a message asks of this account at this moment, or its first refusal: for its signature, its path, its table name, its
-- keys, its method, its format, its options, its condition and its body. A batch is not read further here.
unfoldable pub asked_of : Keys → ℕ → Message → Result Asked Refusal
asked_of keys now message = if_signed (refusal keys (signed_of message) now) (decided_at keys.account message)

-- what a request, or a batch, comes to
abbrev pub answered : Result Request PartRefusal → Decided
answered (Ok request) = Go request
answered (Err refused) = No (refusal_text refused.index refused.why)

-- What a message comes to. The body of a batch gives the requests of its parts, or is refused.
abbrev pub ComesTo : List ℕ → Message → Result Asked Refusal → Decided → Type 0
ComesTo account message (Err why) decided = decided ≡ No (refusal_text None why)
ComesTo account message (Ok (One request)) decided = decided ≡ Go request
ComesTo account message (Ok (Many minimal)) decided = (found : Result Request PartRefusal) × IsBatchOf account minimal message found × (decided ≡ answered found)

abbrev pub IsDecision : Keys → ℕ → Message → Decided → Type 0
IsDecision keys now message decided = ComesTo keys.account message (asked_of keys now message) decided
