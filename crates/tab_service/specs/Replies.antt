-- The bytes of replies.
use Rattle.std.specs.Prelude.{◌≡◌, ℕ, ◌<◌, ◌≤◌, List, [], ◌∷◌, ◌++◌, length, flat_map, codes, decimal, Bool, true, false, Option, Some, None, if◌then◌else◌, ⊤}
use Rattle.http.specs.StatusCode.{status_text}
use Rattle.tab_edm.specs.Moments.{text_of_etag}
use Rattle.tab_edm.specs.declared.TheConstants.{GREATEST}
use Rattle.tab_rows.specs.Rows.{RowView}
use Rattle.tab_page.specs.Tokens.{token_text}
use Rattle.tab_page.specs.declared.pages.Page.{Page}
use Rattle.tab_page.specs.declared.selects.Select.TheVariants as select
use Rattle.tab_ops.specs.Groups.{ItemView}
use Rattle.tab_ops.specs.declared.ops.Op.{Op}
use Rattle.tab_ops.specs.declared.ops.Op.TheVariants.{Insert, Update, Replace, Merge, MergeIn, Delete}
use Rattle.tab_ops.specs.declared.groups.OpRefused.{OpRefused}
use Rattle.tab_ops.specs.declared.groups.OpRefused.TheVariants as op
use Rattle.tab_history.specs.declared.entries.Denied.{Denied}
use Rattle.tab_history.specs.declared.entries.Denied.TheVariants as denied
use Rattle.tab_history.specs.declared.asks.Ask.{Ask}
use Rattle.tab_history.specs.declared.asks.Ask.TheVariants as ask
use Rattle.tab_history.specs.declared.asks.Reply.{Reply}
use Rattle.tab_history.specs.declared.asks.Reply.TheVariants as reply
use Rattle.tab_json.specs.Entities.{VersionView, version_of, entity_json, page_json}
use Rattle.tab_json.specs.Faults.{fault_json}
use Rattle.tab_json.specs.Tables.{table_json, tables_json}
use Rattle.tab_json.specs.declared.entities.JsonForm.{JsonForm}
use Rattle.tab_batch.specs.Replies.{batch_text}
use Rattle.tab_service.specs.Forms.{IsFormOf}
use Rattle.tab_service.specs.Causes.{Cause, indexed_text}
use Rattle.tab_service.specs.Causes as cause
use Rattle.tab_service.specs.declared.forms.Form.{Form}
use Rattle.tab_service.specs.declared.forms.PartForm.{PartForm}
use Rattle.tab_service.specs.declared.forms.Prefer.{Prefer}
use Rattle.tab_service.specs.declared.forms.Prefer.TheVariants.{Unsaid, Content, NoContent}
use Rattle.tab_service.specs.declared.forms.Request.{Request}

-- ---- which replies may come

abbrev pub IsCreate : Ask → Type 0
IsCreate (ask.Create name) = ⊤
IsCreate (ask.Drop name) = ⊥
IsCreate (ask.Tables after top) = ⊥
IsCreate (ask.Get name pk rk) = ⊥
IsCreate (ask.Page name options) = ⊥
IsCreate (ask.Change group) = ⊥

abbrev pub IsDrop : Ask → Type 0
IsDrop (ask.Create name) = ⊥
IsDrop (ask.Drop name) = ⊤
IsDrop (ask.Tables after top) = ⊥
IsDrop (ask.Get name pk rk) = ⊥
IsDrop (ask.Page name options) = ⊥
IsDrop (ask.Change group) = ⊥

abbrev pub IsListing : Ask → Type 0
IsListing (ask.Create name) = ⊥
IsListing (ask.Drop name) = ⊥
IsListing (ask.Tables after top) = ⊤
IsListing (ask.Get name pk rk) = ⊥
IsListing (ask.Page name options) = ⊥
IsListing (ask.Change group) = ⊥

abbrev pub IsGet : Ask → Type 0
IsGet (ask.Create name) = ⊥
IsGet (ask.Drop name) = ⊥
IsGet (ask.Tables after top) = ⊥
IsGet (ask.Get name pk rk) = ⊤
IsGet (ask.Page name options) = ⊥
IsGet (ask.Change group) = ⊥

abbrev pub IsPage : Ask → Type 0
IsPage (ask.Create name) = ⊥
IsPage (ask.Drop name) = ⊥
IsPage (ask.Tables after top) = ⊥
IsPage (ask.Get name pk rk) = ⊥
IsPage (ask.Page name options) = ⊤
IsPage (ask.Change group) = ⊥

abbrev pub IsChange : Ask → Type 0
IsChange (ask.Create name) = ⊥
IsChange (ask.Drop name) = ⊥
IsChange (ask.Tables after top) = ⊥
IsChange (ask.Get name pk rk) = ⊥
IsChange (ask.Page name options) = ⊥
IsChange (ask.Change group) = ⊤

-- the index is one of an operation of the change
abbrev pub IsIndexIn : ℕ → Ask → Type 0
IsIndexIn index (ask.Create name) = ⊥
IsIndexIn index (ask.Drop name) = ⊥
IsIndexIn index (ask.Tables after top) = ⊥
IsIndexIn index (ask.Get name pk rk) = ⊥
IsIndexIn index (ask.Page name options) = ⊥
IsIndexIn index (ask.Change group) = index < length group

-- one of the change's operations is refused, and the kept tick is a moment
abbrev pub SuitsRefusal : Ask → OpRefused → Type 0
SuitsRefusal ask (op.AlreadyThere index) = IsIndexIn index ask
SuitsRefusal ask (op.NotThere index) = IsIndexIn index ask
SuitsRefusal ask (op.Condition index tick) = IsIndexIn index ask × (tick ≤ GREATEST)
SuitsRefusal ask (op.TooMany index) = IsIndexIn index ask
SuitsRefusal ask (op.TooLarge index) = IsIndexIn index ask
SuitsRefusal ask op.Memory = IsChange ask

-- the reason is one for such an ask: a refused operation for a change alone, and for a batch neither a missing row nor a
-- table that is there
abbrev pub SuitsDenial : Bool → Ask → Denied → Type 0
SuitsDenial batch ask denied.NoTable = ⊤
SuitsDenial batch ask denied.TableThere = batch ≡ false
SuitsDenial batch ask denied.NotFound = batch ≡ false
SuitsDenial batch ask (denied.Op refusal) = SuitsRefusal ask refusal
SuitsDenial batch ask _ = ⊤

-- a reply to such an ask: a row for a key, a page for a page, a tick for a change, what was done to tables for the same
-- kind of ask, and a denial for each
abbrev pub SuitsAsk : Bool → Ask → Reply → Type 0
SuitsAsk batch ask (reply.Found row) = IsGet ask
SuitsAsk batch ask (reply.Listed page) = IsPage ask
SuitsAsk batch ask (reply.Changed tick) = IsChange ask × (tick ≤ GREATEST)
SuitsAsk batch ask (reply.Made name) = IsCreate ask
SuitsAsk batch ask reply.Dropped = IsDrop ask
SuitsAsk batch ask (reply.Tables names next) = IsListing ask
SuitsAsk batch ask (reply.Denied why) = SuitsDenial batch ask why

-- the request has a form for what it asks, and the reply is one to it
pub record Suits (request : Request) (reply : Reply) : Type 0 where
  pub form : IsFormOf request.ask request.form
  pub suits : SuitsAsk request.form.batch request.ask reply

-- ---- messages of HTTP/1.1

-- a header: its name and its value
abbrev pub Header : Type 0
Header = List ℕ × List ℕ

-- the line of a header
unfoldable pub header_line : Header → List ℕ
header_line header = header.0 ++ codes ": " ++ header.1 ++ codes "\r\n"

-- the status line
unfoldable pub status_line : ℕ → List ℕ
status_line status = codes "HTTP/1.1 " ++ status_text status ++ codes "\r\n"

-- the head of a message: its status line, the lines of its headers, and an empty line
unfoldable pub head_text : ℕ → List Header → List ℕ
head_text status headers = status_line status ++ flat_map header_line headers ++ codes "\r\n"

-- ---- replies

-- the version of the protocol, which every reply names last of its headers
abbrev pub version_header : Header
version_header = (codes "x-ms-version", codes "2019-02-02")

-- a reply with a body of this type, and with more headers between the body's own and the version
unfoldable pub reply_with_body : ℕ → List ℕ → List Header → List ℕ → List ℕ
reply_with_body status type more body =
    head_text status ((codes "Content-Length", decimal (length body)) ∷ (codes "Content-Type", type) ∷ (more ++ version_header ∷ [])) ++ body

-- a reply that says why a request was refused
unfoldable pub fault_reply : ℕ → List ℕ → List ℕ → List ℕ
fault_reply status code text = reply_with_body status (codes "application/json") [] (fault_json code text)

-- and the same by its cause
abbrev pub error_text : Cause → List ℕ
error_text why = fault_reply why.status why.code why.text

abbrev pub memory_fault : List ℕ
memory_fault = error_text cause.no_memory

-- the reply to a batch, from the replies to its operations
unfoldable pub batch_reply : List (List ℕ) → List ℕ
batch_reply replies = reply_with_body 202 (codes "multipart/mixed; boundary=batchresponse_1") [] (batch_text replies)

-- the reply that says why: to the whole request, or as the only part of the reply to a batch
unfoldable pub fault_at : Option ℕ → ℕ → List ℕ → List ℕ → List ℕ
fault_at None status code text = fault_reply status code text
fault_at (Some index) status code text = batch_reply (fault_reply status code (indexed_text index text) ∷ [])

-- and the same by its cause
abbrev pub error_text_at : Option ℕ → Cause → List ℕ
error_text_at index why = fault_at index why.status why.code why.text

-- the index of an operation, where it is one of a batch
abbrev pub index_in : Bool → ℕ → Option ℕ
index_in true index = Some index
index_in false index = None

-- the reply to a refused operation
unfoldable pub refused_reply : Bool → OpRefused → List ℕ
refused_reply batch (op.AlreadyThere index) = error_text_at (index_in batch index) cause.entity_there
refused_reply batch (op.NotThere index) = error_text_at (index_in batch index) cause.no_entity
refused_reply batch (op.Condition index tick) = error_text_at (index_in batch index) (cause.other_version (text_of_etag tick))
refused_reply batch (op.TooMany index) = error_text_at (index_in batch index) cause.too_many_properties
refused_reply batch (op.TooLarge index) = error_text_at (index_in batch index) cause.entity_too_large
refused_reply batch op.Memory = memory_fault

-- the reply to a denied request; in a batch the first operation names its table
unfoldable pub denied_reply : Bool → Denied → List ℕ
denied_reply batch denied.NoTable = error_text_at (index_in batch 0) cause.no_table
denied_reply batch denied.TableThere = error_text cause.table_there
denied_reply batch denied.NotFound = error_text cause.no_entity
denied_reply batch (denied.Op refusal) = refused_reply batch refusal
denied_reply batch (denied.Busy plan) = error_text (cause.busy plan)
denied_reply batch denied.TimeSpent = error_text cause.time_spent
denied_reply batch denied.IdsSpent = error_text cause.numbers_spent
denied_reply batch (denied.DiskFault disk) = error_text (cause.disk_failed disk)
denied_reply batch (denied.Damaged disk at) = error_text (cause.disk_damaged disk at)
denied_reply batch denied.Memory = memory_fault

-- the type of a body with minimal metadata, or with none
abbrev pub json_type : Bool → List ℕ
json_type minimal =
    if minimal then codes "application/json;odata=minimalmetadata;streaming=true;charset=utf-8"
    else codes "application/json;odata=nometadata;streaming=true;charset=utf-8"

-- the header that names a version
abbrev pub etag_header : ℕ → Header
etag_header tick = (codes "ETag", text_of_etag tick)

-- the headers that say where the next page begins
abbrev pub continuation : Option (List ℕ × List ℕ) → List Header
continuation None = []
continuation (Some next) =
    (codes "x-ms-continuation-NextPartitionKey", token_text next.0) ∷ (codes "x-ms-continuation-NextRowKey", token_text next.1) ∷ []

-- the page of a table
unfoldable pub page_reply : List ℕ → List ℕ → JsonForm → Page → List ℕ
page_reply account name form page =
    reply_with_body 200 (json_type form.minimal) (continuation page.next) (page_json account name form page.rows)

-- one row
unfoldable pub row_reply : List ℕ → List ℕ → JsonForm → RowView → List ℕ
row_reply account name form row =
    reply_with_body 200 (json_type form.minimal) (etag_header row.tick ∷ []) (entity_json account name form (version_of row))

-- the headers that say which preference counted
abbrev pub applied : Option (List ℕ) → List Header
applied None = []
applied (Some preference) = (codes "Preference-Applied", preference) ∷ []

-- the entity that was inserted
unfoldable pub created_reply : List ℕ → Bool → List ℕ → VersionView → Option (List ℕ) → List ℕ
created_reply account minimal name version preference =
    let form : JsonForm = record { minimal = minimal; select = select.All } in
    reply_with_body 201 (json_type minimal) (etag_header version.tick ∷ applied preference) (entity_json account name form version)

-- a reply without a body
unfoldable pub bodiless_reply : ℕ → List Header → List ℕ
bodiless_reply status more = head_text status (more ++ version_header ∷ [])

-- the reply to an insert, with the entity or with its version alone, as the client prefers
abbrev pub insert_reply : List ℕ → Bool → Prefer → List ℕ → VersionView → List ℕ
insert_reply account minimal Unsaid name version = created_reply account minimal name version None
insert_reply account minimal Content name version = created_reply account minimal name version (Some (codes "return-content"))
insert_reply account minimal NoContent name version = bodiless_reply 204 (etag_header version.tick ∷ applied (Some (codes "return-no-content")))

-- the reply to a write with the row's version
unfoldable pub written_reply : ℕ → List ℕ
written_reply tick = bodiless_reply 204 (etag_header tick ∷ [])

-- the reply to an operation that stands with this tick, in the form of its part
abbrev pub operation_reply : List ℕ → PartForm → ItemView → Op → ℕ → List ℕ
operation_reply account part item (Insert entity) tick =
    insert_reply account part.minimal part.prefer item.name (record { pk = item.pk; rk = item.rk; properties = entity.properties; tick = tick })
operation_reply account part item (Update entity condition) tick = written_reply tick
operation_reply account part item (Replace entity) tick = written_reply tick
operation_reply account part item (Merge entity condition) tick = written_reply tick
operation_reply account part item (MergeIn entity) tick = written_reply tick
operation_reply account part item (Delete condition) tick = bodiless_reply 204 []

-- the replies to the operations of a change that stands with this tick
unfoldable pub operation_replies : List ℕ → List PartForm → List ItemView → ℕ → List (List ℕ)
operation_replies account [] items tick = []
operation_replies account (part ∷ parts) [] tick = []
operation_replies account (part ∷ parts) (item ∷ items) tick =
    operation_reply account part item item.op tick ∷ operation_replies account parts items tick

abbrev pub sole_reply : List (List ℕ) → List ℕ
sole_reply [] = []
sole_reply (reply ∷ more) = reply

-- the replies as those of a batch, or the one that there is
abbrev pub joined_reply : Bool → List (List ℕ) → List ℕ
joined_reply true replies = batch_reply replies
joined_reply false replies = sole_reply replies

-- the reply to a change that stands with this tick
abbrev pub change_reply : Form → List ItemView → ℕ → List ℕ
change_reply form group tick = joined_reply form.batch (operation_replies form.account form.parts group tick)

-- ---- replies on tables

-- a table that was made, with the preference that counted
unfoldable pub table_reply : Form → List ℕ → Option (List ℕ) → List ℕ
table_reply form name preference =
    reply_with_body 201 (json_type form.json.minimal) (applied preference) (table_json form.account name form.json)

-- what is preferred for the only part
abbrev pub sole_prefer : List PartForm → Prefer
sole_prefer [] = Unsaid
sole_prefer (part ∷ more) = part.prefer

-- the reply to the making of a table, with the table or without a body, as the client prefers
abbrev pub made_reply : Form → Prefer → List ℕ → List ℕ
made_reply form Unsaid name = table_reply form name None
made_reply form Content name = table_reply form name (Some (codes "return-content"))
made_reply form NoContent name = bodiless_reply 204 (applied (Some (codes "return-no-content")))

-- the header that says where the next list begins
abbrev pub table_continuation : Option (List ℕ) → List Header
table_continuation None = []
table_continuation (Some name) = (codes "x-ms-continuation-NextTableName", token_text name) ∷ []

-- a list of tables
unfoldable pub tables_reply : Form → List (List ℕ) → Option (List ℕ) → List ℕ
tables_reply form names next =
    reply_with_body 200 (json_type form.json.minimal) (table_continuation next) (tables_json form.account names form.json)

-- ---- the reply to an ask in this form; no bytes where it is none to such an ask

abbrev pub found_reply : Form → Ask → RowView → List ℕ
found_reply form (ask.Create name) row = []
found_reply form (ask.Drop name) row = []
found_reply form (ask.Tables after top) row = []
found_reply form (ask.Get name pk rk) row = row_reply form.account name form.json row
found_reply form (ask.Page name options) row = []
found_reply form (ask.Change group) row = []

abbrev pub listed_reply : Form → Ask → Page → List ℕ
listed_reply form (ask.Create name) page = []
listed_reply form (ask.Drop name) page = []
listed_reply form (ask.Tables after top) page = []
listed_reply form (ask.Get name pk rk) page = []
listed_reply form (ask.Page name options) page = page_reply form.account name form.json page
listed_reply form (ask.Change group) page = []

abbrev pub changed_reply : Form → Ask → ℕ → List ℕ
changed_reply form (ask.Create name) tick = []
changed_reply form (ask.Drop name) tick = []
changed_reply form (ask.Tables after top) tick = []
changed_reply form (ask.Get name pk rk) tick = []
changed_reply form (ask.Page name options) tick = []
changed_reply form (ask.Change group) tick = change_reply form group tick

abbrev pub reply_to_ask : Form → Ask → Reply → List ℕ
reply_to_ask form ask (reply.Found row) = found_reply form ask row
reply_to_ask form ask (reply.Listed page) = listed_reply form ask page
reply_to_ask form ask (reply.Changed tick) = changed_reply form ask tick
reply_to_ask form ask (reply.Made name) = made_reply form (sole_prefer form.parts) name
reply_to_ask form ask reply.Dropped = bodiless_reply 204 []
reply_to_ask form ask (reply.Tables names next) = tables_reply form names next
reply_to_ask form ask (reply.Denied why) = denied_reply form.batch why

-- the bytes of the reply to a request
unfoldable pub reply_text : Request → Reply → List ℕ
reply_text request reply = reply_to_ask request.form request.ask reply
