-- The replies to the parts of a batch are plain.
use Rattle.std.proofs.Common.{◌≡◌, ℕ, inl, inr, List, [], ◌∷◌, ◌++◌, length, flat_map, Bool, true, false, codes, decimal, Option, Some, None, refl, sym, subst, ◌∙◌, append_assoc, append-nil, true≢false}
use Rattle.std.specs.Prelude.{unwrap_or}
use Rattle.std.specs.List.{AllByRecursion}
use Rattle.http.specs.StatusCode.{status_text, reason_phrase}
use Rattle.tab_batch.specs.Replies.{line, IsPlain}
use Rattle.tab_batch.proofs.PlainLemmas.{IsMild, plain_last, plain_line}
use Rattle.tab_edm.specs.Moments.{text_of_etag}
use Rattle.tab_history.specs.declared.asks.Ask.{Ask}
use Rattle.tab_history.specs.declared.asks.Ask.TheVariants as ask
use Rattle.tab_history.specs.declared.asks.Reply.{Reply}
use Rattle.tab_history.specs.declared.asks.Reply.TheVariants as reply
use Rattle.tab_history.specs.declared.entries.Denied.{Denied}
use Rattle.tab_history.specs.declared.entries.Denied.TheVariants as denied
use Rattle.tab_json.specs.Entities.{VersionView, entity_data, entity_json}
use Rattle.tab_json.specs.Faults.{fault_json, fault_data}
use Rattle.tab_json.specs.Objects.{object_of}
use Rattle.tab_json.specs.Lines.{IsOneLine}
use Rattle.tab_json.proofs.LineLaws.{both_lines, decimal_line, value_line}
use Rattle.tab_json.specs.declared.entities.JsonForm.{JsonForm}
use Rattle.tab_ops.specs.Groups.{ItemView}
use Rattle.tab_ops.specs.declared.groups.OpRefused.{OpRefused}
use Rattle.tab_ops.specs.declared.groups.OpRefused.TheVariants as op
use Rattle.tab_ops.specs.declared.ops.Op.{Op}
use Rattle.tab_ops.specs.declared.ops.Op.TheVariants.{Insert, Update, Replace, Merge, MergeIn, Delete}
use Rattle.tab_page.specs.declared.selects.Select.TheVariants as select
use Rattle.tab_service.specs.Causes.{Cause, indexed_text}
use Rattle.tab_service.specs.Causes as cause
use Rattle.tab_service.specs.Forms.{IsFormOf}
use Rattle.tab_service.specs.Laws.{IsPlainOrWhole}
use Rattle.tab_service.specs.Replies.{Header, header_line, status_line, head_text, version_header, reply_with_body, fault_reply, fault_at, error_text_at, refused_reply, denied_reply, json_type, etag_header, applied, created_reply, bodiless_reply, insert_reply, written_reply, operation_reply, operation_replies, SuitsDenial, SuitsAsk, Suits, reply_to_ask, reply_text}
use Rattle.tab_service.specs.declared.forms.PartForm.{PartForm}
use Rattle.tab_service.specs.declared.forms.Prefer.{Prefer}
use Rattle.tab_service.specs.declared.forms.Prefer.TheVariants.{Unsaid, Content, NoContent}
use Rattle.tab_json.proofs.MomentTexts.{etag_line}

-- ---- heads

-- a header whose line is mild
abbrev IsMildHeader : Header → Type 0
IsMildHeader header = IsMild (header.0 ++ codes ": " ++ header.1)

plain_headers : (headers : List Header) (rest : List ℕ) → AllByRecursion IsMildHeader headers → IsPlain rest → IsPlain (flat_map header_line headers ++ rest)
unfolding header_line
plain_headers [] rest mild is = is
plain_headers (header ∷ headers) rest mild is =
    subst IsPlain (sym (append_assoc (header_line header) (flat_map header_line headers) rest))
    (plain_line (header.0 ++ codes ": " ++ header.1) (flat_map header_line headers ++ rest) mild.0 (plain_headers headers rest mild.1 is))

abbrev status_front : ℕ → List ℕ
status_front status = codes "HTTP/1.1 " ++ status_text status

plain_head : (status : ℕ) (headers : List Header) (rest : List ℕ) → IsMild (status_front status) → AllByRecursion IsMildHeader headers → IsPlain rest → IsPlain (head_text status headers ++ rest)
unfolding head_text status_line
plain_head status headers rest first mild is =
    let lines = flat_map header_line headers in
    let end = line [] in
    let parts : head_text status headers ++ rest ≡ status_line status ++ (lines ++ (end ++ rest)) =
    append_assoc (status_line status ++ lines) end rest ∙ append_assoc (status_line status) lines (end ++ rest) in
    subst IsPlain (sym parts) (plain_line (status_front status) (lines ++ (end ++ rest)) first (plain_headers headers (end ++ rest) mild (plain_line [] rest (record { one = refl; plain = refl }) is)))

-- a status whose phrase stands on one line
mild_status : (status : ℕ) → IsOneLine (unwrap_or (reason_phrase status) (codes "<unknown status code>")) → IsMild (status_front status)
mild_status status phrase = record {
  one = both_lines (codes "HTTP/1.1 ") (status_text status) refl
      (both_lines (decimal status ++ codes " ") (unwrap_or (reason_phrase status) (codes "<unknown status code>")) (both_lines (decimal status) (codes " ") (decimal_line status) refl) phrase);
  plain = refl;
}

abbrev AreMild : List Header → Type 0
AreMild = AllByRecursion IsMildHeader

both_mild : (first more : List Header) → AreMild first → AreMild more → AreMild (first ++ more)
both_mild [] more p q = q
both_mild (header ∷ first) more p q = (p.0, both_mild first more p.1 q)

mild_version : AreMild (version_header ∷ [])
mild_version = (record { one = refl; plain = refl }, tt)

mild_etag : (tick : ℕ) → AreMild (etag_header tick ∷ [])
mild_etag tick = (record { one = both_lines (codes "ETag: ") (text_of_etag tick) refl (etag_line tick); plain = refl }, tt)

-- ---- replies

plain_with_body : (status : ℕ) (type : List ℕ) (more : List Header) (body : List ℕ) → IsMild (status_front status) → IsOneLine type → AreMild more → IsMild body → IsPlain (reply_with_body status type more body)
unfolding reply_with_body
plain_with_body status type more body first kind mild is =
    plain_head status ((codes "Content-Length", decimal (length body)) ∷ (codes "Content-Type", type) ∷ (more ++ version_header ∷ [])) body first (
      record { one = both_lines (codes "Content-Length: ") (decimal (length body)) refl (decimal_line (length body)); plain = refl },
      (record { one = both_lines (codes "Content-Type: ") type refl kind; plain = refl }, both_mild more (version_header ∷ []) mild mild_version),
    )
    (plain_last body is)

plain_bodiless : (status : ℕ) (more : List Header) → IsMild (status_front status) → AreMild more → IsPlain (bodiless_reply status more)
unfolding bodiless_reply
plain_bodiless status more first mild =
    subst IsPlain (append-nil (head_text status (more ++ version_header ∷ [])))
    (plain_head status (more ++ version_header ∷ []) [] first (both_mild more (version_header ∷ []) mild mild_version) (plain_last [] (record { one = refl; plain = refl })))

mild_fault : (code text : List ℕ) → IsMild (fault_json code text)
unfolding fault_json fault_data object_of
mild_fault code text = record { one = value_line (fault_data code text); plain = refl }

plain_fault : (status : ℕ) (code text : List ℕ) → IsMild (status_front status) → IsPlain (fault_reply status code text)
unfolding fault_reply
plain_fault status code text first = plain_with_body status (codes "application/json") [] (fault_json code text) first refl tt (mild_fault code text)

json_kind : (minimal : Bool) → IsOneLine (json_type minimal)
json_kind true = refl
json_kind false = refl

mild_entity : (account name : List ℕ) (form : JsonForm) (version : VersionView) → IsMild (entity_json account name form version)
unfolding entity_json entity_data object_of
mild_entity account name form version = record { one = value_line (entity_data account name form version); plain = refl }

abbrev whole_form : Bool → JsonForm
whole_form minimal = record { minimal = minimal; select = select.All }

plain_created : (account : List ℕ) (minimal : Bool) (name : List ℕ) (version : VersionView) (preference : Option (List ℕ)) → AreMild (applied preference) → IsPlain (created_reply account minimal name version preference)
unfolding created_reply
plain_created account minimal name version preference mild =
    plain_with_body 201 (json_type minimal) (etag_header version.tick ∷ applied preference) (entity_json account name (whole_form minimal) version) (mild_status 201 refl) (json_kind minimal)
    ((mild_etag version.tick).0, mild) (mild_entity account name (whole_form minimal) version)

plain_insert : (account : List ℕ) (minimal : Bool) (prefer : Prefer) (name : List ℕ) (version : VersionView) → IsPlain (insert_reply account minimal prefer name version)
plain_insert account minimal Unsaid name version = plain_created account minimal name version None tt
plain_insert account minimal Content name version = plain_created account minimal name version (Some (codes "return-content")) (record { one = refl; plain = refl }, tt)
plain_insert account minimal NoContent name version =
    plain_bodiless 204 (etag_header version.tick ∷ applied (Some (codes "return-no-content"))) (mild_status 204 refl) ((mild_etag version.tick).0, (record { one = refl; plain = refl }, tt))

plain_written : (tick : ℕ) → IsPlain (written_reply tick)
unfolding written_reply
plain_written tick = plain_bodiless 204 (etag_header tick ∷ []) (mild_status 204 refl) (mild_etag tick)

plain_operation : (account : List ℕ) (part : PartForm) (item : ItemView) (o : Op) (tick : ℕ) → IsPlain (operation_reply account part item o tick)
plain_operation account part item (Insert entity) tick = plain_insert account part.minimal part.prefer item.name (record { pk = item.pk; rk = item.rk; properties = entity.properties; tick = tick })
plain_operation account part item (Update entity condition) tick = plain_written tick
plain_operation account part item (Replace entity) tick = plain_written tick
plain_operation account part item (Merge entity condition) tick = plain_written tick
plain_operation account part item (MergeIn entity) tick = plain_written tick
plain_operation account part item (Delete condition) tick = plain_bodiless 204 [] (mild_status 204 refl) tt

plain_operations : (account : List ℕ) (parts : List PartForm) (items : List ItemView) (tick : ℕ) → AllByRecursion IsPlain (operation_replies account parts items tick)
unfolding operation_replies
plain_operations account [] items tick = tt
plain_operations account (part ∷ parts) [] tick = tt
plain_operations account (part ∷ parts) (item ∷ items) tick = (plain_operation account part item item.op tick, plain_operations account parts items tick)

-- ---- the replies of batches

-- a reply that says why, of the part with this index
put_fault : (index : ℕ) (why : Cause) → IsMild (status_front why.status) → IsPlainOrWhole (error_text_at (Some index) why)
unfolding fault_at
put_fault index why first = inl (record {
  replies = fault_reply why.status why.code (indexed_text index why.text) ∷ [];
  text_is = refl;
  plain = (plain_fault why.status why.code (indexed_text index why.text) first, tt);
})

refused_plain : (why : OpRefused) → IsPlainOrWhole (refused_reply true why)
unfolding refused_reply
refused_plain (op.AlreadyThere index) = put_fault index cause.entity_there (mild_status 409 refl)
refused_plain (op.NotThere index) = put_fault index cause.no_entity (mild_status 404 refl)
refused_plain (op.Condition index tick) = put_fault index (cause.other_version (text_of_etag tick)) (mild_status 412 refl)
refused_plain (op.TooMany index) = put_fault index cause.too_many_properties (mild_status 400 refl)
refused_plain (op.TooLarge index) = put_fault index cause.entity_too_large (mild_status 400 refl)
refused_plain op.Memory = inr (record { why = cause.no_memory; text_is = refl })

denied_plain : (group : List ItemView) (why : Denied) → SuitsDenial true (ask.Change group) why → IsPlainOrWhole (denied_reply true why)
unfolding denied_reply
denied_plain group denied.NoTable suits = put_fault 0 cause.no_table (mild_status 404 refl)
denied_plain group denied.TableThere suits = absurd (true≢false suits)
denied_plain group denied.NotFound suits = absurd (true≢false suits)
denied_plain group (denied.Op why) suits = refused_plain why
denied_plain group (denied.Busy plan) suits = inr (record { why = cause.busy plan; text_is = refl })
denied_plain group denied.TimeSpent suits = inr (record { why = cause.time_spent; text_is = refl })
denied_plain group denied.IdsSpent suits = inr (record { why = cause.numbers_spent; text_is = refl })
denied_plain group (denied.DiskFault disk) suits = inr (record { why = cause.disk_failed disk; text_is = refl })
denied_plain group denied.Memory suits = inr (record { why = cause.no_memory; text_is = refl })
denied_plain group (denied.Damaged disk at) suits = inr (record { why = cause.disk_damaged disk at; text_is = refl })

change_plain : (account : List ℕ) (json : JsonForm) (parts : List PartForm) (group : List ItemView) (answer : Reply) → SuitsAsk true (ask.Change group) answer
    → IsPlainOrWhole (reply_to_ask (record { account = account; batch = true; json = json; parts = parts }) (ask.Change group) answer)
change_plain account json parts group (reply.Found row) suits = absurd suits
change_plain account json parts group (reply.Listed page) suits = absurd suits
change_plain account json parts group (reply.Changed tick) suits = inl (record { replies = operation_replies account parts group tick; text_is = refl; plain = plain_operations account parts group tick })
change_plain account json parts group (reply.Made name) suits = absurd suits
change_plain account json parts group reply.Dropped suits = absurd suits
change_plain account json parts group (reply.Tables names next) suits = absurd suits
change_plain account json parts group (reply.Denied why) suits = denied_plain group why suits

ask_plain : (account : List ℕ) (json : JsonForm) (parts : List PartForm) (asked : Ask) (answer : Reply) → IsFormOf asked (record { account = account; batch = true; json = json; parts = parts }) → SuitsAsk true asked answer
    → IsPlainOrWhole (reply_to_ask (record { account = account; batch = true; json = json; parts = parts }) asked answer)
ask_plain account json parts (ask.Create name) answer form suits = absurd form
ask_plain account json parts (ask.Drop name) answer form suits = absurd form
ask_plain account json parts (ask.Tables after top) answer form suits = absurd form
ask_plain account json parts (ask.Get name pk rk) answer form suits = absurd form
ask_plain account json parts (ask.Page name options) answer form suits = absurd form
ask_plain account json parts (ask.Change group) answer form suits = change_plain account json parts group answer suits

pub batch_replies_are_plain : (account : List ℕ) (json : JsonForm) (parts : List PartForm) (asked : Ask) (answer : Reply)
    → Suits (record { ask = asked; form = record { account = account; batch = true; json = json; parts = parts } }) answer
    → IsPlainOrWhole (reply_text (record { ask = asked; form = record { account = account; batch = true; json = json; parts = parts } }) answer)
unfolding reply_text
batch_replies_are_plain account json parts asked answer suits = ask_plain account json parts asked answer suits.form suits.suits
