-- The causes of refusals, and the replies to requests that are refused before the store is asked and to bytes that are no message.
use Rattle.std.specs.Prelude.{ℕ, List, Option, Some, None}
use Rattle.tab_keys.specs.declared.key_texts.KeyRefused.{KeyRefused}
use Rattle.tab_keys.specs.declared.key_texts.KeyRefused.TheVariants as key
use Rattle.tab_edm.specs.declared.entities.EdmRefused.{EdmRefused}
use Rattle.tab_edm.specs.declared.entities.EdmRefused.TheVariants as edm
use Rattle.tab_auth.specs.declared.checks.AuthRefused.{AuthRefused}
use Rattle.tab_auth.specs.declared.checks.AuthRefused.TheVariants as auth
use Rattle.tab_filter.specs.declared.filter_text.FilterRefused.{FilterRefused}
use Rattle.tab_filter.specs.declared.filter_text.FilterRefused.TheVariants as filter
use Rattle.tab_page.specs.declared.queries.OptionRefused.{OptionRefused}
use Rattle.tab_page.specs.declared.queries.OptionRefused.TheVariants as option
use Rattle.tab_json.specs.declared.bodies.JsonRefused.{JsonRefused}
use Rattle.tab_json.specs.declared.bodies.JsonRefused.TheVariants as json
use Rattle.tab_ops.specs.declared.groups.GroupRefused.{GroupRefused}
use Rattle.tab_ops.specs.declared.groups.GroupRefused.TheVariants as group
use Rattle.tab_http.specs.declared.refusals.HttpRefused.{HttpRefused}
use Rattle.tab_http.specs.declared.refusals.HttpRefused.TheVariants as http
use Rattle.tab_batch.specs.declared.refusals.BatchRefused.{BatchRefused}
use Rattle.tab_batch.specs.declared.refusals.BatchRefused.TheVariants as batch
use Rattle.tab_service.specs.Causes.{Cause}
use Rattle.tab_service.specs.Causes as cause
use Rattle.tab_service.specs.Replies.{error_text, error_text_at}
use Rattle.tab_service.specs.declared.refusals.Refused.{Refused}
use Rattle.tab_service.specs.declared.refusals.Refused.TheVariants.{Why}
use Rattle.tab_service.specs.declared.refusals.Refused.TheVariants as refused
use Rattle.tab_service.specs.declared.refusals.Refusal.{Refusal}
use Rattle.tab_service.specs.declared.refusals.Refusal.TheVariants.{Auth, Path, Name, Key, Method, Format, Options, FilterOfTables, Condition, NoCondition, Body, NoTableName, KeysMissing, Entity, NoBoundary, Multipart, Group}

unfoldable pub auth_cause : AuthRefused → Cause
auth_cause auth.Missing = cause.not_signed
auth_cause auth.UnknownAccount = cause.unknown_account
auth_cause auth.DateUnread = cause.date_unread
auth_cause auth.TooOld = cause.too_old
auth_cause auth.TooEarly = cause.too_early
auth_cause auth.Differs = cause.signature_differs
auth_cause auth.Memory = cause.no_memory

unfoldable pub key_cause : KeyRefused → Cause
key_cause key.TooLong = cause.key_too_long
key_cause key.BadCharacter = cause.bad_character
key_cause key.Memory = cause.no_memory

unfoldable pub filter_cause : FilterRefused → Cause
filter_cause (filter.Syntax offset) = cause.filter_unread offset
filter_cause filter.TooManyComparisons = cause.too_many_comparisons
filter_cause (filter.BadLiteral offset) = cause.bad_literal offset
filter_cause filter.Memory = cause.no_memory

unfoldable pub option_cause : OptionRefused → Cause
option_cause option.BadOption = cause.doubled_option
option_cause option.BadTop = cause.bad_top
option_cause option.BadToken = cause.bad_token
option_cause (option.Filter why) = filter_cause why
option_cause option.Memory = cause.no_memory

-- what a request comes to where its options are refused
abbrev pub refused_option : OptionRefused → Refused Refusal
refused_option option.BadOption = Why (Options option.BadOption)
refused_option option.BadTop = Why (Options option.BadTop)
refused_option option.BadToken = Why (Options option.BadToken)
refused_option (option.Filter why) = Why (Options (option.Filter why))
refused_option option.Memory = refused.Memory

unfoldable pub body_cause : JsonRefused → Cause
body_cause json.NotJson = cause.no_object
body_cause json.NotObject = cause.no_object
body_cause (json.ValueType name) = cause.wrong_type name
body_cause (json.Key why) = key_cause why
body_cause json.Memory = cause.no_memory

unfoldable pub entity_cause : EdmRefused → Cause
entity_cause (edm.NameInvalid property) = cause.bad_property_name property.name
entity_cause (edm.NameTooLong property) = cause.long_property_name
entity_cause (edm.ValueTooLarge property) = cause.large_value property.name
entity_cause edm.TooMany = cause.too_many_properties
entity_cause edm.TooLarge = cause.entity_too_large
entity_cause edm.Memory = cause.no_memory

unfoldable pub multipart_cause : BatchRefused → Cause
multipart_cause (batch.BadMultipart offset) = cause.multipart_unread offset
multipart_cause (batch.BadPart _) = cause.no_request
multipart_cause batch.Memory = cause.no_memory

unfoldable pub group_cause : GroupRefused → Cause
group_cause group.Empty = cause.empty_change_set
group_cause group.TooMany = cause.too_many_operations
group_cause (group.MixedPartitions _) = cause.mixed_partitions
group_cause (group.DoubledRow _) = cause.doubled_row
group_cause group.Memory = cause.no_memory

-- why a request is refused before the store is asked
unfoldable pub cause_of : Refusal → Cause
cause_of (Auth why) = auth_cause why
cause_of Path = cause.no_path
cause_of Name = cause.bad_name
cause_of (Key why) = key_cause why
cause_of Method = cause.wrong_method
cause_of Format = cause.not_json_format
cause_of (Options why) = option_cause why
cause_of FilterOfTables = cause.filter_of_tables
cause_of Condition = cause.bad_condition
cause_of NoCondition = cause.no_condition
cause_of (Body why) = body_cause why
cause_of NoTableName = cause.no_table_name
cause_of KeysMissing = cause.keys_missing
cause_of (Entity why) = entity_cause why
cause_of NoBoundary = cause.no_boundary
cause_of (Multipart why) = multipart_cause why
cause_of (Group why) = group_cause why

-- the reply to a refused request, or to a batch of which the part of this index is refused
abbrev pub refusal_text : Option ℕ → Refusal → List ℕ
refusal_text index why = error_text_at index (cause_of why)

-- The reply to bytes that are no message. None is due where no message began, where a read failed, and where no memory was
-- found, for which another reply stands ready.
unfoldable pub http_fault : HttpRefused → Option (List ℕ)
http_fault http.EndBetween = None
http_fault http.EndInside = Some (error_text cause.not_whole)
http_fault http.Malformed = Some (error_text cause.not_whole)
http_fault http.HeadTooLong = Some (error_text cause.head_too_long)
http_fault http.NoLength = Some (error_text cause.no_length)
http_fault http.BodyTooLong = Some (error_text cause.body_too_long)
http_fault http.ReadFault = None
http_fault http.Memory = None
