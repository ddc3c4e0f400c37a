-- The causes for which no request is answered as asked: the status, the code and the text of each.
use Rattle.std.specs.Prelude.{ℕ, List, ◌++◌, codes, decimal}

pub record Cause : Type 0 where
  pub status : ℕ
  pub code : List ℕ
  pub text : List ℕ

abbrev pub row : ℕ → List ℕ → List ℕ → Cause
row status code text = record { status = status; code = code; text = text }

-- a text behind the index of the operation that it is of
abbrev pub indexed_text : ℕ → List ℕ → List ℕ
indexed_text index text = decimal index ++ codes ":" ++ text

-- ---- the bytes of a message

abbrev pub not_whole : Cause
not_whole = row 400 (codes "InvalidHttp") (codes "The message is not one whole HTTP request.")

abbrev pub head_too_long : Cause
head_too_long = row 400 (codes "InvalidHttp") (codes "The head is longer than 32768 bytes.")

abbrev pub no_length : Cause
no_length = row 411 (codes "MissingContentLengthHeader") (codes "A Content-Length is needed.")

abbrev pub body_too_long : Cause
body_too_long = row 413 (codes "RequestBodyTooLarge") (codes "The body is longer than 4194304 bytes.")

-- ---- its signature

abbrev pub not_signed : Cause
not_signed = row 403 (codes "AuthenticationFailed") (codes "Authorization is missing or is not SharedKeyLite.")

abbrev pub unknown_account : Cause
unknown_account = row 403 (codes "AuthenticationFailed") (codes "The account is not known here.")

abbrev pub date_unread : Cause
date_unread = row 403 (codes "AuthenticationFailed") (codes "The date cannot be read.")

abbrev pub too_old : Cause
too_old = row 403 (codes "AuthenticationFailed") (codes "The date is more than 15 minutes old.")

abbrev pub too_early : Cause
too_early = row 403 (codes "AuthenticationFailed") (codes "The date is more than 15 minutes ahead.")

abbrev pub signature_differs : Cause
signature_differs = row 403 (codes "AuthenticationFailed") (codes "The signature differs.")

-- ---- its path and its method

abbrev pub no_path : Cause
no_path = row 400 (codes "InvalidInput") (codes "The path is not one of this service.")

abbrev pub bad_name : Cause
bad_name = row 400 (codes "InvalidInput") (codes "The table name is not valid.")

abbrev pub key_too_long : Cause
key_too_long = row 400 (codes "KeyValueTooLarge") (codes "A key has at most 1024 units.")

abbrev pub bad_character : Cause
bad_character = row 400 (codes "InvalidInput") (codes "A key has a character that is not allowed.")

abbrev pub wrong_method : Cause
wrong_method = row 405 (codes "MethodNotAllowed") (codes "The method is not allowed here.")

-- ---- its headers

abbrev pub not_json_format : Cause
not_json_format = row 415 (codes "JsonFormatNotSupported") (codes "Only JSON with no or minimal metadata is served.")

abbrev pub no_condition : Cause
no_condition = row 400 (codes "MissingRequiredHeader") (codes "If-Match is needed.")

abbrev pub bad_condition : Cause
bad_condition = row 400 (codes "InvalidInput") (codes "The If-Match value is not an ETag of this service.")

-- ---- its query

abbrev pub doubled_option : Cause
doubled_option = row 400 (codes "InvalidInput") (codes "A query option is given twice.")

abbrev pub bad_top : Cause
bad_top = row 400 (codes "InvalidInput") (codes "The value of $top is not 1 to 1000.")

abbrev pub bad_token : Cause
bad_token = row 400 (codes "InvalidInput") (codes "A continuation token cannot be read.")

abbrev pub filter_unread : ℕ → Cause
filter_unread offset = row 400 (codes "InvalidInput") (codes "The filter cannot be read at " ++ decimal offset ++ codes ".")

abbrev pub bad_literal : ℕ → Cause
bad_literal offset = row 400 (codes "InvalidInput") (codes "The filter has a wrong literal at " ++ decimal offset ++ codes ".")

abbrev pub too_many_comparisons : Cause
too_many_comparisons = row 400 (codes "InvalidInput") (codes "The filter has more than 15 comparisons.")

abbrev pub filter_of_tables : Cause
filter_of_tables = row 400 (codes "InvalidInput") (codes "$filter is not taken here.")

-- ---- its body

abbrev pub no_object : Cause
no_object = row 400 (codes "InvalidInput") (codes "The body is not one JSON object.")

abbrev pub wrong_type : List ℕ → Cause
wrong_type name = row 400 (codes "InvalidValueType") (codes "The value of " ++ name ++ codes " is not of its type.")

abbrev pub no_table_name : Cause
no_table_name = row 400 (codes "InvalidInput") (codes "TableName is missing or not a text.")

abbrev pub keys_missing : Cause
keys_missing = row 400 (codes "PropertiesNeedValue") (codes "PartitionKey and RowKey are needed.")

abbrev pub bad_property_name : List ℕ → Cause
bad_property_name name = row 400 (codes "PropertyNameInvalid") (codes "The property name " ++ name ++ codes " is not valid.")

abbrev pub long_property_name : Cause
long_property_name = row 400 (codes "PropertyNameTooLong") (codes "A property name is longer than 255 characters.")

abbrev pub large_value : List ℕ → Cause
large_value name = row 400 (codes "PropertyValueTooLarge") (codes "The value of " ++ name ++ codes " is too large.")

abbrev pub too_many_properties : Cause
too_many_properties = row 400 (codes "TooManyProperties") (codes "An entity has at most 252 properties.")

abbrev pub entity_too_large : Cause
entity_too_large = row 400 (codes "EntityTooLarge") (codes "An entity has at most 1048576 bytes.")

-- ---- its parts, where it is a batch

abbrev pub no_boundary : Cause
no_boundary = row 400 (codes "InvalidInput") (codes "The Content-Type has no boundary.")

abbrev pub multipart_unread : ℕ → Cause
multipart_unread offset = row 400 (codes "InvalidInput") (codes "The multipart body cannot be read at " ++ decimal offset ++ codes ".")

abbrev pub no_request : Cause
no_request = row 400 (codes "InvalidInput") (codes "The part is not an HTTP request.")

abbrev pub empty_change_set : Cause
empty_change_set = row 400 (codes "InvalidInput") (codes "The change set is empty.")

abbrev pub too_many_operations : Cause
too_many_operations = row 400 (codes "InvalidInput") (codes "The change set has more than 100 operations.")

abbrev pub mixed_partitions : Cause
mixed_partitions = row 400 (codes "CommandsInBatchActOnDifferentPartitions") (codes "The operations are not in one partition of one table.")

abbrev pub doubled_row : Cause
doubled_row = row 400 (codes "InvalidDuplicateRow") (codes "The entity is named twice.")

-- ---- what the store says

abbrev pub no_table : Cause
no_table = row 404 (codes "TableNotFound") (codes "The table is not there.")

abbrev pub no_entity : Cause
no_entity = row 404 (codes "ResourceNotFound") (codes "The entity is not there.")

abbrev pub table_there : Cause
table_there = row 409 (codes "TableAlreadyExists") (codes "The table is there already.")

abbrev pub entity_there : Cause
entity_there = row 409 (codes "EntityAlreadyExists") (codes "The entity is there already.")

-- with the ETag of the kept version
abbrev pub other_version : List ℕ → Cause
other_version etag = row 412 (codes "UpdateConditionNotSatisfied") (codes "The kept version is " ++ etag ++ codes ".")

-- a plan hands the key's range over
abbrev pub busy : ℕ → Cause
busy plan = row 503 (codes "ServerBusy") (codes "The server is busy: plan " ++ decimal plan ++ codes ".")

abbrev pub disk_failed : ℕ → Cause
disk_failed disk = row 500 (codes "DiskFault") (codes "Disk " ++ decimal disk ++ codes " failed.")

-- a disk has, at this byte, what the store did not write
abbrev pub disk_damaged : ℕ → ℕ → Cause
disk_damaged disk at = row 500 (codes "StoreDamaged") (codes "Disk " ++ decimal disk ++ codes " is damaged at " ++ decimal at ++ codes ".")

abbrev pub time_spent : Cause
time_spent = row 500 (codes "TimeSpent") (codes "The last moment is reached.")

abbrev pub numbers_spent : Cause
numbers_spent = row 500 (codes "IdsSpent") (codes "No table number is left.")

abbrev pub no_memory : Cause
no_memory = row 507 (codes "OutOfMemory") (codes "No memory was found.")
