-- What the JSON body of a request says. A body is one object (RFC 8259) as `serde_json` reads it, whose members stand in
-- byte order of their names.
use Rattle.std.specs.Prelude.{ℕ, ◌-◌, List, [], ◌∷◌, ◌++◌, length, take, fold, Bool, false, not, ◌&&◌, ◌||◌, ◌==◌, if◌then◌else◌, ⊤, Option, Some, None, is_some, ok_or, option_and_then, Result, Ok, Err, codes, bytes_eq}
use Rattle.std.specs.List.{starts_with, ends_with}
use Rattle.std.specs.Str.{is_utf8}
use Rattle.serde_json.specs.Data.{Data, null, boolean, number, string, array, object, Members, no_members, member}
use Rattle.serde_json.specs.Find.{get, get_member, as_null, as_str}
use Rattle.serde_json.specs.Read.{read}
use Rattle.tab_keys.specs.KeyTexts.{key_refusal}
use Rattle.tab_keys.specs.declared.key_texts.KeyRefused.{KeyRefused}
use Rattle.tab_edm.specs.Values.{IsInTime}
use Rattle.tab_edm.specs.declared.values.Value.{Value}
use Rattle.tab_json.specs.Values.{named_type, own_type, value_as}
use Rattle.tab_json.specs.declared.types.EdmType.{EdmType}
use Rattle.tab_json.specs.declared.members_read.Meaning.{Meaning}
use Rattle.tab_json.specs.declared.bodies.BodyEntity.{BodyEntity}
use Rattle.tab_json.specs.declared.bodies.JsonRefused.{JsonRefused}
use Rattle.tab_json.specs.declared.bodies.JsonRefused.TheVariants.{NotJson, NotObject, ValueType, Key}

-- ---- names

-- the names that are passed over
abbrev pub is_ignored : List ℕ → Bool
is_ignored name =
    starts_with ◌==◌ name (codes "odata.") || bytes_eq name (codes "Timestamp") || bytes_eq name (codes "Timestamp@odata.type")

-- the annotation of a name
abbrev pub annotation_of : List ℕ → List ℕ
annotation_of name = name ++ codes "@odata.type"

-- the name that a name annotates, if it ends as an annotation does
unfoldable pub annotated_by : List ℕ → Option (List ℕ)
annotated_by name = if ends_with ◌==◌ name (codes "@odata.type") then Some (take (length name - 11) name) else None

-- the name is that of a key or of a property
abbrev pub names_value : List ℕ → Bool
names_value name = not (is_ignored name) && not (is_some (annotated_by name))

abbrev pub is_null : Data → Bool
is_null value = is_some (as_null value)

abbrev pub is_present : Option Data → Bool
is_present None = false
is_present (Some value) = not (is_null value)

-- the body gives the key or the property of this name; a null is not given
abbrev pub is_given : Data → List ℕ → Bool
is_given body name = names_value name && is_present (get name body)

-- ---- the values of members

-- the type that an annotation names
abbrev pub type_in : Data → Option EdmType
type_in annotation = option_and_then named_type (as_str annotation)

-- the type of a value, which is its own where it has no annotation
abbrev pub type_by : Option Data → Data → Option EdmType
type_by None value = own_type value
type_by (Some annotation) value = type_in annotation

-- the type of the member of a body with this name and value
abbrev pub type_of : Data → List ℕ → Data → Option EdmType
type_of body name value = type_by (get (annotation_of name) body) value

-- the value of the property that a member is
unfoldable pub value_of : Data → List ℕ → Data → Option Value
value_of body name value = option_and_then (λ t. value_as t value) (type_of body name value)

abbrev pub text_as : EdmType → Data → Option (List ℕ)
text_as EdmType.String value = as_str value
text_as EdmType.Boolean value = None
text_as EdmType.Int32 value = None
text_as EdmType.Int64 value = None
text_as EdmType.DateTime value = None
text_as EdmType.Guid value = None
text_as EdmType.Binary value = None

-- the text of the key that a member is
unfoldable pub text_of : Data → List ℕ → Data → Option (List ℕ)
text_of body name value = option_and_then (λ t. text_as t value) (type_of body name value)

-- ---- the meaning of members

abbrev pub mapped : {A B : Type 0} → (A → B) → Result A JsonRefused → Result B JsonRefused
mapped f (Ok x) = Ok (f x)
mapped f (Err why) = Err why

-- the text of a key, or the refusal of one
abbrev pub key_or_refusal : List ℕ → Option KeyRefused → Result (List ℕ) JsonRefused
key_or_refusal text None = Ok text
key_or_refusal text (Some why) = Err (Key why)

-- a key, or the refusal of the member of this name whose value this text is
abbrev pub key_by : List ℕ → Option (List ℕ) → Result (List ℕ) JsonRefused
key_by name None = Err (ValueType name)
key_by name (Some text) = key_or_refusal text (key_refusal text)

-- a property, or the refusal of the member of this name with this value
abbrev pub property_by : List ℕ → Option Value → Result Meaning JsonRefused
property_by name None = Err (ValueType name)
property_by name (Some value) = Ok (Meaning.Property (record { name = name; value = value }))

-- a key or a property, by its name
abbrev pub given_meaning : Data → List ℕ → Data → Result Meaning JsonRefused
given_meaning body name value =
    if bytes_eq name (codes "PartitionKey") then mapped Meaning.PartitionKey (key_by name (text_of body name value))
    else (if bytes_eq name (codes "RowKey") then mapped Meaning.RowKey (key_by name (text_of body name value))
    else property_by name (value_of body name value))

-- an annotation is refused under the name that it annotates where it names no type, here only where that name is not
-- given, since otherwise the refusal stands at that name
abbrev pub annotation_meaning : Data → List ℕ → Data → Result Meaning JsonRefused
annotation_meaning body name annotation =
    if is_given body name || is_some (type_in annotation) then Ok Meaning.Nothing else Err (ValueType name)

abbrev pub value_meaning : Data → List ℕ → Data → Result Meaning JsonRefused
value_meaning body name value = if is_null value then Ok Meaning.Nothing else given_meaning body name value

abbrev pub meaning_by : Data → Option (List ℕ) → List ℕ → Data → Result Meaning JsonRefused
meaning_by body None name value = value_meaning body name value
meaning_by body (Some annotated) name value = annotation_meaning body annotated value

-- what the member of a body with this name and value means
unfoldable pub meaning_of : Data → List ℕ → Data → Result Meaning JsonRefused
meaning_of body name value = if is_ignored name then Ok Meaning.Nothing else meaning_by body (annotated_by name) name value

-- a moment among the properties is at most the last one
abbrev pub IsTimely : Meaning → Type 0
IsTimely Meaning.Nothing = ⊤
IsTimely (Meaning.PartitionKey key) = ⊤
IsTimely (Meaning.RowKey key) = ⊤
IsTimely (Meaning.Property property) = IsInTime property.value

-- ---- bodies

-- what each member of a body means, in byte order of their names
unfoldable pub meanings : Data → Members → List (Result Meaning JsonRefused)
meanings body no_members = []
meanings body (member name value later) = meaning_of body name value ∷ meanings body later

abbrev pub before : Result Meaning JsonRefused → Result (List Meaning) JsonRefused → Result (List Meaning) JsonRefused
before (Err why) later = Err why
before (Ok meaning) later = mapped (λ more. meaning ∷ more) later

-- all meanings, or the first refusal among them
unfoldable pub all_or_refusal : List (Result Meaning JsonRefused) → Result (List Meaning) JsonRefused
all_or_refusal [] = Ok []
all_or_refusal (first ∷ later) = before first (all_or_refusal later)

-- an entity with what one more member means
abbrev pub with_meaning : BodyEntity → Meaning → BodyEntity
with_meaning entity Meaning.Nothing = entity
with_meaning entity (Meaning.PartitionKey key) = record entity { pk = Some key }
with_meaning entity (Meaning.RowKey key) = record entity { rk = Some key }
with_meaning entity (Meaning.Property property) = record entity { properties = entity.properties ++ property ∷ [] }

-- the entity of which nothing is given
abbrev pub no_entity : BodyEntity
no_entity = record { pk = None; rk = None; properties = [] }

-- the entity that members give, or the first refusal among them in byte order of their names
unfoldable pub entity_in : Data → Members → Result BodyEntity JsonRefused
entity_in body ms = mapped (fold with_meaning no_entity) (all_or_refusal (meanings body ms))

-- the text of a table's name
unfoldable pub table_in : Members → Result (List ℕ) JsonRefused
table_in members = ok_or (option_and_then as_str (get_member (codes "TableName") members)) (ValueType (codes "TableName"))

-- the JSON value that bytes are
unfoldable pub json_in : List ℕ → Option Data
json_in bytes = if is_utf8 bytes then read bytes else None

-- what f gives of the members of an object
abbrev pub of_object : {A : Type 0} → (Members → Result A JsonRefused) → Option Data → Result A JsonRefused
of_object f None = Err NotJson
of_object f (Some (object ms)) = f ms
of_object f (Some null) = Err NotObject
of_object f (Some (boolean b)) = Err NotObject
of_object f (Some (number n)) = Err NotObject
of_object f (Some (string text)) = Err NotObject
of_object f (Some (array _)) = Err NotObject

-- the entity that a body gives, or why it gives none
unfoldable pub entity_body : List ℕ → Result BodyEntity JsonRefused
entity_body bytes = of_object (λ members. entity_in (object members) members) (json_in bytes)

-- the text of the table's name that a body gives, or why it gives none
unfoldable pub table_body : List ℕ → Result (List ℕ) JsonRefused
table_body bytes = of_object table_in (json_in bytes)
