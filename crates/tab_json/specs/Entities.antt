-- Entities and pages of them as JSON texts, in the forms of OData with minimal metadata and with none.
use Rattle.std.specs.Prelude.{ℕ, List, [], ◌∷◌, ◌++◌, map, flat_map, codes, bytes_eq, Bool, true, if◌then◌else◌, Option, Some, None, option_to_list, option_map}
use Rattle.std.specs.List.{list_any}
use Rattle.std.specs.Fmt.{signed_decimal}
use Rattle.serde_json.specs.Data.{Data, boolean, number, string, array}
use Rattle.serde_json.specs.Find.{of_integer}
use Rattle.serde_json.specs.View.{items_of}
use Rattle.serde_json.specs.Written.{compact_text}
use Rattle.base64.specs.Engines.{standard}
use Rattle.base64.specs.GeneralPurpose.{encode_of}
use Rattle.uuid.specs.Text.{lower, hyphenated_text}
use Rattle.tab_edm.specs.Moments.{text_of_moment, text_of_etag}
use Rattle.tab_edm.specs.declared.values.Value.{Value}
use Rattle.tab_edm.specs.declared.values.Value.TheVariants.{Text, Flag, Int32, Int64, Moment, Guid, Bytes}
use Rattle.tab_edm.specs.declared.values.Property.{Property}
use Rattle.tab_rows.specs.Rows.{RowView}
use Rattle.tab_page.specs.declared.selects.Select.{Select}
use Rattle.tab_page.specs.declared.selects.Select.TheVariants.{All, Names}
use Rattle.tab_json.specs.Objects.{Member, object_of}
use Rattle.tab_json.specs.declared.entities.JsonForm.{JsonForm}

-- what a client sees of a row: its keys, its properties, and the tick of the change that wrote it
pub record VersionView : Type 0 where
  pub pk : List ℕ
  pub rk : List ℕ
  pub properties : List Property
  pub tick : ℕ

abbrev pub version_of : RowView → VersionView
version_of row = record { pk = row.key.pk; rk = row.key.rk; properties = row.entity.properties; tick = row.tick }

-- the JSON value of a property: JSON has texts, flags and the numbers of 32 bits, and a text stands for each other kind
unfoldable pub value_data : Value → Data
value_data (Text text) = string text
value_data (Flag b) = boolean b
value_data (Int32 n) = number (of_integer n)
value_data (Int64 n) = string (signed_decimal n)
value_data (Moment tick) = string (text_of_moment tick)
value_data (Guid bytes) = string (hyphenated_text lower bytes)
value_data (Bytes bytes) = string (encode_of standard bytes)

-- the type that minimal metadata names beside a value, since its JSON value does not show it
unfoldable pub annotated_type : Value → Option (List ℕ)
annotated_type (Text text) = None
annotated_type (Flag b) = None
annotated_type (Int32 n) = None
annotated_type (Int64 n) = Some (codes "Edm.Int64")
annotated_type (Moment tick) = Some (codes "Edm.DateTime")
annotated_type (Guid bytes) = Some (codes "Edm.Guid")
annotated_type (Bytes bytes) = Some (codes "Edm.Binary")

-- the property is asked for
abbrev pub is_selected : Select → List ℕ → Bool
is_selected All name = true
is_selected (Names names) name = list_any (λ other. bytes_eq other name) names

-- the members where they are asked for by this name
abbrev pub if_selected : Select → List ℕ → List Member → List Member
if_selected select name members = if is_selected select name then members else []

-- the annotation of a property, where its value has one
unfoldable pub annotation : Property → List Member
annotation p = option_to_list (option_map (λ kind. (p.name ++ codes "@odata.type", string kind)) (annotated_type p.value))

-- the members that stand for a property
unfoldable pub property_members : JsonForm → Property → List Member
property_members form p = if_selected form.select p.name ((p.name, value_data p.value) ∷ (if form.minimal then annotation p else []))

-- the members that stand for the keys and the tick
unfoldable pub key_members : JsonForm → VersionView → List Member
key_members form version =
    if_selected form.select (codes "PartitionKey") ((codes "PartitionKey", string version.pk) ∷ [])
    ++ if_selected form.select (codes "RowKey") ((codes "RowKey", string version.rk) ∷ [])
    ++ if_selected form.select (codes "Timestamp") ((codes "Timestamp", string (text_of_moment version.tick)) ∷ [])

-- the member that names the version
abbrev pub etag : JsonForm → ℕ → List Member
etag form tick = if form.minimal then (codes "odata.etag", string (text_of_etag tick)) ∷ [] else []

-- the members of an entity, its metadata's address aside
unfoldable pub entity_members : JsonForm → VersionView → List Member
entity_members form version =
    flat_map (property_members form) version.properties ++ key_members form version ++ etag form version.tick

-- the address of the metadata of a table
unfoldable pub metadata_address : List ℕ → List ℕ → List ℕ
metadata_address account name = codes "http://localhost/" ++ account ++ codes "/$metadata#" ++ name

-- the member that names the address of the metadata
abbrev pub metadata : JsonForm → List ℕ → List Member
metadata form address = if form.minimal then (codes "odata.metadata", string address) ∷ [] else []

-- an entity alone
unfoldable pub entity_data : List ℕ → List ℕ → JsonForm → VersionView → Data
entity_data account name form version =
    object_of (entity_members form version ++ metadata form (metadata_address account name ++ codes "/@Element"))

-- the entities of a page
unfoldable pub page_data : List ℕ → List ℕ → JsonForm → List RowView → Data
page_data account name form rows =
    object_of (metadata form (metadata_address account name)
    ++ (codes "value", array (items_of (map (λ row. object_of (entity_members form (version_of row))) rows))) ∷ [])

-- the text of an entity alone
unfoldable pub entity_json : List ℕ → List ℕ → JsonForm → VersionView → List ℕ
entity_json account name form version = compact_text (entity_data account name form version)

-- the text of a page
unfoldable pub page_json : List ℕ → List ℕ → JsonForm → List RowView → List ℕ
page_json account name form rows = compact_text (page_data account name form rows)
