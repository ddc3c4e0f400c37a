-- The members of an object that is written, and the tokens of its text.
use Rattle.std.specs.Prelude.{◌≤◌, ℕ, List, [], ◌∷◌, ◌++◌, flat_map, codes, if◌then◌else◌, All, ⊤}
use Rattle.std.specs.Fmt.{signed_decimal}
use Rattle.base64.specs.Engines.{standard}
use Rattle.base64.specs.GeneralPurpose.{encode_of}
use Rattle.uuid.specs.Text.{lower, hyphenated_text}
use Rattle.json.specs.Token.{Token}
use Rattle.json.specs.Tree.{json_tokens}
use Rattle.serde_json.specs.Data.{Data, string, Members}
use Rattle.serde_json.specs.Written.{outline}
use Rattle.tab_edm.specs.Moments.{text_of_moment, text_of_etag}
use Rattle.tab_edm.specs.Values.{IsInTime}
use Rattle.tab_edm.specs.declared.TheConstants.{GREATEST}
use Rattle.tab_edm.specs.declared.values.Value.{Value}
use Rattle.tab_edm.specs.declared.values.Value.TheVariants.{Text, Flag, Int32, Int64, Moment, Guid, Bytes}
use Rattle.tab_rows.specs.Rows.{RowView}
use Rattle.tab_json.specs.Entities.{value_data, entity_members, version_of}
use Rattle.tab_json.specs.Objects.{object_of}
use Rattle.tab_json.specs.Slots.{AreRising, name_text, slot_members}
use Rattle.tab_json.specs.declared.entities.JsonForm.{JsonForm}
use Rattle.tab_json.specs.declared.written.Leaf.{Leaf}
use Rattle.tab_json.specs.declared.slots.Slot.{Slot}

-- the JSON value that a value of a member stands for
abbrev pub leaf_data : Leaf → Data
leaf_data (Leaf.Text text) = string text.now
leaf_data (Leaf.Value value) = value_data value.now
leaf_data (Leaf.Moment tick) = string (text_of_moment tick)
leaf_data (Leaf.ETag tick) = string (text_of_etag tick)

-- a moment is at most the last one
abbrev pub IsTimelyLeaf : Leaf → Type 0
IsTimelyLeaf (Leaf.Text text) = ⊤
IsTimelyLeaf (Leaf.Value value) = IsInTime value.now
IsTimelyLeaf (Leaf.Moment tick) = tick ≤ GREATEST
IsTimelyLeaf (Leaf.ETag tick) = tick ≤ GREATEST

abbrev pub AreTimely : List (Slot Leaf) → Type 0
AreTimely slots = All (λ s. IsTimelyLeaf s.value) slots

pub record AreWritten (slots : List (Slot Leaf)) : Type 0 where
  pub rising : AreRising slots
  pub timely : AreTimely slots

-- the members that are written
abbrev pub written_members : List (Slot Leaf) → Members
written_members = slot_members leaf_data

-- ---- tokens

abbrev pub value_written : Value → Token
value_written (Text text) = Token.string text
value_written (Flag b) = Token.boolean b
value_written (Int32 n) = Token.number (signed_decimal n)
value_written (Int64 n) = Token.string (signed_decimal n)
value_written (Moment tick) = Token.string (text_of_moment tick)
value_written (Guid bytes) = Token.string (hyphenated_text lower bytes)
value_written (Bytes bytes) = Token.string (encode_of standard bytes)

abbrev pub leaf_written : Leaf → Token
leaf_written (Leaf.Text text) = Token.string text.now
leaf_written (Leaf.Value value) = value_written value.now
leaf_written (Leaf.Moment tick) = Token.string (text_of_moment tick)
leaf_written (Leaf.ETag tick) = Token.string (text_of_etag tick)

abbrev pub member_written : Slot Leaf → List Token
member_written s = Token.key (name_text s.name) ∷ leaf_written s.value ∷ []

abbrev pub object_written : List (Slot Leaf) → List Token
object_written slots = Token.begin_object ∷ (flat_map member_written slots ++ Token.end_object ∷ [])

-- a row among those of a page
abbrev pub row_written : JsonForm → RowView → List Token
row_written form row = json_tokens (outline (object_of (entity_members form (version_of row))))

abbrev pub rows_written : JsonForm → List RowView → List Token
rows_written form rows = Token.begin_array ∷ (flat_map (row_written form) rows ++ Token.end_array ∷ [])

abbrev pub metadata_written : JsonForm → List ℕ → List Token
metadata_written form address = if form.minimal then Token.key (codes "odata.metadata") ∷ Token.string address ∷ [] else []

-- what stands between the brackets of a page whose metadata has this address
abbrev pub page_written : JsonForm → List ℕ → List RowView → List Token
page_written form address rows = metadata_written form address ++ Token.key (codes "value") ∷ rows_written form rows
