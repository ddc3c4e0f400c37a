-- The names of tables as JSON texts.
use Rattle.std.specs.Prelude.{ℕ, List, [], ◌∷◌, ◌++◌, map, codes}
use Rattle.serde_json.specs.Data.{Data, string, array}
use Rattle.serde_json.specs.View.{items_of}
use Rattle.serde_json.specs.Written.{compact_text}
use Rattle.tab_json.specs.Objects.{Member, object_of}
use Rattle.tab_json.specs.Entities.{metadata, metadata_address}
use Rattle.tab_json.specs.declared.entities.JsonForm.{JsonForm}

-- the member that names a table
abbrev pub table_name : List ℕ → Member
table_name name = (codes "TableName", string name)

-- a table alone
unfoldable pub table_data : List ℕ → List ℕ → JsonForm → Data
table_data account name form =
    object_of (table_name name ∷ metadata form (metadata_address account (codes "Tables") ++ codes "/@Element"))

-- the tables of a list
unfoldable pub tables_data : List ℕ → List (List ℕ) → JsonForm → Data
tables_data account names form =
    object_of (metadata form (metadata_address account (codes "Tables"))
    ++ (codes "value", array (items_of (map (λ name. object_of (table_name name ∷ [])) names))) ∷ [])

-- the text of a table alone
unfoldable pub table_json : List ℕ → List ℕ → JsonForm → List ℕ
table_json account name form = compact_text (table_data account name form)

-- the text of a list of tables
unfoldable pub tables_json : List ℕ → List (List ℕ) → JsonForm → List ℕ
tables_json account names form = compact_text (tables_data account names form)
