-- Faults as JSON texts.
use Rattle.std.specs.Prelude.{ℕ, List, [], ◌∷◌, codes}
use Rattle.serde_json.specs.Data.{Data, string}
use Rattle.serde_json.specs.Written.{compact_text}
use Rattle.tab_json.specs.Objects.{object_of}

-- the text of a fault for its reader, which is in English
unfoldable pub message_data : List ℕ → Data
message_data value = object_of ((codes "lang", string (codes "en-US")) ∷ (codes "value", string value) ∷ [])

unfoldable pub fault_data : List ℕ → List ℕ → Data
fault_data code value =
    object_of ((codes "odata.error", object_of ((codes "code", string code) ∷ (codes "message", message_data value) ∷ [])) ∷ [])

-- the text of a fault with this code and this text for its reader
unfoldable pub fault_json : List ℕ → List ℕ → List ℕ
fault_json code value = compact_text (fault_data code value)
