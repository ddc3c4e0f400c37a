-- Bytes that are JSON values.
use Rattle.std.proofs.Common.{◌≡◌, ℕ, List, Bool, true, false, cond, Some, None, IsUtf8, refl, ap, ◌∙◌}
use Rattle.std.proofs.lemmas.Str.{is_utf8-from_IsUtf8, IsUtf8-from_is_utf8}
use Rattle.std.specs.Str.{is_utf8}
use Rattle.serde_json.specs.Data.{Data}
use Rattle.serde_json.specs.Read.{read}
use Rattle.tab_json.specs.Bodies.{json_in}

pub json_read : (bytes : List ℕ) (value : Data) → IsUtf8 bytes → read bytes ≡ Some value → json_in bytes ≡ Some value
unfolding json_in
json_read bytes value utf8 is = ap (λ (b : Bool). cond b (read bytes) None) (is_utf8-from_IsUtf8 bytes utf8) ∙ is

unread_by : (bytes : List ℕ) (text : Bool) → is_utf8 bytes ≡ text → (IsUtf8 bytes → read bytes ≡ None) → cond text (read bytes) None ≡ None
unread_by bytes true is unread = unread (IsUtf8-from_is_utf8 bytes is)
unread_by bytes false is unread = refl

pub json_unread : (bytes : List ℕ) → (IsUtf8 bytes → read bytes ≡ None) → json_in bytes ≡ None
unfolding json_in
json_unread bytes unread = unread_by bytes (is_utf8 bytes) refl unread
