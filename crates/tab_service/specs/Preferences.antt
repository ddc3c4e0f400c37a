-- What the headers of a request say of its reply.
use Rattle.std.specs.Prelude.{ℕ, List, [], ◌∷◌, map, Bool, true, false, not, ◌&&◌, ◌||◌, ◌==◌, Option, Some, None, Result, Ok, Err, if◌then◌else◌, codes}
use Rattle.std.specs.List.{starts_with}
use Rattle.std.specs.Char.{to_ascii_lowercase}
use Rattle.tab_http.specs.Headers.{same_name, first_value}
use Rattle.tab_http.specs.declared.messages.Header.{Header}
use Rattle.tab_service.specs.declared.forms.Prefer.{Prefer}
use Rattle.tab_service.specs.declared.forms.Prefer.TheVariants.{Unsaid, Content, NoContent}
use Rattle.tab_service.specs.declared.refusals.Refusal.{Refusal}
use Rattle.tab_service.specs.declared.refusals.Refusal.TheVariants.{Format}

-- the text begins with the word
abbrev pub begins_with : List ℕ → List ℕ → Bool
begins_with word text = starts_with ◌==◌ text word

-- the word stands somewhere in the text
unfoldable pub has_part : List ℕ → List ℕ → Bool
has_part word [] = begins_with word []
has_part word (b ∷ bytes) = begins_with word (b ∷ bytes) || has_part word bytes

-- a media type of Atom, and none of JSON beside it
abbrev pub asks_atom : List ℕ → Bool
asks_atom text = has_part (codes "application/atom+xml") text && not (has_part (codes "application/json") text)

-- whether a text in lower case asks for minimal metadata or for none; full metadata and Atom are not served
abbrev pub format_in : List ℕ → Result Bool Refusal
format_in text =
    if has_part (codes "odata=nometadata") text then Ok false
    else (if has_part (codes "odata=fullmetadata") text || asks_atom text then Err Format else Ok true)

abbrev pub format_of : Option (List ℕ) → Result Bool Refusal
format_of None = Ok true
format_of (Some value) = format_in (map to_ascii_lowercase value)

-- whether the first Accept header asks for minimal metadata, which is also the format without one
unfoldable pub format_for : List Header → Result Bool Refusal
format_for headers = format_of (first_value (codes "accept") headers)

abbrev pub names_atom : Option (List ℕ) → Bool
names_atom None = false
names_atom (Some value) = has_part (codes "application/atom+xml") (map to_ascii_lowercase value)

abbrev pub format_if_json : Bool → Bool → Result Bool Refusal
format_if_json atom minimal = if atom then Err Format else Ok minimal

abbrev pub read_as_json : Option (List ℕ) → Result Bool Refusal → Result Bool Refusal
read_as_json kind (Err why) = Err why
read_as_json kind (Ok minimal) = format_if_json (names_atom kind) minimal

-- the same for a request with a body, which is read as JSON unless the first Content-Type header names Atom
unfoldable pub format_with_body : List Header → Result Bool Refusal
format_with_body headers = read_as_json (first_value (codes "content-type") headers) (format_for headers)

abbrev pub preference_of : Option (List ℕ) → Prefer
preference_of None = Unsaid
preference_of (Some value) =
    if same_name value (codes "return-no-content") then NoContent else (if same_name value (codes "return-content") then Content else Unsaid)

-- what the first Prefer header says
unfoldable pub preference_for : List Header → Prefer
preference_for headers = preference_of (first_value (codes "prefer") headers)
