-- Which texts are keys.
use Rattle.std.specs.Prelude.{◌≡◌, ℕ, List, length, flat_map, chars, IsUtf8, Bool, ◌&&◌, ◌||◌, ◌==◌, nat_lt, nat_le, if◌then◌else◌, Option, Some, None}
use Rattle.std.specs.List.{list_any}
use Rattle.std.specs.Char.Escape.{encode_utf16}
use Rattle.tab_keys.specs.declared.key_texts.KeyRefused.{KeyRefused}
use Rattle.tab_keys.specs.declared.key_texts.KeyRefused.TheVariants.{TooLong, BadCharacter}
use Rattle.tab_keys.specs.declared.key_texts.TheConstants.{MOST_UNITS}

-- the UTF-16 code units of a text
unfoldable pub units_of : List ℕ → List ℕ
units_of text = flat_map encode_utf16 (chars text)

-- `/`, `\`, `#`, `?`, and the control characters
abbrev pub is_bad_character : ℕ → Bool
is_bad_character c = c == 47 || c == 92 || c == 35 || c == 63 || nat_lt c 32 || (nat_le 127 c && nat_le c 159)

-- why a text is no key, want of memory aside
unfoldable pub key_refusal : List ℕ → Option KeyRefused
key_refusal text =
    if nat_lt MOST_UNITS (length (units_of text)) then Some TooLong else (if list_any is_bad_character (chars text) then Some BadCharacter else None)

-- the units of the character that begins with this byte of a text, and none for a byte within a character
abbrev pub units_begun : ℕ → ℕ
units_begun byte = if nat_le 0x80 byte && nat_lt byte 0xC0 then 0 else (if nat_lt byte 0xF0 then 1 else 2)

-- the byte, behind the one before it, ends a character that no key has
abbrev pub ends_bad : ℕ → ℕ → Bool
ends_bad before byte =
    byte == 47 || byte == 92 || byte == 35 || byte == 63 || nat_lt byte 32 || byte == 127 || (before == 0xC2 && nat_le 128 byte && nat_le byte 159)

-- a text that is a key
pub record IsKeyText (text : List ℕ) : Type 0 where
  pub utf8 : IsUtf8 text
  pub allowed : key_refusal text ≡ None
