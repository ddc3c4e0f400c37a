-- Lengths of texts.
use Rattle.std.specs.Prelude.{ℕ, List, length, flat_map, chars, ◌&&◌, nat_lt, nat_le, if◌then◌else◌}
use Rattle.std.specs.Char.Escape.{encode_utf16}

-- the number of UTF-16 code units of a text
unfoldable pub unit_count : List ℕ → ℕ
unit_count text = length (flat_map encode_utf16 (chars text))

-- the number of characters of a text
unfoldable pub char_count : List ℕ → ℕ
char_count text = length (chars text)

-- the units of the character that begins with this byte of a text, and none for a byte within a character
abbrev pub units_begun : ℕ → ℕ
units_begun byte = if nat_le 0x80 byte && nat_lt byte 0xC0 then 0 else (if nat_lt byte 0xF0 then 1 else 2)
