-- The lines of a text, with their offsets (RFC 2046, section 5.1.1, where an end may also be a line feed alone).
use Rattle.std.specs.Prelude.{ℕ, ◌+◌, List, [], ◌∷◌, length, reverse, ◌==◌, if◌then◌else◌}
use Rattle.tab_http.specs.Headers.{cons_first}

-- where a line begins, its text without its end, and where the next line begins
pub record LineView : Type 0 where
  pub start : ℕ
  pub text : List ℕ
  pub next : ℕ

-- cut behind each line feed, which is 10; behind the last there may be a line without one
unfoldable pub cut_lines : List ℕ → List (List ℕ)
cut_lines [] = []
cut_lines (b ∷ bytes) = if b == 10 then (b ∷ []) ∷ cut_lines bytes else cons_first b (cut_lines bytes)

-- from the last byte on: without the carriage return before a line feed, which is 13
abbrev pub behind_return : List ℕ → List ℕ
behind_return [] = []
behind_return (b ∷ bytes) = if b == 13 then bytes else b ∷ bytes

-- from the last byte on: without a line feed and the carriage return before it
abbrev pub behind_feed : List ℕ → List ℕ
behind_feed [] = []
behind_feed (b ∷ bytes) = if b == 10 then behind_return bytes else b ∷ bytes

-- a line without its end, a line feed or a carriage return and a line feed
unfoldable pub without_end : List ℕ → List ℕ
without_end line = reverse (behind_feed (reverse line))

-- the lines, of which the first begins at the offset
abbrev pub placed : ℕ → List (List ℕ) → List LineView
placed at [] = []
placed at (line ∷ lines) = record { start = at; text = without_end line; next = at + length line } ∷ placed (at + length line) lines

-- the lines of the bytes, which begin at the offset
unfoldable pub lines_at : ℕ → List ℕ → List LineView
lines_at at bytes = placed at (cut_lines bytes)

-- where the text of the last line ends, or the offset where there is no line
abbrev pub text_end : ℕ → List LineView → ℕ
text_end at [] = at
text_end at (line ∷ lines) = text_end (line.start + length line.text) lines
