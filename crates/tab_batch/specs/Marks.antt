-- The lines that mark off the parts of a multipart body (RFC 2046, section 5.1.1).
use Rattle.std.specs.Prelude.{ℕ, List, [], ◌∷◌, length, take, drop, Bool, Option, Some, None, option_and_then, codes, bytes_eq, if◌then◌else◌}
use Rattle.std.specs.List.{list_all}
use Rattle.httparse.specs.Grammar.{is_ows}
use Rattle.tab_batch.specs.Lines.{LineView}
use Rattle.tab_batch.specs.declared.marks.Mark.{Mark}
use Rattle.tab_batch.specs.declared.marks.Mark.TheVariants.{Delimiter, Closing}

-- what is behind the front, where the text begins with it
abbrev pub behind : List ℕ → List ℕ → Option (List ℕ)
behind front text = if bytes_eq (take (length front) text) front then Some (drop (length front) text) else None

-- spaces and tabs, or nothing
abbrev pub is_blank : List ℕ → Bool
is_blank text = list_all is_ows text

abbrev pub closes : List ℕ → Option Mark
closes rest = if is_blank rest then Some Closing else None

-- what the rest of a line behind its boundary makes of it
abbrev pub mark_before : List ℕ → Option Mark
mark_before rest = if is_blank rest then Some Delimiter else option_and_then closes (behind (codes "--") rest)

-- A delimiter is two hyphens and the boundary, and a closing line has two more hyphens behind them. Blanks may follow.
unfoldable pub mark_of : List ℕ → List ℕ → Option Mark
mark_of boundary text = option_and_then mark_before (option_and_then (behind boundary) (behind (codes "--") text))

-- the first behind a delimiter, the second behind a closing line
abbrev pub by_mark : {A : Type 0} → Mark → A → A → A
by_mark Delimiter goes_on ends = goes_on
by_mark Closing goes_on ends = ends

-- a marked line, and the lines behind it up to the next one
pub record Block : Type 0 where
  pub mark : Mark
  pub line : LineView
  pub lines : List LineView

-- the lines before the first mark, and those from each mark on
pub record Blocks : Type 0 where
  pub front : List LineView
  pub marked : List Block

abbrev pub add_line : LineView → Option Mark → Blocks → Blocks
add_line line None blocks = record { front = line ∷ blocks.front; marked = blocks.marked }
add_line line (Some mark) blocks = record { front = []; marked = record { mark = mark; line = line; lines = blocks.front } ∷ blocks.marked }

-- the lines, cut at each one that is marked under the boundary
abbrev pub blocks_of : List ℕ → List LineView → Blocks
blocks_of boundary [] = record { front = []; marked = [] }
blocks_of boundary (line ∷ lines) = add_line line (mark_of boundary line.text) (blocks_of boundary lines)
