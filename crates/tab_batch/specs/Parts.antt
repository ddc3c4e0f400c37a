-- Where the requests of a batch stand: in the parts of a change set, which is the only part of the body.
use Rattle.std.specs.Prelude.{ℕ, List, [], ◌∷◌, length, map, slice_range, Bool, true, false, ◌||◌, Option, Some, None, is_some, option_and_then, Result, Ok, Err, codes, if◌then◌else◌}
use Rattle.tab_batch.specs.Lines.{LineView, lines_at, text_end}
use Rattle.tab_batch.specs.Marks.{Block, by_mark, blocks_of}
use Rattle.tab_batch.specs.Boundaries.{behind_word, boundary_of}
use Rattle.tab_batch.specs.declared.byte_ranges.ByteRange.{ByteRange}

-- where the requests stand, or the offset of the line that breaks a rule
abbrev pub Found : Type 0
Found = Result (List ByteRange) ℕ

-- the lines from the first on that passes the test
abbrev pub from_first : (LineView → Bool) → List LineView → List LineView
from_first test [] = []
from_first test (line ∷ lines) = if test line then line ∷ lines else from_first test lines

abbrev pub is_nothing : List ℕ → Bool
is_nothing [] = true
is_nothing (b ∷ bytes) = false

abbrev pub is_empty : LineView → Bool
is_empty line = is_nothing line.text

-- where the lines before the blocks end: at the next mark, or behind all bytes
abbrev pub next_mark : ℕ → List Block → ℕ
next_mark size [] = size
next_mark size (block ∷ blocks) = block.line.start

-- ---- the change set

-- What stands behind the first empty line, up to the end of the text of the last line; without an empty line the end
-- breaks the rule.
abbrev pub request_at : ℕ → List LineView → Result ByteRange ℕ
request_at end [] = Err end
request_at end (empty ∷ lines) = Ok (record { start = empty.next; end = text_end empty.next lines })

abbrev pub with_request : Result ByteRange ℕ → Found → Found
with_request (Err at) more = Err at
with_request (Ok range) (Err at) = Err at
with_request (Ok range) (Ok more) = Ok (range ∷ more)

-- each delimiter begins a part, which has a head and a request; a closing line ends them
abbrev pub requests_at : ℕ → List Block → Found
requests_at size [] = Err size
requests_at size (block ∷ blocks) = by_mark block.mark (with_request (request_at (next_mark size blocks) (from_first is_empty block.lines)) (requests_at size blocks)) (Ok [])

-- ---- the body

-- the value of the Content-Type that the line gives
abbrev pub content_type : List ℕ → Option (List ℕ)
content_type text = behind_word (codes "content-type:") text

-- the boundary is settled here: by a Content-Type, or by the end of the head
abbrev pub settles : LineView → Bool
settles line = is_empty line || is_some (content_type line.text)

-- the closing line follows at once, since there is one part alone
abbrev pub when_closed : ℕ → List Block → Found → Found
when_closed size [] found = Err size
when_closed size (block ∷ blocks) found = by_mark block.mark (Err block.line.start) found

-- the change set under its boundary, from the empty line on that ends the part's head
abbrev pub change_set : ℕ → List Block → List ℕ → List LineView → Found
change_set size blocks inner [] = Err (next_mark size blocks)
change_set size blocks inner (empty ∷ lines) = when_closed size blocks (requests_at size (blocks_of inner lines).marked)

abbrev pub under : ℕ → List Block → LineView → List LineView → Option (List ℕ) → Found
under size blocks line lines None = Err line.start
under size blocks line lines (Some inner) = change_set size blocks inner (from_first is_empty lines)

-- the only part, from the line on that settles its boundary
abbrev pub only_part : ℕ → List Block → List LineView → Found
only_part size blocks [] = Err (next_mark size blocks)
only_part size blocks (line ∷ lines) = under size blocks line lines (option_and_then boundary_of (content_type line.text))

abbrev pub body_at : ℕ → List Block → Found
body_at size [] = Err size
body_at size (block ∷ blocks) = by_mark block.mark (only_part size blocks (from_first settles block.lines)) (Err block.line.start)

-- where the requests of the batch stand
unfoldable pub ranges_of : List ℕ → List ℕ → Found
ranges_of boundary bytes = body_at (length bytes) (blocks_of boundary (lines_at 0 bytes)).marked

-- the bytes between two offsets
abbrev pub between : List ℕ → ByteRange → List ℕ
between bytes range = slice_range bytes range.start range.end

abbrev pub cut_out : List ℕ → Found → Result (List (List ℕ)) ℕ
cut_out bytes (Err at) = Err at
cut_out bytes (Ok ranges) = Ok (map (between bytes) ranges)

-- the bytes of each request of the batch, or the offset of the line that breaks a rule
abbrev pub requests_of : List ℕ → List ℕ → Result (List (List ℕ)) ℕ
requests_of boundary bytes = cut_out bytes (ranges_of boundary bytes)
