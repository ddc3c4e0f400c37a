-- What is left to be found where the lines have been read in part.
use Rattle.std.specs.Prelude.{◌≡◌, ℕ, ◌≤◌, List, [], ◌++◌, length, drop, All, Option, Some, Ok, Err, ⊤}
use Rattle.tab_batch.specs.Lines.{LineView, lines_at, text_end}
use Rattle.tab_batch.specs.Marks.{Blocks, blocks_of}
use Rattle.tab_batch.specs.Parts.{Found, from_first, is_empty, next_mark, request_at, with_request, requests_at, when_closed, change_set, only_part, settles}
use Rattle.tab_batch.specs.declared.lines.BodyLine.{BodyLine}
use Rattle.tab_batch.specs.declared.refusals.BatchRefused.{BatchRefused}
use Rattle.tab_batch.specs.declared.refusals.BatchRefused.TheVariants.{BadMultipart, BadPart, Memory}
use Rattle.tab_batch.specs.declared.sections.ChangeSetState.{ChangeSetState}
use Rattle.tab_batch.specs.declared.sections.ChangeSetState.TheVariants.{Before, Head, Text, Closed, Broken}
use Rattle.tab_batch.specs.declared.marks.Mark.{Mark}
use Rattle.tab_batch.specs.declared.marks.Mark.TheVariants.{Delimiter, Closing}
use Rattle.tab_batch.specs.declared.sections.Section.{Section}
use Rattle.tab_batch.specs.declared.byte_ranges.ByteRange.{ByteRange}

-- a line of the code
abbrev pub seen : BodyLine → LineView
seen line = record { start = line.start; text = line.text.now; next = line.next }

-- the lines from the offset on
abbrev pub lines_from : List ℕ → ℕ → List LineView
lines_from bytes at = lines_at at (drop at bytes)

-- the blocks of the lines from the offset on
abbrev pub blocks_from : List ℕ → List ℕ → ℕ → Blocks
blocks_from boundary bytes at = blocks_of boundary (lines_from bytes at)

-- a refusal tells what is to be found
abbrev pub Tells : Found → BatchRefused → Type 0
Tells found (BadMultipart at) = found ≡ Err at
Tells found (BadPart index) = ⊥
Tells found Memory = ⊤

-- the body behind its first delimiter
abbrev pub in_head : List ℕ → List ℕ → ℕ → Found
in_head boundary bytes at = let blocks = blocks_from boundary bytes at in only_part (length bytes) blocks.marked (from_first settles blocks.front)

-- the body behind the Content-Type of its part's head
abbrev pub in_typed_head : List ℕ → List ℕ → List ℕ → ℕ → Found
in_typed_head boundary bytes inner at = let blocks = blocks_from boundary bytes at in change_set (length bytes) blocks.marked inner (from_first is_empty blocks.front)

-- those, and what is to be found
abbrev pub behind_those : List ByteRange → Found → Found
behind_those ranges (Err at) = Err at
behind_those ranges (Ok more) = Ok (ranges ++ more)

-- a change set from the state to which its reading has come
abbrev pub from_state : ℕ → ChangeSetState → Blocks → Found
from_state size Before blocks = requests_at size blocks.marked
from_state size Head blocks = with_request (request_at (next_mark size blocks.marked) (from_first is_empty blocks.front)) (requests_at size blocks.marked)
from_state size (Text range) blocks = with_request (Ok (record { start = range.start; end = text_end range.end blocks.front })) (requests_at size blocks.marked)
from_state size Closed blocks = Ok []
from_state size (Broken at) blocks = Err at

-- ---- a change set

-- the requests that end with the mark
abbrev pub behind_ended : ChangeSetState → Option Mark → Found → Found
behind_ended (Text range) (Some mark) more = with_request (Ok range) more
behind_ended state mark more = more

-- a change set from where its reading has come
abbrev pub from_section : ℕ → List ByteRange → ChangeSetState → Blocks → Found
from_section size ranges state blocks = behind_those ranges (from_state size state blocks)

abbrev pub no_blocks : Blocks
no_blocks = record { front = []; marked = [] }

-- the body within its change set
abbrev pub in_change_set : List ℕ → List ℕ → List ℕ → List ByteRange → ChangeSetState → ℕ → Found
in_change_set boundary bytes inner ranges state at = let blocks = blocks_from boundary bytes at in
    when_closed (length bytes) blocks.marked (from_section (length bytes) ranges state (blocks_of inner blocks.front))

-- ---- offsets within the bytes

-- a range before the offset
pub record IsBelow (at : ℕ) (range : ByteRange) : Type 0 where
  pub ordered : range.start ≤ range.end
  pub below : range.end ≤ at

abbrev pub StateBelow : ℕ → ChangeSetState → Type 0
StateBelow at (Text range) = IsBelow at range
StateBelow at state = ⊤

pub record SectionBelow (at : ℕ) (section : Section) : Type 0 where
  pub ranges : All (IsBelow at) section.ranges.items
  pub state : StateBelow at section.state

-- where reading is behind a mark
abbrev pub state_behind : Mark → ChangeSetState
state_behind Delimiter = Head
state_behind Closing = Closed
