-- A server: its store, the ranges that it holds with their marks, and the change in doubt.
use Rattle.std.specs.Prelude.{◌≡◌, ℕ, ◌==◌, ◌&&◌, nat_lt, not, List, find, filter, map, Bool, true, false, Option, Some, None, is_some, if◌then◌else◌}
use Rattle.tab_keys.specs.declared.keys.Key.{Key}
use Rattle.tab_keys.specs.Spans.{has}
use Rattle.tab_seats.specs.declared.views.Stroke.{Stroke}
use Rattle.tab_range.specs.declared.commands.Command.{Command}
use Rattle.tab_range.specs.declared.commands.Told.{Told}
use Rattle.tab_range.specs.Commands.{command_key}
use Rattle.tab_journal.specs.Keeping.{KeptView, IsReady}
use Rattle.tab_server.specs.declared.marks.Mark.{Mark}
use Rattle.tab_server.specs.declared.marks.Mark.TheVariants.{Serving, Sealed, Copy}
use Rattle.tab_server.specs.declared.steps.RangeChange.{RangeChange}
use Rattle.tab_server.specs.declared.ranges.Marked.{Marked}
use Rattle.tab_server.specs.Contents.{ranges_sense}

-- what contracts see of a server: its store, the ranges that it holds by rising number with their marks, the change in doubt,
-- and whether the store has to be read anew
abbrev pub ServerView : Type 0 → Type 0 → Type 0
ServerView D T = KeptView D (List (Marked T)) RangeChange

-- ---- look-ups

-- the range of a number
abbrev pub range_of : {T : Type 0} → List (Marked T) → ℕ → Option (Marked T)
range_of held range = find (λ marked. marked.range.id == range) held

-- commands are for ranges of these marks
abbrev pub takes_commands : Mark → Bool
takes_commands Serving = true
takes_commands Sealed = true
takes_commands (Copy whole) = false

-- it takes commands, has a tally, and has the key
abbrev pub is_for : {T : Type 0} → Key → Marked T → Bool
is_for key marked = takes_commands marked.mark && is_some marked.range.tally && has marked.range.span key

-- the range that a command of this key is for: where several are, that of the lowest number
abbrev pub range_for : {T : Type 0} → List (Marked T) → Key → Option (Marked T)
range_for held key = find (is_for key) held

-- the range of this number is for the command
pub record IsServed {T : Type 0} (held : List (Marked T)) (range : ℕ) (command : Command) (marked : Marked T) : Type 0 where
  pub number : range_of held range ≡ Some marked
  pub meant : range_for held (command_key command) ≡ Some marked

-- the range is held, and its next tick is above this one
abbrev pub is_past : {T : Type 0} → ℕ → Option (Marked T) → Bool
is_past tick None = false
is_past tick (Some marked) = nat_lt tick marked.range.next_tick

-- ---- marks

abbrev pub is_serving : Mark → Bool
is_serving Serving = true
is_serving _ = false

abbrev pub is_sealed : Mark → Bool
is_sealed Sealed = true
is_sealed _ = false

abbrev pub is_copied : Mark → Bool
is_copied (Copy whole) = whole
is_copied _ = false

-- the range is held with such a mark
abbrev pub is_marked : {T : Type 0} → (Mark → Bool) → Option (Marked T) → Bool
is_marked is None = false
is_marked is (Some marked) = is marked.mark

-- the range of a number is changed, and the others are as they were
abbrev pub at_number : {T : Type 0} → ℕ → (Marked T → Marked T) → List (Marked T) → List (Marked T)
at_number range change held = map (λ marked. if marked.range.id == range then change marked else marked) held

abbrev pub with_mark : {T : Type 0} → Mark → Marked T → Marked T
with_mark mark marked = record marked { mark = mark }

abbrev pub with_tally : {T : Type 0} → Option T → Marked T → Marked T
with_tally tally marked = record marked { range = record marked.range { tally = tally } }

abbrev pub with_spare : {T : Type 0} → ℕ → Marked T → Marked T
with_spare spare marked = record marked { range = record marked.range { spare = spare } }

-- the ranges but that of a number
abbrev pub without_range : {T : Type 0} → ℕ → List (Marked T) → List (Marked T)
without_range range held = filter (λ marked. not (marked.range.id == range)) held

-- ---- tallies

-- the range is held as one that takes commands, and has no tally
abbrev pub lacks_tally : {T : Type 0} → Option (Marked T) → Bool
lacks_tally None = false
lacks_tally (Some marked) = takes_commands marked.mark && not (is_some marked.range.tally)

-- the change in doubt is one of this range
abbrev pub is_in_doubt : Option RangeChange → ℕ → Bool
is_in_doubt None range = false
is_in_doubt (Some step) range = step.range == range

-- a change in doubt, unless it is one of this range
abbrev pub doubt_without : ℕ → Option RangeChange → Option RangeChange
doubt_without range doubt = if is_in_doubt doubt range then None else doubt

-- the tally of a range that is sealed and has no change in doubt
abbrev pub tally_out : {T : Type 0} → Option RangeChange → Option (Marked T) → Option T
tally_out doubt None = None
tally_out doubt (Some marked) = if is_sealed marked.mark && not (is_in_doubt doubt marked.range.id) then marked.range.tally else None

-- ---- what a server keeps at each moment

module _ {T : Type 0} (is_drawn : T → Stroke Told → T → Type 0) (is_ready : T → ℕ → Type 0) (are_kin : T → T → Type 0) where
  -- a change in doubt may be done in memory, and nothing is in doubt while the store runs
  pub record IsServer {D : Type 0} (server : ServerView D T) : Type 0 where
    pub clear : server.failed ≡ false → server.doubt ≡ None
    pub ready : IsReady (ranges_sense is_drawn is_ready are_kin) server.held server.doubt
