-- Where a head may end: behind the first empty line that follows a line which is not empty.
use Rattle.std.specs.Prelude.{ℕ, ◌||◌, ◌==◌, if◌then◌else◌, List, fold}
use Rattle.tab_http.specs.declared.head_states.HeadState.{HeadState}
use Rattle.tab_http.specs.declared.head_states.HeadState.TheVariants.{Blank, Line, Start, Return, Ended}

-- the state behind one more byte; a line feed is 10, and a carriage return 13
abbrev pub next_state : HeadState → ℕ → HeadState
next_state Blank b = if (b == 10) || (b == 13) then Blank else Line
next_state Line b = if b == 10 then Start else Line
next_state Start b = if b == 10 then Ended else (if b == 13 then Return else Line)
next_state Return b = if b == 10 then Ended else Line
next_state Ended b = Ended

-- the state behind the bytes
abbrev pub state_after : List ℕ → HeadState
state_after bytes = fold next_state Blank bytes
