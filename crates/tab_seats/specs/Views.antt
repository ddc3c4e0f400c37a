-- What the holders of an office know, and what each step makes of it.
use Rattle.std.specs.Prelude.{ℕ, ◌+◌, ◌-◌, max, [], ◌∷◌, ◌++◌, ◌⊎◌, Option, Some, None}
use Rattle.tab_keys.specs.declared.keys.Key.{Key}
use Rattle.tab_keys.specs.declared.bounds.Bound.{Bound}
use Rattle.tab_keys.specs.declared.bounds.Bound.TheVariants.{At, End}
use Rattle.tab_keys.specs.Spans.{Interval, has}
use Rattle.tab_seats.specs.declared.views.Stroke.{Stroke}
use Rattle.tab_seats.specs.declared.views.LogCopy.{LogCopy}
use Rattle.tab_seats.specs.declared.views.View.{View}
use Rattle.tab_seats.specs.Lists.{In, one_if, first_of, rest_of}
use Rattle.tab_seats.specs.Logs.{next_number, with_strokes, with_rights, last_right, other_rights}

-- all keys
abbrev pub everything : Interval
everything = record { lo = At 0 []; hi = End }

-- how many spans have the key, of one that may be there: 1 or 0
abbrev pub covers : Key → Option Interval → ℕ
covers key None = 0
covers key (Some span) = one_if (has span key)

-- the two parts of a span that is cut at a bound
abbrev pub below_cut : Bound → Option Interval → Option Interval
below_cut at None = None
below_cut at (Some span) = Some (record { lo = span.lo; hi = at })

abbrev pub above_cut : Bound → Option Interval → Option Interval
above_cut at None = None
above_cut at (Some span) = Some (record { lo = at; hi = span.hi })

-- from the left span's lower bound to the right one's upper bound
abbrev pub from_to : Interval → Interval → Interval
from_to left right = record { lo = left.lo; hi = right.hi }

abbrev pub both_spans : Option Interval → Option Interval → Option Interval
both_spans None right = None
both_spans (Some left) None = Some left
both_spans (Some left) (Some right) = Some (from_to left right)

module _ {C : Type 0} where
  -- the view knows the stroke, from its log or from a note
  abbrev pub Knows : View C → Stroke C → Type 0
  Knows v x = In x v.log ⊎ ((p : LogCopy C) × In p v.notes × In x p.log)

  -- nothing
  abbrev pub spent_view : View C
  spent_view = record { span = None; log = []; notes = []; front = 0; permits = 0; rights = [] }

  -- a seat of an office in which nothing was drawn
  abbrev pub seat_over : Interval → ℕ → View C
  seat_over span permits = record { span = Some span; log = []; notes = []; front = 0; permits = permits; rights = [] }

  -- a pass that knows nothing
  abbrev pub new_pass : ℕ → View C
  new_pass permits = record { span = None; log = []; notes = []; front = 0; permits = permits; rights = [] }

  abbrev pub less_permits : ℕ → View C → View C
  less_permits n v = record v { permits = v.permits - n }

  -- a front and one permit
  abbrev pub slip_at : ℕ → View C
  slip_at front = record { span = None; log = []; notes = []; front = front; permits = 1; rights = [] }

  abbrev pub slip_of : View C → View C
  slip_of v = slip_at (next_number v.log)

  -- the seat has heeded a slip
  abbrev pub after_heed : View C → ℕ → View C
  after_heed v front = record v { front = max v.front front; permits = v.permits + 1 }

  -- one stroke and one right more, one permit less
  abbrev pub after_draw : View C → ℕ → C → ℕ → View C
  after_draw v number command now =
      record v { log = v.log ++ record { number = number; command = command; now = now } ∷ []; permits = v.permits - 1; rights = v.rights ++ number ∷ [] }

  abbrev pub copy_of : Interval → View C → ℕ → LogCopy C
  copy_of span v word = record { span = span; log = v.log; word = word }

  -- the seat's log and span as they were at this word, with the right to its last number if the seat had it
  abbrev pub note_of : Interval → View C → ℕ → View C
  note_of span v word =
      record { span = None; log = v.log; notes = copy_of span v word ∷ []; front = 0; permits = 0; rights = last_right (next_number v.log) v.rights }

  -- the seat without the right that its note took along
  abbrev pub after_note : View C → View C
  after_note v = record v { rights = other_rights (next_number v.log) v.rights }

  -- what both know, and the rights and permits of both
  abbrev pub after_meet : View C → View C → View C
  after_meet v w =
      record v { log = with_strokes v.log w.log; notes = v.notes ++ w.notes; front = max v.front w.front; permits = v.permits + w.permits; rights = with_rights v.rights w.rights }

  -- two seats of neighbouring spans as one, with a note of each as it was at its word
  abbrev pub after_fuse : Interval → Interval → View C → View C → ℕ → ℕ → View C
  after_fuse left right v w word other =
      record (after_meet v w) { span = Some (from_to left right); notes = copy_of left v word ∷ copy_of right w other ∷ [] }

  -- the two halves of a seat: both keep the log and the front, the left one the rest
  abbrev pub left_half : Bound → View C → View C
  left_half at v = record v { span = below_cut at v.span }

  abbrev pub right_half : Bound → View C → View C
  right_half at v = record { span = above_cut at v.span; log = v.log; notes = []; front = v.front; permits = 0; rights = [] }

  -- A note and a fuse are made of several steps of the word. First the seat puts a copy of itself before its notes,
  abbrev pub with_copy : Interval → View C → ℕ → View C
  with_copy span v word = record v { notes = copy_of span v word ∷ v.notes }

  -- and then the note leaves with it,
  abbrev pub left_by_note : View C → View C
  left_by_note v = record v { notes = rest_of v.notes; rights = other_rights (next_number v.log) v.rights }

  abbrev pub leaving_note : View C → View C
  leaving_note v = record { span = None; log = v.log; notes = first_of v.notes; front = 0; permits = 0; rights = last_right (next_number v.log) v.rights }

  -- or the seat joins another that did the same
  abbrev pub joined_seats : View C → View C → View C
  joined_seats v w = record (after_meet v w) { span = both_spans v.span w.span; notes = first_of v.notes ++ first_of w.notes }
