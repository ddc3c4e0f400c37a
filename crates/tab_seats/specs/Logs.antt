-- Logs of strokes by number, and lists of the rights to numbers.
use Rattle.std.specs.Prelude.{ℕ, ◌+◌, max, List, [], ◌∷◌, nat_lt, nat_le, ◌==◌, if◌then◌else◌}
use Rattle.tab_seats.specs.declared.views.Stroke.{Stroke}
use Rattle.tab_seats.specs.Lists.{RisesBy}

module _ {C : Type 0} where
  -- by rising number
  abbrev pub IsByNumber : List (Stroke C) → Type 0
  IsByNumber log = RisesBy (λ (x : Stroke C). x.number) log

  -- one above the greatest number of the log, or 0
  abbrev pub next_number : List (Stroke C) → ℕ
  next_number [] = 0
  next_number (x ∷ log) = max (x.number + 1) (next_number log)

  -- the log with one more stroke at its place, which a stroke of that number keeps
  abbrev pub with_stroke : Stroke C → List (Stroke C) → List (Stroke C)
  with_stroke x [] = x ∷ []
  with_stroke x (y ∷ log) =
      if nat_lt x.number y.number then (x ∷ y ∷ log) else (if x.number == y.number then (y ∷ log) else (y ∷ with_stroke x log))

  -- the strokes of both logs by number
  abbrev pub with_strokes : List (Stroke C) → List (Stroke C) → List (Stroke C)
  with_strokes log [] = log
  with_strokes log (x ∷ other) = with_stroke x (with_strokes log other)

abbrev pub AreRising : List ℕ → Type 0
AreRising numbers = RisesBy (λ (n : ℕ). n) numbers

-- the numbers with one more at its place
abbrev pub with_right : ℕ → List ℕ → List ℕ
with_right n [] = n ∷ []
with_right n (m ∷ rights) = if nat_le n m then (n ∷ m ∷ rights) else (m ∷ with_right n rights)

-- the numbers of both lists, in order
abbrev pub with_rights : List ℕ → List ℕ → List ℕ
with_rights rights [] = rights
with_rights rights (n ∷ other) = with_right n (with_rights rights other)

-- the right to the last number of a log whose next number this is, if it is there
abbrev pub last_right : ℕ → List ℕ → List ℕ
last_right next [] = []
last_right next (n ∷ rights) = if n + 1 == next then (n ∷ []) else last_right next rights

-- the rights but that one
abbrev pub other_rights : ℕ → List ℕ → List ℕ
other_rights next [] = []
other_rights next (n ∷ rights) = if n + 1 == next then rights else (n ∷ other_rights next rights)
