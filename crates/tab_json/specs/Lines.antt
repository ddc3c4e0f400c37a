-- JSON texts stand on one line.
use Rattle.std.specs.Prelude.{ℕ, List, Bool, not, ◌==◌, IsTrue}
use Rattle.std.specs.List.{list_all}

-- no line feed, which is 10
abbrev pub no_feed : ℕ → Bool
no_feed b = not (b == 10)

abbrev pub IsOneLine : List ℕ → Type 0
IsOneLine text = IsTrue (list_all no_feed text)
