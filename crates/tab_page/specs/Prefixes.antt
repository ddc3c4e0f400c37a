-- How many rows a page looks at, in the words of its rule.
use Rattle.std.specs.Prelude.{◌⊎◌, ℕ, ◌<◌, ◌≤◌, List, length, take, filter, Bool}
use Rattle.tab_rows.specs.Rows.{RowView}
use Rattle.tab_page.specs.Pages.{prefix_length}

-- the rows hold that many matches, or are that many
abbrev pub IsFull : {A : Type 0} → (A → Bool) → ℕ → ℕ → List A → Type 0
IsFull test top most rows = (top ≤ length (filter test rows)) ⊎ (most ≤ length rows)

-- the first n rows are the shortest front that is full, or all of them where none is
pub record IsPrefixLength {A : Type 0} (test : A → Bool) (top most : ℕ) (rows : List A) (n : ℕ) : Type 0 where
  pub within : n ≤ length rows
  pub full : n < length rows → IsFull test top most (take n rows)
  pub shortest : (k : ℕ) → k < n → IsFull test top most (take k rows) → ⊥

-- and their number is the prefix's length
abbrev pub HasPrefixLength : Type 0
HasPrefixLength =
    (test : RowView → Bool) (top most : ℕ) (rows : List RowView) → IsPrefixLength test top most rows (prefix_length test top most rows)
