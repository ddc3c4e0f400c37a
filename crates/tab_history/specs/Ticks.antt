-- The ticks of accepted changes, of which the ETags of rows are made.
use Rattle.std.specs.Prelude.{◌≡◌, ℕ, ◌<◌, List, ◌∷◌, ◌++◌, IsTrue, IsSomeAnd, Some}
use Rattle.std.specs.List.{list_any}
use Rattle.tab_keys.specs.Order.{same_key}
use Rattle.tab_keys.specs.declared.keys.Key.{Key}
use Rattle.tab_rows.specs.Rows.{RowView, row_at}
use Rattle.tab_ops.specs.Changes.{group_keys}
use Rattle.tab_history.specs.Legality.{State, accepted, after_all}
use Rattle.tab_history.specs.Followed.{IsUnchanged}
use Rattle.tab_history.specs.declared.entries.Entry.{Entry}
use Rattle.tab_history.specs.declared.entries.Doubt.{Doubt}
use Rattle.tab_history.specs.declared.entries.Doubt.TheVariants as doubt

-- the operation changes the row of the key, with this tick
abbrev pub Changes : Key → ℕ → Doubt → Type 0
Changes key tick (doubt.Change table group own) = (own ≡ tick) × IsTrue (list_any (λ other. same_key other key) (group_keys table group))
Changes key tick (doubt.Create name table) = ⊥
Changes key tick (doubt.Drop name) = ⊥

-- of two accepted changes of one key the later has the greater tick
abbrev pub TicksRise : State → List Entry → Type 0
TicksRise opening history =
    (before between later : List Entry) (first second : Entry) (key : Key) (tick next : ℕ) → history ≡ before ++ (first ∷ (between ++ (second ∷ later)))
    → IsSomeAnd (accepted (after_all opening before).doubts first) (Changes key tick)
    → IsSomeAnd (accepted (after_all opening (before ++ (first ∷ between))).doubts second) (Changes key next) → tick < next

-- where a key has rows of one tick at two moments, no change of it was accepted between them, so both are one row
abbrev pub TicksTellRows : State → List Entry → Type 0
TicksTellRows opening history =
    (before between later : List Entry) (key : Key) (row other : RowView) → history ≡ before ++ (between ++ later)
    → row_at (after_all opening before).world.rows key ≡ Some row → row_at (after_all opening (before ++ between)).world.rows key ≡ Some other
    → row.tick ≡ other.tick → IsUnchanged key (after_all opening before) between × (row ≡ other)
