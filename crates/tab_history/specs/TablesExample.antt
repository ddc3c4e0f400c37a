-- A history in small of two tables' names: one is made, filled, dropped, and made again with another number.
use Rattle.std.specs.Prelude.{ℕ, List, [], ◌∷◌, Some, None, Ok, true, false}
use Rattle.tab_keys.specs.declared.bounds.Bound.TheVariants.{At}
use Rattle.tab_rows.specs.Rows.{RowView}
use Rattle.tab_ops.specs.Groups.{ItemView}
use Rattle.tab_ops.specs.declared.ops.Op.TheVariants.{Insert}
use Rattle.tab_history.specs.World.{Named}
use Rattle.tab_history.specs.Legality.{State}
use Rattle.tab_history.specs.declared.entries.Entry.{Entry}
use Rattle.tab_history.specs.declared.entries.Entry.TheVariants as entry

-- the names `Dogs`, `dogs` and `ants`
abbrev pub dogs : List ℕ
dogs = 68 ∷ 111 ∷ 103 ∷ 115 ∷ []

abbrev pub lower_dogs : List ℕ
lower_dogs = 100 ∷ 111 ∷ 103 ∷ 115 ∷ []

abbrev pub ants : List ℕ
ants = 97 ∷ 110 ∷ 116 ∷ 115 ∷ []

-- no table was made, and the one range has all keys
abbrev pub nothing : State
nothing = record {
  world = record { names = []; next_table = 1; rows = []; floors = record { opening = []; later = [] } };
  bounds = At 0 [] ∷ [];
  tables = [];
  doubts = [];
  commit = None;
}

-- a row at the partition key `p`
abbrev pub insert_of_p : ItemView
insert_of_p = record { name = dogs; pk = 112 ∷ []; rk = []; op = Insert (record { properties = []; pk_units = 1; rk_units = 0 }) }

abbrev pub row_of_p : RowView
row_of_p = record {
  key = record { table = 1; pk = 112 ∷ []; rk = [] };
  entity = record { properties = []; pk_units = 1; rk_units = 0 };
  tick = 7;
}

-- two tables are made, and none beside one of the same name
abbrev pub making : List Entry
making = entry.Create 1 dogs (Some 1) ∷ entry.Create 2 ants (Some 2) ∷ entry.Create 3 lower_dogs None ∷ []

-- the names come in their order, a page at a time
abbrev pub listing : List Entry
listing = entry.List 4 None 1 (ants ∷ []) (Some dogs) ∷ entry.List 5 (Some lower_dogs) 1 (dogs ∷ []) None ∷ []

abbrev pub filling : List Entry
filling = entry.Resolve 6 lower_dogs (Some 1) ∷ entry.Change 6 7 1 (insert_of_p ∷ []) (Ok 7) ∷ []

-- the table is dropped once, and found no more
abbrev pub dropping : List Entry
dropping = entry.Drop 7 lower_dogs true ∷ entry.Drop 8 dogs false ∷ entry.Resolve 9 dogs None ∷ []

-- another of that name is empty
abbrev pub making_again : List Entry
making_again = entry.Create 10 lower_dogs (Some 3) ∷ entry.Resolve 11 dogs (Some 3) ∷ entry.Get 11 3 (112 ∷ []) [] None ∷ []

-- the names at the end
abbrev pub left : List Named
left = record { spelling = ants; table = 2 } ∷ record { spelling = lower_dogs; table = 3 } ∷ []
