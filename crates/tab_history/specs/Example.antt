-- A history in small: a query of two pages is followed to its end, and a row is inserted between the two.
use Rattle.std.specs.Prelude.{ℕ, List, [], ◌∷◌, ◌++◌, Some, None, Ok}
use Rattle.tab_keys.specs.declared.bounds.Bound.TheVariants.{At, End}
use Rattle.tab_rows.specs.Rows.{RowView}
use Rattle.tab_page.specs.declared.pages.Options.{Options}
use Rattle.tab_page.specs.declared.selects.Select.TheVariants.{All}
use Rattle.tab_ops.specs.Groups.{ItemView}
use Rattle.tab_ops.specs.declared.ops.Op.TheVariants.{Insert}
use Rattle.tab_history.specs.Legality.{State}
use Rattle.tab_history.specs.Followed.{Asked, Query, resolve_of}
use Rattle.tab_history.specs.declared.entries.Entry.{Entry}
use Rattle.tab_history.specs.declared.entries.Entry.TheVariants as entry

-- the names `Cats` and `cats`
abbrev pub cats : List ℕ
cats = 67 ∷ 97 ∷ 116 ∷ 115 ∷ []

abbrev pub lower_cats : List ℕ
lower_cats = 99 ∷ 97 ∷ 116 ∷ 115 ∷ []

-- a row of that table at the partition key of one letter, without properties
abbrev pub row_of : ℕ → ℕ → RowView
row_of letter tick = record {
  key = record { table = 1; pk = letter ∷ []; rk = [] };
  entity = record { properties = []; pk_units = 1; rk_units = 0 };
  tick = tick;
}

-- the table has rows at `a`, `b` and `c`, and the one range has all keys
abbrev pub opening : State
opening = record {
  world = record {
    names = record { spelling = cats; table = 1 } ∷ [];
    next_table = 2;
    rows = row_of 97 0 ∷ row_of 98 1 ∷ row_of 99 2 ∷ [];
    floors = record { opening = (record { lo = At 0 []; hi = End }, 3) ∷ []; later = [] };
  };
  bounds = At 0 [] ∷ [];
  tables = [];
  doubts = [];
  commit = None;
}

-- the row at `d` is inserted
abbrev pub insert_of_d : ItemView
insert_of_d = record { name = cats; pk = 100 ∷ []; rk = []; op = Insert (record { properties = []; pk_units = 1; rk_units = 0 }) }

-- two rows at the most are asked for, from a pair on
abbrev pub options : Options
options = record { filter = None; select = All; top = 2; start = None }

-- the first page has `a` and `b`
abbrev pub first : Asked
first = record {
  ask = 1;
  name = cats;
  table = 1;
  options = options;
  page = record { rows = row_of 97 0 ∷ row_of 98 1 ∷ []; next = Some (99 ∷ [], []); end = End };
}

-- and the second, after the insert and a split, `c` and `d`
abbrev pub second : Asked
second = record {
  ask = 3;
  name = lower_cats;
  table = 1;
  options = record options { start = Some (99 ∷ [], []) };
  page = record { rows = row_of 99 2 ∷ row_of 100 7 ∷ []; next = None; end = End };
}

abbrev pub meanwhile : List Entry
meanwhile = entry.Resolve 2 cats (Some 1) ∷ entry.Change 2 7 1 (insert_of_d ∷ []) (Ok 7) ∷ entry.Bounds (At 0 [] ∷ At 1 (98 ∷ []) ∷ []) ∷ []

abbrev pub query : Query
query = record { waiting = []; first = first; legs = record { between = meanwhile ++ resolve_of second ∷ []; asked = second } ∷ [] }
