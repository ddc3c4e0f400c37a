-- The example of two tables' names is a legal history.
use Rattle.std.proofs.Common.{◌≡◌, ◌<◌, ◌≤◌, [], ◌∷◌, ◌++◌, refl, sym, subst, inl, arith}
use Rattle.std.specs.Prelude.{IsTrue, IsFalse, ◌==◌}
use Rattle.std.specs.Str.{chars}
use Rattle.std.specs.Ordering.{is_lt}
use Rattle.std.proofs.lemmas.List.Elements.{All-nil, All-cons}
use Rattle.tab_keys.specs.KeyTexts.{units_of}
use Rattle.tab_keys.specs.Order.{text_cmp, key_cmp, key_lt, name_cmp}
use Rattle.tab_keys.specs.TableNames.{folded}
use Rattle.tab_rows.specs.Rows.{RowView, row_at, with_row}
use Rattle.tab_page.proofs.RisingLists.{AllPairs-nil}
use Rattle.tab_ops.specs.Changes.{group_keys}
use Rattle.tab_history.specs.World.{Named, IsWorld, table_of, with_name, without_name, names_from, floor_of, MayHaveTick}
use Rattle.tab_history.specs.Doubts.{SparesKeys, SparesNames, EachDoubt}
use Rattle.tab_history.specs.Legality.{after_all, table_for, EachAllowed, Legal}
use Rattle.tab_history.specs.TablesExample.{nothing, insert_of_p, row_of_p, making, listing, filling, dropping, making_again, left}
use Rattle.tab_history.proofs.DoubtLaws.{no_doubts, none_open}
use Rattle.tab_history.proofs.HistoryLaws.{each_append}

pub nothing_world : IsWorld nothing.world
nothing_world = record {
  names_rise = AllPairs-nil (λ (a b : Named). IsTrue (is_lt (name_cmp a.spelling b.spelling)));
  numbers_differ = AllPairs-nil (λ (a b : Named). IsFalse (a.table == b.table));
  names_below = All-nil (λ (named : Named). named.table < 1);
  rows_rise = AllPairs-nil (λ (a b : RowView). IsTrue (key_lt a.key b.key));
  rows_below = All-nil (λ (row : RowView). row.key.table < 1);
  ticks_below = All-nil (λ (row : RowView). row.tick < floor_of nothing.world.floors row.key);
}

named : EachDoubt SparesNames []
named = no_doubts SparesNames

made : EachAllowed nothing making
unfolding table_of with_name name_cmp folded
made = ((refl, refl, named), ((refl, refl, named), ((refl, named), tt)))

listed : EachAllowed (after_all nothing making) listing
unfolding with_name names_from name_cmp folded
listed = ((refl, refl, named), ((refl, refl, named), tt))

floor : floor_of nothing.world.floors row_of_p.key ≡ 0
unfolding floor_of
floor = refl

may_have : MayHaveTick nothing.world.floors (group_keys 1 (insert_of_p ∷ [])) 7 7
may_have = record {
  from_now = omega arith;
  from_floors =
      All-cons (λ key. floor_of nothing.world.floors key ≤ 7) row_of_p.key [] (subst (λ n. n ≤ 7) (sym floor) (omega arith)) (All-nil (λ key. floor_of nothing.world.floors key ≤ 7));
  not_ahead = inl (omega arith);
  in_time = omega arith;
}

filled : EachAllowed (after_all nothing (making ++ listing)) filling
unfolding table_of table_for with_name name_cmp folded row_at with_row
filled = ((refl, named), ((refl, (row_of_p ∷ [], refl), may_have, no_doubts (SparesKeys (group_keys 1 (insert_of_p ∷ [])))), tt))

dropped : EachAllowed (after_all nothing (making ++ listing ++ filling)) dropping
unfolding table_of with_name without_name name_cmp folded
dropped = ((refl, named), ((refl, named), ((refl, named), tt)))

made_again : EachAllowed (after_all nothing (making ++ listing ++ filling ++ dropping)) making_again
unfolding table_of table_for with_name without_name name_cmp folded row_at with_row key_cmp text_cmp units_of chars
made_again = ((refl, refl, named), ((refl, named), ((refl, refl, no_doubts (SparesKeys (record { table = 3; pk = 112 ∷ []; rk = [] } ∷ []))), tt)))

pub tables_legal : Legal nothing (making ++ listing ++ filling ++ dropping ++ making_again)
tables_legal = record {
  doubts = none_open nothing.world;
  steps = each_append nothing making (listing ++ filling ++ dropping ++ making_again) made
      (each_append (after_all nothing making) listing (filling ++ dropping ++ making_again) listed
      (each_append (after_all nothing (making ++ listing)) filling (dropping ++ making_again) filled
      (each_append (after_all nothing (making ++ listing ++ filling)) dropping making_again dropped made_again)));
}

pub names_left : (after_all nothing (making ++ listing ++ filling ++ dropping ++ making_again)).world.names ≡ left
unfolding with_name without_name name_cmp folded
names_left = refl

pub rows_left : (after_all nothing (making ++ listing ++ filling ++ dropping ++ making_again)).world.rows ≡ row_of_p ∷ []
unfolding row_at with_row
rows_left = refl
