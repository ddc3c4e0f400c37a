-- The example is a legal history of a followed query.
use Rattle.std.proofs.Common.{◌≡◌, ℕ, ◌<◌, ◌≤◌, List, [], ◌∷◌, refl, sym, subst, inl, arith}
use Rattle.std.specs.Prelude.{IsTrue, IsFalse, ◌==◌, Some, Ok}
use Rattle.std.specs.Str.{chars}
use Rattle.std.specs.Ordering.{is_lt}
use Rattle.std.proofs.lemmas.List.Elements.{All-nil, All-cons}
use Rattle.std.proofs.lemmas.List.Kept.{AllPairs-cons}
use Rattle.tab_keys.specs.KeyTexts.{units_of}
use Rattle.tab_keys.specs.Order.{text_cmp, key_cmp, key_lt, name_cmp, bound_lt}
use Rattle.tab_keys.specs.TableNames.{folded}
use Rattle.tab_keys.specs.declared.bounds.Bound.{Bound}
use Rattle.tab_keys.specs.declared.bounds.Bound.TheVariants.{At, End}
use Rattle.tab_rows.specs.Rows.{RowView, AreRising, row_at, with_row}
use Rattle.tab_page.specs.Pages.{start_key, listed, looked_at, page_up_to, page_below, page_of}
use Rattle.tab_page.proofs.RisingLists.{AllPairs-nil}
use Rattle.tab_ops.specs.Changes.{group_keys}
use Rattle.tab_history.specs.World.{Named, IsWorld, table_of, floor_of, MayHaveTick}
use Rattle.tab_history.specs.Doubts.{SparesKeys, SparesPage, SparesNames}
use Rattle.tab_history.specs.Legality.{after, after_all, table_for, AreBounds, Allows, Legal}
use Rattle.tab_history.specs.Followed.{resolve_of, page_entry, entries_of, IsFollowed}
use Rattle.tab_history.specs.declared.entries.Entry.TheVariants as entry
use Rattle.tab_history.proofs.DoubtLaws.{no_doubts, none_open}
use Rattle.tab_history.specs.Example.{cats, opening, row_of, insert_of_d, first, second, query}

abbrev rows : List RowView
rows = opening.world.rows

rows_rise : AreRising (row_of 97 0 ∷ row_of 98 1 ∷ row_of 99 2 ∷ [])
unfolding key_cmp text_cmp units_of chars
rows_rise =
    let R = λ (a b : RowView). IsTrue (key_lt a.key b.key) in
    AllPairs-cons R (row_of 97 0) (row_of 98 1 ∷ row_of 99 2 ∷ [])
    (All-cons (R (row_of 97 0)) (row_of 98 1) (row_of 99 2 ∷ []) refl (All-cons (R (row_of 97 0)) (row_of 99 2) [] refl (All-nil (R (row_of 97 0)))))
    (AllPairs-cons R (row_of 98 1) (row_of 99 2 ∷ []) (All-cons (R (row_of 98 1)) (row_of 99 2) [] refl (All-nil (R (row_of 98 1))))
    (AllPairs-cons R (row_of 99 2) [] (All-nil (R (row_of 99 2))) (AllPairs-nil R)))

below_floor : (letter tick : ℕ) → tick < 3 → floor_of opening.world.floors (row_of letter tick).key ≡ 3 → tick < floor_of opening.world.floors (row_of letter tick).key
below_floor letter tick h e = subst (λ floor. tick < floor) (sym e) h

floor : (floor_of opening.world.floors (row_of 97 0).key ≡ 3) × (floor_of opening.world.floors (row_of 98 1).key ≡ 3) × (floor_of opening.world.floors (row_of 99 2).key ≡ 3) × (floor_of opening.world.floors (row_of 100 7).key ≡ 3)
unfolding floor_of key_cmp text_cmp units_of chars
floor = (refl, refl, refl, refl)

pub example_world : IsWorld opening.world
example_world = record {
  names_rise =
      let R = λ (a b : Named). IsTrue (is_lt (name_cmp a.spelling b.spelling)) in
      AllPairs-cons R (record { spelling = cats; table = 1 }) [] (All-nil (R (record { spelling = cats; table = 1 }))) (AllPairs-nil R);
  numbers_differ =
      let R = λ (a b : Named). IsFalse (a.table == b.table) in
      AllPairs-cons R (record { spelling = cats; table = 1 }) [] (All-nil (R (record { spelling = cats; table = 1 }))) (AllPairs-nil R);
  names_below = All-cons (λ (named : Named). named.table < 2) (record { spelling = cats; table = 1 }) [] (omega arith) (All-nil (λ (named : Named). named.table < 2));
  rows_rise = rows_rise;
  rows_below =
      let P = λ (row : RowView). row.key.table < 2 in
      All-cons P (row_of 97 0) (row_of 98 1 ∷ row_of 99 2 ∷ []) (omega arith) (All-cons P (row_of 98 1) (row_of 99 2 ∷ []) (omega arith) (All-cons P (row_of 99 2) [] (omega arith) (All-nil P)));
  ticks_below =
      let P = λ (row : RowView). row.tick < floor_of opening.world.floors row.key in
      All-cons P (row_of 97 0) (row_of 98 1 ∷ row_of 99 2 ∷ []) (below_floor 97 0 (omega arith) floor.0)
      (All-cons P (row_of 98 1) (row_of 99 2 ∷ []) (below_floor 98 1 (omega arith) floor.1) (All-cons P (row_of 99 2) [] (below_floor 99 2 (omega arith) floor.2) (All-nil P)));
}

pub first_page : Allows (after opening (resolve_of first)) (page_entry first)
unfolding table_for page_of page_below page_up_to listed looked_at start_key key_cmp text_cmp units_of chars
first_page = (refl, refl, no_doubts (SparesPage (start_key 1 first.options) first.page.end))

pub may_have : MayHaveTick opening.world.floors (group_keys 1 (insert_of_d ∷ [])) 7 7
may_have = record {
  from_now = omega arith;
  from_floors = All-cons (λ key. floor_of opening.world.floors key ≤ 7) (row_of 100 7).key [] (subst (λ floor. floor ≤ 7) (sym floor.3) (omega arith)) (All-nil (λ key. floor_of opening.world.floors key ≤ 7));
  not_ahead = inl (omega arith);
  in_time = omega arith;
}

change : Allows (after (after (after opening (resolve_of first)) (page_entry first)) (entry.Resolve 2 cats (Some 1))) (entry.Change 2 7 1 (insert_of_d ∷ []) (Ok 7))
unfolding table_for row_at with_row key_cmp text_cmp units_of chars
change = (refl, (row_of 97 0 ∷ row_of 98 1 ∷ row_of 99 2 ∷ row_of 100 7 ∷ [], refl), may_have, no_doubts (SparesKeys (group_keys 1 (insert_of_d ∷ []))))

pub split : AreBounds (At 0 [] ∷ At 1 (98 ∷ []) ∷ [])
unfolding key_cmp text_cmp units_of chars
split =
    let R = λ (a b : Bound). IsTrue (bound_lt a b) in
    let P = λ (b : Bound). IsTrue (bound_lt b End) in (
      refl,
      AllPairs-cons R (At 0 []) (At 1 (98 ∷ []) ∷ []) (All-cons (R (At 0 [])) (At 1 (98 ∷ [])) [] refl (All-nil (R (At 0 [])))) (AllPairs-cons R (At 1 (98 ∷ [])) [] (All-nil (R (At 1 (98 ∷ [])))) (AllPairs-nil R)),
      All-cons P (At 0 []) (At 1 (98 ∷ []) ∷ []) refl (All-cons P (At 1 (98 ∷ [])) [] refl (All-nil P)),
    )

second_page : Allows (after (after_all (after (after opening (resolve_of first)) (page_entry first)) (entry.Resolve 2 cats (Some 1) ∷ entry.Change 2 7 1 (insert_of_d ∷ []) (Ok 7) ∷ entry.Bounds (At 0 [] ∷ At 1 (98 ∷ []) ∷ []) ∷ [])) (resolve_of second)) (page_entry second)
unfolding table_for page_of page_below page_up_to listed looked_at start_key row_at with_row key_cmp text_cmp units_of chars
second_page = (refl, refl, no_doubts (SparesPage (start_key 1 second.options) second.page.end))

pub example_legal : Legal opening (entries_of query)
unfolding table_of folded
example_legal =
    let named = no_doubts SparesNames in
    record { doubts = none_open opening.world; steps = ((refl, named), (first_page, ((refl, named), (change, (split, ((refl, named), (second_page, tt))))))) }

pub example_followed : IsFollowed query
unfolding folded
example_followed = (record { name = refl; token = (99 ∷ [], []); next = refl; options = refl; idle = entry.Resolve 2 cats (Some 1) ∷ entry.Change 2 7 1 (insert_of_d ∷ []) (Ok 7) ∷ entry.Bounds (At 0 [] ∷ At 1 (98 ∷ []) ∷ []) ∷ []; waiting = []; between = refl }, refl)
