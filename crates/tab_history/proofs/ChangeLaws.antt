-- What an insert makes of the world.
use Rattle.std.proofs.Common.{◌≡◌, ℕ, ◌+◌, ◌≤◌, ◌<◌, ◌⊎◌, max, get_or, cond, eq-eqb, List, [], ◌∷◌, ◌++◌, map, Bool, true, false, refl, arith, inl, inr}
use Rattle.std.specs.Prelude.{Option, Some, None, Ok, Err, find, option_map, unwrap_or, if◌then◌else◌}
use Rattle.std.proofs.lemmas.Bool.{cases_lt}
use Rattle.std.specs.Cmp.{tied_itself}
use Rattle.tab_keys.specs.Order.{same_key}
use Rattle.tab_keys.specs.declared.keys.Key.{Key}
use Rattle.tab_keys.specs.Spans.{has}
use Rattle.tab_keys.specs.TotalOrders.{key_cmp_total}
use Rattle.tab_edm.specs.Entities.{EntityView}
use Rattle.tab_edm.specs.declared.TheConstants.{GREATEST}
use Rattle.tab_rows.specs.Rows.{RowView, row_at, with_row}
use Rattle.tab_ops.specs.Groups.{ItemView, item_key}
use Rattle.tab_history.specs.World.{Floors, floor_of, raised, MayHaveTick, IsNextTick}
use Rattle.tab_ops.specs.Changes.{group_outcome}
use Rattle.tab_history.specs.Legality.{table_for}
use Rattle.tab_ops.specs.declared.ops.Op.TheVariants.{Insert}
use Rattle.tab_ops.specs.declared.groups.OpRefused.TheVariants.{AlreadyThere}

pub same_key-refl : (key : Key) → same_key key key ≡ true
same_key-refl key = rw (tied_itself key_cmp_total key) refl

-- an insert at a key without a row puts it there
pub insert_stands : (rows : List RowView) (table tick : ℕ) (item : ItemView) (entity : EntityView)
    → item.op ≡ Insert entity → row_at rows (item_key table item) ≡ None
    → group_outcome rows table tick (item ∷ []) ≡ Ok (with_row rows (record { key = item_key table item; entity = entity; tick = tick }))
insert_stands rows table tick item entity op none = rw (op, none) refl

-- an insert at the key of a row is refused
pub insert_refused : (rows : List RowView) (table tick : ℕ) (item : ItemView) (entity : EntityView) (row : RowView)
    → item.op ≡ Insert entity → row_at rows (item_key table item) ≡ Some row
    → group_outcome rows table tick (item ∷ []) ≡ Err (AlreadyThere 0)
insert_refused rows table tick item entity row op some = rw (op, some) refl

-- the greater of two numbers is the one or the other
pub ahead_of : (floors : Floors) (next now : ℕ) → (next ≡ 0) ⊎ ((key : Key) × (next ≤ floor_of floors key)) → (next < now) ⊎ (now ≤ next)
    → (max now next ≤ now) ⊎ ((key : Key) × (max now next ≤ floor_of floors key))
ahead_of floors next now reached (inl below) = inl (omega arith)
ahead_of floors next now (inl none) (inr above) = inl (omega arith)
ahead_of floors next now (inr some) (inr above) = let top : next ≤ floor_of floors some.0 = some.1 in inr (some.0, omega arith)

-- the moment, or the one number where that is later, is a tick that any keys may have
pub may_have_next : (floors : Floors) (next now : ℕ) (keys : List Key) → IsNextTick floors next → max now next ≤ GREATEST → MayHaveTick floors keys now (max now next)
may_have_next floors next now keys is in_time = record {
  from_now = omega arith;
  from_floors = λ k d h. let below : floor_of floors (get_or keys k d) ≤ next = is.above (get_or keys k d) in omega arith;
  not_ahead = ahead_of floors next now is.reached (cases_lt next now);
  in_time = in_time;
}

-- the floor of a key after a change of one key and of others
floor_of-raised : (floors : Floors) (tick : ℕ) (key : Key) (keys : List Key) (other : Key)
    → floor_of (raised floors (key ∷ keys) tick) other ≡ (if same_key key other then tick + 1 else floor_of (raised floors keys tick) other)
unfolding floor_of raised
floor_of-raised floors tick key keys other = by_test (same_key key other)
  where
    later : List (Key × ℕ)
    later = map (λ own. (own, tick + 1)) keys ++ floors.later

    by_test : (b : Bool) → unwrap_or (option_map (λ (change : Key × ℕ). change.1) (cond b (Some (key, tick + 1)) (find (λ change. same_key change.0 other) later)))
        (unwrap_or (option_map (λ part. part.1) (find (λ part. has part.0 other) floors.opening)) 0)
        ≡ (if b then tick + 1
        else unwrap_or (option_map (λ (change : Key × ℕ). change.1) (find (λ change. same_key change.0 other) later))
        (unwrap_or (option_map (λ part. part.1) (find (λ part. has part.0 other) floors.opening)) 0))
    by_test true = refl
    by_test false = refl

floor_of-raised_none : (floors : Floors) (tick : ℕ) (other : Key) → floor_of (raised floors [] tick) other ≡ floor_of floors other
unfolding floor_of raised
floor_of-raised_none floors tick other = refl

chosen_below : (b : Bool) (x y top : ℕ) → x ≤ top → y ≤ top → (if b then x else y) ≤ top
chosen_below true x y top h k = h
chosen_below false x y top h k = k

-- no floor is above one more than the tick of a change
raised_below : (floors : Floors) (next tick : ℕ) (keys : List Key) (other : Key) → IsNextTick floors next → next ≤ tick → floor_of (raised floors keys tick) other ≤ tick + 1
raised_below floors next tick [] other is later =
    let below : floor_of floors other ≤ next = is.above other in
    rw (floor_of-raised_none floors tick other) (omega arith)
raised_below floors next tick (key ∷ keys) other is later =
    let rest : floor_of (raised floors keys tick) other ≤ tick + 1 = raised_below floors next tick keys other is later in
    rw (floor_of-raised floors tick key keys other) (chosen_below (same_key key other) (tick + 1) (floor_of (raised floors keys tick) other) (tick + 1) (omega arith) rest)

-- after a change with a tick the one number is one more
pub next_tick-raised : (floors : Floors) (next tick : ℕ) (key : Key) (keys : List Key) → IsNextTick floors next → next ≤ tick → IsNextTick (raised floors (key ∷ keys) tick) (tick + 1)
next_tick-raised floors next tick key keys is later = record {
  above = λ other. raised_below floors next tick (key ∷ keys) other is later;
  reached = inr (key, rw (floor_of-raised floors tick key keys key, same_key-refl key) (omega arith));
}

-- a look-up that was just made is the last one
pub table_for-first : (tables : List (ℕ × Option ℕ)) (ask : ℕ) (table : Option ℕ) → table_for ((ask, table) ∷ tables) ask ≡ table
unfolding table_for
table_for-first tables ask table = rw (eq-eqb ask ask refl) refl
