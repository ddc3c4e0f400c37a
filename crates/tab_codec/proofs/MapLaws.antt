-- Rows of the map and names as fields, and the orders of rows, of rows of the map, and of names.
use Rattle.std.proofs.Common.{◌≡◌, ℕ, ◌<◌, ◌≤◌, Bool, true, false, cond, ltb, List, ◌++◌, length, Option, Some, None, Ok, Err, refl, sym, ap, append_assoc, arith}
use Rattle.std.specs.Prelude.{IsTrue, IsUtf8, nat_le}
use Rattle.std.specs.Int.{w64, to_be_bytes}
use Rattle.std.specs.Option.{is_none, option_map}
use Rattle.std.specs.Ordering.{is_lt}
use Rattle.std.specs.Str.{is_utf8}
use Rattle.std.proofs.lemmas.Bool.Decides.{nat_tests}
use Rattle.std.proofs.lemmas.Str.{IsUtf8-from_is_utf8, is_utf8-from_IsUtf8}
use Rattle.tab_keys.specs.TableNames.{is_well_formed, name_refusal, IsTableName}
use Rattle.tab_keys.specs.Order.{key_lt, head_key, bound_lt}
use Rattle.tab_keys.specs.TotalOrders.{key_cmp_total}
use Rattle.tab_keys.specs.declared.keys.Key.{Key}
use Rattle.tab_keys.specs.declared.bounds.Bound.{Bound}
use Rattle.tab_keys.specs.declared.bounds.Bound.TheVariants.{At, End}
use Rattle.tab_rows.specs.Rows.{RowView, IsKept}
use Rattle.tab_codec.specs.declared.frames.RangeRow.{RangeRow}
use Rattle.tab_codec.specs.Spelling.{sized, bound_spelling, span_spelling, range_row_spelling, name_spelling}
use Rattle.tab_codec.specs.Frames.{IsBound, IsRangeRow, IsTable}
use Rattle.tab_codec.specs.Reading.{Read, allowing, bound_rises, bound_at, table_falls, low_falls, low_bound_at, range_row_at, is_table_name, table_name_at, number_rises, name_at}
use Rattle.tab_codec.proofs.FieldLaws.{IsField, bind_field, last_field, allowing_field, same_field, byte_field, field64, sized_field}
use Rattle.tab_codec.proofs.KeyLaws.{IsBoundAbove, bound_table_goes_on, both_true, none_is, bound_field, span_from_field}
use Rattle.tab_codec.proofs.EntityFacts.{less_is}
use Rattle.tab_codec.proofs.RowLaws.{IsRowAbove}
use Rattle.tab_codec.proofs.OrderLaws.{IsOrder}

-- ---- rows of the map

not_lower : (a b : ℕ) → nat_le a b ≡ true → ltb b a ≡ false
not_lower a b e = grind (arith, nat_tests)

not_falls : (before : Option Bound) (table : ℕ) (pk : List ℕ) → bound_rises before (At table pk) ≡ true → table_falls before table ≡ false
not_falls None table pk e = refl
not_falls (Some (At t p)) table pk e = not_lower t table (bound_table_goes_on (Some (At t p)) table pk e)
not_falls (Some End) table pk e = absurd cc

low_rises : (before : Option Bound) (b : Bound) (rest : List ℕ) → IsBound b → bound_rises before b ≡ true → low_falls before (bound_spelling b ++ rest) ≡ false
unfolding low_falls bound_spelling
low_rises before (At table pk) rest h e = rw (append_assoc (to_be_bytes w64 table) (sized pk) rest, field64.again table (sized pk ++ rest) h.0) (not_falls before table pk e)
low_rises before End rest h e = refl

goes_by : {A : Type 0} (b : Bool) (left : ℕ) (read : Read A) (x : A × List ℕ) → cond b (Err left) read ≡ Ok x → read ≡ Ok x
goes_by true left read x e = absurd cc
goes_by false left read x e = e

pub low_bound_field : (before : Option Bound) → IsField (low_bound_at before) bound_spelling (λ b. IsBoundAbove None b × (bound_rises before b ≡ true))
unfolding low_bound_at
low_bound_field before =
    let rising = allowing_field (bound_rises before) (bound_field None) in
    record {
      takes = λ bytes x fits e. rising.takes bytes x fits (goes_by (low_falls before bytes) (length bytes) (allowing (bound_rises before) (bound_at None) bytes) x e);
      again = λ b rest h. rw (low_rises before b rest h.0.bound h.1) (rising.again b rest h);
    }

-- a row of the map whose low bound stands above that of the row before, where there is one
pub record IsRangeRowAbove (before : Option RangeRow) (r : RangeRow) : Type 0 where
  pub row : IsRangeRow r
  pub above : bound_rises (option_map (λ (b : RangeRow). b.span.lo) before) r.span.lo ≡ true

pub range_row_field : (before : Option RangeRow) → IsField (range_row_at before) range_row_spelling (IsRangeRowAbove before)
unfolding range_row_at range_row_spelling span_spelling
range_row_field before = same_field
    (bind_field (λ (r : RangeRow). r.range) field64
    (λ range _. bind_field (λ (r : RangeRow). r.server) byte_field
    (λ server _. bind_field (λ (r : RangeRow). r.span.lo) (low_bound_field (option_map (λ (b : RangeRow). b.span.lo) before))
    (λ lo _. last_field (λ span. record { range = range; server = server; span = span }) (λ (r : RangeRow). r.span) (λ _ _. refl) (span_from_field lo))
    (λ lo r h. h.0.from))
    (λ server r h. sym (ap (λ (q : RangeRow). q.server) h.1.1)))
    (λ range r h. sym (ap (λ (q : RangeRow). q.range) h.1.1.1)))
    (λ r h. (
      refl,
      record {
        row = record { range = h.0; server = h.1.0; span = record { lo = h.1.1.0.0.bound; hi = h.1.1.1.0.hi.bound; ordered = h.1.1.1.0.hi.above } };
        above = h.1.1.0.1;
      },
    ))
    (λ r h. (h.row.range, (h.row.server, ((record { bound = h.row.span.lo; above = refl }, h.above), (record { hi = record { bound = h.row.span.hi; above = h.row.span.ordered }; from = refl }, refl)))))

-- ---- names

well_formed : {R : Type 0} (formed reserved : Bool) (a b : R) → cond formed (cond reserved (Some a) None) (Some b) ≡ None → formed ≡ true
well_formed true reserved a b e = refl
well_formed false reserved a b e = absurd cc

at_most : (a b : ℕ) → nat_le a b ≡ true → a ≤ b
at_most a b e = grind (arith, nat_tests)

name_short : (name : List ℕ) → name_refusal name ≡ None → length name ≤ 63
unfolding name_refusal is_well_formed
name_short name e =
    let formed = well_formed _ _ _ _ e in
    at_most (length name) 63 (both_true _ _ (both_true _ _ (both_true _ _ formed).0).0).1

pub table_name_field : IsField table_name_at sized (λ name. IsTableName name × IsUtf8 name)
table_name_field = same_field (allowing_field is_table_name sized_field)
    (λ t h. let b = both_true (is_utf8 t) (is_none (name_refusal t)) h.1 in
    (refl, (record { allowed = none_is (name_refusal t) b.1 }, IsUtf8-from_is_utf8 t b.0)))
    (λ t h. (omega (arith, name_short t h.0.allowed), rw (is_utf8-from_IsUtf8 t h.1, h.0.allowed) refl))

-- a name of a table whose number is above the one before, where there is one
pub record IsNameAbove (before : Option (ℕ × List ℕ)) (n : ℕ × List ℕ) : Type 0 where
  pub table : IsTable n
  pub above : number_rises before n.0 ≡ true

pub name_field : (before : Option (ℕ × List ℕ)) → IsField (name_at before) name_spelling (IsNameAbove before)
unfolding name_at name_spelling
name_field before = same_field
    (bind_field (λ (n : ℕ × List ℕ). n.0) (allowing_field (number_rises before) field64)
    (λ table _. last_field (λ name. (table, name)) (λ (n : ℕ × List ℕ). n.1) (λ _ _. refl) table_name_field)
    (λ table n h. sym (ap (λ (m : ℕ × List ℕ). m.0) h.1)))
    (λ n h. (refl, record { table = record { table = h.0.0; name = h.1.0.0; utf8 = h.1.0.1 }; above = h.0.1 }))
    (λ n h. ((h.table.table, h.above), ((h.table.name, h.table.utf8), refl)))

-- ---- orders

key_trans : (a b c : Key) → IsTrue (key_lt a b) → IsTrue (key_lt b c) → IsTrue (key_lt a c)
key_trans a b c h k = ap is_lt (key_cmp_total.trans a b c (less_is _ h) (less_is _ k))

bound_trans : (a b c : Bound) → IsTrue (bound_lt a b) → IsTrue (bound_lt b c) → IsTrue (bound_lt a c)
bound_trans (At t p) (At u q) (At v r) h k = key_trans (head_key t p) (head_key u q) (head_key v r) h k
bound_trans (At t p) (At u q) End h k = refl
bound_trans (At t p) End c h k = absurd cc
bound_trans End b c h k = absurd cc

pub row_order : IsOrder (λ (a b : RowView). IsTrue (key_lt a.key b.key)) IsRowAbove IsKept
row_order = record {
  trans = λ a b c h k. key_trans a.key b.key c.key h k;
  own = λ before x h. h.row;
  behind = λ a x h. h.above;
  start = λ x h. record { row = h; above = refl };
  step = λ a x h k. record { row = h; above = k };
}

pub range_row_order : IsOrder (λ (a b : RangeRow). IsTrue (bound_lt a.span.lo b.span.lo)) IsRangeRowAbove IsRangeRow
range_row_order = record {
  trans = λ a b c h k. bound_trans a.span.lo b.span.lo c.span.lo h k;
  own = λ before x h. h.row;
  behind = λ a x h. h.above;
  start = λ x h. record { row = h; above = refl };
  step = λ a x h k. record { row = h; above = k };
}

lt_from : (a b : ℕ) → ltb a b ≡ true → a < b
lt_from a b e = grind (arith, nat_tests)

lt_test : (a b : ℕ) → a < b → ltb a b ≡ true
lt_test a b e = grind (arith, nat_tests)

pub name_order : IsOrder (λ (a b : ℕ × List ℕ). a.0 < b.0) IsNameAbove IsTable
name_order = record {
  trans = λ a b c h k. omega (arith, h, k);
  own = λ before x h. h.table;
  behind = λ a x h. lt_from a.0 x.0 h.above;
  start = λ x h. record { table = h; above = refl };
  step = λ a x h k. record { table = h; above = lt_test a.0 x.0 k };
}
