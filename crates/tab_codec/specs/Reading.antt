-- Reading from left to right, up to the first field that breaks a rule. A number, a byte, and a text with its length
-- are each one field.
use Rattle.std.specs.Prelude.{ℕ, zero, suc, ◌+◌, ◌-◌, ◌*◌, List, [], ◌∷◌, length, take, drop, Bool, true, false, not, ◌&&◌, ◌||◌, Option, Some, None, Result, Ok, Err, nat_lt, nat_le, ◌==◌, if◌then◌else◌, ◌≡◌}
use Rattle.std.specs.Int.{Width, w16, w32, w64, byte_len, from_be_bytes, cast_signed}
use Rattle.std.specs.Option.{option_map, is_none}
use Rattle.std.specs.Ordering.{is_lt, is_le, nat_cmp, ordering_then}
use Rattle.std.specs.Cmp.Lexicographic.{slice_cmp}
use Rattle.std.specs.Str.{is_utf8}
use Rattle.tab_keys.specs.KeyTexts.{units_of, key_refusal}
use Rattle.tab_keys.specs.TableNames.{name_refusal}
use Rattle.tab_keys.specs.Order.{text_cmp, key_lt, bound_lt}
use Rattle.tab_keys.specs.Spans.{Interval}
use Rattle.tab_keys.specs.declared.keys.Key.{Key}
use Rattle.tab_keys.specs.declared.bounds.Bound.{Bound}
use Rattle.tab_keys.specs.declared.bounds.Bound.TheVariants.{At, End}
use Rattle.tab_edm.specs.Texts.{unit_count, char_count}
use Rattle.tab_edm.specs.Values.{is_valid_name, is_reserved, is_small, value_size, property_size}
use Rattle.tab_edm.specs.Entities.{EntityView}
use Rattle.tab_edm.specs.declared.values.Value.{Value}
use Rattle.tab_edm.specs.declared.values.Value.TheVariants.{Text, Flag, Int32, Int64, Moment, Guid, Bytes}
use Rattle.tab_edm.specs.declared.values.Property.{Property}
use Rattle.tab_edm.specs.declared.values.TheConstants.{MOST_NAME_CHARACTERS}
use Rattle.tab_edm.specs.declared.entities.TheConstants.{MOST_PROPERTIES, MOST_SIZE}
use Rattle.tab_edm.specs.declared.TheConstants.{GREATEST}
use Rattle.tab_rows.specs.Rows.{RowView}
use Rattle.tab_rows.specs.declared.changes.Change.{Change}
use Rattle.tab_rows.specs.declared.changes.Change.TheVariants.{Put, Take}
use Rattle.tab_codec.specs.declared.frames.RangeRow.{RangeRow}
use Rattle.tab_codec.specs.declared.frames.Frame.{Frame}
use Rattle.tab_codec.specs.declared.frames.Frame.TheVariants as frames
use Rattle.tab_codec.specs.declared.stops.Stop.{Stop}
use Rattle.tab_codec.specs.declared.stops.Stop.TheVariants as stops

-- a value and the bytes behind it, or how many bytes are left from the first field on that breaks a rule
abbrev pub Read : Type 0 → Type 0
Read A = Result (A × List ℕ) ℕ

infixl 10 ◌>>=◌
abbrev pub ◌>>=◌ : {A B : Type 0} → Result A ℕ → (A → Result B ℕ) → Result B ℕ
(Ok x) >>= f = f x
(Err left) >>= f = Err left

-- what a function returned, seen by view, is what reading gives, unless no memory was found
abbrev pub Stops : {Y : Type 0} → Stop → Result Y ℕ → Type 0
Stops stops.Memory read = Unit {0}
Stops (stops.Broken left) read = read ≡ Err left

abbrev pub Gives : {X Y : Type 0} → (X → Y) → Result X Stop → Result Y ℕ → Type 0
Gives view (Ok x) read = read ≡ Ok (view x)
Gives view (Err stop) read = Stops stop read

-- ---- fields

unfoldable pub byte_at : List ℕ → Read ℕ
byte_at [] = Err 0
byte_at (b ∷ rest) = Ok (b, rest)

unfoldable pub number_at : Width → List ℕ → Read ℕ
number_at w bytes =
    if nat_lt (length bytes) (byte_len w) then Err (length bytes) else Ok (from_be_bytes w (take (byte_len w) bytes), drop (byte_len w) bytes)

-- so many bytes
unfoldable pub bytes_at : ℕ → List ℕ → Read (List ℕ)
bytes_at count bytes = if nat_lt (length bytes) count then Err (length bytes) else Ok (take count bytes, drop count bytes)

-- a text or bytes, which with their length are one field
unfoldable pub sized_at : List ℕ → Read (List ℕ)
sized_at bytes = do
  size ← number_at w32 bytes
  if nat_lt (length size.1) size.0 then Err (length bytes) else Ok (take size.0 size.1, drop size.0 size.1)

-- a field that is not allowed is broken
unfoldable pub allowing : {A : Type 0} → (A → Bool) → (List ℕ → Read A) → List ℕ → Read A
allowing allowed field bytes = do
  x ← field bytes
  if allowed x.0 then Ok x else Err (length bytes)

-- a byte that says which case follows
abbrev pub case_at : ℕ → ℕ → List ℕ → Read ℕ
case_at least most bytes = allowing (λ which. nat_le least which && nat_le which most) byte_at bytes

-- so many items, each read by what the ones before it left
unfoldable pub items_at : {S A : Type 0} → (S → List ℕ → Read A) → (S → A → S) → S → ℕ → List ℕ → Read (List A)
items_at item next state zero bytes = Ok ([], bytes)
items_at item next state (suc count) bytes = do
  first ← item state bytes
  others ← items_at item next (next state first.0) count first.1
  Ok (first.0 ∷ others.0, others.1)

-- the last item, where one was read
abbrev pub last_read : {A : Type 0} → Option A → A → Option A
last_read before x = Some x

-- ---- keys, bounds and spans

abbrev pub is_key_text : List ℕ → Bool
is_key_text text = is_utf8 text && is_none (key_refusal text)

abbrev pub key_text_at : List ℕ → Read (List ℕ)
key_text_at bytes = allowing is_key_text sized_at bytes

-- the table, the table and partition, and the whole key still stand above the key before
abbrev pub table_rises : Option Key → ℕ → Bool
table_rises None table = true
table_rises (Some before) table = nat_le before.table table

abbrev pub partition_rises : Option Key → ℕ → List ℕ → Bool
partition_rises None table pk = true
partition_rises (Some before) table pk = is_le (ordering_then (nat_cmp before.table table) (text_cmp before.pk pk))

abbrev pub key_rises : Option Key → Key → Bool
key_rises None key = true
key_rises (Some before) key = key_lt before key

-- what stands behind the partition key of a key above the one before, where there is one
unfoldable pub row_key_at : Option Key → ℕ → List ℕ → List ℕ → Read Key
row_key_at before table pk bytes = do
  rk ← allowing (λ rk. key_rises before (record { table = table; pk = pk; rk = rk })) key_text_at bytes
  Ok (record { table = table; pk = pk; rk = rk.0 }, rk.1)

-- a key above the one before, where there is one
unfoldable pub key_at : Option Key → List ℕ → Read Key
key_at before bytes = do
  table ← allowing (table_rises before) (number_at w64) bytes
  pk ← allowing (partition_rises before table.0) key_text_at table.1
  row_key_at before table.0 pk.0 pk.1

-- no bound stands above the end
abbrev pub may_rise : Option Bound → Bool
may_rise None = true
may_rise (Some (At table pk)) = true
may_rise (Some End) = false

abbrev pub bound_table_rises : Option Bound → ℕ → Bool
bound_table_rises None table = true
bound_table_rises (Some (At before pk)) table = nat_le before table
bound_table_rises (Some End) table = false

abbrev pub bound_rises : Option Bound → Bound → Bool
bound_rises None bound = true
bound_rises (Some before) bound = bound_lt before bound

-- what stands behind the table of a bound
unfoldable pub partition_at : Option Bound → ℕ → List ℕ → Read Bound
partition_at before table bytes = do
  pk ← allowing (λ pk. bound_rises before (At table pk)) key_text_at bytes
  Ok (At table pk.0, pk.1)

-- what stands behind the byte that says which bound it is
unfoldable pub bound_of : Option Bound → ℕ → List ℕ → Read Bound
bound_of before zero bytes = do
  table ← allowing (bound_table_rises before) (number_at w64) bytes
  partition_at before table.0 table.1
bound_of before (suc which) bytes = Ok (End, bytes)

-- a bound above the one before, where there is one
unfoldable pub bound_at : Option Bound → List ℕ → Read Bound
bound_at before bytes = do
  which ← allowing (λ _. may_rise before) (case_at 0 1) bytes
  bound_of before which.0 which.1

-- the span from a low bound on, whose high bound is read
unfoldable pub span_from : Bound → List ℕ → Read Interval
span_from lo bytes = do
  hi ← bound_at (Some lo) bytes
  Ok (record { lo = lo; hi = hi.0 }, hi.1)

unfoldable pub span_at : List ℕ → Read Interval
span_at bytes = do
  lo ← bound_at None bytes
  span_from lo.0 lo.1

-- ---- entities

-- the name of the property before, and what the entity counts for so far
pub record Counted : Type 0 where
  pub name : Option (List ℕ)
  pub size : ℕ

abbrev pub name_rises : Option (List ℕ) → List ℕ → Bool
name_rises None name = true
name_rises (Some before) name = is_lt (slice_cmp nat_cmp before name)

abbrev pub is_property_name : List ℕ → Bool
is_property_name name = is_valid_name name && nat_le (char_count name) MOST_NAME_CHARACTERS && not (is_reserved name)

-- the value behind the byte of its type, which is 1 to 7
unfoldable pub value_of : ℕ → List ℕ → Read Value
value_of (suc zero) bytes = do
  text ← allowing is_utf8 sized_at bytes
  Ok (Text text.0, text.1)
value_of (suc (suc zero)) bytes = do
  flag ← case_at 0 1 bytes
  Ok (Flag (flag.0 == 1), flag.1)
value_of (suc (suc (suc zero))) bytes = do
  number ← number_at w32 bytes
  Ok (Int32 (cast_signed w32 number.0), number.1)
value_of (suc (suc (suc (suc zero)))) bytes = do
  number ← number_at w64 bytes
  Ok (Int64 (cast_signed w64 number.0), number.1)
value_of (suc (suc (suc (suc (suc zero))))) bytes = do
  tick ← allowing (λ tick. nat_le tick GREATEST) (number_at w64) bytes
  Ok (Moment tick.0, tick.1)
value_of (suc (suc (suc (suc (suc (suc zero)))))) bytes = do
  guid ← bytes_at 16 bytes
  Ok (Guid guid.0, guid.1)
value_of _ bytes = do
  value ← sized_at bytes
  Ok (Bytes value.0, value.1)

-- a value within the limit of its kind, of an entity that counts for so much with all that stands before the value
unfoldable pub value_within : ℕ → ℕ → List ℕ → Read Value
value_within size type bytes = allowing (λ value. is_small value && nat_le (size + value_size value) MOST_SIZE) (value_of type) bytes

unfoldable pub value_at : ℕ → List ℕ → Read Value
value_at size bytes = do
  type ← case_at 1 7 bytes
  value_within size type.0 type.1

-- a name that comes after the one before
unfoldable pub property_name_at : Option (List ℕ) → List ℕ → Read (List ℕ)
property_name_at before bytes = allowing (name_rises before) (allowing is_property_name (allowing is_utf8 sized_at)) bytes

unfoldable pub property_at : Counted → List ℕ → Read Property
property_at counted bytes = do
  name ← property_name_at counted.name bytes
  value ← value_at (counted.size + (8 + 2 * unit_count name.0)) name.1
  Ok (record { name = name.0; value = value.0 }, value.1)

unfoldable pub count_on : Counted → Property → Counted
count_on counted property = record { name = Some property.name; size = counted.size + property_size property }

-- the entity of a row whose keys have these numbers of units
unfoldable pub entity_at : ℕ → ℕ → List ℕ → Read EntityView
entity_at pk_units rk_units bytes = do
  count ← allowing (λ count. nat_le count MOST_PROPERTIES) (number_at w16) bytes
  properties ← items_at property_at count_on (record { name = None; size = 4 + 2 * (pk_units + rk_units) }) count.0 count.1
  Ok (record { properties = properties.0; pk_units = pk_units; rk_units = rk_units }, properties.1)

-- ---- rows, changes, rows of the map, and names

-- a row above the one before, where there is one
unfoldable pub row_at : Option RowView → List ℕ → Read RowView
row_at before bytes = do
  key ← key_at (option_map (λ (row : RowView). row.key) before) bytes
  tick ← allowing (λ tick. nat_le tick GREATEST) (number_at w64) key.1
  entity ← entity_at (length (units_of key.0.pk)) (length (units_of key.0.rk)) tick.1
  Ok (record { key = key.0; entity = entity.0; tick = tick.0 }, entity.1)

unfoldable pub change_of : ℕ → List ℕ → Read Change
change_of zero bytes = do
  key ← key_at None bytes
  Ok (Take key.0, key.1)
change_of (suc which) bytes = do
  row ← row_at None bytes
  Ok (Put row.0, row.1)

unfoldable pub change_at : List ℕ → Read Change
change_at bytes = do
  which ← case_at 0 1 bytes
  change_of which.0 which.1

-- the table of a low bound stands below that of the bound before, so that no later field can mend the order
abbrev pub table_falls : Option Bound → ℕ → Bool
table_falls None table = false
table_falls (Some (At before pk)) table = nat_lt table before
table_falls (Some End) table = true

abbrev pub read_falls : Option Bound → Read ℕ → Bool
read_falls before (Ok table) = table_falls before table.0
read_falls before (Err left) = false

unfoldable pub low_falls : Option Bound → List ℕ → Bool
low_falls before [] = false
low_falls before (zero ∷ rest) = read_falls before (number_at w64 rest)
low_falls before (suc which ∷ rest) = false

-- a low bound above the one before, where there is one; where it is not, its first field shows it, as soon as the table
-- or the whole bound tells
unfoldable pub low_bound_at : Option Bound → List ℕ → Read Bound
low_bound_at before bytes = if low_falls before bytes then Err (length bytes) else allowing (bound_rises before) (bound_at None) bytes

-- a row of the map whose low bound stands above that of the row before, where there is one
unfoldable pub range_row_at : Option RangeRow → List ℕ → Read RangeRow
range_row_at before bytes = do
  range ← number_at w64 bytes
  server ← byte_at range.1
  lo ← low_bound_at (option_map (λ (row : RangeRow). row.span.lo) before) server.1
  span ← span_from lo.0 lo.1
  Ok (record { range = range.0; server = server.0; span = span.0 }, span.1)

abbrev pub is_table_name : List ℕ → Bool
is_table_name name = is_utf8 name && is_none (name_refusal name)

abbrev pub table_name_at : List ℕ → Read (List ℕ)
table_name_at bytes = allowing is_table_name sized_at bytes

abbrev pub number_rises : Option (ℕ × List ℕ) → ℕ → Bool
number_rises None table = true
number_rises (Some before) table = nat_lt before.0 table

-- a name of a table whose number is above the one before, where there is one
unfoldable pub name_at : Option (ℕ × List ℕ) → List ℕ → Read (ℕ × List ℕ)
name_at before bytes = do
  table ← allowing (number_rises before) (number_at w64) bytes
  name ← table_name_at table.1
  Ok ((table.0, name.0), name.1)

-- ---- frames

unfoldable pub begin_at : List ℕ → Read Frame
begin_at bytes = do
  range ← number_at w64 bytes
  span ← span_at range.1
  next_tick ← number_at w64 span.1
  Ok (frames.Begin range.0 span.0 next_tick.0, next_tick.1)

unfoldable pub rows_at : List ℕ → Read Frame
rows_at bytes = do
  range ← number_at w64 bytes
  count ← allowing (λ count. nat_le count 1000) (number_at w32) range.1
  rows ← items_at row_at last_read None count.0 count.1
  Ok (frames.Rows range.0 rows.0, rows.1)

unfoldable pub whole_at : List ℕ → Read Frame
whole_at bytes = do
  range ← number_at w64 bytes
  next_tick ← number_at w64 range.1
  Ok (frames.Whole range.0 next_tick.0, next_tick.1)

unfoldable pub changes_at : List ℕ → Read Frame
changes_at bytes = do
  range ← number_at w64 bytes
  next_tick ← number_at w64 range.1
  count ← number_at w16 next_tick.1
  changes ← items_at (λ _. change_at) last_read None count.0 count.1
  Ok (frames.Change range.0 next_tick.0 changes.0, changes.1)

unfoldable pub map_at : List ℕ → Read Frame
map_at bytes = do
  next_range ← number_at w64 bytes
  next_plan ← number_at w64 next_range.1
  count ← number_at w32 next_plan.1
  rows ← items_at range_row_at last_read None count.0 count.1
  Ok (frames.Map next_range.0 next_plan.0 rows.0, rows.1)

unfoldable pub commit_at : List ℕ → Read Frame
commit_at bytes = do
  plan ← number_at w64 bytes
  next_range ← number_at w64 plan.1
  old_count ← byte_at next_range.1
  old_ranges ← items_at (λ _. number_at w64) last_read None old_count.0 old_count.1
  new_count ← byte_at old_ranges.1
  new_rows ← items_at (λ _. range_row_at None) last_read None new_count.0 new_count.1
  Ok (frames.Commit plan.0 next_range.0 old_ranges.0 new_rows.0, new_rows.1)

unfoldable pub names_at : List ℕ → Read Frame
names_at bytes = do
  next_table ← number_at w64 bytes
  count ← number_at w32 next_table.1
  names ← items_at name_at last_read None count.0 count.1
  Ok (frames.Names next_table.0 names.0, names.1)

unfoldable pub create_at : List ℕ → Read Frame
create_at bytes = do
  table ← number_at w64 bytes
  name ← table_name_at table.1
  Ok (frames.Create table.0 name.0, name.1)

unfoldable pub drop_at : List ℕ → Read Frame
drop_at bytes = do
  table ← number_at w64 bytes
  Ok (frames.Drop table.0, table.1)

-- the body of a frame of this kind, which is 1 to 9
unfoldable pub body_at : ℕ → List ℕ → Read Frame
body_at (suc zero) bytes = begin_at bytes
body_at (suc (suc zero)) bytes = rows_at bytes
body_at (suc (suc (suc zero))) bytes = whole_at bytes
body_at (suc (suc (suc (suc zero)))) bytes = changes_at bytes
body_at (suc (suc (suc (suc (suc zero))))) bytes = map_at bytes
body_at (suc (suc (suc (suc (suc (suc zero)))))) bytes = commit_at bytes
body_at (suc (suc (suc (suc (suc (suc (suc zero))))))) bytes = names_at bytes
body_at (suc (suc (suc (suc (suc (suc (suc (suc zero)))))))) bytes = create_at bytes
body_at _ bytes = drop_at bytes

-- of a body that is so long, of which these bytes are there: the frame and the length of its spelling, or where the
-- first field stands that breaks a rule, counted from the kind
abbrev pub whole_body : ℕ → List ℕ → Read Frame → Result (Frame × ℕ) ℕ
whole_body size bytes (Err left) = Err (5 + (length bytes - left))
whole_body size bytes (Ok (frame, rest)) =
    if length rest == 0 && length bytes == size then Ok (frame, 5 + size) else Err (5 + (length bytes - length rest))

-- the frame whose spelling the bytes begin with, and how long that is, or the offset of the first field that breaks a
-- rule: the kind, the length of the body, or a field of the body, or where the fields end before the body does
unfoldable pub frame_at : List ℕ → Result (Frame × ℕ) ℕ
frame_at [] = Err 0
frame_at (kind ∷ bytes) =
    if nat_le 1 kind && nat_le kind 9 then
    (if nat_lt (length bytes) 4 || nat_lt 268_435_456 (from_be_bytes w32 (take 4 bytes)) then Err 1
    else (let size = from_be_bytes w32 (take 4 bytes) in let inside = take size (drop 4 bytes) in whole_body size inside (body_at kind inside)))
    else Err 0
