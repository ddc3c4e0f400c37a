-- How frames are spelled. A number stands with its highest byte first.
use Rattle.std.specs.Prelude.{ℕ, List, [], ◌∷◌, ◌++◌, length, cond}
use Rattle.std.specs.List.{flat_map}
use Rattle.std.specs.Int.{w16, w32, w64, to_be_bytes, cast_unsigned}
use Rattle.tab_keys.specs.declared.keys.Key.{Key}
use Rattle.tab_keys.specs.declared.bounds.Bound.{Bound}
use Rattle.tab_keys.specs.declared.bounds.Bound.TheVariants.{At, End}
use Rattle.tab_keys.specs.Spans.{Interval}
use Rattle.tab_edm.specs.declared.values.Value.{Value}
use Rattle.tab_edm.specs.declared.values.Value.TheVariants.{Text, Flag, Int32, Int64, Moment, Guid, Bytes}
use Rattle.tab_edm.specs.declared.values.Property.{Property}
use Rattle.tab_rows.specs.Rows.{RowView}
use Rattle.tab_rows.specs.declared.changes.Change.{Change}
use Rattle.tab_rows.specs.declared.changes.Change.TheVariants.{Put, Take}
use Rattle.tab_codec.specs.declared.frames.RangeRow.{RangeRow}
use Rattle.tab_codec.specs.declared.frames.Frame.{Frame}
use Rattle.tab_codec.specs.declared.frames.Frame.TheVariants as frames

-- a text, or bytes: the length in four bytes, and the bytes
unfoldable pub sized : List ℕ → List ℕ
sized bytes = to_be_bytes w32 (length bytes) ++ bytes

-- the byte 00, a table and a partition key, or the byte 01 for the end
unfoldable pub bound_spelling : Bound → List ℕ
bound_spelling (At table pk) = 0 ∷ (to_be_bytes w64 table ++ sized pk)
bound_spelling End = 1 ∷ []

unfoldable pub span_spelling : Interval → List ℕ
span_spelling span = bound_spelling span.lo ++ bound_spelling span.hi

unfoldable pub key_spelling : Key → List ℕ
key_spelling key = to_be_bytes w64 key.table ++ (sized key.pk ++ sized key.rk)

-- a byte for the type, and the value; whole numbers with a sign in two's complement
unfoldable pub value_spelling : Value → List ℕ
value_spelling (Text text) = 1 ∷ sized text
value_spelling (Flag flag) = 2 ∷ cond flag 1 0 ∷ []
value_spelling (Int32 number) = 3 ∷ to_be_bytes w32 (cast_unsigned w32 number)
value_spelling (Int64 number) = 4 ∷ to_be_bytes w64 (cast_unsigned w64 number)
value_spelling (Moment tick) = 5 ∷ to_be_bytes w64 tick
value_spelling (Guid bytes) = 6 ∷ bytes
value_spelling (Bytes bytes) = 7 ∷ sized bytes

unfoldable pub property_spelling : Property → List ℕ
property_spelling property = sized property.name ++ value_spelling property.value

-- how many properties, and each of them
unfoldable pub properties_spelling : List Property → List ℕ
properties_spelling properties = to_be_bytes w16 (length properties) ++ flat_map property_spelling properties

unfoldable pub row_spelling : RowView → List ℕ
row_spelling row = key_spelling row.key ++ (to_be_bytes w64 row.tick ++ properties_spelling row.entity.properties)

unfoldable pub change_spelling : Change → List ℕ
change_spelling (Put row) = 1 ∷ row_spelling row
change_spelling (Take key) = 0 ∷ key_spelling key

unfoldable pub range_row_spelling : RangeRow → List ℕ
range_row_spelling row = to_be_bytes w64 row.range ++ (row.server ∷ span_spelling row.span)

unfoldable pub name_spelling : ℕ × List ℕ → List ℕ
name_spelling name = to_be_bytes w64 name.0 ++ sized name.1

-- a frame's kind
abbrev pub kind : Frame → ℕ
kind (frames.Begin range span next_tick) = 1
kind (frames.Rows range rows) = 2
kind (frames.Whole range next_tick) = 3
kind (frames.Change range next_tick changes) = 4
kind (frames.Map next_range next_plan rows) = 5
kind (frames.Commit plan next_range old_ranges new_rows) = 6
kind (frames.Names next_table names) = 7
kind (frames.Create table name) = 8
kind (frames.Drop table) = 9

-- a frame's body
unfoldable pub body : Frame → List ℕ
body (frames.Begin range span next_tick) = to_be_bytes w64 range ++ (span_spelling span ++ to_be_bytes w64 next_tick)
body (frames.Rows range rows) = to_be_bytes w64 range ++ (to_be_bytes w32 (length rows) ++ flat_map row_spelling rows)
body (frames.Whole range next_tick) = to_be_bytes w64 range ++ to_be_bytes w64 next_tick
body (frames.Change range next_tick changes) =
    to_be_bytes w64 range ++ (to_be_bytes w64 next_tick ++ (to_be_bytes w16 (length changes) ++ flat_map change_spelling changes))
body (frames.Map next_range next_plan rows) =
    to_be_bytes w64 next_range ++ (to_be_bytes w64 next_plan ++ (to_be_bytes w32 (length rows) ++ flat_map range_row_spelling rows))
body (frames.Commit plan next_range old_ranges new_rows) =
    to_be_bytes w64 plan ++ (to_be_bytes w64 next_range
    ++ (length old_ranges ∷ flat_map (to_be_bytes w64) old_ranges ++ length new_rows ∷ flat_map range_row_spelling new_rows))
body (frames.Names next_table names) = to_be_bytes w64 next_table ++ (to_be_bytes w32 (length names) ++ flat_map name_spelling names)
body (frames.Create table name) = to_be_bytes w64 table ++ sized name
body (frames.Drop table) = to_be_bytes w64 table

-- the kind, the length of the body in four bytes, and the body
unfoldable pub spelling : Frame → List ℕ
spelling frame = kind frame ∷ sized (body frame)
