-- How long the spellings of rows are at the most.
use Rattle.std.proofs.Common.{◌≡◌, ℕ, ◌+◌, ◌*◌, ◌≤◌, List, [], ◌∷◌, ◌++◌, length, Bool, true, false, cond, ltb, Option, Some, None, refl, ap, arith, length-append}
use Rattle.std.specs.Prelude.{sum_by, All, chars, IsUtf8}
use Rattle.std.specs.List.{flat_map}
use Rattle.std.specs.Int.{w16, w32, w64, to_be_bytes}
use Rattle.std.specs.Char.Escape.{encode_utf16}
use Rattle.std.proofs.Math.Utf8.{encode, encodes}
use Rattle.std.proofs.lemmas.Str.{chars-encodes}
use Rattle.std.proofs.lemmas.Bool.Decides.{nat_tests}
use Rattle.std.proofs.lemmas.List.Sums.{sum_by-cons}
use Rattle.std.proofs.lemmas.List.Concat.{flat_map-cons, flat_map-append}
use Rattle.std.proofs.lemmas.List.Elements.{All-head, All-tail}
use Rattle.tab_keys.specs.KeyTexts.{units_of, key_refusal, IsKeyText}
use Rattle.tab_keys.specs.Keys.{IsKey}
use Rattle.tab_keys.specs.declared.keys.Key.{Key}
use Rattle.tab_keys.specs.Spans.{Interval}
use Rattle.tab_keys.specs.declared.bounds.Bound.{Bound}
use Rattle.tab_keys.specs.declared.bounds.Bound.TheVariants.{At, End}
use Rattle.tab_edm.specs.Texts.{unit_count}
use Rattle.tab_edm.specs.Values.{value_size, property_size, IsValue, IsProperty}
use Rattle.tab_edm.specs.Entities.{IsEntity, entity_size, entity_refusal}
use Rattle.tab_edm.specs.declared.values.Value.{Value}
use Rattle.tab_edm.specs.declared.values.Value.TheVariants.{Text, Flag, Int32, Int64, Moment, Guid, Bytes}
use Rattle.tab_edm.specs.declared.values.Property.{Property}
use Rattle.tab_rows.specs.Rows.{RowView, IsKept}
use Rattle.tab_codec.specs.Spelling.{sized, key_spelling, value_spelling, property_spelling, properties_spelling, row_spelling}
use Rattle.tab_codec.specs.Spelling.{change_spelling, body, bound_spelling, span_spelling}
use Rattle.tab_codec.specs.Frames.{IsChange, IsShort, IsBound, IsSpan}
use Rattle.tab_codec.specs.declared.frames.Frame.TheVariants as frames
use Rattle.tab_rows.specs.declared.changes.Change.{Change}
use Rattle.tab_rows.specs.declared.changes.Change.TheVariants.{Put, Take}
use Rattle.std.specs.Option.{option_or}
use Rattle.std.specs.List.{AllByRecursion}

-- ---- texts: a character has at most three bytes for each of its units

char_short : (c : ℕ) → length (encode c) ≤ 3 * length (encode_utf16 c)
unfolding encode
char_short c = grind (arith, nat_tests)

chars_short : (cs : List ℕ) → length (encodes cs) ≤ 3 * length (flat_map encode_utf16 cs)
chars_short [] = omega arith
chars_short (c ∷ cs) =
    omega (arith, char_short c, chars_short cs, length-append (encode c) (encodes cs), length-append (encode_utf16 c) (flat_map encode_utf16 cs))

text_short : (text : List ℕ) → IsUtf8 text → length text ≤ 3 * length (flat_map encode_utf16 (chars text))
text_short text (cs, (scalar, is)) = rw (← is, chars-encodes cs scalar) (chars_short cs)

-- ---- keys

pub limit_kept : {R : Type 0} (many : Bool) (a : R) (b : Option R) → cond many (Some a) b ≡ None → many ≡ false
limit_kept true a b e = absurd cc
limit_kept false a b e = refl

key_text_short : (text : List ℕ) → IsKeyText text → length text ≤ 3072
unfolding key_refusal units_of
key_text_short text h =
    let few : ltb 1024 (length (flat_map encode_utf16 (chars text))) ≡ false = limit_kept _ _ _ h.allowed in
    let short = text_short text h.utf8 in
    grind (arith, nat_tests)

sized_long : (bytes : List ℕ) → length (sized bytes) ≡ 4 + length bytes
unfolding sized
sized_long bytes = length-append (to_be_bytes w32 (length bytes)) bytes

pub key_short : (key : Key) → IsKey key → length (key_spelling key) ≤ 6160
unfolding key_spelling
key_short key h =
    omega (
      arith,
      key_text_short key.pk h.pk,
      key_text_short key.rk h.rk,
      sized_long key.pk,
      sized_long key.rk,
      length-append (to_be_bytes w64 key.table) (sized key.pk ++ sized key.rk),
      length-append (sized key.pk) (sized key.rk),
    )

-- ---- properties: half as many bytes again as they count for in an entity's size, at the most

value_short : (value : Value) → IsValue value → 2 * length (value_spelling value) + 14 ≤ 3 * value_size value + 24
unfolding value_spelling value_size unit_count
value_short (Text text) h = omega (arith, sized_long text, text_short text h)
value_short (Flag b) h = omega arith
value_short (Int32 n) h = omega arith
value_short (Int64 n) h = omega arith
value_short (Moment tick) h = omega arith
value_short (Guid bytes) h = omega (arith, h.0)
value_short (Bytes bytes) h = omega (arith, sized_long bytes)

property_short : (property : Property) → IsProperty property → 2 * length (property_spelling property) ≤ 3 * property_size property
unfolding property_spelling property_size unit_count
property_short property h =
    omega (arith, length-append (sized property.name) (value_spelling property.value), sized_long property.name, text_short property.name h.name, value_short property.value h.value)

properties_short : (properties : List Property) → All IsProperty properties → 2 * length (flat_map property_spelling properties) ≤ 3 * sum_by property_size properties
properties_short [] h = omega arith
properties_short (property ∷ properties) h =
    omega (
      arith,
      ap length (flat_map-cons property_spelling property properties),
      length-append (property_spelling property) (flat_map property_spelling properties),
      sum_by-cons property_size property properties,
      property_short property (All-head IsProperty property properties h),
      properties_short properties (All-tail IsProperty property properties h),
    )

limits_kept : {R : Type 0} (many large : Bool) (a b : R) → cond many (Some a) (cond large (Some b) None) ≡ None → large ≡ false
limits_kept true large a b e = absurd cc
limits_kept false true a b e = absurd cc
limits_kept false false a b e = refl

then_none : {A : Type 0} (x y : Option A) → option_or x y ≡ None → y ≡ None
then_none None y e = e
then_none (Some x) y e = absurd cc

properties_size : (pk_units rk_units : ℕ) (properties : List Property) → IsEntity pk_units rk_units properties → sum_by property_size properties ≤ 1_048_576
unfolding entity_refusal entity_size
properties_size pk_units rk_units properties h =
    let large : ltb 1_048_576 (4 + 2 * (pk_units + rk_units) + sum_by property_size properties) ≡ false = limits_kept _ _ _ _ (then_none _ _ h.allowed) in
    grind (arith, nat_tests)

pub row_short : (row : RowView) → IsKept row → length (row_spelling row) ≤ 1_580_000
unfolding row_spelling properties_spelling
row_short row h =
    omega (
      arith,
      key_short row.key h.key,
      properties_short row.entity.properties h.properties,
      properties_size row.entity.pk_units row.entity.rk_units row.entity.properties h.entity,
      length-append (key_spelling row.key) (to_be_bytes w64 row.tick ++ (to_be_bytes w16 (length row.entity.properties) ++ flat_map property_spelling row.entity.properties)),
      length-append (to_be_bytes w64 row.tick) (to_be_bytes w16 (length row.entity.properties) ++ flat_map property_spelling row.entity.properties),
      length-append (to_be_bytes w16 (length row.entity.properties)) (flat_map property_spelling row.entity.properties),
    )

-- ---- changes and frames of them

change_short : (change : Change) → IsChange change → length (change_spelling change) ≤ 1_580_001
unfolding change_spelling
change_short (Put row) h = omega (arith, row_short row h)
change_short (Take key) h = omega (arith, key_short key h)

changes_short : (changes : List Change) → AllByRecursion IsChange changes → length (flat_map change_spelling changes) ≤ 1_580_001 * length changes
changes_short [] h = omega arith
changes_short (change ∷ changes) h =
    omega (arith, ap length (flat_map-cons change_spelling change changes), length-append (change_spelling change) (flat_map change_spelling changes), change_short change h.0, changes_short changes h.1)

-- the frame of as many changes as a group has operations has a body within the limit
pub change_body_short : (range next_tick : ℕ) (changes : List Change) → length changes ≤ 100 → AllByRecursion IsChange changes → IsShort (body (frames.Change range next_tick changes))
unfolding body
change_body_short range next_tick changes few each =
    omega (
      arith,
      changes_short changes each,
      length-append (to_be_bytes w64 range) (to_be_bytes w64 next_tick ++ (to_be_bytes w16 (length changes) ++ flat_map change_spelling changes)),
      length-append (to_be_bytes w64 next_tick) (to_be_bytes w16 (length changes) ++ flat_map change_spelling changes),
      length-append (to_be_bytes w16 (length changes)) (flat_map change_spelling changes),
    )

pub rows_body_long : (range : ℕ) (rows : List RowView) → length (body (frames.Rows range rows)) ≡ 12 + length (flat_map row_spelling rows)
unfolding body
rows_body_long range rows =
    omega (arith, length-append (to_be_bytes w64 range) (to_be_bytes w32 (length rows) ++ flat_map row_spelling rows), length-append (to_be_bytes w32 (length rows)) (flat_map row_spelling rows))

pub rows_longer : (rows : List RowView) (row : RowView) → length (flat_map row_spelling (rows ++ row ∷ [])) ≡ length (flat_map row_spelling rows) + length (row_spelling row)
rows_longer rows row =
    omega (arith, ap length (flat_map-append row_spelling rows (row ∷ [])), length-append (flat_map row_spelling rows) (flat_map row_spelling (row ∷ [])), ap length (flat_map-cons row_spelling row []), length-append (row_spelling row) [])

-- ---- bounds

bound_short : (bound : Bound) → IsBound bound → length (bound_spelling bound) ≤ 3085
unfolding bound_spelling
bound_short (At table pk) h = omega (arith, length-append (to_be_bytes w64 table) (sized pk), sized_long pk, key_text_short pk h.1)
bound_short End h = omega arith

pub begin_body_short : (range : ℕ) (span : Interval) (next_tick : ℕ) → IsSpan span → IsShort (body (frames.Begin range span next_tick))
unfolding body span_spelling
begin_body_short range span next_tick h =
    omega (
      arith,
      bound_short span.lo h.lo,
      bound_short span.hi h.hi,
      length-append (to_be_bytes w64 range) ((bound_spelling span.lo ++ bound_spelling span.hi) ++ to_be_bytes w64 next_tick),
      length-append (bound_spelling span.lo ++ bound_spelling span.hi) (to_be_bytes w64 next_tick),
      length-append (bound_spelling span.lo) (bound_spelling span.hi),
    )

pub whole_body_short : (range next_tick : ℕ) → IsShort (body (frames.Whole range next_tick))
unfolding body
whole_body_short range next_tick = omega (arith, length-append (to_be_bytes w64 range) (to_be_bytes w64 next_tick))
