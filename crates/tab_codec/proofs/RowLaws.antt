-- Entities, rows and changes as fields.
use Rattle.std.proofs.Common.{◌≡◌, ℕ, zero, suc, ◌+◌, ◌*◌, ◌^◌, ◌<◌, ◌≤◌, Bool, true, false, cond, ltb, ◌&&◌, List, [], ◌∷◌, length, Option, Some, None, refl, sym, ap, subst, arith, lit<}
use Rattle.std.specs.Prelude.{All, IsFalse, IsUtf8, nat_le, sum_by}
use Rattle.std.specs.List.{AllByRecursion}
use Rattle.std.specs.Option.{option_map, option_or}
use Rattle.std.proofs.lemmas.Bool.Decides.{nat_tests}
use Rattle.std.proofs.lemmas.List.Elements.{recursion_from_All, All-from_recursion}
use Rattle.std.proofs.lemmas.List.Sums.{sum_by-cons}
use Rattle.std.proofs.lemmas.Str.{IsUtf8-from_is_utf8, is_utf8-from_IsUtf8}
use Rattle.tab_keys.specs.KeyTexts.{units_of}
use Rattle.tab_keys.specs.declared.keys.Key.{Key}
use Rattle.tab_edm.specs.Texts.{unit_count, char_count}
use Rattle.tab_edm.specs.Values.{is_valid_name, is_reserved, is_small, value_size, property_size, IsInTime, IsValue, IsProperty}
use Rattle.tab_edm.specs.Entities.{EntityView, IsEntity, IsRising, property_refusal, first_refusal, entity_size, entity_refusal}
use Rattle.tab_edm.specs.declared.values.Value.{Value}
use Rattle.tab_edm.specs.declared.values.Value.TheVariants.{Text, Flag, Int32, Int64, Moment, Guid, Bytes}
use Rattle.tab_edm.specs.declared.values.Property.{Property}
use Rattle.tab_edm.specs.declared.TheConstants.{GREATEST}
use Rattle.tab_rows.specs.Rows.{RowView, IsKept}
use Rattle.tab_rows.specs.declared.changes.Change.{Change}
use Rattle.tab_rows.specs.declared.changes.Change.TheVariants.{Put, Take}
use Rattle.tab_codec.specs.Spelling.{properties_spelling, key_spelling, row_spelling, change_spelling}
use Rattle.tab_keys.specs.Keys.{IsKey}
use Rattle.tab_codec.specs.Frames.{IsChange}
use Rattle.tab_codec.specs.Reading.{Counted, name_rises, is_property_name, count_on, entity_at, key_rises, row_at, change_of, change_at}
use Rattle.tab_codec.proofs.FieldLaws.{IsField, FitsAll, bind_field, last_field, allowing_field, same_field, variant_field, items_field, field16, field64}
use Rattle.tab_codec.proofs.KeyLaws.{IsKeyAbove, key_field, case_field, few_units, bytes_at_most}
use Rattle.tab_codec.proofs.EntityLaws.{IsTyped, IsWithin, IsNext, property_field}
use Rattle.tab_codec.proofs.TextLaws.{short_name}
use Rattle.tab_codec.proofs.EntityFacts.{make_entity, each}

-- ---- what the types keep of properties, from what was read and back

value_of : (v : Value) → IsTyped v → IsValue v
value_of (Text t) h = IsUtf8-from_is_utf8 t h.1
value_of (Flag b) h = tt
value_of (Int32 n) h = h
value_of (Int64 n) h = h
value_of (Moment tick) h = h.0
value_of (Guid bytes) h = h
value_of (Bytes bytes) h = h.1

property_of : (c : Counted) (p : Property) → IsNext c p → IsProperty p
property_of c p h = record { name = IsUtf8-from_is_utf8 p.name h.utf8; value = value_of p.value h.value.typed }

units_long : (text : List ℕ) → IsUtf8 text → length text ≤ 3 * unit_count text
unfolding unit_count
units_long text utf8 = bytes_at_most text utf8

le_test : (a b : ℕ) → a ≤ b → nat_le a b ≡ true
le_test a b h = grind (arith, nat_tests)

le_from : (a b : ℕ) → nat_le a b ≡ true → a ≤ b
le_from a b e = grind (arith, nat_tests)

typed_of : (v : Value) → IsValue v → IsInTime v → is_small v ≡ true → IsTyped v
unfolding is_small
typed_of (Text t) h time small =
    let few : unit_count t ≤ 32_768 = le_from (unit_count t) 32_768 small in
    (omega (arith, units_long t h), is_utf8-from_IsUtf8 t h)
typed_of (Flag b) h time small = tt
typed_of (Int32 n) h time small = h
typed_of (Int64 n) h time small = h
typed_of (Moment tick) h time small = (h, le_test tick GREATEST time)
typed_of (Guid bytes) h time small = h
typed_of (Bytes bytes) h time small =
    let few : length bytes ≤ 65_536 = le_from (length bytes) 65_536 small in
    (omega arith, h)

-- a property that breaks no limit
record IsSound (p : Property) : Type 0 where
  valid : is_valid_name p.name ≡ true
  short : char_count p.name ≤ 255
  small : is_small p.value ≡ true

passed : {R : Type 0} (valid long small : Bool) (a b c : R) → cond valid (cond long (Some b) (cond small None (Some c))) (Some a) ≡ None → (valid ≡ true) × (long ≡ false) × (small ≡ true)
passed true true small a b c e = absurd cc
passed true false true a b c e = (refl, refl, refl)
passed true false false a b c e = absurd cc
passed false long small a b c e = absurd cc

not_long : (n : ℕ) → ltb 255 n ≡ false → n ≤ 255
not_long n e = grind (arith, nat_tests)

sound : (p : Property) → property_refusal p ≡ None → IsSound p
unfolding property_refusal
sound p e =
    let h = passed (is_valid_name p.name) (ltb 255 (char_count p.name)) (is_small p.value) _ _ _ e in
    record { valid = h.0; short = not_long (char_count p.name) h.1; small = h.2 }

none_first : {A : Type 0} (x y : Option A) → option_or x y ≡ None → x ≡ None
none_first None y e = refl
none_first (Some x) y e = absurd cc

none_then : {A : Type 0} (x y : Option A) → option_or x y ≡ None → y ≡ None
none_then None y e = e
none_then (Some x) y e = absurd cc

is_name : (name : List ℕ) → is_valid_name name ≡ true → char_count name ≤ 255 → IsFalse (is_reserved name) → is_property_name name ≡ true
is_name name valid short free = rw (valid, le_test (char_count name) 255 short, free) refl

within_of : (size : ℕ) (v : Value) → IsTyped v → is_small v ≡ true → size + value_size v ≤ 1_048_576 → IsWithin size v
within_of size v typed small le = record { typed = typed; within = rw (small, le_test (size + value_size v) 1_048_576 le) refl }

tail_rising : (p : Property) (ps : List Property) → IsRising (p ∷ ps) → IsRising ps
tail_rising p ps h = λ i j d low lt. h (suc i) (suc j) d (omega arith) (omega arith)

-- what the first property after a name owes to the order
abbrev Rises : Option (List ℕ) → List Property → Type 0
Rises before [] = Unit {0}
Rises before (p ∷ ps) = name_rises before p.name ≡ true

rises_on : (p : Property) (ps : List Property) → IsRising (p ∷ ps) → Rises (Some p.name) ps
rises_on p [] h = tt
rises_on p (q ∷ qs) h = h 0 1 q (omega arith) (omega arith)

next_one : (c : Counted) (p : Property) → IsSound p → IsProperty p → IsFalse (is_reserved p.name) → IsInTime p.value → name_rises c.name p.name ≡ true → c.size + property_size p ≤ 1_048_576 → IsNext c p
unfolding property_size
next_one c p s h free time rises le =
    let named = is_name p.name s.valid s.short free in
    record {
      short = omega (arith, units_long p.name h.name, short_name p.name named);
      utf8 = is_utf8-from_IsUtf8 p.name h.name;
      named = named;
      rises = rises;
      value = within_of (c.size + (8 + 2 * unit_count p.name)) p.value (typed_of p.value h.value time s.small) s.small (omega arith);
    }

next_properties : (c : Counted) (ps : List Property) → Rises c.name ps → IsRising ps → AllByRecursion IsProperty ps → AllByRecursion (λ p. IsFalse (is_reserved p.name)) ps → AllByRecursion (λ p. IsInTime p.value) ps
    → first_refusal ps ≡ None → c.size + sum_by property_size ps ≤ 1_048_576 → FitsAll count_on IsNext c ps
unfolding first_refusal count_on
next_properties c [] r rising h free time none le = tt
next_properties c (p ∷ ps) r rising h free time none le =
    let sum = sum_by-cons property_size p ps in
    let one = next_one c p (sound p (none_first _ _ none)) h.0 free.0 time.0 r (omega (arith, sum)) in
    (one, next_properties (count_on c p) ps (rises_on p ps rising) (tail_rising p ps rising) h.1 free.1 time.1 (none_then _ _ none) (omega (arith, sum)))

-- ---- entities

-- an entity that was made for keys of so many units
pub record IsMade (pk rk : ℕ) (e : EntityView) : Type 0 where
  pub pk_units : e.pk_units ≡ pk
  pub rk_units : e.rk_units ≡ rk
  pub entity : IsEntity e.pk_units e.rk_units e.properties
  pub properties : All IsProperty e.properties

record IsWithinLimits (pk_units rk_units : ℕ) (ps : List Property) : Type 0 where
  refusals : first_refusal ps ≡ None
  few : length ps ≤ 252
  small : entity_size pk_units rk_units ps ≤ 1_048_576

limits_kept : {R : Type 0} (many large : Bool) (a b : R) → cond many (Some a) (cond large (Some b) None) ≡ None → (many ≡ false) × (large ≡ false)
limits_kept true large a b e = absurd cc
limits_kept false true a b e = absurd cc
limits_kept false false a b e = (refl, refl)

not_above : (limit n : ℕ) → ltb limit n ≡ false → n ≤ limit
not_above limit n e = grind (arith, nat_tests)

limits_of : (pk_units rk_units : ℕ) (ps : List Property) → entity_refusal pk_units rk_units ps ≡ None → IsWithinLimits pk_units rk_units ps
unfolding entity_refusal
limits_of pk_units rk_units ps e =
    let k = limits_kept (ltb 252 (length ps)) (ltb 1_048_576 (entity_size pk_units rk_units ps)) _ _ (none_then _ _ e) in
    record { refusals = none_first _ _ e; few = not_above 252 (length ps) k.0; small = not_above 1_048_576 (entity_size pk_units rk_units ps) k.1 }

-- an entity has few properties
pub few_properties : (pk_units rk_units : ℕ) (ps : List Property) → IsEntity pk_units rk_units ps → length ps ≤ 252
few_properties pk_units rk_units ps h = (limits_of pk_units rk_units ps h.allowed).few

entity_next : (pk_units rk_units : ℕ) (ps : List Property) → IsEntity pk_units rk_units ps → All IsProperty ps → (length ps ≤ 252) × FitsAll count_on IsNext (record { name = None; size = 4 + 2 * (pk_units + rk_units) }) ps
unfolding entity_size
entity_next pk_units rk_units ps h typed =
    let limits = limits_of pk_units rk_units ps h.allowed in
    let first : Rises None ps = elim ps as (λ xs. Rises None xs) [ [] ↦ tt | x ∷ xs ↦ refl ] in
    (limits.few, next_properties (record { name = None; size = 4 + 2 * (pk_units + rk_units) }) ps first h.rising (recursion_from_All IsProperty ps typed) (recursion_from_All _ ps h.unreserved) (recursion_from_All _ ps h.in_time) limits.refusals limits.small)

pub entity_field : (pk_units rk_units : ℕ) → pk_units ≤ 1024 → rk_units ≤ 1024 → IsField (entity_at pk_units rk_units) (λ e. properties_spelling e.properties) (IsMade pk_units rk_units)
unfolding entity_at properties_spelling
entity_field pk_units rk_units pk rk =
    let none : Counted = record { name = None; size = 4 + 2 * (pk_units + rk_units) } in
    same_field
    (bind_field (λ (e : EntityView). length e.properties) (allowing_field (λ n. nat_le n 252) field16)
    (λ n _. last_field (λ ps. record { properties = ps; pk_units = pk_units; rk_units = rk_units }) (λ (e : EntityView). e.properties) (λ _ _. refl) (items_field count_on property_field none n))
    (λ n e h. h.0.0))
    (λ e h.
    let few = le_from (length e.properties) 252 h.0.1 in
    let m = make_entity pk_units rk_units e.properties pk rk few h.1.0.1 in
    let pk_same : pk_units ≡ e.pk_units = ap (λ (f : EntityView). f.pk_units) h.1.1 in
    let rk_same : rk_units ≡ e.rk_units = ap (λ (f : EntityView). f.rk_units) h.1.1 in
    let entity : IsEntity pk_units rk_units e.properties = record { rising = m.rising; unreserved = m.unreserved; in_time = m.in_time; allowed = m.allowed } in (
      refl,
      record {
        pk_units = sym pk_same;
        rk_units = sym rk_same;
        entity = subst (λ n. IsEntity e.pk_units n e.properties) rk_same (subst (λ n. IsEntity n rk_units e.properties) pk_same entity);
        properties = All-from_recursion IsProperty e.properties (each IsProperty none e.properties property_of h.1.0.1);
      },
    ))
    (λ e h.
    let n = entity_next pk_units rk_units e.properties (subst (λ n. IsEntity pk_units n e.properties) h.rk_units (subst (λ n. IsEntity n e.rk_units e.properties) h.pk_units h.entity)) h.properties in
    ((omega (arith, n.0), le_test (length e.properties) 252 n.0), ((refl, n.1), rw (← h.pk_units, ← h.rk_units) refl)))

-- ---- rows and changes

-- a row above the one before, where there is one
pub record IsRowAbove (before : Option RowView) (r : RowView) : Type 0 where
  pub row : IsKept r
  pub above : key_rises (option_map (λ (b : RowView). b.key) before) r.key ≡ true

pub row_field : (before : Option RowView) → IsField (row_at before) row_spelling (IsRowAbove before)
unfolding row_at row_spelling
row_field before = same_field
    (bind_field (λ (r : RowView). r.key) (key_field (option_map (λ (b : RowView). b.key) before))
    (λ key k. bind_field (λ (r : RowView). r.tick) (allowing_field (λ tick. nat_le tick GREATEST) field64)
    (λ tick _. last_field (λ e. record { key = key; entity = e; tick = tick }) (λ (r : RowView). r.entity) (λ _ _. refl)
    (entity_field (length (units_of key.pk)) (length (units_of key.rk)) (few_units key.pk k.key.pk) (few_units key.rk k.key.rk)))
    (λ tick r h. sym (ap (λ (q : RowView). q.tick) h.1)))
    (λ key r h. sym (ap (λ (q : RowView). q.key) h.1.1)))
    (λ r h. (
      refl,
      record {
        row = record {
          key = h.0.key;
          row = record { in_time = le_from r.tick GREATEST h.1.0.1; pk_units = h.1.1.0.pk_units; rk_units = h.1.1.0.rk_units };
          entity = h.1.1.0.entity;
          properties = h.1.1.0.properties;
        };
        above = h.0.above;
      },
    ))
    (λ r h. (
      record { key = h.row.key; above = h.above },
      (
        (omega (arith, h.row.row.in_time), le_test r.tick GREATEST h.row.row.in_time),
        (record { pk_units = h.row.row.pk_units; rk_units = h.row.row.rk_units; entity = h.row.entity; properties = h.row.properties }, refl),
      ),
    ))

which_of : Change → ℕ
which_of (Take key) = 0
which_of (Put row) = 1

abbrev behind : Change → List ℕ
behind (Take key) = key_spelling key
behind (Put row) = row_spelling row

abbrev IsBehind : ℕ → Change → Type 0
IsBehind zero (Take key) = IsKey key
IsBehind zero (Put row) = ⊥
IsBehind (suc n) (Take key) = ⊥
IsBehind (suc n) (Put row) = IsKept row × (n ≡ 0)

taken : (c : Change) → IsBehind 0 c → (key : Key) × (Take key ≡ c) × IsKeyAbove None key
taken (Take key) h = (key, refl, record { key = h; above = refl })
taken (Put row) h = absurd h

put : (n : ℕ) (c : Change) → IsBehind (suc n) c → (row : RowView) × (Put row ≡ c) × IsRowAbove None row
put n (Take key) h = absurd h
put n (Put row) h = (row, refl, record { row = h.0; above = refl })

at_most_one : (n : ℕ) → (nat_le 0 (suc n) && nat_le (suc n) 1) ≡ true → n ≡ 0
at_most_one n e = grind (arith, nat_tests)

behind_field : (which : ℕ) → (which < 2 ^ 8) × ((nat_le 0 which && nat_le which 1) ≡ true) → IsField (change_of which) behind (IsBehind which)
unfolding change_of
behind_field zero h = variant_field (λ key. Take key) behind (IsBehind 0) (key_field None) (λ key. refl) (λ key k. k.key) taken
behind_field (suc n) h = variant_field (λ row. Put row) behind (IsBehind (suc n)) (row_field None) (λ row. refl) (λ row k. (k.row, at_most_one n h.1)) (put n)

which_is : (which : ℕ) (c : Change) → IsBehind which c → which_of c ≡ which
unfolding which_of
which_is zero (Take key) h = refl
which_is zero (Put row) h = absurd h
which_is (suc n) (Take key) h = absurd h
which_is (suc n) (Put row) h = ap suc (sym h.1)

abbrev IsCase : ℕ → Type 0
IsCase which = (which < 2 ^ 8) × ((nat_le 0 which && nat_le which 1) ≡ true)

from_behind : (c : Change) → IsCase (which_of c) × IsBehind (which_of c) c → (which_of c ∷ behind c ≡ change_spelling c) × IsChange c
unfolding change_spelling which_of
from_behind (Take key) h = (refl, h.1)
from_behind (Put row) h = (refl, h.1.0)

to_behind : (c : Change) → IsChange c → IsCase (which_of c) × IsBehind (which_of c) c
unfolding which_of
to_behind (Take key) h = ((lit< tt, refl), h)
to_behind (Put row) h = ((lit< tt, refl), (h, refl))

pub change_field : IsField change_at change_spelling IsChange
unfolding change_at
change_field = same_field (bind_field which_of (case_field 0 1) behind_field which_is) from_behind to_behind
