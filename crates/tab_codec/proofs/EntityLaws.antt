-- Values and properties as fields.
use Rattle.std.proofs.Common.{◌≡◌, ℕ, zero, suc, ◌+◌, ◌*◌, ◌^◌, ◌<◌, Bool, true, false, cond, ◌&&◌, List, [], ◌∷◌, length, refl, sym, ap, subst, arith, lit<}
use Rattle.std.specs.Prelude.{ℤ, FitsSigned, All, nat_le, ◌==◌}
use Rattle.std.specs.Int.{w32, w64, to_be_bytes, cast_signed, cast_unsigned}
use Rattle.std.specs.Str.{is_utf8}
use Rattle.std.proofs.lemmas.Bool.Decides.{nat_tests}
use Rattle.std.proofs.lemmas.Int.{ints, to_z-of_z, of_z-to_z}
use Rattle.tab_edm.specs.Texts.{unit_count}
use Rattle.tab_edm.specs.Values.{is_small, value_size}
use Rattle.tab_edm.specs.declared.values.Value.{Value}
use Rattle.tab_edm.specs.declared.values.Value.TheVariants.{Text, Flag, Int32, Int64, Moment, Guid, Bytes}
use Rattle.tab_edm.specs.declared.values.Property.{Property}
use Rattle.tab_edm.specs.declared.TheConstants.{GREATEST}
use Rattle.tab_codec.specs.Spelling.{sized, value_spelling, property_spelling}
use Rattle.tab_codec.specs.Reading.{Counted, name_rises, is_property_name, value_of, value_within, value_at, property_name_at, property_at}
use Rattle.tab_codec.proofs.FieldLaws.{IsField, bind_field, last_field, allowing_field, same_field, field32, field64, sized_field, raw_field, raw_sized_field}
use Rattle.tab_codec.proofs.KeyLaws.{case_field}

-- ---- the parts of a value

text_of : Value → List ℕ
text_of (Text text) = text
text_of _ = []

flag_of : Value → ℕ
flag_of (Flag flag) = cond flag 1 0
flag_of _ = 0

int32_of : Value → ℕ
int32_of (Int32 number) = cast_unsigned w32 number
int32_of _ = 0

int64_of : Value → ℕ
int64_of (Int64 number) = cast_unsigned w64 number
int64_of _ = 0

tick_of : Value → ℕ
tick_of (Moment tick) = tick
tick_of _ = 0

guid_of : Value → List ℕ
guid_of (Guid bytes) = bytes
guid_of _ = []

bytes_of : Value → List ℕ
bytes_of (Bytes bytes) = bytes
bytes_of _ = []

abbrev type_of : Value → ℕ
type_of (Text text) = 1
type_of (Flag flag) = 2
type_of (Int32 number) = 3
type_of (Int64 number) = 4
type_of (Moment tick) = 5
type_of (Guid bytes) = 6
type_of (Bytes bytes) = 7

-- what stands behind the byte of the type
abbrev behind_type : Value → List ℕ
behind_type (Text text) = sized text
behind_type (Flag flag) = cond flag 1 0 ∷ []
behind_type (Int32 number) = to_be_bytes w32 (cast_unsigned w32 number)
behind_type (Int64 number) = to_be_bytes w64 (cast_unsigned w64 number)
behind_type (Moment tick) = to_be_bytes w64 tick
behind_type (Guid bytes) = bytes
behind_type (Bytes bytes) = sized bytes

abbrev IsCase : ℕ → ℕ → ℕ → Type 0
IsCase least most which = (which < 2 ^ 8) × ((nat_le least which && nat_le which most) ≡ true)

-- the value is made of its part, which fits
abbrev FitsType : ℕ → Value → Type 0
FitsType (suc zero) v = ((length (text_of v) < 2 ^ 32) × (is_utf8 (text_of v) ≡ true)) × (Text (text_of v) ≡ v)
FitsType (suc (suc zero)) v = IsCase 0 1 (flag_of v) × (Flag (flag_of v == 1) ≡ v)
FitsType (suc (suc (suc zero))) v = (int32_of v < 2 ^ 32) × (Int32 (cast_signed w32 (int32_of v)) ≡ v)
FitsType (suc (suc (suc (suc zero)))) v = (int64_of v < 2 ^ 64) × (Int64 (cast_signed w64 (int64_of v)) ≡ v)
FitsType (suc (suc (suc (suc (suc zero))))) v = ((tick_of v < 2 ^ 64) × (nat_le (tick_of v) GREATEST ≡ true)) × (Moment (tick_of v) ≡ v)
FitsType (suc (suc (suc (suc (suc (suc zero)))))) v = ((length (guid_of v) ≡ 16) × All (λ b. b < 256) (guid_of v)) × (Guid (guid_of v) ≡ v)
FitsType _ v = ((length (bytes_of v) < 2 ^ 32) × All (λ b. b < 256) (bytes_of v)) × (Bytes (bytes_of v) ≡ v)

flag_back : (b : ℕ) → IsCase 0 1 b → cond (b == 1) 1 0 ≡ b
flag_back b h = grind (arith, nat_tests)

above_seven : (n : ℕ) → IsCase 1 7 (suc (suc (suc (suc (suc (suc (suc (suc n)))))))) → ⊥
above_seven n h = grind (arith, nat_tests)

is_of_type : (k : ℕ) → IsCase 1 7 k → IsField (value_of k) behind_type (λ v. FitsType k v × (type_of v ≡ k))
unfolding value_of text_of flag_of int32_of int64_of tick_of guid_of bytes_of
is_of_type zero h = absurd cc
is_of_type (suc zero) h = same_field (last_field (λ t. Text t) text_of (λ _ _. refl) (allowing_field is_utf8 sized_field))
    (λ v f. (subst (λ w. sized (text_of w) ≡ behind_type w) f.1 refl, (f, ap type_of (sym f.1)))) (λ v f. f.0)
is_of_type (suc (suc zero)) h = same_field (last_field (λ b. Flag (b == 1)) flag_of flag_back (case_field 0 1))
    (λ v f. (subst (λ w. flag_of w ∷ [] ≡ behind_type w) f.1 refl, (f, ap type_of (sym f.1)))) (λ v f. f.0)
is_of_type (suc (suc (suc zero))) h = same_field (last_field (λ n. Int32 (cast_signed w32 n)) int32_of (λ n lt. of_z-to_z w32 n lt) field32)
    (λ v f. (subst (λ w. to_be_bytes w32 (int32_of w) ≡ behind_type w) f.1 refl, (f, ap type_of (sym f.1)))) (λ v f. f.0)
is_of_type (suc (suc (suc (suc zero)))) h = same_field (last_field (λ n. Int64 (cast_signed w64 n)) int64_of (λ n lt. of_z-to_z w64 n lt) field64)
    (λ v f. (subst (λ w. to_be_bytes w64 (int64_of w) ≡ behind_type w) f.1 refl, (f, ap type_of (sym f.1)))) (λ v f. f.0)
is_of_type (suc (suc (suc (suc (suc zero))))) h = same_field (last_field (λ n. Moment n) tick_of (λ _ _. refl) (allowing_field (λ tick. nat_le tick GREATEST) field64))
    (λ v f. (subst (λ w. to_be_bytes w64 (tick_of w) ≡ behind_type w) f.1 refl, (f, ap type_of (sym f.1)))) (λ v f. f.0)
is_of_type (suc (suc (suc (suc (suc (suc zero)))))) h = same_field (last_field (λ b. Guid b) guid_of (λ _ _. refl) (raw_field 16))
    (λ v f. (subst (λ w. guid_of w ≡ behind_type w) f.1 refl, (f, ap type_of (sym f.1)))) (λ v f. f.0)
is_of_type (suc (suc (suc (suc (suc (suc (suc zero))))))) h = same_field (last_field (λ b. Bytes b) bytes_of (λ _ _. refl) raw_sized_field)
    (λ v f. (subst (λ w. sized (bytes_of w) ≡ behind_type w) f.1 refl, (f, ap type_of (sym f.1)))) (λ v f. f.0)
is_of_type (suc (suc (suc (suc (suc (suc (suc (suc n)))))))) h = absurd (above_seven n h)

-- ---- values

-- what the types keep of values, and the lengths that four bytes hold
abbrev pub IsTyped : Value → Type 0
IsTyped (Text text) = (length text < 2 ^ 32) × (is_utf8 text ≡ true)
IsTyped (Flag flag) = Unit {0}
IsTyped (Int32 number) = FitsSigned w32 number
IsTyped (Int64 number) = FitsSigned w64 number
IsTyped (Moment tick) = (tick < 2 ^ 64) × (nat_le tick GREATEST ≡ true)
IsTyped (Guid bytes) = (length bytes ≡ 16) × All (λ b. b < 256) bytes
IsTyped (Bytes bytes) = (length bytes < 2 ^ 32) × All (λ b. b < 256) bytes

abbrev pub is_within : ℕ → Value → Bool
is_within size v = is_small v && nat_le (size + value_size v) 1_048_576

pub record IsWithin (size : ℕ) (v : Value) : Type 0 where
  pub typed : IsTyped v
  pub within : is_within size v ≡ true

signed32 : (n : ℕ) (z : ℤ) → n < 2 ^ 32 → cast_signed w32 n ≡ z → FitsSigned w32 z
signed32 n z lt e = subst (λ (y : ℤ). FitsSigned w32 y) e (omega (arith, ints))

signed64 : (n : ℕ) (z : ℤ) → n < 2 ^ 64 → cast_signed w64 n ≡ z → FitsSigned w64 z
signed64 n z lt e = subst (λ (y : ℤ). FitsSigned w64 y) e (omega (arith, ints))

flag_fits : (b : Bool) → IsCase 0 1 (cond b 1 0) × (Flag (cond b 1 0 == 1) ≡ Flag b)
flag_fits true = ((lit< tt, refl), refl)
flag_fits false = ((lit< tt, refl), refl)

to_typed : (v : Value) → FitsType (type_of v) v → (type_of v ∷ behind_type v ≡ value_spelling v) × IsTyped v
unfolding value_spelling text_of flag_of int32_of int64_of tick_of guid_of bytes_of
to_typed (Text text) h = (refl, h.0)
to_typed (Flag flag) h = (refl, tt)
to_typed (Int32 number) h = (refl, signed32 (cast_unsigned w32 number) number h.0 (cc))
to_typed (Int64 number) h = (refl, signed64 (cast_unsigned w64 number) number h.0 (cc))
to_typed (Moment tick) h = (refl, h.0)
to_typed (Guid bytes) h = (refl, h.0)
to_typed (Bytes bytes) h = (refl, h.0)

from_typed : (v : Value) → IsTyped v → IsCase 1 7 (type_of v) × FitsType (type_of v) v
unfolding text_of flag_of int32_of int64_of tick_of guid_of bytes_of
from_typed (Text text) h = ((lit< tt, refl), (h, refl))
from_typed (Flag flag) h = ((lit< tt, refl), flag_fits flag)
from_typed (Int32 number) h = ((lit< tt, refl), (omega (arith, ints), ap (λ z. Int32 z) (to_z-of_z w32 number h)))
from_typed (Int64 number) h = ((lit< tt, refl), (omega (arith, ints), ap (λ z. Int64 z) (to_z-of_z w64 number h)))
from_typed (Moment tick) h = ((lit< tt, refl), (h, refl))
from_typed (Guid bytes) h = ((lit< tt, refl), (h, refl))
from_typed (Bytes bytes) h = ((lit< tt, refl), (h, refl))

pub value_field : (size : ℕ) → IsField (value_at size) value_spelling (IsWithin size)
unfolding value_at value_within
value_field size = same_field
    (bind_field type_of (case_field 1 7) (λ k h. allowing_field (is_within size) (is_of_type k h)) (λ k v h. h.0.1))
    (λ v h. let t = to_typed v h.1.0.0 in (t.0, record { typed = t.1; within = h.1.1 }))
    (λ v h. let t = from_typed v h.typed in (t.0, ((t.1, refl), h.within)))

-- ---- properties

-- a property that may come next in an entity
pub record IsNext (counted : Counted) (p : Property) : Type 0 where
  pub short : length p.name < 2 ^ 32
  pub utf8 : is_utf8 p.name ≡ true
  pub named : is_property_name p.name ≡ true
  pub rises : name_rises counted.name p.name ≡ true
  pub value : IsWithin (counted.size + (8 + 2 * unit_count p.name)) p.value

pub property_field : (counted : Counted) → IsField (property_at counted) property_spelling (IsNext counted)
unfolding property_at property_name_at property_spelling
property_field counted = same_field
    (bind_field (λ (p : Property). p.name) (allowing_field (name_rises counted.name) (allowing_field is_property_name (allowing_field is_utf8 sized_field)))
    (λ name _. last_field (λ v. record { name = name; value = v }) (λ (p : Property). p.value) (λ _ _. refl) (value_field (counted.size + (8 + 2 * unit_count name))))
    (λ name p h. sym (ap (λ (q : Property). q.name) h.1)))
    (λ p h. (refl, record { short = h.0.0.0.0; utf8 = h.0.0.0.1; named = h.0.0.1; rises = h.0.1; value = h.1.0 }))
    (λ p h. ((((h.short, h.utf8), h.named), h.rises), (h.value, refl)))
