-- The JSON value of a property's value is read as this value again.
use Rattle.std.proofs.Common.{◌≡◌, ℕ, suc, ◌^◌, ◌<◌, ◌≤◌, ℤ, pos, negsuc, inl, inr, List, [], ◌∷◌, length, false, All, Some, decimal, refl, sym, ap, ◌∙◌, arith, codes, FitsSigned, w32, w64}
use Rattle.std.specs.Prelude.{option_map, option_and_then, slice_index}
use Rattle.std.specs.Fmt.{signed_decimal}
use Rattle.std.specs.Str.Parse.{AllDigits, digits_value, signed_digits_value}
use Rattle.std.specs.Result.{result_ok}
use Rattle.std.proofs.lemmas.Bool.{lt-ltb, ne_eqb, cases_lt}
use Rattle.std.proofs.lemmas.Fmt.{decimal_is_IsNumeral, IsAscii-decimal}
use Rattle.std.proofs.lemmas.List.{get_or_past}
use Rattle.std.proofs.lemmas.Slice.Eq.{bytes_eq-Decides}
use Rattle.std.proofs.lemmas.Str.{IsUtf8-from_ascii}
use Rattle.std.proofs.lemmas.Str.Parse.{digit_from_value}
use Rattle.base64.specs.GeneralPurpose.{IsBytes, encode_of, decoded_of}
use Rattle.base64.specs.Engines.{standard}
use Rattle.base64.proofs.EngineFacts.{decode_of_iff, IsAscii-encode_of}
use Rattle.itoa.proofs.Decimal.{IsAscii-signed_decimal}
use Rattle.json.proofs.Printed.Decimals.{IsNumber-decimal, IsNumber-signed_decimal}
use Rattle.serde_json.specs.Data.{number, string}
use Rattle.serde_json.specs.Find.{of_integer}
use Rattle.serde_json.proofs.Numbers.{number_of-decimal, number_of-negative}
use Rattle.uuid.specs.Text.{lower, hyphenated_text}
use Rattle.uuid.proofs.RoundTrips.{parses_hyphenated}
use Rattle.uuid.proofs.TextLemmas.{hyphenated_ascii}
use Rattle.tab_edm.specs.Moments.{moment_of, moment_with, text_of_moment}
use Rattle.tab_edm.proofs.MomentLaws.{written_spells}
use Rattle.tab_edm.proofs.MomentFunction.{moment_given}
use Rattle.tab_edm.specs.Values.{IsValue, IsInTime}
use Rattle.tab_edm.specs.declared.TheConstants.{GREATEST}
use Rattle.tab_edm.specs.declared.values.Value.{Value}
use Rattle.tab_edm.specs.declared.values.Value.TheVariants.{Text, Flag, Int32, Int64, Moment, Guid, Bytes}
use Rattle.tab_json.specs.Bodies.{is_null, type_by}
use Rattle.tab_json.specs.Entities.{value_data, annotated_type}
use Rattle.tab_json.specs.Values.{named_type, int32_of, int64_of, value_as}
use Rattle.tab_json.proofs.FlatObjects.{IsAtom}
use Rattle.tab_json.proofs.MomentTexts.{moment_text}
use Rattle.tab_json.proofs.Numbers.{fits_to}

-- ---- numbers

plain_digits : (ds : List ℕ) → AllDigits 10 ds → 0 < length ds → signed_digits_value 10 ds ≡ pos (digits_value 10 ds)
plain_digits [] all some = absurd (omega arith)
plain_digits (c ∷ cs) all some =
    let digit = digit_from_value c all.0 in
    rw (ne_eqb c 45 (λ e. omega (arith, digit, e)), ne_eqb c 43 (λ e. omega (arith, digit, e))) refl

value_of_text : (z : ℤ) → FitsSigned w64 z → signed_digits_value 10 (signed_decimal z) ≡ z
value_of_text (pos n) fits =
    let small : n < 2 ^ 63 = fits.sfits in
    let k = decimal_is_IsNumeral n (omega (arith, small)) in
    plain_digits (decimal n) k.0.1 k.0.0 ∙ ap pos k.1
value_of_text (negsuc n) fits =
    let small : n < 2 ^ 63 = fits.sfits in
    let k = decimal_is_IsNumeral (suc n) (omega (arith, small)) in
    rw k.1 refl

int64_back : (z : ℤ) → FitsSigned w64 z → int64_of (signed_decimal z) ≡ Some z
unfolding int64_of
int64_back z fits = rw (value_of_text z fits, (bytes_eq-Decides (signed_decimal z) (signed_decimal z)).1 refl, fits_to z fits) refl

int32_back : (z : ℤ) → FitsSigned w32 z → int32_of (number (of_integer z)) ≡ Some z
int32_back (pos n) fits =
    let small : n < 2 ^ 31 = fits.sfits in
    let wide : n < 2 ^ 63 = omega (arith, small) in
    rw (lt-ltb n (2 ^ 63) wide, lt-ltb n (2 ^ 31) small) refl
int32_back (negsuc n) fits = rw (lt-ltb n (2 ^ 31) fits.sfits) refl

-- ---- values

bytes_are : (bytes : List ℕ) → All (λ b. b < 256) bytes → IsBytes bytes
bytes_are [] all i = omega arith
bytes_are (b ∷ bytes) all i = by_place i
  where
    by_place : (j : ℕ) → slice_index (b ∷ bytes) j < 256
    by_place j = elim (cases_lt j (length (b ∷ bytes))) [ inl inside ↦ all j 0 inside | inr past ↦ rw (get_or_past (b ∷ bytes) j 0 past) (omega arith) ]

code_bytes : (bytes : List ℕ) → IsBytes (encode_of standard bytes)
code_bytes bytes i = let low = IsAscii-encode_of standard bytes i in omega arith

bytes_back : (bytes : List ℕ) → IsBytes bytes → decoded_of standard (encode_of standard bytes) ≡ Some bytes
unfolding decoded_of
bytes_back bytes are = ap result_ok ((decode_of_iff standard (encode_of standard bytes) bytes (refl, refl) (code_bytes bytes) are).1 refl)

moment_back : (tick : ℕ) → tick ≤ GREATEST → moment_of (text_of_moment tick) ≡ Some tick
unfolding text_of_moment
moment_back tick low = moment_given (moment_with (codes ":") tick) tick (written_spells (codes ":") tick low)

-- with the annotation that minimal metadata has beside it
pub value_back : (v : Value) → IsValue v → IsInTime v → option_and_then (λ t. value_as t (value_data v)) (type_by (option_map string (annotated_type v)) (value_data v)) ≡ Some v
unfolding value_data annotated_type named_type value_as
value_back (Text text) is in_time = refl
value_back (Flag b) is in_time = refl
value_back (Int32 n) is in_time = ap (option_map Int32) (int32_back n is)
value_back (Int64 n) is in_time = ap (option_map Int64) (int64_back n is)
value_back (Moment tick) is in_time = ap (option_map Moment) (moment_back tick in_time)
value_back (Guid bytes) is in_time = ap (option_map Guid) (sym (parses_hyphenated lower bytes (inl refl) is.0 is.1))
value_back (Bytes bytes) is in_time = ap (option_map Bytes) (bytes_back bytes (bytes_are bytes is))

pub value_given : (v : Value) → is_null (value_data v) ≡ false
unfolding value_data
value_given (Text text) = refl
value_given (Flag b) = refl
value_given (Int32 n) = refl
value_given (Int64 n) = refl
value_given (Moment tick) = refl
value_given (Guid bytes) = refl
value_given (Bytes bytes) = refl

-- ---- atoms

int_atom : (z : ℤ) → FitsSigned w32 z → IsAtom (number (of_integer z))
int_atom (pos n) fits =
    let small : n < 2 ^ 31 = fits.sfits in
    let wide : n < 2 ^ 64 = omega (arith, small) in
    (number_of-decimal n wide, IsNumber-decimal n wide, refl, IsUtf8-from_ascii (decimal n) (IsAscii-decimal n wide))
int_atom (negsuc n) fits =
    let small : n < 2 ^ 31 = fits.sfits in
    let wide : n < 2 ^ 63 = omega (arith, small) in
    (number_of-negative n wide, IsNumber-signed_decimal (negsuc n) (omega (arith, small)), refl, IsUtf8-from_ascii (signed_decimal (negsuc n)) (IsAscii-signed_decimal (negsuc n) (record { sfits = wide })))

pub value_atom : (v : Value) → IsValue v → IsAtom (value_data v)
unfolding value_data
value_atom (Text text) is = is
value_atom (Flag b) is = tt
value_atom (Int32 n) is = int_atom n is
value_atom (Int64 n) is = IsUtf8-from_ascii (signed_decimal n) (IsAscii-signed_decimal n is)
value_atom (Moment tick) is = moment_text tick
value_atom (Guid bytes) is = IsUtf8-from_ascii (hyphenated_text lower bytes) (hyphenated_ascii lower bytes (inl refl))
value_atom (Bytes bytes) is = IsUtf8-from_ascii (encode_of standard bytes) (IsAscii-encode_of standard bytes)
