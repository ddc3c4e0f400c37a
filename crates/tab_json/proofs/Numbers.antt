-- The numbers of 64 bits are read from just their decimal texts.
use Rattle.std.proofs.Common.{◌≡◌, ◌≢◌, ◌↔◌, ℕ, ◌^◌, ℤ, pos, negsuc, List, Bool, true, false, ◌&&◌, cond, Option, Some, None, Result, Ok, Err, bytes_eq, refl, sym, ap, subst, ◌∙◌, FitsSigned, w64}
use Rattle.std.proofs.lemmas.Bool.{ltb-true, lt-ltb}
use Rattle.std.proofs.lemmas.Fmt.{parse-signed_decimal}
use Rattle.std.proofs.lemmas.Slice.Eq.{bytes_eq-Decides}
use Rattle.std.specs.Fmt.{signed_decimal}
use Rattle.std.specs.Str.Parse.{ParsesSigned, signed_digits_value}
use Rattle.tab_json.proofs.Options.{none_unless}
use Rattle.tab_json.specs.Values.{int64_of, fits_64_bits}

fits_from : (z : ℤ) → fits_64_bits z ≡ true → FitsSigned w64 z
fits_from (pos n) e = record { sfits = ltb-true n (2 ^ 63) e }
fits_from (negsuc n) e = record { sfits = ltb-true n (2 ^ 63) e }

pub fits_to : (z : ℤ) → FitsSigned w64 z → fits_64_bits z ≡ true
fits_to (pos n) f = lt-ltb n (2 ^ 63) f.sfits
fits_to (negsuc n) f = lt-ltb n (2 ^ 63) f.sfits

-- the number that is read has this text
told_by : (v : ℤ) (text : List ℕ) (z : ℤ) (same fits : Bool) → bytes_eq (signed_decimal v) text ≡ same → fits_64_bits v ≡ fits
    → cond (same && fits) (Some v) None ≡ Some z → (text ≡ signed_decimal z) × FitsSigned w64 z
told_by v text z true true s f e =
    let is : v ≡ z = cc in (
      sym ((bytes_eq-Decides (signed_decimal v) text).0 s) ∙ ap signed_decimal is,
      subst (FitsSigned w64) is (fits_from v f),
    )
told_by v text z true false s f e = absurd (cc)
told_by v text z false fits s f e = absurd (cc)

pub int64_told : (text : List ℕ) (z : ℤ) → int64_of text ≡ Some z → (text ≡ signed_decimal z) × FitsSigned w64 z
unfolding int64_of
int64_told text z e = told_by (signed_digits_value 10 text) text z _ _ refl refl e

-- what `parse` gives of a number's text
pub parsed_is : {E : Type 0} (text : List ℕ) (z : ℤ) (r : Result ℤ E) → ParsesSigned w64 10 text r → text ≡ signed_decimal z → FitsSigned w64 z → r ≡ Ok z
parsed_is text z r parses is fits = parse-signed_decimal w64 z text r fits fits.sfits is parses

value_is : {E : Type 0} (text : List ℕ) (z : ℤ) (r : Result ℤ E) → ParsesSigned w64 10 text r → r ≡ Ok z → z ≡ signed_digits_value 10 text
value_is text z (Ok y) parses e = let same : y ≡ z = cc in sym same ∙ parses.1
value_is text z (Err why) parses e = absurd (cc)

given_by : (v : ℤ) (text : List ℕ) (z : ℤ) → z ≡ v → text ≡ signed_decimal z → FitsSigned w64 z → cond (bytes_eq (signed_decimal v) text && fits_64_bits v) (Some v) None ≡ Some z
given_by v text z value is fits =
    let same : bytes_eq (signed_decimal v) text ≡ true = (bytes_eq-Decides (signed_decimal v) text).1 (ap signed_decimal (sym value) ∙ sym is) in
    let in_64 : fits_64_bits v ≡ true = ap fits_64_bits (sym value) ∙ fits_to z fits in
    rw (same, in_64) (ap (λ (n : ℤ). Some n) (sym value))

pub int64_given : {E : Type 0} (text : List ℕ) (z : ℤ) (r : Result ℤ E) → ParsesSigned w64 10 text r → text ≡ signed_decimal z → FitsSigned w64 z → int64_of text ≡ Some z
unfolding int64_of
int64_given text z r parses is fits = given_by (signed_digits_value 10 text) text z (value_is text z r parses (parsed_is text z r parses is fits)) is fits

-- what is no number to `parse`
pub unparsed : {E : Type 0} (text : List ℕ) (why : E) → ParsesSigned w64 10 text (Err why) → None ≡ int64_of text
unparsed {E} text why parses =
    none_unless (int64_of text) (λ z e. let told = int64_told text z e in let not_err : Err why ≡ Ok z = parsed_is {E = E} text z (Err why) parses told.0 told.1 in absurd (cc))

-- a number that is written otherwise
pub written_otherwise : {E : Type 0} (text : List ℕ) (n : ℤ) (r : Result ℤ E) → ParsesSigned w64 10 text r → r ≡ Ok n → signed_decimal n ≢ text → None ≡ int64_of text
written_otherwise text n r parses was differs =
    none_unless (int64_of text)
    (λ z e. let told = int64_told text z e in let same : r ≡ Ok z = parsed_is text z r parses told.0 told.1 in let is : n ≡ z = cc in differs (ap signed_decimal is ∙ sym told.0))

-- both ways, for whatever `parse` gave
pub int64_exact : {E : Type 0} (text : List ℕ) (r : Result ℤ E) (o : Option ℤ) → ParsesSigned w64 10 text r → o ≡ int64_of text → (z : ℤ) → (o ≡ Some z) ↔ ((text ≡ signed_decimal z) × FitsSigned w64 z)
int64_exact text r o parses is z = (λ e. int64_told text z (sym is ∙ e), λ h. is ∙ int64_given text z r parses h.0 h.1)
