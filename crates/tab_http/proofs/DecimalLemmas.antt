-- Decimal digits with no sign and no leading zero spell each number once.
use Rattle.std.proofs.Common.{◌≡◌, ◌≢◌, ℕ, zero, suc, ◌^◌, ◌<◌, ◌≤◌, List, ◌∷◌, length, get_or, Result, Ok, Err, refl, ap, arith, sym, ◌∙◌, decimal}
use Rattle.std.specs.Prelude.{Option, Some, None, IfSome, IsNone}
use Rattle.std.specs.Result.{OkIff, result_ok}
use Rattle.std.specs.Str.{IsUtf8}
use Rattle.std.specs.Str.Parse.{AllDigits, digits_value, ParsesUnsigned}
use Rattle.std.proofs.lemmas.Fmt.{decimal_is_IsNumeral, decimal_nonempty, decimal-digits_value, first_decimal, length-decimal-le, parse-decimal, IsAscii-decimal}
use Rattle.std.proofs.lemmas.Bool.{lt-ltb, ltb-true, and_from, and_parts, cond-true, cond-false, false_from_ne_true}
use Rattle.std.proofs.lemmas.Slice.Eq.{bytes_eq-Decides}
use Rattle.std.proofs.lemmas.Str.{IsUtf8-from_ascii}
use Rattle.std.proofs.lemmas.Str.Parse.{IsNumeralModel, numerals_by_value, tells_digits, digit_at, parse_plain}
use Rattle.tab_http.specs.Headers.{decimal_value}

digits : IsNumeralModel (AllDigits 10) (digits_value 10)
digits = numerals_by_value _ tells_digits

-- the first byte is a digit
pub decimal_first : (n : ℕ) → n < 2 ^ 64 → 48 ≤ get_or (decimal n) 0 0
decimal_first n small = (digit_at (decimal n) 0 (decimal_is_IsNumeral n small).0.1 (decimal_nonempty n small)).0

-- only 0 begins with a zero
decimal_zero : (n : ℕ) → n < 2 ^ 64 → get_or (decimal n) 0 0 ≡ 48 → length (decimal n) ≤ 1
decimal_zero zero small is = length-decimal-le 1 0 (omega arith) (omega arith) (omega arith)
decimal_zero (suc n) small is = absurd (omega (arith, first_decimal (suc n) (omega arith) small))

-- no number is spelled by nothing
pub none_spells_none : (bs : List ℕ) → length bs ≡ 0 → (n : ℕ) → n < 2 ^ 64 → bs ≢ decimal n
none_spells_none bs none n small is = omega (arith, decimal_nonempty n small, ap length is)

-- none with a sign
pub sign_spells_none : (bs rest : List ℕ) (first : ℕ) → bs ≡ first ∷ rest → first ≡ 43 → (n : ℕ) → n < 2 ^ 64 → bs ≢ decimal n
sign_spells_none bs rest first parts sign n small is =
    omega (arith, decimal_first n small, ap (λ (l : List ℕ). get_or l 0 0) (sym is), ap (λ (l : List ℕ). get_or l 0 0) parts)

-- none of several digits with a leading zero
pub zero_spells_none : (bs rest : List ℕ) (first : ℕ) → bs ≡ first ∷ rest → first ≡ 48 → 0 < length rest → (n : ℕ) → n < 2 ^ 64 → bs ≢ decimal n
zero_spells_none bs rest first parts naught more n small is =
    let lead : get_or (decimal n) 0 0 ≡ 48 = omega (arith, ap (λ (l : List ℕ). get_or l 0 0) (sym is), ap (λ (l : List ℕ). get_or l 0 0) parts) in
    omega (arith, decimal_zero n small lead, ap length is, ap length parts)

-- none by what is no text
pub decimal_utf8 : (bs : List ℕ) (n : ℕ) → n < 2 ^ 64 → bs ≡ decimal n → IsUtf8 bs
decimal_utf8 bs n small is = rw is (IsUtf8-from_ascii (decimal n) (IsAscii-decimal n small))

-- what `parse` reads is spelled so, where it has no sign and no leading zero
pub parsed_decimal : {E : Type 0} (bs rest : List ℕ) (first : ℕ) (r : Result ℕ E) (number : Option ℕ) → ParsesUnsigned 64 10 bs r → number ≡ result_ok r
    → bs ≡ first ∷ rest → first ≢ 43 → (first ≡ 48 → length rest ≡ 0) → IfSome number (λ n. bs ≡ decimal n)
parsed_decimal {E = E} bs rest first (Ok n) number parses is parts unsigned alone = rw is
    (let at : get_or bs 0 0 ≡ first = ap (λ (l : List ℕ). get_or l 0 0) parts in
    let plain : OkIff {E = E} (Ok n) (AllDigits 10 bs × (0 < length bs) × (digits_value 10 bs < 2 ^ 64)) (digits_value 10 bs) =
    parse_plain digits {E = E} 64 bs (Ok n) parses (λ sign. unsigned (sym at ∙ sign)) in
    let lead : get_or bs 0 0 ≡ 48 → length bs ≡ 1 = λ naught. omega (arith, alone (sym at ∙ naught), ap length parts) in
    rw plain.1 (sym (decimal-digits_value digits bs plain.0.0 plain.0.1 lead plain.0.2)))
parsed_decimal bs rest first (Err e) number parses is parts unsigned alone = rw is tt

-- what it refuses spells no number
pub unparsed_decimal : {E : Type 0} (bs : List ℕ) (r : Result ℕ E) (number : Option ℕ) → ParsesUnsigned 64 10 bs r → number ≡ result_ok r → IsNone number → (n : ℕ) → n < 2 ^ 64 → bs ≢ decimal n
unparsed_decimal bs r number parses is none n small spelled = let read = parse-decimal 64 n bs r small small spelled parses in let never = rw (is, read) at none in cc

-- ---- the number whose decimal the text is

value_found : (bs : List ℕ) (n : ℕ) → n < 2 ^ 64 → bs ≡ decimal n → Some n ≡ decimal_value bs
unfolding decimal_value
value_found bs n small spelled =
    let value : digits_value 10 bs ≡ n = ap (digits_value 10) spelled ∙ (decimal_is_IsNumeral n small).1 in
    let same = (bytes_eq-Decides bs (decimal (digits_value 10 bs))).1 (spelled ∙ ap decimal (sym value)) in
    let below = lt-ltb (digits_value 10 bs) (2 ^ 64) (omega arith) in
    ap Some (sym value) ∙ sym (cond-true _ _ _ (and_from _ _ same below))

value_none : (bs : List ℕ) → ((n : ℕ) → n < 2 ^ 64 → bs ≢ decimal n) → None ≡ decimal_value bs
unfolding decimal_value
value_none bs none =
    sym (cond-false _ _ _ (false_from_ne_true _ (λ passes.
    let parts = and_parts _ _ passes in
    none (digits_value 10 bs) (ltb-true _ _ parts.1) ((bytes_eq-Decides bs _).0 parts.0))))

pub value_read : (bs : List ℕ) (o : Option ℕ) → IfSome o (λ n. n < 2 ^ 64) → IfSome o (λ n. bs ≡ decimal n) → (IsNone o → (n : ℕ) → n < 2 ^ 64 → bs ≢ decimal n) → o ≡ decimal_value bs
value_read bs (Some n) small spelled none = value_found bs n small spelled
value_read bs None small spelled none = value_none bs (none refl)
