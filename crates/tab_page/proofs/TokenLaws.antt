-- A text is read as a key exactly where it is that key's token.
use Rattle.std.proofs.Common.{◌≡◌, ℕ, zero, suc, ◌<◌, ◌≤◌, ◌⊎◌, inl, inr, List, [], ◌∷◌, ◌++◌, Bool, true, false, cond, ◌&&◌, ◌==◌, Option, Some, None, Result, Ok, Err, refl, sym, ap, subst, ◌∙◌, arith, lit<, codes}
use Rattle.std.specs.Prelude.{IsUtf8}
use Rattle.std.specs.Option.{option_and_then}
use Rattle.std.specs.Result.{result_ok}
use Rattle.std.specs.Str.{is_utf8}
use Rattle.std.proofs.Math.Utf8.{scalar, scalars, scalar_cases, encode, encodes}
use Rattle.std.proofs.lemmas.Bool.{cases_lt, and_parts, lt-ltb, le-ltb, eqb-true}
use Rattle.std.proofs.lemmas.Str.{is_utf8-from_IsUtf8, IsUtf8-from_is_utf8}
use Rattle.base64.specs.declared.decode.DecodeError.{DecodeError}
use Rattle.base64.specs.declared.engine.general_purpose.GeneralPurpose.{GeneralPurpose}
use Rattle.base64.specs.GeneralPurpose.{IsBytes, IsStrict, encode_of, decode_of, decoded_of}
use Rattle.base64.specs.Engines.{url_safe_no_pad}
use Rattle.base64.proofs.EngineFacts.{decode_of_iff, IsAscii-encode_of}
use Rattle.tab_keys.specs.KeyTexts.{key_refusal, IsKeyText}
use Rattle.tab_keys.specs.declared.key_texts.KeyRefused.{KeyRefused}
use Rattle.tab_page.specs.Tokens.{token_text, after_version, as_key, read_token, OneSpelling}

-- ---- a text's bytes are bytes

IsBytes-nil : IsBytes []
IsBytes-nil i = lit< tt

IsBytes-cons : (b : ℕ) (bs : List ℕ) → b < 256 → IsBytes bs → IsBytes (b ∷ bs)
IsBytes-cons b bs h k zero = h
IsBytes-cons b bs h k (suc i) = k i

IsBytes-tail : (b : ℕ) (bs : List ℕ) → IsBytes (b ∷ bs) → IsBytes bs
IsBytes-tail b bs h i = h (suc i)

IsBytes-append : (xs ys : List ℕ) → IsBytes xs → IsBytes ys → IsBytes (xs ++ ys)
IsBytes-append [] ys h k = k
IsBytes-append (x ∷ xs) ys h k = IsBytes-cons x (xs ++ ys) (h 0) (IsBytes-append xs ys (IsBytes-tail x xs h) k)

IsBytes-1 : (a : ℕ) → a < 256 → IsBytes (a ∷ [])
IsBytes-1 a h = IsBytes-cons a [] h IsBytes-nil

IsBytes-2 : (a b : ℕ) → a < 256 → b < 256 → IsBytes (a ∷ b ∷ [])
IsBytes-2 a b h k = IsBytes-cons a (b ∷ []) h (IsBytes-1 b k)

IsBytes-3 : (a b c : ℕ) → a < 256 → b < 256 → c < 256 → IsBytes (a ∷ b ∷ c ∷ [])
IsBytes-3 a b c h k l = IsBytes-cons a (b ∷ c ∷ []) h (IsBytes-2 b c k l)

IsBytes-4 : (a b c d : ℕ) → a < 256 → b < 256 → c < 256 → d < 256 → IsBytes (a ∷ b ∷ c ∷ d ∷ [])
IsBytes-4 a b c d h k l m = IsBytes-cons a (b ∷ c ∷ d ∷ []) h (IsBytes-3 b c d k l m)

below : (c : ℕ) → (c < 0xD800) ⊎ ((0xE000 ≤ c) × (c < 0x11_0000)) → c < 0x11_0000
below c (inl h) = omega arith
below c (inr h) = h.1

encode-bytes : (c : ℕ) → c < 0x11_0000 → IsBytes (encode c)
unfolding encode
encode-bytes c h = by_one (cases_lt c 128)
  where
    by_three : 2048 ≤ c → (c < 65536) ⊎ (65536 ≤ c) → IsBytes (encode c)
    by_three two (inl k) =
        rw (le-ltb c 128 (omega arith), le-ltb c 2048 two, lt-ltb c 65536 k) (IsBytes-3 _ _ _ (omega arith) (omega arith) (omega arith))
    by_three two (inr k) =
        rw (le-ltb c 128 (omega arith), le-ltb c 2048 two, le-ltb c 65536 k) (IsBytes-4 _ _ _ _ (omega arith) (omega arith) (omega arith) (omega arith))

    by_two : 128 ≤ c → (c < 2048) ⊎ (2048 ≤ c) → IsBytes (encode c)
    by_two one (inl k) = rw (le-ltb c 128 one, lt-ltb c 2048 k) (IsBytes-2 _ _ (omega arith) (omega arith))
    by_two one (inr k) = by_three k (cases_lt c 65536)

    by_one : (c < 128) ⊎ (128 ≤ c) → IsBytes (encode c)
    by_one (inl k) = rw (lt-ltb c 128 k) (IsBytes-1 _ (omega arith))
    by_one (inr k) = by_two k (cases_lt c 2048)

encodes-bytes : (cs : List ℕ) → scalars cs ≡ true → IsBytes (encodes cs)
encodes-bytes [] s = IsBytes-nil
encodes-bytes (c ∷ cs) s =
    let parts = and_parts (scalar c) (scalars cs) s in
    IsBytes-append (encode c) (encodes cs) (encode-bytes c (below c (scalar_cases c parts.0))) (encodes-bytes cs parts.1)

pub utf8-bytes : (text : List ℕ) → IsUtf8 text → IsBytes text
utf8-bytes text u = subst IsBytes u.1.1 (encodes-bytes u.0 u.1.0)

-- ---- keys

pub as_key-is : (bytes : List ℕ) → IsUtf8 bytes → key_refusal bytes ≡ None → as_key bytes ≡ Some bytes
as_key-is bytes u h = rw (is_utf8-from_IsUtf8 bytes u, h) refl

pub as_key-no_text : (bytes : List ℕ) → (IsUtf8 bytes → ⊥) → as_key bytes ≡ None
as_key-no_text bytes none = by_test (is_utf8 bytes) refl
  where
    by_test : (t : Bool) → is_utf8 bytes ≡ t → as_key bytes ≡ None
    by_test true e = absurd (none (IsUtf8-from_is_utf8 bytes e))
    by_test false e = rw e refl

-- what is read as a key is one
record IsKeyOf (bytes key : List ℕ) : Type 0 where
  same : bytes ≡ key
  is_key : IsKeyText key

as_key-of : (bytes key : List ℕ) → as_key bytes ≡ Some key → IsKeyOf bytes key
as_key-of bytes key h = by_tests (is_utf8 bytes) (key_refusal bytes) refl refl
  where
    by_tests : (t : Bool) (o : Option KeyRefused) → is_utf8 bytes ≡ t → key_refusal bytes ≡ o → IsKeyOf bytes key
    by_tests true None e f =
        let same : bytes ≡ key = cc (sym (as_key-is bytes (IsUtf8-from_is_utf8 bytes e) f) ∙ h) in
        record { same = same; is_key = subst IsKeyText same (record { utf8 = IsUtf8-from_is_utf8 bytes e; allowed = f }) }
    by_tests true (Some why) e f =
        let none : as_key bytes ≡ None = rw (e, f) refl in
        cc (sym none ∙ h)
    by_tests false o e f =
        let none : as_key bytes ≡ None = rw e refl in
        cc (sym none ∙ h)

-- ---- the code behind `1.`

decoded-ok : (r : Result (List ℕ) DecodeError) (bytes : List ℕ) → result_ok r ≡ Some bytes → r ≡ Ok bytes
decoded-ok (Ok x) bytes h = ap Ok (cc h)
decoded-ok (Err e) bytes h = cc h

module _ (e : GeneralPurpose) (strict : IsStrict e) where
  abbrev read_by : List ℕ → Option (List ℕ)
  read_by code = option_and_then as_key (decoded_of e code)

  -- what a code is read as, it is the code of
  code_read : (code key : List ℕ) → IsBytes code → read_by code ≡ Some key → (code ≡ encode_of e key) × IsKeyText key
  unfolding decoded_of
  code_read code key bytes h = by_result (decoded_of e code) refl
    where
      by_result : (o : Option (List ℕ)) → decoded_of e code ≡ o → (code ≡ encode_of e key) × IsKeyText key
      by_result None f = cc (ap (option_and_then as_key) (sym f) ∙ h)
      by_result (Some found) f =
          let is = as_key-of found key (ap (option_and_then as_key) (sym f) ∙ h) in
          ((decode_of_iff e code key strict bytes (utf8-bytes key is.is_key.utf8)).0 (decoded-ok (decode_of e code) key (f ∙ ap Some is.same)), is.is_key)

  -- and a key's code is read as the key
  code_of_key : (key : List ℕ) → IsKeyText key → IsBytes (encode_of e key) → read_by (encode_of e key) ≡ Some key
  unfolding decoded_of
  code_of_key key is bytes =
      ap (λ r. option_and_then as_key (result_ok r)) ((decode_of_iff e (encode_of e key) key strict bytes (utf8-bytes key is.utf8)).1 refl)
      ∙ as_key-is key is.utf8 is.allowed

pub code_bytes : (e : GeneralPurpose) (key : List ℕ) → IsBytes (encode_of e key)
code_bytes e key i = let low = IsAscii-encode_of e key i in omega arith

record IsVersioned (text code : List ℕ) : Type 0 where
  is : text ≡ 49 ∷ 46 ∷ code

after_version-is : (text code : List ℕ) → after_version text ≡ Some code → IsVersioned text code
after_version-is [] code h = cc h
after_version-is (a ∷ []) code h = cc h
after_version-is (a ∷ b ∷ rest) code h = by_test (a == 49 && b == 46) refl
  where
    by_test : (t : Bool) → (a == 49 && b == 46) ≡ t → IsVersioned (a ∷ b ∷ rest) code
    by_test true e =
        let parts = and_parts (a == 49) (b == 46) e in
        let first : a ≡ 49 = eqb-true a 49 parts.0 in
        let second : b ≡ 46 = eqb-true b 46 parts.1 in
        let same : rest ≡ code = cc (sym (ap (λ t. cond t (Some rest) None) e) ∙ h) in
        record { is = cc }
    by_test false e = cc (sym (ap (λ t. cond t (Some rest) None) e) ∙ h)

read_forth : (text key : List ℕ) → IsUtf8 text → read_token text ≡ Some key → (text ≡ token_text key) × IsKeyText key
unfolding read_token token_text
read_forth text key u h = by_code (after_version text) refl
  where
    by_code : (o : Option (List ℕ)) → after_version text ≡ o → (text ≡ codes "1." ++ encode_of url_safe_no_pad key) × IsKeyText key
    by_code None e = cc (ap (option_and_then (read_by url_safe_no_pad (refl, refl))) (sym e) ∙ h)
    by_code (Some code) e =
        let parts = after_version-is text code e in
        let bytes = IsBytes-tail 46 code (IsBytes-tail 49 (46 ∷ code) (subst IsBytes parts.is (utf8-bytes text u))) in
        let both = code_read url_safe_no_pad (refl, refl) code key bytes (ap (option_and_then (read_by url_safe_no_pad (refl, refl))) (sym e) ∙ h) in
        (parts.is ∙ ap (λ (c : List ℕ). 49 ∷ 46 ∷ c) both.0, both.1)

read_back : (text key : List ℕ) → (text ≡ token_text key) × IsKeyText key → read_token text ≡ Some key
unfolding read_token token_text
read_back text key both =
    ap (λ (t : List ℕ). option_and_then (read_by url_safe_no_pad (refl, refl)) (after_version t)) both.0
    ∙ code_of_key url_safe_no_pad (refl, refl) key both.1 (code_bytes url_safe_no_pad key)

pub one_spelling : OneSpelling
one_spelling text key u = (read_forth text key u, read_back text key)
