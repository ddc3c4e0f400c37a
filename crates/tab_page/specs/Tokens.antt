-- Tokens, which name a key in a continuation.
use Rattle.std.specs.Prelude.{◌≡◌, ◌↔◌, ℕ, List, [], ◌∷◌, ◌++◌, ◌&&◌, ◌==◌, Option, Some, None, if◌then◌else◌, codes, IsUtf8}
use Rattle.std.specs.Option.{option_and_then, is_none}
use Rattle.std.specs.Str.{is_utf8}
use Rattle.base64.specs.GeneralPurpose.{encode_of, decoded_of}
use Rattle.base64.specs.Engines.{url_safe_no_pad}
use Rattle.tab_keys.specs.KeyTexts.{key_refusal, IsKeyText}

-- the token of a text: `1.`, and its bytes in Base64 for addresses (RFC 4648, section 5) without padding
unfoldable pub token_text : List ℕ → List ℕ
token_text key = codes "1." ++ encode_of url_safe_no_pad key

-- what stands behind `1.`
abbrev pub after_version : List ℕ → Option (List ℕ)
after_version [] = None
after_version (a ∷ []) = None
after_version (a ∷ b ∷ code) = if a == 49 && b == 46 then Some code else None

-- the bytes, where they are a key's text
abbrev pub as_key : List ℕ → Option (List ℕ)
as_key bytes = if is_utf8 bytes && is_none (key_refusal bytes) then Some bytes else None

-- the key that a text is the token of, if it is a token: Base64 is read strictly, so nothing but its own text is
unfoldable pub read_token : List ℕ → Option (List ℕ)
read_token text = option_and_then (λ code. option_and_then as_key (decoded_of url_safe_no_pad code)) (after_version text)

-- a text is read as a key exactly where it is that key's token
abbrev pub OneSpelling : Type 0
OneSpelling = (text key : List ℕ) → IsUtf8 text → (read_token text ≡ Some key) ↔ ((text ≡ token_text key) × IsKeyText key)
