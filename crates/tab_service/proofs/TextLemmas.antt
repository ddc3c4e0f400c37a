-- Bytes that are texts, and those that are none.
use Rattle.std.proofs.Common.{◌≡◌, ℕ, List, [], ◌∷◌, Bool, ◌||◌, true, false, Option, Some, None, cond, refl, ap}
use Rattle.std.specs.Str.{is_utf8, IsUtf8}
use Rattle.std.proofs.lemmas.Str.{IsUtf8-from_is_utf8, is_utf8-from_IsUtf8}
use Rattle.std.specs.declared.str.Utf8Error.{Utf8Error}
use Rattle.percent_encoding.specs.declared.DecodeError.{DecodeError}
use Rattle.percent_encoding.specs.declared.DecodeError.TheVariants.{Utf8, OutOfMemory}
use Rattle.tab_service.specs.Preferences.{begins_with, has_part}
use Rattle.tab_service.specs.Targets.{text_of}

pub text_found : (bytes text : List ℕ) → text ≡ bytes → IsUtf8 bytes → Some text ≡ text_of bytes
unfolding text_of
text_found bytes text is utf8 = rw (is_utf8-from_IsUtf8 bytes utf8) (ap (λ (t : List ℕ). Some t) is)

none_by : (bytes : List ℕ) (test : Bool) → is_utf8 bytes ≡ test → (IsUtf8 bytes → ⊥) → ◌≡◌ {A = Option (List ℕ)} None (cond test (Some bytes) None)
none_by bytes true is not_text = absurd (not_text (IsUtf8-from_is_utf8 bytes is))
none_by bytes false is not_text = refl

pub text_missing : (bytes : List ℕ) → (IsUtf8 bytes → ⊥) → ◌≡◌ {A = Option (List ℕ)} None (text_of bytes)
unfolding text_of
text_missing bytes not_text = none_by bytes (is_utf8 bytes) refl not_text

pub utf8_is_no_memory : (why : DecodeError) (error : Utf8Error) → why ≡ Utf8 error → why ≡ OutOfMemory → ⊥
utf8_is_no_memory why error is memory = cc

-- a word at the front of a text stands in it
pub part_at_front : (word text : List ℕ) → begins_with word text ≡ true → has_part word text ≡ true
unfolding has_part
part_at_front word [] begins = begins
part_at_front word (b ∷ bytes) begins = ap (λ (test : Bool). test || has_part word bytes) begins
