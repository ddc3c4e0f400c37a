-- Names, by their first character and the rest.
use Rattle.std.proofs.Common.{◌≡◌, ℕ, List, [], ◌∷◌, ◌++◌, Bool, true, false, ◌&&◌, length, refl, sym, ap, ◌∙◌, arith}
use Rattle.std.proofs.lemmas.Str.{chars_past_char, chars-nil}
use Rattle.std.specs.List.{list_all}
use Rattle.std.specs.Str.{IsUtf8, chars}
use Rattle.std.proofs.Math.Utf8.{encode}
use Rattle.unicode_ident.specs.Ident.{is_xid_continue}
use Rattle.tab_edm.specs.Values.{begins_name, is_identifier, is_valid_name}

is_valid_name-first : (name rest : List ℕ) (c : ℕ) → IsUtf8 name → name ≡ encode c ++ rest → is_valid_name name ≡ (begins_name c && list_all is_xid_continue (chars rest))
unfolding is_identifier
is_valid_name-first name rest c utf8 is = rw (chars_past_char name rest c utf8 is) refl

-- where the first character may begin a name, the rest decides
pub begun : (name rest : List ℕ) (c : ℕ) (r : Bool) → IsUtf8 name → name ≡ encode c ++ rest → begins_name c ≡ true → r ≡ list_all is_xid_continue (chars rest) → r ≡ is_valid_name name
begun name rest c r utf8 is begins all =
    all ∙ ap (λ b. b && list_all is_xid_continue (chars rest)) (sym begins) ∙ sym (is_valid_name-first name rest c utf8 is)

-- where it may not, the name is none
pub not_begun : (name rest : List ℕ) (c : ℕ) → IsUtf8 name → name ≡ encode c ++ rest → begins_name c ≡ false → false ≡ is_valid_name name
not_begun name rest c utf8 is begins =
    ap (λ b. b && list_all is_xid_continue (chars rest)) (sym begins) ∙ sym (is_valid_name-first name rest c utf8 is)

pub empty_name : (name : List ℕ) → length name ≡ 0 → false ≡ is_valid_name name
unfolding is_identifier
empty_name [] e = rw chars-nil refl
empty_name (b ∷ bs) e = absurd (omega arith)
