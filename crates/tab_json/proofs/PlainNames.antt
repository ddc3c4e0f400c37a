-- The names of an entity's properties: no point and no `@` stands in them, and none is the service's own.
use Rattle.std.proofs.Common.{◌≡◌, ◌≢◌, ℕ, ◌+◌, ◌/◌, ◌%◌, ◌<◌, ◌≤◌, ◌⊎◌, inl, inr, List, [], ◌∷◌, length, drop, Bool, true, false, ◌||◌, ◌==◌, cond, IsFalse, IsUtf8, Option, Some, None, refl, sym, ap, ◌∙◌, arith, codes, bytes_eq, true≢false}
use Rattle.std.specs.List.{list_any, list_all, starts_with}
use Rattle.std.specs.Str.{chars}
use Rattle.std.proofs.Math.Utf8.{encode, encodes}
use Rattle.std.proofs.lemmas.Bool.{cases_lt, and_parts, or_parts, ne_eqb, lt-ltb, le-ltb, false_from_ne_true}
use Rattle.std.proofs.lemmas.Bool.Decides.{Decides-eqb, nat_tests}
use Rattle.std.proofs.lemmas.List.{append_cancel_right}
use Rattle.std.proofs.lemmas.List.Folds.{list_any-append}
use Rattle.std.proofs.lemmas.Slice.Eq.{bytes_eq-Decides, starts_is}
use Rattle.std.proofs.lemmas.Str.{chars-encodes}
use Rattle.unicode_ident.specs.Ident.{is_xid_continue}
use Rattle.unicode_ident.proofs.IdentLemmas.{is_xid_start-ascii, is_xid_continue-ascii}
use Rattle.tab_edm.specs.Entities.{property_refusal}
use Rattle.tab_edm.specs.Values.{begins_name, is_identifier, is_valid_name, is_reserved}
use Rattle.tab_edm.specs.declared.entities.EdmRefused.{EdmRefused}
use Rattle.tab_edm.specs.declared.values.Property.{Property}
use Rattle.tab_json.specs.Bodies.{is_ignored, annotation_of, annotated_by}
use Rattle.tab_json.proofs.Names.{annotates, annotates_none}

-- the byte stands in the text
abbrev pub has : ℕ → List ℕ → Bool
has byte text = list_any (λ b. b == byte) text

pub record IsPlainName (name : List ℕ) : Type 0 where
  pub no_at : has 64 name ≡ false
  pub no_point : has 46 name ≡ false
  pub other : IsFalse (is_reserved name)

-- ---- the bytes of an identifier

other_byte : (b c : ℕ) → b ≢ c → (rest : Bool) → ((b == c) || rest) ≡ rest
other_byte b c differs rest = ap (λ (t : Bool). t || rest) (ne_eqb b c differs)

-- an ASCII byte stands in a character's bytes only where it is that character
encode_plain : (byte c : ℕ) → byte < 128 → c ≢ byte → has byte (encode c) ≡ false
unfolding encode
encode_plain byte c low differs = by_one (cases_lt c 128)
  where
    by_three : 2048 ≤ c → (c < 65536) ⊎ (65536 ≤ c) → has byte (encode c) ≡ false
    by_three two (inl k) =
        rw (le-ltb c 128 (omega arith), le-ltb c 2048 two, lt-ltb c 65536 k) (rw (ne_eqb (224 + c / 4096) byte (λ e. omega (arith, e)), ne_eqb (128 + c / 64 % 64) byte (λ e. omega (arith, e)), ne_eqb (128 + c % 64) byte (λ e. omega (arith, e))) refl)
    by_three two (inr k) =
        rw (le-ltb c 128 (omega arith), le-ltb c 2048 two, le-ltb c 65536 k) (rw (ne_eqb (240 + c / 262144) byte (λ e. omega (arith, e)), ne_eqb (128 + c / 4096 % 64) byte (λ e. omega (arith, e)), ne_eqb (128 + c / 64 % 64) byte (λ e. omega (arith, e)), ne_eqb (128 + c % 64) byte (λ e. omega (arith, e))) refl)

    by_two : 128 ≤ c → (c < 2048) ⊎ (2048 ≤ c) → has byte (encode c) ≡ false
    by_two one (inl k) = rw (le-ltb c 128 one, lt-ltb c 2048 k) (rw (ne_eqb (192 + c / 64) byte (λ e. omega (arith, e)), ne_eqb (128 + c % 64) byte (λ e. omega (arith, e))) refl)
    by_two one (inr k) = by_three k (cases_lt c 65536)

    by_one : (c < 128) ⊎ (128 ≤ c) → has byte (encode c) ≡ false
    by_one (inl k) = rw (lt-ltb c 128 k) (rw (ne_eqb c byte differs) refl)
    by_one (inr k) = by_two k (cases_lt c 2048)

encodes_plain : (byte : ℕ) (cs : List ℕ) → byte < 128 → has byte cs ≡ false → has byte (encodes cs) ≡ false
encodes_plain byte [] low none = refl
encodes_plain byte (c ∷ cs) low none =
    let parts = or_parts (c == byte) (has byte cs) none in
    list_any-append (λ b. b == byte) (encode c) (encodes cs) ∙ rw (encode_plain byte c low (λ e. true≢false (sym (same byte) ∙ (sym (ap (λ (n : ℕ). n == byte) e) ∙ parts.0))), encodes_plain byte cs low parts.1) refl
  where
    same : (n : ℕ) → (n == n) ≡ true
    same n = (Decides-eqb n n).1 refl

-- no point and no `@` is a character of a name
no_start : (byte : ℕ) → byte < 65 → begins_name byte ≡ false
no_start byte low = rw (is_xid_start-ascii byte (omega arith)) (grind (arith, nat_tests))

no_continue : (byte : ℕ) → (byte ≡ 64) ⊎ (byte ≡ 46) → is_xid_continue byte ≡ false
no_continue byte (inl is) = rw is (is_xid_continue-ascii 64 (omega arith))
no_continue byte (inr is) = rw is (is_xid_continue-ascii 46 (omega arith))

continues_plain : (byte : ℕ) (cs : List ℕ) → is_xid_continue byte ≡ false → list_all is_xid_continue cs ≡ true → has byte cs ≡ false
continues_plain byte [] none all = refl
continues_plain byte (c ∷ cs) none all =
    let parts = and_parts (is_xid_continue c) (list_all is_xid_continue cs) all in
    rw (ne_eqb c byte (λ e. true≢false (sym parts.0 ∙ (ap is_xid_continue e ∙ none)))) (continues_plain byte cs none parts.1)

identifier_plain : (byte : ℕ) (cs : List ℕ) → begins_name byte ≡ false → is_xid_continue byte ≡ false → is_identifier cs ≡ true → has byte cs ≡ false
unfolding is_identifier
identifier_plain byte [] first none is = refl
identifier_plain byte (c ∷ cs) first none is =
    let parts = and_parts (begins_name c) (list_all is_xid_continue cs) is in
    rw (ne_eqb c byte (λ e. true≢false (sym parts.0 ∙ (ap begins_name e ∙ first)))) (continues_plain byte cs none parts.1)

name_plain : (byte : ℕ) (name : List ℕ) → byte < 65 → is_xid_continue byte ≡ false → IsUtf8 name → is_valid_name name ≡ true → has byte name ≡ false
name_plain byte name low none u valid =
    let spelled : chars name ≡ u.0 = ap chars (sym u.1.1) ∙ chars-encodes u.0 u.1.0 in
    let inside = identifier_plain byte u.0 (no_start byte low) none (ap is_identifier (sym spelled) ∙ valid) in
    ap (has byte) (sym u.1.1) ∙ encodes_plain byte u.0 (omega arith) inside

first_test : (valid : Bool) (rest : Option EdmRefused) (p : Property) → ◌≡◌ {A = Option EdmRefused} (cond valid rest (Some (EdmRefused.NameInvalid p))) None → valid ≡ true
first_test true rest p e = refl
first_test false rest p e = absurd (cc)

valid_from : (p : Property) → property_refusal p ≡ None → is_valid_name p.name ≡ true
unfolding property_refusal
valid_from p allowed = first_test (is_valid_name p.name) _ p allowed

pub plain_name : (p : Property) → IsUtf8 p.name → property_refusal p ≡ None → IsFalse (is_reserved p.name) → IsPlainName p.name
plain_name p u allowed other = record {
  no_at = name_plain 64 p.name (omega arith) (no_continue 64 (inl refl)) u (valid_from p allowed);
  no_point = name_plain 46 p.name (omega arith) (no_continue 46 (inr refl)) u (valid_from p allowed);
  other = other;
}

-- ---- such names beside others

pub annotation_has_at : (name : List ℕ) → has 64 (annotation_of name) ≡ true
annotation_has_at name = list_any-append (λ b. b == 64) name (codes "@odata.type") ∙ or_true (has 64 name)
  where
    or_true : (t : Bool) → (t || true) ≡ true
    or_true true = refl
    or_true false = refl

-- texts of which one alone has this byte
pub apart_by : (byte : ℕ) (a b : List ℕ) → has byte a ≡ true → has byte b ≡ false → a ≢ b
apart_by byte a b p q e = true≢false (sym p ∙ (ap (has byte) e ∙ q))

pub annotation_apart : (name other : List ℕ) → has 64 other ≡ false → annotation_of name ≢ other
annotation_apart name other none = apart_by 64 (annotation_of name) other (annotation_has_at name) none

pub same_annotated : (a b : List ℕ) → annotation_of a ≡ annotation_of b → a ≡ b
same_annotated a b e = append_cancel_right a b (codes "@odata.type") e

pub not_own : (name own : List ℕ) → IsPlainName name → is_reserved own ≡ true → name ≢ own
not_own name own plain is e = true≢false (sym is ∙ (sym (ap is_reserved e) ∙ plain.other))

-- a name does not begin with what has a point in it
starts_point : (name front : List ℕ) → has 46 name ≡ false → has 46 front ≡ true → starts_with ◌==◌ name front ≡ false
starts_point name front none point = false_from_ne_true _ (λ begins. true≢false (sym (whole begins) ∙ none))
  where
    rest : List ℕ
    rest = drop (length front) name

    whole : starts_with ◌==◌ name front ≡ true → has 46 name ≡ true
    whole begins =
        let is = (starts_is Decides-eqb name front (starts_with ◌==◌ name front) refl).0 begins in
        ap (has 46) is ∙ (list_any-append (λ b. b == 46) front rest ∙ ap (λ (t : Bool). t || has 46 rest) point)

pub not_ignored : (name : List ℕ) → IsPlainName name → is_ignored name ≡ false
not_ignored name plain =
    rw (starts_point name (codes "odata.") plain.no_point refl, differs (codes "Timestamp") (not_own name (codes "Timestamp") plain refl), differs (codes "Timestamp@odata.type") (λ e. annotation_apart (codes "Timestamp") name plain.no_at (sym e))) refl
  where
    differs : (other : List ℕ) → name ≢ other → bytes_eq name other ≡ false
    differs other apart = false_from_ne_true _ (λ same. apart ((bytes_eq-Decides name other).0 same))

pub not_annotated : (name : List ℕ) → IsPlainName name → annotated_by name ≡ None
not_annotated name plain = sym (annotates_none name (λ front is. annotation_apart front name plain.no_at (sym is)))

pub annotates_name : (name : List ℕ) → annotated_by (annotation_of name) ≡ Some name
annotates_name name = sym (annotates (annotation_of name) name refl)
