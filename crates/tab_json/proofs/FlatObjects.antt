-- Objects of atoms, in the order of their names: what is put into them, and what is read of their texts.
use Rattle.std.proofs.Common.{◌≡◌, ◌≢◌, ℕ, ◌≤◌, ◌⊎◌, inl, inr, List, [], ◌∷◌, ◌++◌, Bool, true, false, Option, Some, IsUtf8, refl, sym, ap, subst, ◌∙◌, arith, append_assoc, append-nil}
use Rattle.std.specs.Prelude.{⊤, option_map, option_and_then}
use Rattle.std.specs.Ordering.{nat_cmp, is_eq, match_ordering, ordering_reverse}
use Rattle.std.specs.declared.cmp.Ordering.{Ordering}
use Rattle.std.specs.declared.cmp.Ordering.TheVariants.{Less, Equal, Greater}
use Rattle.std.specs.Cmp.Lexicographic.{slice_cmp}
use Rattle.std.proofs.lemmas.Slice.Eq.{bytes_eq-Decides}
use Rattle.std.proofs.lemmas.Map.Text.{is_eq-slice_cmp}
use Rattle.std.proofs.lemmas.Cmp.{nat_list_cmp_total, tied_itself}
use Rattle.std.proofs.lemmas.Str.{IsUtf8-append}
use Rattle.json.specs.Token.{Token}
use Rattle.json.specs.Lex.{tokens}
use Rattle.json.specs.Print.{quoted, IsNumber, ArePrintable}
use Rattle.json.specs.Json as json
use Rattle.json.specs.Tree as tree
use Rattle.json.proofs.Printed.Tokens.{tokens-print}
use Rattle.json.proofs.Printed.Trees.{value-json_tokens}
use Rattle.json.proofs.Printed.Utf8.{IsUtf8-key, IsUtf8-quoted, IsUtf8-boolean, IsUtf8-are_ascii}
use Rattle.serde_json.specs.Data.{Data, null, boolean, number, string, array, object, Members, no_members, member, put}
use Rattle.serde_json.specs.Find.{is_float}
use Rattle.serde_json.specs.Read.{number_of, of_json, of_members, max_depth, read}
use Rattle.serde_json.specs.Written.{number_text, outline, members_outline, comma_if, compact_text, members_text}
use Rattle.serde_json.proofs.Texts.{print-outline}

-- ---- names in order

abbrev pub Before : List ℕ → List ℕ → Type 0
Before a b = slice_cmp nat_cmp a b ≡ Less

pub before_both : (a b c : List ℕ) → Before a b → Before b c → Before a c
before_both a b c p q = nat_list_cmp_total.trans a b c p q

pub turned_before : (a b : List ℕ) → Before a b → slice_cmp nat_cmp b a ≡ Greater
turned_before a b p = nat_list_cmp_total.antisymm b a ∙ ap ordering_reverse p

pub turned_behind : (a b : List ℕ) → slice_cmp nat_cmp b a ≡ Greater → Before a b
turned_behind a b p = nat_list_cmp_total.antisymm a b ∙ ap ordering_reverse p

less_greater : Less ≡ Greater → ⊥
less_greater e = cc

less_equal : Less ≡ Equal → ⊥
less_equal e = cc

pub not_before_itself : (a : List ℕ) → Before a a → ⊥
not_before_itself a p = less_equal (sym p ∙ tied_itself nat_list_cmp_total a)

pub not_both : (a b : List ℕ) → Before a b → Before b a → ⊥
not_both a b p q = not_before_itself a (before_both a b a p q)

-- ---- members

-- what holds of each member
abbrev pub Each : (List ℕ → Data → Type 0) → Members → Type 0
Each P no_members = ⊤
Each P (member k d ms) = P k d × Each P ms

pub each_weaker : (P Q : List ℕ → Data → Type 0) → ((k : List ℕ) (d : Data) → P k d → Q k d) → (ms : Members) → Each P ms → Each Q ms
each_weaker P Q f no_members h = tt
each_weaker P Q f (member k d ms) h = (f k d h.0, each_weaker P Q f ms h.1)

-- one list of members behind another
abbrev pub then : Members → Members → Members
then no_members ms = ms
then (member k d front) ms = member k d (then front ms)

each_parts : (P : List ℕ → Data → Type 0) (front ms : Members) → Each P (then front ms) → Each P front × Each P ms
each_parts P no_members ms h = (tt, h)
each_parts P (member k d front) ms h = let later = each_parts P front ms h.1 in ((h.0, later.0), later.1)

each_joined : (P : List ℕ → Data → Type 0) (front ms : Members) → Each P front → Each P ms → Each P (then front ms)
each_joined P no_members ms p q = q
each_joined P (member k d front) ms p q = (p.0, each_joined P front ms p.1 q)

abbrev pub Above : List ℕ → Members → Type 0
Above k = Each (λ l e. Before k l)

abbrev pub Below : List ℕ → Members → Type 0
Below k = Each (λ l e. Before l k)

abbrev pub Fresh : List ℕ → Members → Type 0
Fresh k = Each (λ l e. l ≢ k)

-- the names rise
abbrev pub IsSorted : Members → Type 0
IsSorted no_members = ⊤
IsSorted (member k d ms) = Above k ms × IsSorted ms

-- where a new name is put
pub record Split (k : List ℕ) (d : Data) (ms : Members) : Type 0 where
  pub front : Members
  pub back : Members
  pub ms_is : ms ≡ then front back
  pub put_is : put k d ms ≡ then front (member k d back)
  pub low : Below k front
  pub high : Above k back

same_names : (a b : List ℕ) → slice_cmp nat_cmp a b ≡ Equal → a ≡ b
same_names a b e = (bytes_eq-Decides a b).0 (sym (is_eq-slice_cmp a b) ∙ ap is_eq e)

pub split : (k : List ℕ) (d : Data) (ms : Members) → IsSorted ms → Fresh k ms → Split k d ms
split k d no_members sorted fresh = record { front = no_members; back = no_members; ms_is = refl; put_is = refl; low = tt; high = tt }
split k d (member l e ms) sorted fresh = by_order (slice_cmp nat_cmp k l) refl (split k d ms sorted.1 fresh.1)
  where
    by_order : (o : Ordering) → slice_cmp nat_cmp k l ≡ o → Split k d ms → Split k d (member l e ms)
    by_order Less is later = record {
      front = no_members;
      back = member l e ms;
      ms_is = refl;
      put_is = ap (λ (o : Ordering). match_ordering o (member k d (member l e ms)) (member l d ms) (member l e (put k d ms))) is;
      low = tt;
      high = (is, each_weaker (λ m f. Before l m) (λ m f. Before k m) (λ m f p. before_both k l m is p) ms sorted.0);
    }
    by_order Equal is later = absurd (fresh.0 (sym (same_names k l is)))
    by_order Greater is later = record {
      front = member l e later.front;
      back = later.back;
      ms_is = ap (member l e) later.ms_is;
      put_is = ap (λ (o : Ordering). match_ordering o (member k d (member l e ms)) (member l d ms) (member l e (put k d ms))) is ∙ ap (member l e) later.put_is;
      low = (turned_behind l k is, later.low);
      high = later.high;
    }

-- what holds of each member, with a new one
pub each_put : (P : List ℕ → Data → Type 0) (k : List ℕ) (d : Data) (ms : Members) → IsSorted ms → Fresh k ms → P k d → Each P ms → Each P (put k d ms)
each_put P k d ms sorted fresh new old =
    let s = split k d ms sorted fresh in
    let parts = each_parts P s.front s.back (subst (Each P) s.ms_is old) in
    subst (Each P) (sym s.put_is) (each_joined P s.front (member k d s.back) parts.0 (new, parts.1))

sorted_around : (k : List ℕ) (d : Data) (front back : Members) → IsSorted (then front back) → Below k front → Above k back → IsSorted (then front (member k d back))
sorted_around k d no_members back sorted low high = (high, sorted)
sorted_around k d (member l e front) back sorted low high =
    let parts = each_parts (λ m f. Before l m) front back sorted.0 in
    (each_joined (λ m f. Before l m) front (member k d back) parts.0 (low.0, parts.1), sorted_around k d front back sorted.1 low.1 high)

pub sorted_put : (k : List ℕ) (d : Data) (ms : Members) → IsSorted ms → Fresh k ms → IsSorted (put k d ms)
sorted_put k d ms sorted fresh =
    let s = split k d ms sorted fresh in
    subst IsSorted (sym s.put_is) (sorted_around k d s.front s.back (subst IsSorted s.ms_is sorted) s.low s.high)

-- ---- what members give

abbrev pub gathered : {X : Type 0} → (List ℕ → Data → List X) → Members → List X
gathered f no_members = []
gathered f (member k d ms) = f k d ++ gathered f ms

gathered_then : {X : Type 0} (f : List ℕ → Data → List X) (front ms : Members) → gathered f (then front ms) ≡ gathered f front ++ gathered f ms
gathered_then f no_members ms = refl
gathered_then f (member k d front) ms = ap (λ xs. f k d ++ xs) (gathered_then f front ms) ∙ sym (append_assoc (f k d) (gathered f front) (gathered f ms))

-- a new member that gives nothing
pub gathered_same : {X : Type 0} (f : List ℕ → Data → List X) (k : List ℕ) (d : Data) (ms : Members) → IsSorted ms → Fresh k ms → f k d ≡ [] → gathered f (put k d ms) ≡ gathered f ms
gathered_same f k d ms sorted fresh none =
    let s = split k d ms sorted fresh in
    ap (gathered f) s.put_is
    ∙ (gathered_then f s.front (member k d s.back)
    ∙ (ap (λ xs. gathered f s.front ++ (xs ++ gathered f s.back)) none
    ∙ (sym (gathered_then f s.front s.back) ∙ sym (ap (gathered f) s.ms_is))))

-- each that gives something has a name before this one
abbrev pub GiveBefore : {X : Type 0} → (List ℕ → Data → List X) → List ℕ → Members → Type 0
GiveBefore f k = Each (λ l e. Before l k ⊎ (f l e ≡ []))

none_behind : {X : Type 0} (f : List ℕ → Data → List X) (k : List ℕ) (ms : Members) → Above k ms → GiveBefore f k ms → gathered f ms ≡ []
none_behind f k no_members high give = refl
none_behind {X} f k (member l e ms) high give = by_give give.0 (none_behind f k ms high.1 give.1)
  where
    by_give : Before l k ⊎ (f l e ≡ []) → gathered f ms ≡ [] → f l e ++ gathered f ms ≡ []
    by_give (inl before) later = absurd (not_both k l high.0 before)
    by_give (inr none) later = ap (λ xs. xs ++ gathered f ms) none ∙ later

-- then what the new one gives comes last
pub gathered_last : {X : Type 0} (f : List ℕ → Data → List X) (k : List ℕ) (d : Data) (ms : Members) → IsSorted ms → Fresh k ms → GiveBefore f k ms → gathered f (put k d ms) ≡ gathered f ms ++ f k d
gathered_last f k d ms sorted fresh give =
    let s = split k d ms sorted fresh in
    let parts = each_parts (λ l e. Before l k ⊎ (f l e ≡ [])) s.front s.back (subst (GiveBefore f k) s.ms_is give) in
    let none = none_behind f k s.back s.high parts.1 in
    ap (gathered f) s.put_is
    ∙ (gathered_then f s.front (member k d s.back)
    ∙ (ap (λ xs. gathered f s.front ++ (f k d ++ xs)) none
    ∙ (ap (λ xs. gathered f s.front ++ xs) (append-nil (f k d))
    ∙ ap (λ xs. xs ++ f k d) (sym (append-nil (gathered f s.front)) ∙ (ap (λ xs. gathered f s.front ++ xs) (sym none) ∙ (sym (gathered_then f s.front s.back) ∙ sym (ap (gathered f) s.ms_is)))))))

-- a new one beside those that give nothing
pub gathered_alone : {X : Type 0} (f : List ℕ → Data → List X) (k : List ℕ) (d : Data) (ms : Members) → IsSorted ms → Fresh k ms → gathered f ms ≡ [] → gathered f (put k d ms) ≡ f k d
gathered_alone {X} f k d ms sorted fresh none =
    let s = split k d ms sorted fresh in
    let both = no_parts (gathered f s.front) (gathered f s.back) (sym (gathered_then f s.front s.back) ∙ (sym (ap (gathered f) s.ms_is) ∙ none)) in
    ap (gathered f) s.put_is
    ∙ (gathered_then f s.front (member k d s.back)
    ∙ (ap (λ xs. xs ++ (f k d ++ gathered f s.back)) both.0
    ∙ (ap (λ xs. f k d ++ xs) both.1 ∙ append-nil (f k d))))
  where
    no_parts : (xs ys : List X) → xs ++ ys ≡ [] → (xs ≡ []) × (ys ≡ [])
    no_parts [] ys e = (refl, e)
    no_parts (x ∷ xs) ys e = absurd (cc)

-- ---- reading the text

-- a flag, a text, or a whole number
abbrev pub IsAtom : Data → Type 0
IsAtom null = ⊥
IsAtom (boolean b) = ⊤
IsAtom (number n) = (number_of (number_text n) ≡ Some n) × IsNumber (number_text n) × (is_float n ≡ false) × IsUtf8 (number_text n)
IsAtom (string s) = IsUtf8 s
IsAtom (array ds) = ⊥
IsAtom (object ms) = ⊥

abbrev pub AreAtoms : Members → Type 0
AreAtoms = Each (λ k d. IsUtf8 k × IsAtom d)

atom_read : (d : Data) → IsAtom d → of_json (outline d) ≡ Some d
atom_read null is = absurd is
atom_read (boolean b) is = refl
atom_read (number n) is = ap (option_map number) is.0
atom_read (string s) is = refl
atom_read (array ds) is = absurd is
atom_read (object ms) is = absurd is

-- the members put one after another
abbrev pub puts : Members → Members → Members
puts no_members found = found
puts (member k d ms) found = puts ms (put k d found)

members_read : (ms found : Members) → AreAtoms ms → of_members (members_outline ms) found ≡ Some (puts ms found)
members_read no_members found are = refl
members_read (member k d ms) found are = rw (atom_read d are.0.1) (members_read ms (put k d found) are.1)

put_behind : (k : List ℕ) (d : Data) (found : Members) → Below k found → put k d found ≡ then found (member k d no_members)
put_behind k d no_members low = refl
put_behind k d (member l e found) low =
    ap (λ (o : Ordering). match_ordering o (member k d (member l e found)) (member l d found) (member l e (put k d found))) (turned_before l k low.0)
    ∙ ap (member l e) (put_behind k d found low.1)

then_assoc : (a b c : Members) → then (then a b) c ≡ then a (then b c)
then_assoc no_members b c = refl
then_assoc (member k d a) b c = ap (member k d) (then_assoc a b c)

then_none : (a : Members) → then a no_members ≡ a
then_none no_members = refl
then_none (member k d a) = ap (member k d) (then_none a)

-- all found names are before all others
abbrev pub Under : Members → Members → Type 0
Under found = Each (λ k d. Below k found)

pub puts_behind : (ms found : Members) → IsSorted ms → Under found ms → puts ms found ≡ then found ms
puts_behind no_members found sorted under = sym (then_none found)
puts_behind (member k d ms) found sorted under =
    let here = put_behind k d found under.0 in
    ap (puts ms) here
    ∙ (puts_behind ms (then found (member k d no_members)) sorted.1 (more ms sorted.0 under.1) ∙ then_assoc found (member k d no_members) ms)
  where
    more : (xs : Members) → Above k xs → Under found xs → Under (then found (member k d no_members)) xs
    more no_members high low = tt
    more (member l e xs) high low = (each_joined (λ m f. Before m l) found (member k d no_members) low.0 (high.0, tt), more xs high.1 low.1)

pub under_none : (ms : Members) → Under no_members ms
under_none no_members = tt
under_none (member k d ms) = (tt, under_none ms)

object_read : (ms : Members) → IsSorted ms → AreAtoms ms → of_json (outline (object ms)) ≡ Some (object ms)
object_read ms sorted are =
    ap (option_map object) (members_read ms no_members are ∙ ap Some (puts_behind ms no_members sorted (under_none ms)))

atom_depth : (d : Data) → IsAtom d → tree.depth (outline d) ≡ 0
atom_depth null is = absurd is
atom_depth (boolean b) is = refl
atom_depth (number n) is = refl
atom_depth (string s) is = refl
atom_depth (array ds) is = absurd is
atom_depth (object ms) is = absurd is

members_flat : (ms : Members) → AreAtoms ms → tree.members_depth (members_outline ms) ≡ 0
members_flat no_members are = refl
members_flat (member k d ms) are = rw (atom_depth d are.0.1, members_flat ms are.1) refl

atom_printable : (d : Data) (ts : List Token) → IsAtom d → ArePrintable ts → ArePrintable (tree.json_tokens (outline d) ++ ts)
unfolding ArePrintable
atom_printable null ts is are = absurd is
atom_printable (boolean b) ts is are = (tt, are)
atom_printable (number n) ts is are = (is.1, are)
atom_printable (string s) ts is are = (tt, are)
atom_printable (array ds) ts is are = absurd is
atom_printable (object ms) ts is are = absurd is

members_printable : (ms : Members) → AreAtoms ms → ArePrintable (tree.members_tokens (members_outline ms))
unfolding ArePrintable
members_printable no_members are = (tt, tt)
members_printable (member k d ms) are = (tt, atom_printable d (tree.members_tokens (members_outline ms)) are.0.1 (members_printable ms are.1))

-- what comes of the tokens
abbrev whole : Option (json.Json × List Token) → Option Data
whole found = option_and_then of_json (option_and_then (λ p. json.if_last p.0 p.1) found)

-- the text of an object of atoms is read as just this object
pub flat_read : (ms : Members) → IsSorted ms → AreAtoms ms → read (compact_text (object ms)) ≡ Some (object ms)
unfolding ArePrintable
flat_read ms sorted are =
    let j = outline (object ms) in
    let flat = members_flat ms are in
    let same : tokens (compact_text (object ms)) ≡ tree.json_tokens j =
    ap tokens (sym (print-outline (object ms))) ∙ tokens-print (tree.json_tokens j) (tt, members_printable ms are) in
    let shallow : tree.depth j ≤ max_depth = omega (arith, flat) in
    ap whole (ap (json.value max_depth) (same ∙ sym (append-nil (tree.json_tokens j))) ∙ value-json_tokens j max_depth [] shallow)
    ∙ object_read ms sorted are

-- ---- and is a text

atom_text : (d : Data) → IsAtom d → IsUtf8 (compact_text d)
atom_text null is = absurd is
atom_text (boolean b) is = IsUtf8-boolean b
atom_text (number n) is = is.3
atom_text (string s) is = IsUtf8-quoted s is
atom_text (array ds) is = absurd is
atom_text (object ms) is = absurd is

comma_text : (later : Bool) → IsUtf8 (comma_if later)
comma_text true = IsUtf8-are_ascii (44 ∷ []) refl
comma_text false = IsUtf8-are_ascii [] refl

members_are_text : (later : Bool) (ms : Members) → AreAtoms ms → IsUtf8 (members_text later ms)
members_are_text later no_members are = IsUtf8-are_ascii (125 ∷ []) refl
members_are_text later (member k d ms) are =
    let rest = compact_text d ++ members_text true ms in
    IsUtf8-append (comma_if later) (quoted k ++ 58 ∷ rest) (comma_text later)
    (subst IsUtf8 (append_assoc (quoted k) (58 ∷ []) rest) (IsUtf8-append (quoted k ++ 58 ∷ []) rest (IsUtf8-key k are.0.0) (IsUtf8-append (compact_text d) (members_text true ms) (atom_text d are.0.1) (members_are_text true ms are.1))))

pub flat_text : (ms : Members) → AreAtoms ms → IsUtf8 (compact_text (object ms))
flat_text ms are = IsUtf8-append (123 ∷ []) (members_text false ms) (IsUtf8-are_ascii (123 ∷ []) refl) (members_are_text false ms are)
