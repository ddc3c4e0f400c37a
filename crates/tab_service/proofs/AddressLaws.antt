-- What addresses spell is read from them, and nothing else is.
use Rattle.std.proofs.Common.{◌≡◌, ◌↔◌, ℕ, zero, suc, ◌+◌, ◌<◌, ◌≤◌, List, [], ◌∷◌, ◌++◌, map, length, take, drop, replicate, Bool, true, false, not, ◌||◌, ◌==◌, cond, Option, Some, None, option_map, refl, sym, ap, subst, ◌∙◌, codes, bytes_eq, arith, length-append}
use Rattle.std.specs.Prelude.{option_and_then}
use Rattle.std.specs.Char.{to_ascii_lowercase}
use Rattle.std.specs.List.{list_any, position_or_len, before_first, after_first}
use Rattle.std.specs.Str.{is_utf8}
use Rattle.std.proofs.lemmas.Bool.{eqb-true, true≢false}
use Rattle.std.proofs.lemmas.Bool.Decides.{nat_tests}
use Rattle.std.proofs.lemmas.Slice.Eq.{bytes_eq-Decides}
use Rattle.std.proofs.lemmas.List.{take-append-drop, take_at, drop_at, drop-drop, length-map}
use Rattle.tab_http.specs.Headers.{same_name}
use Rattle.tab_service.specs.Addresses.{doubled, keys_text, SpellsKeys, SpellsRow}
use Rattle.tab_service.specs.Targets.{behind, text_of, quoted, value_named, without_spaces, closed, row_key_behind, keys_in, parted, is_tables, name_quoted, quoted_table, may_begin_name, row_at, in_parentheses, address_by, address_of, table_or_rows, resource_of}
use Rattle.tab_service.specs.declared.requests.targets.Resource.{Resource}
use Rattle.tab_service.specs.declared.requests.targets.Resource.TheVariants.{Tables, Rows, Row, Batch}

-- ---- the keys

abbrev Found : Type 0
Found = Option (List ℕ × List ℕ)

abbrev with_first : ℕ → Found → Found
with_first b found = option_map (λ f. (b ∷ f.0, f.1)) found

plain_by : (b : ℕ) (bytes : List ℕ) → (b == 39) ≡ false → quoted (b ∷ bytes) ≡ with_first b (quoted bytes)
unfolding quoted
plain_by b [] is = rw is refl
plain_by b (c ∷ bytes) is = rw is refl

-- a doubled text up to the quote that ends it
quoted_text : (text : List ℕ) (c : ℕ) (rest : List ℕ) → (c == 39) ≡ false → quoted (doubled text ++ (39 ∷ c ∷ rest)) ≡ Some (text, c ∷ rest)
unfolding quoted doubled
quoted_text [] c rest is = rw is refl
quoted_text (b ∷ text) c rest is = by_test (b == 39) refl (quoted_text text c rest is)
  where
    by_test : (test : Bool) → (b == 39) ≡ test → quoted (doubled text ++ (39 ∷ c ∷ rest)) ≡ Some (text, c ∷ rest) → quoted (doubled (b ∷ text) ++ (39 ∷ c ∷ rest)) ≡ Some (b ∷ text, c ∷ rest)
    by_test true quote later = rw quote (ap (with_first 39) later ∙ ap (λ (n : ℕ). Some (n ∷ text, c ∷ rest)) (sym (eqb-true b 39 quote)))
    by_test false plain later = rw plain (plain_by b (doubled text ++ (39 ∷ c ∷ rest)) plain ∙ ap (with_first b) later)

-- ---- and nothing else is read

abbrev first_in : Found → List ℕ
first_in None = []
first_in (Some f) = f.0

abbrev second_in : Found → List ℕ
second_in None = []
second_in (Some f) = f.1

none_is_some : (p rest : List ℕ) → ◌≡◌ {A = Found} None (Some (p, rest)) → ⊥
none_is_some p rest is = cc

behind_first : (b : ℕ) (found : Found) (p rest : List ℕ) → with_first b found ≡ Some (p, rest) → (q : List ℕ) × (found ≡ Some (q, rest)) × (p ≡ b ∷ q)
behind_first b None p rest is = absurd (none_is_some p rest is)
behind_first b (Some f) p rest is = (f.0, ap (λ (r : List ℕ). Some (f.0, r)) (ap second_in is), sym (ap first_in is))

abbrev Spelled : List ℕ → Type 0
Spelled text = (p rest : List ℕ) → quoted text ≡ Some (p, rest) → text ≡ doubled p ++ 39 ∷ rest

spelled : (text : List ℕ) → Spelled text
unfolding quoted doubled
spelled [] p rest is = absurd (none_is_some p rest is)
spelled (b ∷ []) p rest is = by_test (b == 39) refl
  where
    by_test : (test : Bool) → (b == 39) ≡ test → b ∷ [] ≡ doubled p ++ 39 ∷ rest
    by_test true quote =
        let e : ◌≡◌ {A = Found} (Some ([], [])) (Some (p, rest)) = rw quote at is in
        rw (← ap first_in e, ← ap second_in e) (ap (λ (n : ℕ). n ∷ []) (eqb-true b 39 quote))
    by_test false plain = absurd (none_is_some p rest (rw plain at is))
spelled (b ∷ c ∷ bytes) p rest is = by_first (spelled bytes) (spelled (c ∷ bytes)) (b == 39) refl
  where
    by_second : Spelled bytes → (b == 39) ≡ true → (test : Bool) → (c == 39) ≡ test → b ∷ c ∷ bytes ≡ doubled p ++ 39 ∷ rest
    by_second later quote true again =
        let found = behind_first 39 (quoted bytes) p rest (rw (quote, again) at is) in
        rw found.2 (ap (λ (n : ℕ). n ∷ c ∷ bytes) (eqb-true b 39 quote) ∙ ap (λ (n : ℕ). 39 ∷ n ∷ bytes) (eqb-true c 39 again) ∙ ap (λ (l : List ℕ). 39 ∷ 39 ∷ l) (later found.0 rest found.1))
    by_second later quote false other =
        let e : ◌≡◌ {A = Found} (Some ([], c ∷ bytes)) (Some (p, rest)) = rw (quote, other) at is in
        rw (← ap first_in e, ← ap second_in e) (ap (λ (n : ℕ). n ∷ c ∷ bytes) (eqb-true b 39 quote))

    by_first : Spelled bytes → Spelled (c ∷ bytes) → (test : Bool) → (b == 39) ≡ test → b ∷ c ∷ bytes ≡ doubled p ++ 39 ∷ rest
    by_first later next true quote = by_second later quote (c == 39) refl
    by_first later next false plain =
        let found = behind_first b (quoted (c ∷ bytes)) p rest (rw plain at is) in
        rw found.2 (rw plain (ap (λ (l : List ℕ). b ∷ l) (next found.0 rest found.1)))

-- a text begins with the front
front_is : (front text rest : List ℕ) → behind front text ≡ Some rest → text ≡ front ++ rest
unfolding behind
front_is front text rest is = by_test (bytes_eq (take (length front) text) front) refl
  where
    text_in : Option (List ℕ) → List ℕ
    text_in None = []
    text_in (Some found) = found

    by_test : (test : Bool) → bytes_eq (take (length front) text) front ≡ test → text ≡ front ++ rest
    by_test true same =
        let e : Some (drop (length front) text) ≡ Some rest = rw same at is in
        sym (take-append-drop (length front) text) ∙ ap (λ (l : List ℕ). l ++ drop (length front) text) ((bytes_eq-Decides (take (length front) text) front).0 same) ∙ ap (λ (l : List ℕ). front ++ l) (ap text_in e)
    by_test false other = absurd (none_some rest (rw other at is))
      where
        none_some : (r : List ℕ) → ◌≡◌ {A = Option (List ℕ)} None (Some r) → ⊥
        none_some r h = cc

-- spaces, and what is without them
spaces_before : (text : List ℕ) → (n : ℕ) × (text ≡ replicate n 32 ++ without_spaces text)
unfolding without_spaces
spaces_before [] = (0, refl)
spaces_before (b ∷ bytes) = by_test (spaces_before bytes) (b == 32) refl
  where
    by_test : ((n : ℕ) × (bytes ≡ replicate n 32 ++ without_spaces bytes)) → (test : Bool) → (b == 32) ≡ test → (n : ℕ) × (b ∷ bytes ≡ replicate n 32 ++ without_spaces (b ∷ bytes))
    by_test more true space =
        (suc more.0, rw space (ap (λ (n : ℕ). n ∷ bytes) (eqb-true b 32 space) ∙ ap (λ (l : List ℕ). 32 ∷ l) more.1))
    by_test more false other = (0, rw other refl)

past_spaces : (n : ℕ) (rest : List ℕ) → without_spaces (replicate n 32 ++ (codes "RowKey='" ++ rest)) ≡ codes "RowKey='" ++ rest
unfolding without_spaces
past_spaces zero rest = refl
past_spaces (suc n) rest = past_spaces n rest

none_came : {B : Type 0} → (z : B) → ◌≡◌ {A = Option B} None (Some z) → ⊥
none_came z h = cc

came_of : {A B : Type 0} → (f : A → Option B) (x : Option A) (y : B) → option_and_then f x ≡ Some y → (a : A) × (x ≡ Some a) × (f a ≡ Some y)
came_of f None y is = absurd (none_came y is)
came_of f (Some a) y is = (a, refl, is)

closed_is : (p : List ℕ) (f : List ℕ × List ℕ) (pk rk : List ℕ) → closed p f ≡ Some (pk, rk) → (f.1 ≡ codes ")") × (p ≡ pk) × (f.0 ≡ rk)
closed_is p f pk rk is = by_test (bytes_eq f.1 (codes ")")) refl
  where
    by_test : (test : Bool) → bytes_eq f.1 (codes ")") ≡ test → (f.1 ≡ codes ")") × (p ≡ pk) × (f.0 ≡ rk)
    by_test true same =
        let e : ◌≡◌ {A = Found} (Some (p, f.0)) (Some (pk, rk)) = rw same at is in
        ((bytes_eq-Decides f.1 (codes ")")).0 same, ap first_in e, ap second_in e)
    by_test false other = absurd (none_is_some pk rk (rw other at is))

only_spelled : (text pk rk : List ℕ) → keys_in text ≡ Some (pk, rk) → SpellsKeys text pk rk
unfolding keys_in keys_text
only_spelled text pk rk is =
    let partition = came_of row_key_behind (value_named (codes "PartitionKey='") text) (pk, rk) is in
    let found = partition.0 in
    let text_of_pk = came_of quoted (behind (codes "PartitionKey='") text) found partition.1 in
    let row = came_of (closed found.0) (option_and_then (λ rest. value_named (codes "RowKey='") (without_spaces rest)) (behind (codes ",") found.1)) (pk, rk) partition.2 in
    let comma = came_of (λ rest. value_named (codes "RowKey='") (without_spaces rest)) (behind (codes ",") found.1) row.0 row.1 in
    let text_of_rk = came_of quoted (behind (codes "RowKey='") (without_spaces comma.0)) row.0 comma.2 in
    let ends = closed_is found.0 row.0 pk rk row.2 in
    let spaces = spaces_before comma.0 in
    let is_0 = front_is (codes "PartitionKey='") text text_of_pk.0 text_of_pk.1 in
    let is_1 = spelled text_of_pk.0 found.0 found.1 text_of_pk.2 in
    let is_2 = front_is (codes ",") found.1 comma.0 comma.1 in
    let is_3 = front_is (codes "RowKey='") (without_spaces comma.0) text_of_rk.0 text_of_rk.1 in
    let is_4 = spelled text_of_rk.0 row.0.0 row.0.1 text_of_rk.2 in
    record {
      spaces = spaces.0;
      text_is =
          is_0 ∙ ap (λ (l : List ℕ). codes "PartitionKey='" ++ l) (is_1 ∙ ap (λ (l : List ℕ). doubled l ++ 39 ∷ found.1) ends.1
          ∙ ap (λ (l : List ℕ). doubled pk ++ 39 ∷ l) (is_2 ∙ ap (λ (l : List ℕ). 44 ∷ l) (spaces.1
          ∙ ap (λ (l : List ℕ). replicate spaces.0 32 ++ l) (is_3 ∙ ap (λ (l : List ℕ). codes "RowKey='" ++ l) (is_4
          ∙ ap (λ (l : List ℕ). doubled l ++ 39 ∷ row.0.1) ends.2 ∙ ap (λ (l : List ℕ). doubled rk ++ 39 ∷ l) ends.0)))));
    }

spelled_is_read : (n : ℕ) (pk rk : List ℕ) → keys_in (keys_text n pk rk) ≡ Some (pk, rk)
unfolding keys_in behind keys_text
spelled_is_read n pk rk =
    ap (λ (found : Found). option_and_then row_key_behind found) (quoted_text pk 44 (replicate n 32 ++ (codes "RowKey='" ++ (doubled rk ++ codes "')"))) refl)
    ∙ ap (λ (l : List ℕ). option_and_then (closed pk) (value_named (codes "RowKey='") l)) (past_spaces n (doubled rk ++ codes "')"))
    ∙ ap (λ (found : Found). option_and_then (closed pk) found) (quoted_text rk 41 [] refl)

pub keys_are_read : (text pk rk : List ℕ) → (keys_in text ≡ Some (pk, rk)) ↔ SpellsKeys text pk rk
keys_are_read text pk rk = (only_spelled text pk rk, λ s. ap keys_in s.text_is ∙ spelled_is_read s.spaces pk rk)

-- ---- texts parted at a byte

-- before and behind the first such byte of a text that has one
record IsCut (byte : ℕ) (text before after : List ℕ) : Type 0 where
  text_is : text ≡ before ++ byte ∷ after
  none_before : list_any (λ b. b == byte) before ≡ false

cut_by : (byte : ℕ) (test : Bool) (x n : ℕ) (xs : List ℕ) → (x == byte) ≡ test → (list_any (λ b. b == byte) xs ≡ true → IsCut byte xs (take n xs) (drop (n + 1) xs)) → (test || list_any (λ b. b == byte) xs) ≡ true
    → IsCut byte (x ∷ xs) (take (cond (not test) (1 + n) 0) (x ∷ xs)) (drop (cond (not test) (1 + n) 0 + 1) (x ∷ xs))
cut_by byte true x n xs is rest any = record { text_is = ap (λ (y : ℕ). y ∷ xs) (eqb-true x byte is); none_before = refl }
cut_by byte false x n xs is rest any =
    let more : 1 + n ≡ suc n = omega arith in
    let yet_more : 1 + n + 1 ≡ suc (n + 1) = omega arith in
    rw (yet_more, more) (record {
      text_is = ap (λ (ys : List ℕ). x ∷ ys) (rest any).text_is;
      none_before = rw is (rest any).none_before;
    })

cut : (byte : ℕ) (text : List ℕ) → list_any (λ b. b == byte) text ≡ true → IsCut byte text (before_first (λ b. b == byte) text) (after_first (λ b. b == byte) text)
cut byte [] any = absurd (true≢false (sym any))
cut byte (x ∷ xs) any = cut_by byte (x == byte) x (position_or_len (λ b. b == byte) xs) xs refl (cut byte xs) any

parted_is : (byte : ℕ) (text : List ℕ) (parts : List ℕ × List ℕ) → parted byte text ≡ Some parts → IsCut byte text parts.0 parts.1
parted_is byte text parts is = by_test (list_any (λ b. b == byte) text) refl
  where
    by_test : (test : Bool) → list_any (λ b. b == byte) text ≡ test → IsCut byte text parts.0 parts.1
    by_test true any =
        let e : ◌≡◌ {A = Found} (Some (before_first (λ b. b == byte) text, after_first (λ b. b == byte) text)) (Some parts) = rw any at is in
        subst (λ (b : List ℕ). IsCut byte text b parts.1) (ap first_in e) (subst (λ (a : List ℕ). IsCut byte text (before_first (λ b. b == byte) text) a) (ap second_in e) (cut byte text any))
    by_test false any = absurd (none_is_some parts.0 parts.1 (rw any at is))

has_byte : (byte : ℕ) (before after : List ℕ) → (byte == byte) ≡ true → list_any (λ b. b == byte) (before ++ byte ∷ after) ≡ true
has_byte byte [] after same = rw same refl
has_byte byte (x ∷ xs) after same =
    elim (x == byte) as (λ test. (test || list_any (λ b. b == byte) (xs ++ byte ∷ after)) ≡ true) [ true ↦ refl | false ↦ has_byte byte xs after same ]

length_before : (byte : ℕ) (before after : List ℕ) → (byte == byte) ≡ true → list_any (λ b. b == byte) before ≡ false → position_or_len (λ b. b == byte) (before ++ byte ∷ after) ≡ length before
length_before byte [] after same = λ none. rw same refl
length_before byte (x ∷ xs) after same =
    elim (x == byte) as (λ test. (test || list_any (λ b. b == byte) xs) ≡ false → cond (not test) (1 + position_or_len (λ b. b == byte) (xs ++ byte ∷ after)) 0 ≡ suc (length xs)) [ true ↦ λ none. absurd (true≢false none) | false ↦ λ none. omega (arith, length_before byte xs after same none) ]

parted_at : (byte : ℕ) (before after : List ℕ) → (byte == byte) ≡ true → list_any (λ b. b == byte) before ≡ false → parted byte (before ++ byte ∷ after) ≡ Some (before, after)
parted_at byte before after same none =
    let size = length_before byte before after same none in
    let rest : drop (length before + 1) (before ++ byte ∷ after) ≡ after = sym (drop-drop 1 (length before) (before ++ byte ∷ after)) ∙ ap (drop 1) (drop_at before (byte ∷ after) (length before) refl) in
    rw (has_byte byte before after same, size, take_at before (byte ∷ after) (length before) refl, rest) refl

-- ---- what a row's address is not

no_bytes : (n : ℕ) (pk rk : List ℕ) → 14 ≤ length (keys_text n pk rk)
unfolding keys_text
no_bytes n pk rk = omega arith

longer : (text other : List ℕ) → length other < length text → same_name text other ≡ false
longer text other long = by_test (same_name text other) refl
  where
    by_test : (test : Bool) → same_name text other ≡ test → same_name text other ≡ false
    by_test true e =
        let same = ap length ((bytes_eq-Decides (map to_ascii_lowercase text) (map to_ascii_lowercase other)).0 e) in
        let sizes : length text ≡ length other = sym (length-map text to_ascii_lowercase) ∙ (same ∙ length-map other to_ascii_lowercase) in
        absurd (omega (arith, sizes))
    by_test false e = e

other_bytes : (text other : List ℕ) → length other < length text → bytes_eq text other ≡ false
other_bytes text other long = by_test (bytes_eq text other) refl
  where
    by_test : (test : Bool) → bytes_eq text other ≡ test → bytes_eq text other ≡ false
    by_test true e =
        let same = ap length ((bytes_eq-Decides text other).0 e) in
        absurd (omega (arith, same))
    by_test false e = e

low_parenthesis : (b : ℕ) → to_ascii_lowercase b ≡ 40 → b ≡ 40
low_parenthesis b e = grind (arith, nat_tests)

first_of : ℕ → List ℕ → ℕ
first_of none [] = none
first_of none (b ∷ bytes) = b

heads : (b c : ℕ) (xs ys : List ℕ) → b ∷ xs ≡ c ∷ ys → (b ≡ c) × (xs ≡ ys)
heads b c xs ys e = (cc, cc)

no_head : (b : ℕ) (xs : List ℕ) → [] ≡ b ∷ xs → ⊥
no_head b xs e = cc

-- no word with its parenthesis stands before a quote, where the first parenthesis of the text is not before one
not_before_quote : (word a name b rest : List ℕ) → list_any (λ c. c == 40) word ≡ false → map to_ascii_lowercase a ≡ word ++ 40 ∷ [] → a ++ 39 ∷ b ≡ name ++ 40 ∷ 80 ∷ rest → list_any (λ c. c == 40) name ≡ false → ⊥
not_before_quote [] [] name b rest plain low is none = no_head 40 [] low
not_before_quote (c ∷ word) [] name b rest plain low is none = no_head c (word ++ 40 ∷ []) low
not_before_quote [] (x ∷ []) [] b rest plain low is none =
    let second = heads 39 80 b rest ((heads x 40 (39 ∷ b) (80 ∷ rest) is).1) in
    absurd (omega (arith, second.0))
not_before_quote [] (x ∷ y ∷ a) name b rest plain low is none = no_head (to_ascii_lowercase y) (map to_ascii_lowercase a) (sym (heads (to_ascii_lowercase x) 40 (map to_ascii_lowercase (y ∷ a)) [] low).1)
not_before_quote [] (x ∷ []) (n ∷ name) b rest plain low is none =
    let at_n : n ≡ 40 = sym (heads x n (39 ∷ b) (name ++ 40 ∷ 80 ∷ rest) is).0 ∙ low_parenthesis x (heads (to_ascii_lowercase x) 40 [] [] low).0 in
    true≢false (sym (ap (λ (m : ℕ). m == 40 || list_any (λ c. c == 40) name) at_n) ∙ none)
not_before_quote (c ∷ word) (x ∷ a) [] b rest plain low is none =
    let at_x : x ≡ 40 = (heads x 40 (a ++ 39 ∷ b) (80 ∷ rest) is).0 in
    let at_c : c ≡ 40 = sym (heads (to_ascii_lowercase x) c (map to_ascii_lowercase a) (word ++ 40 ∷ []) low).0 ∙ ap to_ascii_lowercase at_x in
    true≢false (sym (ap (λ (m : ℕ). m == 40 || list_any (λ d. d == 40) word) at_c) ∙ plain)
not_before_quote (c ∷ word) (x ∷ a) (n ∷ name) b rest plain low is none =
    not_before_quote word a name b rest (later (c == 40) (list_any (λ d. d == 40) word) plain) ((heads (to_ascii_lowercase x) c (map to_ascii_lowercase a) (word ++ 40 ∷ []) low).1) ((heads x n (a ++ 39 ∷ b) (name ++ 40 ∷ 80 ∷ rest) is).1) (later (n == 40) (list_any (λ d. d == 40) name) none)
  where
    later : (p q : Bool) → (p || q) ≡ false → q ≡ false
    later true q e = absurd (true≢false e)
    later false q e = e

no_table : (name rest : List ℕ) → list_any (λ c. c == 40) name ≡ false → quoted_table (name ++ 40 ∷ 80 ∷ rest) ≡ None
unfolding quoted_table
no_table name rest none = by_parts (parted 39 (name ++ 40 ∷ 80 ∷ rest)) refl
  where
    by_parts : (found : Found) → parted 39 (name ++ 40 ∷ 80 ∷ rest) ≡ found → option_and_then name_quoted found ≡ None
    by_parts None e = refl
    by_parts (Some parts) e = by_test (same_name parts.0 (codes "tables(")) refl
      where
        by_test : (test : Bool) → same_name parts.0 (codes "tables(") ≡ test → name_quoted parts ≡ None
        by_test true same =
            let low : map to_ascii_lowercase parts.0 ≡ codes "tables(" = (bytes_eq-Decides (map to_ascii_lowercase parts.0) (codes "tables(")).0 same in
            let is = (parted_is 39 (name ++ 40 ∷ 80 ∷ rest) parts e).text_is in
            absurd (not_before_quote (codes "tables") parts.0 name parts.1 rest refl low (sym is) none)
        by_test false other = rw other refl

-- ---- the address of a row

begins_alike : (name rest : List ℕ) → may_begin_name (name ++ 40 ∷ rest) ≡ may_begin_name name
unfolding may_begin_name
begins_alike [] rest = refl
begins_alike (b ∷ name) rest = refl

row_found : (name pk rk : List ℕ) → is_utf8 pk ≡ true → is_utf8 rk ≡ true → row_at name (pk, rk) ≡ Some (Row name pk rk)
unfolding text_of
row_found name pk rk pk_text rk_text = rw (pk_text, rk_text) refl

long_text : (n : ℕ) (name pk rk : List ℕ) → 14 < length (name ++ 40 ∷ keys_text n pk rk)
long_text n name pk rk =
    let size = length-append name (40 ∷ keys_text n pk rk) in
    let least = no_bytes n pk rk in
    omega (arith, size, least)

no_table_named : (n : ℕ) (name pk rk : List ℕ) → list_any (λ c. c == 40) name ≡ false → quoted_table (name ++ 40 ∷ keys_text n pk rk) ≡ None
unfolding keys_text
no_table_named n name pk rk none = no_table name (codes "artitionKey='" ++ (doubled pk ++ (codes "'," ++ (replicate n 32 ++ (codes "RowKey='" ++ (doubled rk ++ codes "')")))))) none

not_closed : (n : ℕ) (pk rk : List ℕ) → bytes_eq (keys_text n pk rk) (codes ")") ≡ false
not_closed n pk rk =
    let least = no_bytes n pk rk in
    other_bytes (keys_text n pk rk) (codes ")") (omega (arith, least))

row_address : (n : ℕ) (name pk rk : List ℕ) → may_begin_name name ≡ true → list_any (λ b. b == 40) name ≡ false → is_utf8 pk ≡ true → is_utf8 rk ≡ true
    → address_of (name ++ 40 ∷ keys_text n pk rk) ≡ Some (Row name pk rk)
unfolding address_of
row_address n name pk rk begins plain pk_text rk_text =
    rw (begins_alike name (keys_text n pk rk) ∙ begins, parted_at 40 name (keys_text n pk rk) refl plain, not_closed n pk rk, spelled_is_read n pk rk) (row_found name pk rk pk_text rk_text)

row_is_read : (text name pk rk : List ℕ) → SpellsRow text name pk rk → resource_of text ≡ Some (Row name pk rk)
unfolding resource_of is_tables
row_is_read text name pk rk s =
    let whole = name ++ 40 ∷ keys_text s.spaces pk rk in
    let long = long_text s.spaces name pk rk in
    ap resource_of s.text_is
    ∙ rw (longer whole (codes "tables") (omega (arith, long)), longer whole (codes "tables()") (omega (arith, long)), other_bytes whole (codes "$batch") (omega (arith, long)), no_table_named s.spaces name pk rk s.plain)
    (row_address s.spaces name pk rk s.begins s.plain s.pk_is_text s.rk_is_text)

abbrev Address : Type 0
Address = Option Resource

record IsRow (n : List ℕ) (keys : List ℕ × List ℕ) (name pk rk : List ℕ) : Type 0 where
  name_is : n ≡ name
  pk_is : keys.0 ≡ pk
  rk_is : keys.1 ≡ rk
  pk_text : is_utf8 keys.0 ≡ true
  rk_text : is_utf8 keys.1 ≡ true

same_row : (a b c d e f : List ℕ) → ◌≡◌ {A = Address} (Some (Row a b c)) (Some (Row d e f)) → (a ≡ d) × (b ≡ e) × (c ≡ f)
same_row a b c d e f h = (cc, cc, cc)

no_row : (name pk rk : List ℕ) → ◌≡◌ {A = Address} None (Some (Row name pk rk)) → ⊥
no_row name pk rk h = cc

row_at_is : (n : List ℕ) (keys : List ℕ × List ℕ) (name pk rk : List ℕ) → row_at n keys ≡ Some (Row name pk rk) → IsRow n keys name pk rk
unfolding text_of
row_at_is n keys name pk rk h = by_tests (is_utf8 keys.0) (is_utf8 keys.1) refl refl
  where
    by_tests : (p q : Bool) → is_utf8 keys.0 ≡ p → is_utf8 keys.1 ≡ q → IsRow n keys name pk rk
    by_tests true true e f =
        let same = same_row n keys.0 keys.1 name pk rk (rw (e, f) at h) in
        record { name_is = same.0; pk_is = same.1; rk_is = same.2; pk_text = e; rk_text = f }
    by_tests true false e f = absurd (no_row name pk rk (rw (e, f) at h))
    by_tests false q e f = absurd (no_row name pk rk (rw e at h))

after_tables : (a b : Bool) (rest : Address) (name pk rk : List ℕ) → cond a (Some Tables) (cond b (Some Batch) rest) ≡ Some (Row name pk rk) → rest ≡ Some (Row name pk rk)
after_tables true b rest name pk rk h = cc h
after_tables false true rest name pk rk h = cc h
after_tables false false rest name pk rk h = h

after_table : (text : List ℕ) (found : Option (List ℕ)) (name pk rk : List ℕ) → table_or_rows text found ≡ Some (Row name pk rk) → address_of text ≡ Some (Row name pk rk)
after_table text None name pk rk h = h
after_table text (Some n) name pk rk h = cc h

if_begins : (may : Bool) (address : Address) (name pk rk : List ℕ) → cond may address None ≡ Some (Row name pk rk) → (may ≡ true) × (address ≡ Some (Row name pk rk))
if_begins true address name pk rk h = (refl, h)
if_begins false address name pk rk h = absurd (no_row name pk rk h)

-- what stands in the parentheses of a row's address
in_row : (parts : List ℕ × List ℕ) (name pk rk : List ℕ) → in_parentheses parts ≡ Some (Row name pk rk) → option_and_then (row_at parts.0) (keys_in parts.1) ≡ Some (Row name pk rk)
in_row parts name pk rk h = by_test (bytes_eq parts.1 (codes ")")) (option_and_then (row_at parts.0) (keys_in parts.1)) h
  where
    by_test : (test : Bool) (rest : Address) → cond test (Some (Rows parts.0)) rest ≡ Some (Row name pk rk) → rest ≡ Some (Row name pk rk)
    by_test true rest e = cc e
    by_test false rest e = e

spelled_row : (text name pk rk : List ℕ) (parts : List ℕ × List ℕ) → may_begin_name text ≡ true → parted 40 text ≡ Some parts → in_parentheses parts ≡ Some (Row name pk rk) → SpellsRow text name pk rk
spelled_row text name pk rk parts may is h =
    let cut_at = parted_is 40 text parts is in
    let keys = came_of (row_at parts.0) (keys_in parts.1) (Row name pk rk) (in_row parts name pk rk h) in
    let row = row_at_is parts.0 keys.0 name pk rk keys.2 in
    let pair : keys.0 ≡ (pk, rk) = λ i. (row.pk_is i, row.rk_is i) in
    let spells = only_spelled parts.1 pk rk (keys.1 ∙ ap Some pair) in
    let named : text ≡ name ++ 40 ∷ parts.1 = cut_at.text_is ∙ ap (λ (n : List ℕ). n ++ 40 ∷ parts.1) row.name_is in
    record {
      spaces = spells.spaces;
      text_is = named ∙ ap (λ (l : List ℕ). name ++ 40 ∷ l) spells.text_is;
      begins = sym (begins_alike name parts.1) ∙ (sym (ap may_begin_name named) ∙ may);
      plain = subst (λ (n : List ℕ). list_any (λ b. b == 40) n ≡ false) row.name_is cut_at.none_before;
      pk_is_text = subst (λ (k : List ℕ). is_utf8 k ≡ true) row.pk_is row.pk_text;
      rk_is_text = subst (λ (k : List ℕ). is_utf8 k ≡ true) row.rk_is row.rk_text;
    }

only_row : (text name pk rk : List ℕ) → resource_of text ≡ Some (Row name pk rk) → SpellsRow text name pk rk
unfolding resource_of address_of
only_row text name pk rk h =
    let address = if_begins (may_begin_name text) (address_by text (parted 40 text)) name pk rk (after_table text (quoted_table text) name pk rk (after_tables (is_tables text) (bytes_eq text (codes "$batch")) (table_or_rows text (quoted_table text)) name pk rk h)) in
    by_parts (parted 40 text) refl address.0 address.1
  where
    by_parts : (found : Found) → parted 40 text ≡ found → may_begin_name text ≡ true → address_by text found ≡ Some (Row name pk rk) → SpellsRow text name pk rk
    by_parts None e may is = absurd (rows_no_row is)
      where
        rows_no_row : ◌≡◌ {A = Address} (Some (Rows text)) (Some (Row name pk rk)) → ⊥
        rows_no_row k = cc
    by_parts (Some parts) e may is = spelled_row text name pk rk parts may e is

pub rows_are_read : (text name pk rk : List ℕ) → (resource_of text ≡ Some (Row name pk rk)) ↔ SpellsRow text name pk rk
rows_are_read text name pk rk = (only_row text name pk rk, row_is_read text name pk rk)
