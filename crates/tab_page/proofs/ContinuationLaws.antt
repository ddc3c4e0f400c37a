-- What tokens say is what the query that hands them back asks for.
use Rattle.std.proofs.Common.{◌≡◌, ◌≢◌, ℕ, zero, suc, ◌<◌, ◌/◌, ◌%◌, ◌*◌, ◌+◌, ◌&&◌, not, List, [], ◌∷◌, ◌++◌, map, length, Bool, true, false, ◌==◌, cond, All, IsUtf8, Option, Some, None, Result, Ok, Err, nat_lt, refl, sym, ap, subst, ◌∙◌, codes, arith, bytes_eq, append-nil}
use Rattle.std.specs.Prelude.{filter, get_or}
use Rattle.std.specs.List.{list_all}
use Rattle.std.specs.Str.Lossy.{utf8_lossy}
use Rattle.std.proofs.lemmas.Bool.{and_parts}
use Rattle.std.proofs.lemmas.Bool.Decides.{nat_tests}
use Rattle.std.proofs.lemmas.Str.Ascii.{IsAscii-from_all}
use Rattle.std.proofs.lemmas.List.{map-append}
use Rattle.std.proofs.lemmas.List.Elements.{All-nil, All-cons, All-weaker, filter-append}
use Rattle.std.proofs.lemmas.List.Folds.{list_all-append}
use Rattle.std.proofs.lemmas.Str.{IsUtf8-from_ascii, utf8_lossy-IsUtf8}
use Rattle.base64.specs.Rfc4648.{encode_symbols}
use Rattle.base64.specs.GeneralPurpose.{encode_of}
use Rattle.base64.specs.Engines.{url_safe_no_pad}
use Rattle.form_urlencoded.specs.Form.{split_once, onto_first, split, split_pair, is_nonempty, raw_pairs, IsPlain}
use Rattle.form_urlencoded.proofs.FormLemmas.{raw_pairs-nil, raw_pairs_first, split_once_before_none, split_once_after_none, decode_plain}
use Rattle.tab_keys.specs.KeyTexts.{IsKeyText}
use Rattle.tab_keys.specs.Results.{◌>>=◌}
use Rattle.tab_filter.specs.Trees.{Tree}
use Rattle.tab_page.specs.declared.pages.Options.{Options}
use Rattle.tab_page.specs.declared.queries.OptionRefused.{OptionRefused}
use Rattle.tab_page.specs.declared.selects.Select.{Select}
use Rattle.tab_page.specs.Queries.{decoded, values, single, option_at, top_of, token_of, row_of, start_of, filter_of, select_of, options_of, read_options}
use Rattle.tab_page.specs.Tokens.{token_text, read_token}
use Rattle.tab_page.specs.Continuations.{joined, next_query, IsReadAlone, IsReadBehind}
use Rattle.tab_page.proofs.TokenLaws.{one_spelling}

-- ---- the pairs of joined queries

abbrev Pair : Type 0
Pair = List ℕ × List ℕ

record HasPiece (pieces : List (List ℕ)) : Type 0 where
  piece : List ℕ
  more : List (List ℕ)
  is : pieces ≡ piece ∷ more

-- a text has a first piece
pieces_of : (s : ℕ) (bytes : List ℕ) → HasPiece (split s bytes)
unfolding split
pieces_of s [] = record { piece = []; more = []; is = refl }
pieces_of s (b ∷ bytes) = by_test (b == s) (pieces_of s bytes)
  where
    by_test : (test : Bool) → HasPiece (split s bytes) → HasPiece (cond test ([] ∷ split s bytes) (onto_first b (split s bytes)))
    by_test true later = record { piece = []; more = split s bytes; is = refl }
    by_test false later = record { piece = b ∷ later.piece; more = later.more; is = ap (onto_first b) later.is }

split_joined : (s : ℕ) (xs ys : List ℕ) → (s == s) ≡ true → split s (xs ++ s ∷ ys) ≡ split s xs ++ split s ys
unfolding split
split_joined s [] ys same = ap (λ (t : Bool). cond t ([] ∷ split s ys) (onto_first s (split s ys))) same
split_joined s (b ∷ xs) ys same = by_test (b == s) (pieces_of s xs) (split_joined s xs ys same)
  where
    by_test : (test : Bool) → HasPiece (split s xs) → split s (xs ++ s ∷ ys) ≡ split s xs ++ split s ys
        → cond test ([] ∷ split s (xs ++ s ∷ ys)) (onto_first b (split s (xs ++ s ∷ ys))) ≡ cond test ([] ∷ split s xs) (onto_first b (split s xs)) ++ split s ys
    by_test true later is = ap (λ (l : List (List ℕ)). [] ∷ l) is
    by_test false later is =
        ap (onto_first b) is
        ∙ (ap (λ (l : List (List ℕ)). onto_first b (l ++ split s ys)) later.is
        ∙ ap (λ (l : List (List ℕ)). onto_first b l ++ split s ys) (sym later.is))

pub pairs_joined : (xs ys : List ℕ) → raw_pairs (joined xs ys) ≡ raw_pairs xs ++ raw_pairs ys
unfolding raw_pairs
pairs_joined xs ys =
    ap (λ (l : List (List ℕ)). map split_pair (filter is_nonempty l)) (split_joined 38 xs ys refl)
    ∙ (ap (map split_pair) (filter-append is_nonempty (split 38 xs) (split 38 ys))
    ∙ map-append split_pair (filter is_nonempty (split 38 xs)) (filter is_nonempty (split 38 ys)))

pub values-append : (name : List ℕ) (xs ys : List Pair) → values name (xs ++ ys) ≡ values name xs ++ values name ys
values-append name [] ys = refl
values-append name (pair ∷ xs) ys = by_test (bytes_eq (decoded pair.0) name) (values-append name xs ys)
  where
    by_test : (test : Bool) → values name (xs ++ ys) ≡ values name xs ++ values name ys
        → cond test (decoded pair.1 ∷ values name (xs ++ ys)) (values name (xs ++ ys)) ≡ cond test (decoded pair.1 ∷ values name xs) (values name xs) ++ values name ys
    by_test true is = ap (λ (l : List (List ℕ)). decoded pair.1 ∷ l) is
    by_test false is = is

-- ---- texts that stand for themselves

-- ASCII, and neither `&`, `+` nor `%`
unfoldable pub is_safe : ℕ → Bool
is_safe b = nat_lt b 128 && (not (b == 38) && (not (b == 43) && not (b == 37)))

no_false : ◌≡◌ {A = Bool} false true → ⊥
no_false e = cc

record IsSafe (b : ℕ) : Type 0 where
  pub no_and : b ≢ 38
  pub no_plus : b ≢ 43
  pub no_percent : b ≢ 37
  pub low : b < 128

-- what holds of a byte that is safe does not hold where the test fails
safe_parts : (b : ℕ) → is_safe b ≡ true → IsSafe b
unfolding is_safe
safe_parts b is =
    let lower : nat_lt b 128 ≡ true = (and_parts (nat_lt b 128) (not (b == 38) && (not (b == 43) && not (b == 37))) is).0 in
    record {
      no_and = λ e. no_false (subst (λ (n : ℕ). is_safe n ≡ true) e is);
      no_plus = λ e. no_false (subst (λ (n : ℕ). is_safe n ≡ true) e is);
      no_percent = λ e. no_false (subst (λ (n : ℕ). is_safe n ≡ true) e is);
      low = grind (arith, nat_tests);
    }

safe_at : (xs : List ℕ) (i : ℕ) → list_all is_safe xs ≡ true → is_safe (get_or xs i 0) ≡ true
unfolding is_safe
safe_at [] i is = refl
safe_at (x ∷ xs) zero is = (and_parts (is_safe x) (list_all is_safe xs) is).0
safe_at (x ∷ xs) (suc i) is = safe_at xs i (and_parts (is_safe x) (list_all is_safe xs) is).1

symbols_safe : (t m : List ℕ) → list_all is_safe t ≡ true → list_all is_safe (encode_symbols t m) ≡ true
unfolding encode_symbols
symbols_safe t [] is = refl
symbols_safe t (a ∷ []) is = rw (safe_at t (a / 4) is, safe_at t (a % 4 * 16) is) refl
symbols_safe t (a ∷ b ∷ []) is = rw (safe_at t (a / 4) is, safe_at t (a % 4 * 16 + b / 16) is, safe_at t (b % 16 * 4) is) refl
symbols_safe t (a ∷ b ∷ c ∷ rest) is =
    rw (safe_at t (a / 4) is, safe_at t (a % 4 * 16 + b / 16) is, safe_at t (b % 16 * 4 + c / 64) is, safe_at t (c % 64) is) (symbols_safe t rest is)

abbrev table : List ℕ
table = url_safe_no_pad.encode_table

table_safe : list_all is_safe table ≡ true
unfolding is_safe
table_safe = refl

all_safe : (xs : List ℕ) → list_all is_safe xs ≡ true → All IsSafe xs
all_safe [] is = All-nil IsSafe
all_safe (x ∷ xs) is =
    let parts = and_parts (is_safe x) (list_all is_safe xs) is in
    All-cons IsSafe x xs (safe_parts x parts.0) (all_safe xs parts.1)

encoded_safe : (key : List ℕ) → list_all is_safe (encode_of url_safe_no_pad key) ≡ true
encoded_safe key = rw (list_all-append is_safe (encode_symbols table key) []) (rw (symbols_safe table key table_safe) refl)

-- a safe text stands for itself
pub decoded_safe : (xs : List ℕ) → list_all is_safe xs ≡ true → decoded xs ≡ xs
decoded_safe xs is =
    let safe = all_safe xs is in
    ap utf8_lossy (decode_plain xs (All-weaker IsSafe IsPlain (λ b s. (s.no_plus, s.no_percent)) xs safe))
    ∙ utf8_lossy-IsUtf8 xs (IsUtf8-from_ascii xs (IsAscii-from_all xs (All-weaker IsSafe (λ b. b < 128) (λ b s. s.low) xs safe)))

no_ands : (xs : List ℕ) → list_all is_safe xs ≡ true → All (λ b. b ≢ 38) xs
no_ands xs is = All-weaker IsSafe (λ b. b ≢ 38) (λ b s. s.no_and) xs (all_safe xs is)

pub token_safe : (key : List ℕ) → list_all is_safe (token_text key) ≡ true
unfolding token_text is_safe
token_safe key = encoded_safe key

token_utf8 : (key : List ℕ) → IsUtf8 (token_text key)
token_utf8 key = IsUtf8-from_ascii (token_text key) (IsAscii-from_all (token_text key) (All-weaker IsSafe (λ b. b < 128) (λ b s. s.low) (token_text key) (all_safe (token_text key) (token_safe key))))

-- a text that is one pair
pub one_pair : (piece : List ℕ) → list_all is_safe piece ≡ true → 0 < length piece → raw_pairs piece ≡ split_pair piece ∷ []
one_pair piece safe some =
    let none = no_ands piece safe in
    let first = split_once_before_none 38 piece none in
    let long : 0 < length ((split_once 38 piece).0) = rw first some in
    raw_pairs_first piece long
    ∙ (ap (λ (xs : List ℕ). split_pair xs ∷ raw_pairs ((split_once 38 piece).1)) first
    ∙ (ap (λ (xs : List ℕ). split_pair piece ∷ raw_pairs xs) (split_once_after_none 38 piece none)
    ∙ ap (λ (ps : List Pair). split_pair piece ∷ ps) raw_pairs-nil))

-- ---- the two tokens

pub partition_pairs : (pk : List ℕ) → raw_pairs (codes "NextPartitionKey=" ++ token_text pk) ≡ (codes "NextPartitionKey", token_text pk) ∷ []
unfolding is_safe
partition_pairs pk = one_pair (codes "NextPartitionKey=" ++ token_text pk) (token_safe pk) (omega arith)

pub row_pairs : (rk : List ℕ) → raw_pairs (codes "NextRowKey=" ++ token_text rk) ≡ (codes "NextRowKey", token_text rk) ∷ []
unfolding is_safe
row_pairs rk = one_pair (codes "NextRowKey=" ++ token_text rk) (token_safe rk) (omega arith)

abbrev next_pairs : List ℕ → List ℕ → List Pair
next_pairs pk rk = (codes "NextPartitionKey", token_text pk) ∷ (codes "NextRowKey", token_text rk) ∷ []

query_pairs : (pk rk : List ℕ) → raw_pairs (next_query (pk, rk)) ≡ next_pairs pk rk
query_pairs pk rk =
    pairs_joined (codes "NextPartitionKey=" ++ token_text pk) (codes "NextRowKey=" ++ token_text rk)
    ∙ (ap (λ (ps : List Pair). ps ++ raw_pairs (codes "NextRowKey=" ++ token_text rk)) (partition_pairs pk)
    ∙ ap (λ (ps : List Pair). (codes "NextPartitionKey", token_text pk) ∷ ps) (row_pairs rk))

partition_name : decoded (codes "NextPartitionKey") ≡ codes "NextPartitionKey"
unfolding is_safe
partition_name = decoded_safe (codes "NextPartitionKey") refl

row_name : decoded (codes "NextRowKey") ≡ codes "NextRowKey"
unfolding is_safe
row_name = decoded_safe (codes "NextRowKey") refl

pub decoded_token : (key : List ℕ) → decoded (token_text key) ≡ token_text key
decoded_token key = decoded_safe (token_text key) (token_safe key)

-- the values of a name in the two pairs, where the names and the values stand for themselves
abbrev plain_values : List ℕ → List ℕ → List ℕ → List (List ℕ)
plain_values name pk rk =
    let behind = cond (bytes_eq (codes "NextRowKey") name) (token_text rk ∷ []) [] in
    cond (bytes_eq (codes "NextPartitionKey") name) (token_text pk ∷ behind) behind

next_values : (name pk rk : List ℕ) → values name (raw_pairs (next_query (pk, rk))) ≡ plain_values name pk rk
next_values name pk rk = ap (values name) (query_pairs pk rk) ∙ rw (partition_name, row_name, decoded_token pk, decoded_token rk) refl

-- the options of a joined query
joined_values : (name query pk rk : List ℕ) → values name (raw_pairs (joined query (next_query (pk, rk)))) ≡ values name (raw_pairs query) ++ plain_values name pk rk
joined_values name query pk rk =
    ap (values name) (pairs_joined query (next_query (pk, rk)))
    ∙ (values-append name (raw_pairs query) (raw_pairs (next_query (pk, rk)))
    ∙ ap (λ (l : List (List ℕ)). values name (raw_pairs query) ++ l) (next_values name pk rk))

-- ---- tokens are read

pub token_read : (key : List ℕ) → IsKeyText key → read_token (token_text key) ≡ Some key
token_read key is = (one_spelling (token_text key) key (token_utf8 key)).1 (refl, is)

start_read : (pk rk : List ℕ) → IsKeyText pk → IsKeyText rk → start_of (Some (token_text pk)) (Some (token_text rk)) ≡ Ok (Some (pk, rk))
start_read pk rk is_pk is_rk = rw (token_read pk is_pk, token_read rk is_rk) refl

abbrev Value : Type 0
Value = Result (Option (List ℕ)) OptionRefused

abbrev Start : Type 0
Start = Result (Option (List ℕ × List ℕ)) OptionRefused

-- what is read, from the five options
abbrev read_of : Value → Value → Value → Value → Value → Result Options OptionRefused
read_of f s t p r = f >>= λ filter. (s >>= λ select. (t >>= λ top. (p >>= λ partition. (r >>= λ row. options_of filter select top partition row))))

abbrev with_start : Result ℕ OptionRefused → Start → Result (Option Tree) OptionRefused → Select → Result Options OptionRefused
with_start most start tree select = most >>= λ m. (start >>= λ s. (tree >>= λ t. Ok (record { filter = t; select = select; top = m; start = s })))

-- another start in the place of the one that was read
record HasStart (most : Result ℕ OptionRefused) (start : Start) (tree : Result (Option Tree) OptionRefused) (select : Select) (options : Options) : Type 0 where
  start_is : start ≡ Ok options.start
  other : (next : Option (List ℕ × List ℕ)) → with_start most (Ok next) tree select ≡ Ok (record options { start = next })

abbrev options_from : Options → Result Options OptionRefused → Options
options_from none (Ok options) = options
options_from none (Err why) = none

has_start : (most : Result ℕ OptionRefused) (start : Start) (tree : Result (Option Tree) OptionRefused) (select : Select) (options : Options)
    → with_start most start tree select ≡ Ok options → HasStart most start tree select options
has_start (Err why) start tree select options h = cc h
has_start (Ok m) (Err why) tree select options h = cc h
has_start (Ok m) (Ok s) (Err why) select options h = cc h
has_start (Ok m) (Ok s) (Ok t) select options h =
    let e = ap (options_from options) h in
    record {
      start_is = ap (λ (o : Options). Ok o.start) e;
      other = λ next. ap (λ (o : Options). Ok (record o { start = next })) e;
    }

no_some : (a b : Result (List ℕ) OptionRefused) → ◌≡◌ {A = Start} (a >>= λ pk. (b >>= λ rk. Ok (Some (pk, rk)))) (Ok None) → ⊥
no_some (Err why) b h = cc h
no_some (Ok pk) (Err why) h = cc h
no_some (Ok pk) (Ok rk) h = cc h

no_tokens : (p r : Option (List ℕ)) → start_of p r ≡ Ok None → (p ≡ None) × (r ≡ None)
no_tokens None None h = (refl, refl)
no_tokens None (Some row) h = cc h
no_tokens (Some partition) r h = absurd (no_some (token_of partition) (row_of r) h)

-- a query that names no start has neither token, and may have both
record NamesNone (f s t p r : Value) (options : Options) : Type 0 where
  partition : p ≡ Ok None
  row : r ≡ Ok None
  other : (pk rk : List ℕ) → IsKeyText pk → IsKeyText rk → read_of f s t (Ok (Some (token_text pk))) (Ok (Some (token_text rk))) ≡ Ok (record options { start = Some (pk, rk) })

names_none : (f s t p r : Value) (options : Options) → read_of f s t p r ≡ Ok options → options.start ≡ None → NamesNone f s t p r options
names_none (Err why) s t p r options h none = cc h
names_none (Ok f) (Err why) t p r options h none = cc h
names_none (Ok f) (Ok s) (Err why) p r options h none = cc h
names_none (Ok f) (Ok s) (Ok t) (Err why) r options h none = cc h
names_none (Ok f) (Ok s) (Ok t) (Ok p) (Err why) options h none = cc h
names_none (Ok f) (Ok s) (Ok t) (Ok p) (Ok r) options h none =
    let parts = has_start (top_of t) (start_of p r) (filter_of f) (select_of s) options h in
    let absent = no_tokens p r (parts.start_is ∙ ap Ok none) in
    record {
      partition = ap Ok absent.0;
      row = ap Ok absent.1;
      other = λ pk rk is_pk is_rk.
          ap (λ (start : Start). with_start (top_of t) start (filter_of f) (select_of s)) (start_read pk rk is_pk is_rk) ∙ parts.other (Some (pk, rk));
    }

-- an option that is not there has no value
no_values : (found : List (List ℕ)) → single found ≡ Ok None → found ≡ []
no_values [] h = refl
no_values (value ∷ []) h = cc h
no_values (value ∷ other ∷ more) h = cc h

-- ---- the laws

pub read_alone : (pk rk : List ℕ) → IsKeyText pk → IsKeyText rk → IsReadAlone (pk, rk)
unfolding read_options option_at
read_alone pk rk is_pk is_rk =
    rw (next_values (codes "$filter") pk rk, next_values (codes "$select") pk rk, next_values (codes "$top") pk rk, next_values (codes "NextPartitionKey") pk rk, next_values (codes "NextRowKey") pk rk)
    (ap (λ (start : Start). with_start (top_of None) start (filter_of None) (select_of None)) (start_read pk rk is_pk is_rk))

pub read_behind : (query pk rk : List ℕ) (options : Options) → IsKeyText pk → IsKeyText rk → IsReadBehind query options (pk, rk)
unfolding read_options option_at
read_behind query pk rk options is_pk is_rk h none =
    let at = λ (name : List ℕ). single (values name (raw_pairs query)) in
    let absent = names_none (at (codes "$filter")) (at (codes "$select")) (at (codes "$top")) (at (codes "NextPartitionKey")) (at (codes "NextRowKey")) options h none in
    let partition = joined_values (codes "NextPartitionKey") query pk rk ∙ ap (λ (l : List (List ℕ)). l ++ token_text pk ∷ []) (no_values (values (codes "NextPartitionKey") (raw_pairs query)) absent.partition) in
    let row = joined_values (codes "NextRowKey") query pk rk ∙ ap (λ (l : List (List ℕ)). l ++ token_text rk ∷ []) (no_values (values (codes "NextRowKey") (raw_pairs query)) absent.row) in
    let same = λ (name : List ℕ) (other : plain_values name pk rk ≡ []). joined_values name query pk rk ∙ (ap (λ (l : List (List ℕ)). values name (raw_pairs query) ++ l) other ∙ append-nil (values name (raw_pairs query))) in
    rw (same (codes "$filter") refl, same (codes "$select") refl, same (codes "$top") refl, partition, row) (absent.other pk rk is_pk is_rk)
