-- The three words of a command.
use Rattle.std.proofs.Common.{◌≡◌, ℕ, ◌≤◌, ◌<◌, List, [], ◌∷◌, length, get_or, Bool, true, false, refl, arith, sym, ap, ◌∙◌, Option, Some, None, Result, Ok, Err, IfOk}
use Rattle.std.specs.Prelude.{codes, bytes_eq, if◌then◌else◌, option_map, is_some, IfErr, MatchOption}
use Rattle.base64.specs.Engines.{standard}
use Rattle.base64.specs.GeneralPurpose.{decoded_of}
use Rattle.tab_auth.specs.declared.signatures.Keys.{Keys}
use Rattle.tab_drive.specs.Commands.{is_account, key_of, IsNamed, IsDrive, IsNoDrive, NamesAccount, NamesKey}

same_three : {A : Type 0} (a b c x y z : A) → x ≡ a → y ≡ b → z ≡ c → a ∷ b ∷ c ∷ [] ≡ x ∷ y ∷ z ∷ []
same_three a b c x y z p q r = cc

-- a list of three is its items
pub three_items : {A : Type 0} (xs : List A) (x y z : A) → 3 ≤ length xs → length xs < 4 → x ≡ get_or xs 0 x → y ≡ get_or xs 1 y → z ≡ get_or xs 2 z → xs ≡ x ∷ y ∷ z ∷ []
three_items [] x y z least most p q r = absurd (omega arith)
three_items (a ∷ []) x y z least most p q r = absurd (omega arith)
three_items (a ∷ b ∷ []) x y z least most p q r = absurd (omega arith)
three_items (a ∷ b ∷ c ∷ []) x y z least most p q r = same_three a b c x y z p q r
three_items (a ∷ b ∷ c ∷ d ∷ ds) x y z least most p q r = absurd (omega arith)

pub drive_words : (a b c name word : List ℕ) → a ≡ codes "drive" → b ≡ name → c ≡ word → a ∷ b ∷ c ∷ [] ≡ codes "drive" ∷ name ∷ word ∷ []
drive_words a b c name word p q r = cc

-- ---- the words of a command

second_and_third : (first a b x y : List ℕ) → first ∷ a ∷ x ∷ [] ≡ first ∷ b ∷ y ∷ [] → (a ≡ b) × (x ≡ y)
second_and_third first a b x y is = (let second : a ≡ b = cc in second, let third : x ≡ y = cc in third)

some_is : (x y : Option (List ℕ)) → Some x ≡ Some y → x ≡ y
some_is x y is = cc

same_keys : (a b : Keys) → a.account ≡ b.account → a.key ≡ b.key → a ≡ b
same_keys a b account key =
    ap (λ (name : List ℕ). record { account = name; key = a.key }) account ∙ ap (λ (bytes : Option (List ℕ)). record { account = b.account; key = bytes }) key

-- words name one account and one key
pub one_keys : (words : List (List ℕ)) (a b : Keys) → IsDrive words a → IsDrive words b → a ≡ b
one_keys words a b x y =
    let parts = second_and_third (codes "drive") x.name y.name x.word y.word (sym x.spelled ∙ y.spelled) in
    same_keys a b (x.named.account_is ∙ parts.0 ∙ sym y.named.account_is) (some_is a.key b.key (sym x.named.key_is ∙ ap key_of parts.1 ∙ y.named.key_is))

none_or_some : (key : Option (List ℕ)) → ◌≡◌ {A = Option (Option (List ℕ))} None (Some key) → ⊥
none_or_some key is = cc

-- the words name what was found by the last of them
pub named_words : (words : List (List ℕ)) (name word : List ℕ) (found : Option Keys) → words ≡ codes "drive" ∷ name ∷ word ∷ [] → is_account name ≡ true
    → MatchOption found (key_of word ≡ None) (IsNamed name word) → MatchOption found (IsNoDrive words) (IsDrive words)
named_words words name word None spelled allowed unread =
    λ keys drive. let parts = second_and_third (codes "drive") drive.name name drive.word word (sym drive.spelled ∙ spelled) in
    none_or_some keys.key (sym unread ∙ ap key_of (sym parts.1) ∙ drive.named.key_is)
named_words words name word (Some keys) spelled allowed named = record { name = name; word = word; spelled = spelled; allowed = allowed; named = named }

-- where such a look succeeds
pub named_found : {E : Type 0} (words : List (List ℕ)) (name word : List ℕ) (found : Result (Option Keys) E) → words ≡ codes "drive" ∷ name ∷ word ∷ [] → is_account name ≡ true
    → IfOk found (λ keys. MatchOption keys (key_of word ≡ None) (IsNamed name word)) → IfOk found (λ keys. MatchOption keys (IsNoDrive words) (IsDrive words))
named_found words name word (Ok keys) spelled allowed named = named_words words name word keys spelled allowed named
named_found words name word (Err error) spelled allowed named = tt

-- ---- a key that has to be read

-- where such a look ends with no answer, the words name an account
pub named_or_found : {E T : Type 0} (words : List (List ℕ)) (name word : List ℕ) (found : Result T E) → words ≡ codes "drive" ∷ name ∷ word ∷ [] → is_account name ≡ true
    → IfErr found (λ _. NamesAccount words)
named_or_found words name word (Ok found) spelled allowed = tt
named_or_found words name word (Err error) spelled allowed = record { name = name; word = word; spelled = spelled; allowed = allowed }

read_or_open : (words : List (List ℕ)) (named : NamesAccount words) → IsNoDrive words → (is_open : Bool) → bytes_eq named.word (codes "-") ≡ is_open → NamesKey words
read_or_open words named none false is = record { named = named; is_read = is }
read_or_open words named none true is = absurd (none (record { account = named.name; key = None }) (record {
  name = named.name;
  word = named.word;
  spelled = named.spelled;
  allowed = named.allowed;
  named = record { account_is = refl; key_is = ap (λ it. if it then Some None else option_map (λ key. Some key) (decoded_of standard named.word)) is };
}))

-- where they are no command, that word was to be read as a key
pub names_key : (words : List (List ℕ)) → NamesAccount words → IsNoDrive words → NamesKey words
names_key words named none = read_or_open words named none (bytes_eq named.word (codes "-")) refl

-- where nothing was found they are no such words
pub none_found : (words : List (List ℕ)) (found : Option Keys) → is_some found ≡ false → MatchOption found (IsNoDrive words) (IsDrive words) → IsNoDrive words
none_found words None none found = found
none_found words (Some keys) none found = absurd (cc)
