-- What a header claims, and whose path it is.
use Rattle.std.proofs.Common.{◌≡◌, ◌≢◌, ℕ, List, [], ◌∷◌, ◌++◌, length, Bool, true, false, ◌==◌, codes, Option, Some, None, Bor, suc, ◌<◌, ◌+◌, ◌||◌, not, cond, arith, refl, sym, ap, ◌∙◌}
use Rattle.std.specs.Option.{MatchOption}
use Rattle.std.specs.List.{list_any, position_or_len, starts_with, before_first, after_first}
use Rattle.std.proofs.lemmas.List.Prefix.{front_rest}
use Rattle.std.proofs.lemmas.Slice.Eq.{starts_is}
use Rattle.std.proofs.lemmas.Bool.Decides.{Decides-eqb}
use Rattle.tab_auth.specs.Checks.{claim_of, credentials_of, names_account, ends_segment}

-- a list that begins so
begins : (front list rest : List ℕ) → list ≡ front ++ rest → starts_with ◌==◌ list front ≡ true
begins front list rest e = (starts_is Decides-eqb list front _ refl).1 rest e

-- a list that does not
begins_not : (front list : List ℕ) → ((rest : List ℕ) → list ≢ front ++ rest) → starts_with ◌==◌ list front ≡ false
begins_not front list lacks =
    elim (starts_with ◌==◌ list front) as (λ test. (test ≡ starts_with ◌==◌ list front) → test ≡ false) [ true ↦ λ e. absurd (lacks _ ((starts_is Decides-eqb list front _ refl).0 (sym e))) | false ↦ λ e. refl ] refl

-- a path of the account and what follows
pub named : (account path left : List ℕ) → path ≡ codes "/" ++ account ++ left → names_account account path ≡ ends_segment left
unfolding names_account
named account path left e =
    rw (begins (codes "/" ++ account) path left e, front_rest path (codes "/" ++ account) left e) refl

pub unnamed : (account path : List ℕ) → ((left : List ℕ) → path ≢ codes "/" ++ account ++ left) → names_account account path ≡ false
unfolding names_account
unnamed account path lacks = rw (begins_not (codes "/" ++ account) path lacks) refl

-- a header of another scheme
pub no_scheme : (text : List ℕ) → ((rest : List ℕ) → text ≢ codes "SharedKeyLite " ++ rest) → claim_of text ≡ None
unfolding claim_of
no_scheme text lacks = rw (begins_not (codes "SharedKeyLite ") text lacks) refl

pub after_scheme : (text rest : List ℕ) → text ≡ codes "SharedKeyLite " ++ rest → claim_of text ≡ credentials_of rest
unfolding claim_of
after_scheme text rest e =
    rw (begins (codes "SharedKeyLite ") text rest e, front_rest text (codes "SharedKeyLite ") rest e) refl

-- a slash and then the account at the front of a path
pub two_fronts : (account path middle : List ℕ) (r : Option (Bor (List ℕ))) → path ≡ codes "/" ++ middle → MatchOption r ((rest : List ℕ) → middle ≢ account ++ rest) (λ left. middle ≡ account ++ left.now) → MatchOption r ((rest : List ℕ) → path ≢ codes "/" ++ account ++ rest) (λ left. path ≡ codes "/" ++ account ++ left.now)
two_fronts account path middle None e lacks =
    λ rest is. let same : 47 ∷ middle ≡ 47 ∷ (account ++ rest) = sym e ∙ is in lacks rest (cc)
two_fronts account path middle (Some left) e is = e ∙ ap (λ (rest : List ℕ). 47 ∷ rest) is

-- a list has an element that passes a test where its first one lies within
pub any_within : (p : ℕ → Bool) (xs : List ℕ) → position_or_len p xs < length xs → list_any p xs ≡ true
any_within p [] = λ h. absurd (omega arith)
any_within p (x ∷ xs) =
    elim (p x) as (λ test. cond (not test) (1 + position_or_len p xs) 0 < suc (length xs) → (test || list_any p xs) ≡ true) [ true ↦ λ h. refl | false ↦ λ h. any_within p xs (omega arith) ]

pub none_within : (p : ℕ → Bool) (xs : List ℕ) → position_or_len p xs ≡ length xs → list_any p xs ≡ false
none_within p [] = λ h. refl
none_within p (x ∷ xs) =
    elim (p x) as (λ test. cond (not test) (1 + position_or_len p xs) 0 ≡ suc (length xs) → (test || list_any p xs) ≡ false) [ true ↦ λ h. absurd (omega arith) | false ↦ λ h. none_within p xs (omega arith) ]

-- a header cut at its first colon
pub cut_claim : (text rest : List ℕ) (r : Option (Bor (List ℕ) × Bor (List ℕ))) → claim_of text ≡ credentials_of rest → MatchOption r (position_or_len (λ b. b == 58) rest ≡ length rest) (λ x. (x.0.now ≡ before_first (λ b. b == 58) rest) × (x.1.now ≡ after_first (λ b. b == 58) rest) × (position_or_len (λ b. b == 58) rest < length rest)) → MatchOption r (claim_of text ≡ None) (λ x. claim_of text ≡ Some (record { account = x.0.now; signature = x.1.now }))
cut_claim text rest None e none = e ∙ rw (none_within (λ b. b == 58) rest none) refl
cut_claim text rest (Some x) e is = e ∙ rw (any_within (λ b. b == 58) rest is.2, is.0, is.1) refl
