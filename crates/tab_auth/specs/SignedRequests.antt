-- Requests that are signed as they must be.
use Rattle.std.specs.Prelude.{◌≡◌, ◌⊎◌, ◌≤ℤ◌, ◌+ℤ◌, ℕ, pos, List, [], ◌++◌, Some, codes, ◌==◌, IsFalse}
use Rattle.std.specs.List.{list_any}
use Rattle.httpdate.specs.Date.{parse_secs}
use Rattle.tab_auth.specs.Signatures.{signature, resource_of}
use Rattle.tab_auth.specs.Checks.{unix_second}
use Rattle.tab_auth.specs.declared.checks.TheConstants.{MOST_SECONDS}
use Rattle.tab_auth.specs.declared.checks.Signed.{Signed}

-- a request of an account: its header is `SharedKeyLite`, a space, the account, a colon and the signature of its date and
-- its resource under the key, its date is at most 900 seconds past and at most 900 ahead, and its path begins with `/` and
-- the account, which ends there or before `/`. No account with a colon can sign.
pub record IsSigned (account key : List ℕ) (signed : Signed) (now : ℕ) : Type 0 where
  pub date : List ℕ
  pub second : ℕ
  pub rest : List ℕ
  pub authorization_is : signed.authorization ≡ Some (codes "SharedKeyLite " ++ account ++ codes ":" ++ signature key date (resource_of account signed.path signed.comp))
  pub without_colon : IsFalse (list_any (λ byte. byte == 58) account)
  pub path_is : signed.path ≡ codes "/" ++ account ++ rest
  pub rest_is : (rest ≡ []) ⊎ ((more : List ℕ) × (rest ≡ codes "/" ++ more))
  pub date_is : signed.date ≡ Some date
  pub second_is : parse_secs date ≡ Some second
  pub not_old : unix_second now ≤ℤ (pos second +ℤ MOST_SECONDS)
  pub not_early : pos second ≤ℤ (unix_second now +ℤ MOST_SECONDS)
