-- Why a signature is refused.
use Rattle.std.proofs.Common.{◌≡◌, ◌≢◌, ℕ, List, Option, Some, None, refl, sym, ap}
use Rattle.tab_auth.specs.Checks.{IsReason, open_refusal, account_refusal, refusal}
use Rattle.tab_auth.specs.declared.checks.Signed.{Signed}
use Rattle.tab_auth.specs.declared.signatures.Keys.{Keys}
use Rattle.tab_auth.specs.declared.checks.AuthRefused.{AuthRefused}
use Rattle.tab_auth.specs.declared.checks.AuthRefused.TheVariants as auth

-- a reason that is not want of memory is the first one
pub reason_is : (first : Option AuthRefused) (why : AuthRefused) → IsReason first why → why ≢ auth.Memory → Some why ≡ first
reason_is first auth.Memory is other = absurd (other refl)
reason_is first auth.Missing is other = sym is
reason_is first auth.UnknownAccount is other = sym is
reason_is first auth.DateUnread is other = sym is
reason_is first auth.TooOld is other = sym is
reason_is first auth.TooEarly is other = sym is
reason_is first auth.Differs is other = sym is

-- an account without a key looks at the path alone
pub path_alone : (keys : Keys) (signed : Signed) (now : ℕ) → keys.key ≡ None → open_refusal keys.account signed.path ≡ refusal keys signed now
unfolding refusal
path_alone keys signed now none = ap (λ (key : Option (List ℕ)). account_refusal keys.account key signed now) (sym none)
