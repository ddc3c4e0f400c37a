-- Why a request is refused for its signature.
use Rattle.std.specs.Prelude.{ℕ, ◌/◌, ◌≡◌, ◌⊎◌, List, [], ◌∷◌, ◌++◌, length, drop, Bool, true, ◌&&◌, ◌==◌, pos, ◌+ℤ◌, ◌-ℤ◌, ℤ, int_lt, Option, Some, None, option_and_then, if◌then◌else◌, codes, bytes_eq}
use Rattle.std.specs.Option.{option_or}
use Rattle.std.specs.List.{list_any, starts_with, before_first, after_first}
use Rattle.httpdate.specs.Date.{parse_secs}
use Rattle.tab_edm.specs.declared.TheConstants.{TICKS_IN_A_SECOND}
use Rattle.tab_auth.specs.Signatures.{signature, resource_of}
use Rattle.tab_auth.specs.declared.signatures.Keys.{Keys}
use Rattle.tab_auth.specs.declared.checks.TheConstants.{SECONDS_FROM_1601_TO_1970, MOST_SECONDS}
use Rattle.tab_auth.specs.declared.checks.Signed.{Signed}
use Rattle.tab_auth.specs.declared.checks.AuthRefused.{AuthRefused}
use Rattle.tab_auth.specs.declared.checks.AuthRefused.TheVariants.{Missing, UnknownAccount, DateUnread, TooOld, TooEarly, Differs, Memory}

-- what the header Authorization claims
pub record Claim : Type 0 where
  pub account : List ℕ
  pub signature : List ℕ

-- `ACCOUNT:SIGNATURE`, with ACCOUNT up to the first colon
abbrev pub credentials_of : List ℕ → Option Claim
credentials_of text =
    if list_any (λ byte. byte == 58) text then Some (record { account = before_first (λ byte. byte == 58) text; signature = after_first (λ byte. byte == 58) text })
    else None

-- `SharedKeyLite ACCOUNT:SIGNATURE`
unfoldable pub claim_of : List ℕ → Option Claim
claim_of text =
    if starts_with ◌==◌ text (codes "SharedKeyLite ") then credentials_of (drop 14 text) else None

-- the end of a path's segment: nothing more, or `/`
abbrev pub ends_segment : List ℕ → Bool
ends_segment [] = true
ends_segment (byte ∷ rest) = byte == 47

-- a path begins with `/` and the account, which ends there or before `/`
unfoldable pub names_account : List ℕ → List ℕ → Bool
names_account account path =
    starts_with ◌==◌ path (codes "/" ++ account) && ends_segment (drop (length (codes "/" ++ account)) path)

-- the account that is claimed is this one, and so is the path's
abbrev pub is_known : List ℕ → List ℕ → List ℕ → Bool
is_known account claimed path = bytes_eq claimed account && names_account account path

-- whole seconds since 1970-01-01T00:00:00Z at a tick, 100 ns since 1601-01-01T00:00:00Z; below 0 before 1970
abbrev pub unix_second : ℕ → ℤ
unix_second tick = pos (tick / TICKS_IN_A_SECOND) -ℤ SECONDS_FROM_1601_TO_1970

-- a date is at most 900 seconds past and at most 900 seconds ahead
abbrev pub age_refusal : ℤ → ℤ → Option AuthRefused
age_refusal now date =
    if int_lt (date +ℤ MOST_SECONDS) now then Some TooOld else (if int_lt (now +ℤ MOST_SECONDS) date then Some TooEarly else None)

-- there is a date, in one of the forms of HTTP, of about now
abbrev pub date_refusal : ℕ → Option ℕ → Option AuthRefused
date_refusal tick None = Some DateUnread
date_refusal tick (Some second) = age_refusal (unix_second tick) (pos second)

-- the signature is the one that is claimed
abbrev pub signature_refusal : List ℕ → List ℕ → Option AuthRefused
signature_refusal claimed signature = if bytes_eq claimed signature then None else Some Differs

-- why a request with this claim and this date is refused
abbrev pub dated_refusal : List ℕ → List ℕ → Signed → ℕ → List ℕ → Option (List ℕ) → Option AuthRefused
dated_refusal account key signed now claimed None = Some DateUnread
dated_refusal account key signed now claimed (Some date) =
    option_or (date_refusal now (parse_secs date)) (signature_refusal claimed (signature key date (resource_of account signed.path signed.comp)))

-- why a request with this claim is refused
abbrev pub claim_refusal : List ℕ → List ℕ → Signed → ℕ → Option Claim → Option AuthRefused
claim_refusal account key signed now None = Some Missing
claim_refusal account key signed now (Some claim) =
    if is_known account claim.account signed.path then dated_refusal account key signed now claim.signature signed.date else Some UnknownAccount

-- why a request of an account without a key is refused: for its path alone
abbrev pub open_refusal : List ℕ → List ℕ → Option AuthRefused
open_refusal account path = if names_account account path then None else Some UnknownAccount

-- why a request of an account without a key, or with one, is refused
abbrev pub account_refusal : List ℕ → Option (List ℕ) → Signed → ℕ → Option AuthRefused
account_refusal account None signed now = open_refusal account signed.path
account_refusal account (Some key) signed now =
    claim_refusal account key signed now (option_and_then claim_of signed.authorization)

-- the first reason to refuse a request, or none
unfoldable pub refusal : Keys → Signed → ℕ → Option AuthRefused
refusal keys signed now = account_refusal keys.account keys.key signed now

-- an answer gives this reason: the first one, or that no memory was found to look for the last one
abbrev pub IsReason : Option AuthRefused → AuthRefused → Type 0
IsReason refusal Memory = (refusal ≡ None) ⊎ (refusal ≡ Some Differs)
IsReason refusal Missing = refusal ≡ Some Missing
IsReason refusal UnknownAccount = refusal ≡ Some UnknownAccount
IsReason refusal DateUnread = refusal ≡ Some DateUnread
IsReason refusal TooOld = refusal ≡ Some TooOld
IsReason refusal TooEarly = refusal ≡ Some TooEarly
IsReason refusal Differs = refusal ≡ Some Differs
