-- Conditions on the kept row (RFC 9110, section 13.1.1).
use Rattle.std.specs.Prelude.{ℕ, zero, suc, ◌+◌, List, Bool, Option, Some, None, option_and_then, Result, Ok, Err, if◌then◌else◌, codes, bytes_eq}
use Rattle.tab_edm.specs.Moments.{text_of_etag}
use Rattle.tab_edm.specs.declared.TheConstants.{GREATEST}
use Rattle.tab_http.specs.Headers.{first_value}
use Rattle.tab_http.specs.declared.messages.Header.{Header}
use Rattle.tab_ops.specs.declared.ops.Match.{Match}
use Rattle.tab_ops.specs.declared.ops.Match.TheVariants.{Any, Tick}
use Rattle.tab_service.specs.Targets.{text_of}
use Rattle.tab_service.specs.declared.refusals.Refusal.{Refusal}
use Rattle.tab_service.specs.declared.refusals.Refusal.TheVariants.{Condition, NoCondition}

-- the greatest number below n that passes a test
unfoldable pub last_below : (ℕ → Bool) → ℕ → Option ℕ
last_below test zero = None
last_below test (suc n) = if test n then Some n else last_below test n

-- the tick whose ETag a text is
unfoldable pub tick_of_etag : List ℕ → Option ℕ
tick_of_etag text = last_below (λ tick. bytes_eq (text_of_etag tick) text) (GREATEST + 1)

-- the tick of a value that is an ETag
unfoldable pub tick_in : List ℕ → Option ℕ
tick_in value = option_and_then tick_of_etag (text_of value)

abbrev pub tick_condition : Option ℕ → Result (Option Match) Refusal
tick_condition None = Err Condition
tick_condition (Some tick) = Ok (Some (Tick tick))

-- any kept row, or the one with an ETag
abbrev pub condition_in : Option (List ℕ) → Result (Option Match) Refusal
condition_in None = Ok None
condition_in (Some value) = if bytes_eq value (codes "*") then Ok (Some Any) else tick_condition (tick_in value)

-- what the first If-Match header asks of the kept row, if there is one
unfoldable pub condition_for : List Header → Result (Option Match) Refusal
condition_for headers = condition_in (first_value (codes "if-match") headers)

-- the condition of a request that has to have one
abbrev pub needed_condition : Option Match → Result Match Refusal
needed_condition None = Err NoCondition
needed_condition (Some condition) = Ok condition
