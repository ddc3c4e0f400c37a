-- What is known where a function passes an error on.
use Rattle.std.proofs.Common.{◌≡◌, ℕ, Result, Ok, Err, IfOk}
use Rattle.std.specs.Result.{IsErrAnd, OnErr}

-- the error is the one that was passed on
pub passed_on : {T E : Type 0} (result : Result T E) (error other : E) → IsErrAnd result (λ e. e ≡ error) → result ≡ Err other → error ≡ other
passed_on (Ok x) error other passed is = absurd passed
passed_on (Err e) error other passed is = cc

-- what holds of a value at every number holds at one
pub ok_at : {T E : Type 0} (result : Result T E) (P : T → ℕ → Type 0) (number : ℕ) → IfOk result (λ value. (n : ℕ) → P value n) → IfOk result (λ value. P value number)
ok_at (Ok value) P number holds = holds number
ok_at (Err error) P number holds = tt

-- what follows for each value
pub ok_weaker : {T E : Type 0} (result : Result T E) (P Q : T → Type 0) → IfOk result P → ((value : T) → P value → Q value) → IfOk result Q
ok_weaker (Ok value) P Q holds weaker = weaker value holds
ok_weaker (Err error) P Q holds weaker = tt

-- what holds anyway holds of an error
pub on_err : {T E : Type 0} (result : Result T E) {P : Type 0} → P → OnErr result P
on_err (Ok x) holds = tt
on_err (Err e) holds = holds
