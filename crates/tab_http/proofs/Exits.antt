-- What is known where a function passes an error on.
use Rattle.std.proofs.Common.{◌≡◌, ◌∙◌, Result, Ok, Err, sym, subst}
use Rattle.std.specs.Result.{IsErrAnd, IfErr}

-- what holds of the error that was passed on
pub passed_on : {T E : Type 0} (P : E → Type 0) (result : Result T E) (error : E) → IsErrAnd result (λ e. e ≡ error) → P error → IfErr result P
passed_on P (Ok x) error passed holds = absurd passed
passed_on P (Err e) error passed holds = subst P (sym passed) holds

-- an error that was passed on is no other
pub passed_other : {T E : Type 0} (result : Result T E) (error other : E) → IsErrAnd result (λ e. e ≡ error) → (error ≡ other → ⊥) → result ≡ Err other → ⊥
passed_other {T} {E} (Ok x) error other passed apart is = absurd passed
passed_other {T} {E} (Err e) error other passed apart is = apart (sym passed ∙ same e other is)
  where
    same : (x y : E) → ◌≡◌ {A = Result T E} (Err x) (Err y) → x ≡ y
    same x y e = cc
