-- What the bytes that were taken tell of those that were left before.
use Rattle.std.proofs.Common.{◌≡◌, ℕ, List, [], ◌++◌, Option, None, Some, refl, sym, subst, ◌∙◌, append-nil}
use Rattle.std.specs.Io.KnownBytes.{Consumes, IsAtEnd, Keeps}
use Rattle.tab_drive.specs.Reading.{IfTold}

-- they begin with what was taken
pub told_front : (old new : Option (List ℕ)) (taken : List ℕ) (P : List ℕ → Type 0) → Consumes old new taken → ((rest : List ℕ) → P (taken ++ rest)) → IfTold old P
told_front None new taken P consumed holds bytes told = absurd (cc)
told_front (Some left) None taken P consumed holds bytes told = absurd consumed
told_front (Some left) (Some rest) taken P consumed holds bytes told = let is : bytes ≡ taken ++ rest = cc in subst P (sym is) (holds rest)

-- and are just that where the end came
pub told_all : (old new end : Option (List ℕ)) (taken : List ℕ) (P : List ℕ → Type 0) → Consumes old new taken → IsAtEnd end → Keeps new end → P taken → IfTold old P
told_all None new end taken P consumed none kept holds bytes told = absurd (cc)
told_all (Some left) None end taken P consumed none kept holds bytes told = absurd consumed
told_all (Some left) (Some rest) None taken P consumed none kept holds bytes told = absurd kept
told_all (Some left) (Some rest) (Some last) taken P consumed none kept holds bytes told =
    let is : bytes ≡ taken ++ [] = cc in
    subst P (sym (is ∙ append-nil taken)) holds

-- what is told of the bytes behind is told of all
pub told_behind : (old mid : Option (List ℕ)) (taken : List ℕ) (P Q : List ℕ → Type 0) → Consumes old mid taken → IfTold mid Q → ((rest : List ℕ) → Q rest → P (taken ++ rest)) → IfTold old P
told_behind None mid taken P Q consumed behind holds bytes told = absurd (cc)
told_behind (Some left) None taken P Q consumed behind holds bytes told = absurd consumed
told_behind (Some left) (Some rest) taken P Q consumed behind holds bytes told = let is : bytes ≡ taken ++ rest = cc in subst P (sym is) (holds rest (behind rest refl))

pub told_weaker : (left : Option (List ℕ)) (P Q : List ℕ → Type 0) → IfTold left Q → ((bytes : List ℕ) → Q bytes → P bytes) → IfTold left P
told_weaker left P Q holds weaker bytes told = weaker bytes (holds bytes told)
