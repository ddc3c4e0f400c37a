-- Answers that are there exactly where something holds.
use Rattle.std.proofs.Common.{◌≡◌, Option, Some, None, refl, sym}

-- nothing, where there is no value
pub none_unless : {X : Type 0} (o : Option X) → ((x : X) → o ≡ Some x → ⊥) → None ≡ o
none_unless None never = refl
none_unless (Some x) never = absurd (never x refl)

-- two answers that are there for the same values are one
pub same_answer : {X : Type 0} (a b : Option X) → ((x : X) → a ≡ Some x → b ≡ Some x) → ((x : X) → b ≡ Some x → a ≡ Some x) → a ≡ b
same_answer (Some x) b forth back = sym (forth x refl)
same_answer None b forth back = none_unless b (λ x e. let no : None ≡ Some x = back x e in absurd (cc))
