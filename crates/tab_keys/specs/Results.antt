-- What calls answer that may be refused, and that may find no memory.
use Rattle.std.specs.Prelude.{◌≡◌, ◌≢◌, Result, Ok, Err, MatchResult}

infixl 20 ◌>>=◌
-- what follows a value; a refusal is passed on
abbrev pub ◌>>=◌ : {A B E : Type 0} → Result A E → (A → Result B E) → Result B E
(Ok found) >>= next = next found
(Err why) >>= next = Err why

-- What a call answered, its value seen by `view`, is what is due, unless no memory was found: want of memory may come in
-- place of any answer.
abbrev pub Gives : {A B E : Type 0} → E → (A → B) → Result A E → Result B E → Type 0
Gives memory view result due = MatchResult result (λ found. due ≡ Ok (view found)) (λ why. why ≢ memory → due ≡ Err why)
