-- What one or several reads gave, and what several writes took.
use Rattle.std.specs.Prelude.{◌≡◌, ℕ, ◌<◌, List, [], ◌∷◌, ◌++◌, length, take, Option, None, Some}
use Rattle.std.specs.Io.KnownBytes.{Keeps, Appends, Consumes, IsAtEnd}

-- a read of one byte gave it, or found the end of input
abbrev pub ReadsByte : Option (List ℕ) → Option (List ℕ) → Option ℕ → Type 0
ReadsByte old new (Some byte) = Consumes old new (byte ∷ [])
ReadsByte old new None = IsAtEnd new × Keeps old new

-- the first bytes of the piece were taken
pub record TookFront (old new : Option (List ℕ)) (piece : List ℕ) : Type 0 where
  pub count : ℕ
  pub short : count < length piece
  pub taken : Appends old new (take count piece)

-- bytes went from those that were left to behind those that were there
pub record Moved (old new : Option (List ℕ)) (there now : List ℕ) : Type 0 where
  pub bytes : List ℕ
  pub consumed : Consumes old new bytes
  pub behind : now ≡ there ++ bytes
