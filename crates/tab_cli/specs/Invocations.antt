-- What the program is called with.
use Rattle.std.specs.Prelude.{◌≡◌, ℕ, ◌≤◌, List, ◌∷◌, ◌+◌, [], String, string_bytes}
use Rattle.std.specs.declared.alloc.Global.{Global}

-- the text of a number of one digit
abbrev pub digit : ℕ → List ℕ
digit number = (48 + number) ∷ []

-- the arguments name a folder, ask for a store of so many servers, and for the command
pub record IsInvocation (arguments : List (String Global)) (folder : List ℕ) (servers : ℕ) (command : List (String Global)) : Type 0 where
  pub program : String Global
  pub place : String Global
  pub count : String Global
  pub order : arguments ≡ program ∷ place ∷ count ∷ command
  pub named : string_bytes place ≡ folder
  pub counted : string_bytes count ≡ digit servers
  pub least : 1 ≤ servers
  pub most : servers ≤ 8
