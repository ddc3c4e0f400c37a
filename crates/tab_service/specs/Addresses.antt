-- How the address of a row is spelled.
use Rattle.std.specs.Prelude.{◌≡◌, ℕ, replicate, List, [], ◌∷◌, ◌++◌, ◌==◌, IsTrue, IsFalse, if◌then◌else◌, codes}
use Rattle.std.specs.List.{list_any}
use Rattle.std.specs.Str.{is_utf8}
use Rattle.tab_service.specs.Targets.{may_begin_name}

-- a text in which each quote, which is 39, stands twice
unfoldable pub doubled : List ℕ → List ℕ
doubled [] = []
doubled (b ∷ bytes) = if b == 39 then 39 ∷ 39 ∷ doubled bytes else b ∷ doubled bytes

-- the two keys as an address has them behind its parenthesis, with so many spaces behind the comma
unfoldable pub keys_text : ℕ → List ℕ → List ℕ → List ℕ
keys_text spaces pk rk =
    codes "PartitionKey='" ++ (doubled pk ++ (codes "'," ++ (replicate spaces 32 ++ (codes "RowKey='" ++ (doubled rk ++ codes "')")))))

-- the text spells these keys
pub record SpellsKeys (text pk rk : List ℕ) : Type 0 where
  pub spaces : ℕ
  pub text_is : text ≡ keys_text spaces pk rk

-- the segment spells this row: a name that may begin so and has no parenthesis, which is 40, and then two texts as its keys
pub record SpellsRow (text name pk rk : List ℕ) : Type 0 where
  pub spaces : ℕ
  pub text_is : text ≡ name ++ 40 ∷ keys_text spaces pk rk
  pub begins : IsTrue (may_begin_name name)
  pub plain : IsFalse (list_any (λ b. b == 40) name)
  pub pk_is_text : IsTrue (is_utf8 pk)
  pub rk_is_text : IsTrue (is_utf8 rk)
