-- What each key of the program is.
use Rattle.std.specs.Prelude.{◌<◌, ◌^◌}
use Rattle.tab_keys.specs.KeyTexts.{IsKeyText}
use Rattle.tab_keys.specs.declared.keys.Key.{Key}

-- a table's number in 64 bits, and two texts that are keys
pub record IsKey (key : Key) : Type 0 where
  pub table : key.table < 2 ^ 64
  pub pk : IsKeyText key.pk
  pub rk : IsKeyText key.rk
