-- The key whose range a command is for.
use Rattle.std.specs.Prelude.{ℕ, List, [], ◌∷◌}
use Rattle.tab_keys.specs.Order.{head_key}
use Rattle.tab_keys.specs.declared.keys.Key.{Key}
use Rattle.tab_page.specs.Pages.{start_key}
use Rattle.tab_ops.specs.Groups.{ItemView, item_key}
use Rattle.tab_range.specs.declared.commands.Command.{Command}
use Rattle.tab_range.specs.declared.commands.What.{What}
use Rattle.tab_range.specs.declared.commands.What.TheVariants as what

-- the key of a group's first operation; each group has one
abbrev pub first_key : ℕ → List ItemView → Key
first_key table [] = head_key table []
first_key table (item ∷ items) = item_key table item

abbrev pub key_of : ℕ → What → Key
key_of table (what.Get pk rk) = record { table = table; pk = pk; rk = rk }
key_of table (what.Page options) = start_key table options
key_of table (what.Change group) = first_key table group

abbrev pub command_key : Command → Key
command_key command = key_of command.table command.what
