use Rattle.std.proofs.Common.{◌≡◌}
use Rattle.serde_json.specs.Data.{no_members}
use Rattle.serde_json.specs.View.{members_view}
use Rattle.tab_json.specs.Lent.{lent_members}
use Rattle.tab_json.proofs.FlatObjects.{puts}
use Rattle.tab_json.proofs.lent.LentMembers.of_tree.Given as goal

-- with the members that are left the members are those of the tree
abbrev pub invariant-loop-name : goal.invariant-loop-name
invariant-loop-name l = puts (members_view l.name-iterator) (lent_members l.lent) ≡ puts (members_view l.members.entries) no_members
