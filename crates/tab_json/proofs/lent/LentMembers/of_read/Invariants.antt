use Rattle.std.proofs.Common.{◌≡◌, drop}
use Rattle.json.specs.Value.{members_view}
use Rattle.serde_json.specs.Data.{no_members}
use Rattle.serde_json.specs.Read.{of_members}
use Rattle.tab_json.specs.Lent.{lent_members}
use Rattle.tab_json.proofs.lent.LentMembers.of_read.Given as goal

-- with the members that are left the members are those that were read
abbrev pub invariant-loop-member : goal.invariant-loop-member
invariant-loop-member l = of_members (members_view (drop l.member-index l.members)) (lent_members l.lent) ≡ of_members (members_view l.members) no_members
