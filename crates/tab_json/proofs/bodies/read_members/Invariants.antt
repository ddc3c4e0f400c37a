use Rattle.std.proofs.Common.{◌≡◌, drop}
use Rattle.tab_json.specs.Bodies.{entity_in}
use Rattle.tab_json.specs.Lent.{lent_members, lent_object}
use Rattle.tab_json.proofs.Readings.{entity_after}
use Rattle.tab_json.proofs.bodies.read_members.Given as goal

-- the members so far give what is kept, and with it the members that are left give the entity
abbrev pub invariant-loop-member : goal.invariant-loop-member
invariant-loop-member l = entity_in (lent_object l.body) (lent_members l.body) ≡ entity_after (lent_object l.body) l.reading (lent_members (drop l.member-index l.members))
