use Rattle.tab_json.specs.Written.{member_written}
use Rattle.tab_json.proofs.WrittenLemmas.{one_more}
use Rattle.tab_json.proofs.texts.JsonText.write_members.Goals as goal

pub loop-slot-preserved : goal.loop-slot-preserved
loop-slot-preserved c =
    one_more member_written c.args.slots.now c.loop-slot.slot-index c.slot-item.result _ _ _ c.loop-slot-test.true c.slot-item.is c.loop-slot.invariant c.in_ok-write_member.ensures
