use Rattle.std.proofs.Common.{◌≡◌, ◌≤◌, length, false, Result, Ok, Err, OnOk, ap, ap₂, sym, subst, ◌∙◌, arith}
use Rattle.std.specs.Result.{is_err}
use Rattle.tab_json.specs.Lent.{lent_data, lent_members, lent_object}
use Rattle.tab_json.specs.Slots.{name_text, AreRising}
use Rattle.tab_json.proofs.LentLemmas.{left_with, none_left}
use Rattle.tab_json.proofs.Readings.{entity_after, at_first, at_last, one_more, one_refused, entity_rises, entity_unreserved}
use Rattle.tab_json.proofs.SlotLemmas.{sorted_slots}
use Rattle.tab_json.proofs.bodies.read_members.Goals as goal

pub loop-member-init : goal.loop-member-init
loop-member-init c =
    at_first (lent_object c.args.body.now) (lent_members c.args.body.now)
    ∙ ap₂ (entity_after (lent_object c.args.body.now)) (sym c.in-Ok.ensures) (ap lent_members (sym c.as_slice-members.ensures.members))

ok_part : {T E : Type 0} (r : Result T E) (P : Type 0) → is_err r ≡ false → OnOk r P → P
ok_part (Ok x) P fine h = h
ok_part (Err e) P fine h = absurd (cc)

pub loop-member-preserved : goal.loop-member-preserved
loop-member-preserved c =
    let body = lent_object c.args.body.now in
    c.loop-member.invariant
    ∙ ap (entity_after body c.loop-member.reading) (left_with c.as_slice-members.result.now c.loop-member.member-index c.member-item.result c.loop-member-test.true c.member-item.is)
    ∙ one_more body c.loop-member.reading c.add.new.self (name_text c.member-item.result.name) (lent_data c.member-item.result.value) _ c.in-Ok-member_meaning.meaning c.in-Ok-member_meaning.ensures.meaning
    (ok_part c.add.result _ (sym c.if-is_err.ensures.value) c.add.ensures)

pub returns-in-Err : goal.returns-in-Err
returns-in-Err c = λ not_memory.
    let body = lent_object c.args.body.now in
    c.loop-member.invariant
    ∙ ap (entity_after body c.loop-member.reading) (left_with c.as_slice-members.result.now c.loop-member.member-index c.member-item.result c.loop-member-test.true c.member-item.is)
    ∙ one_refused body c.loop-member.reading (name_text c.member-item.result.name) (lent_data c.member-item.result.value) _ c.in-Err.why (c.in-Err.ensures.meaning not_memory)

pub finish-requires-clause-rising : goal.finish-requires-clause-rising
finish-requires-clause-rising c =
    let body = lent_object c.args.body.now in
    let past : length c.as_slice-members.result.now ≤ c.loop-member.member-index = omega (arith, c.loop-member-test.false) in
    let whole = c.loop-member.invariant ∙ ap (entity_after body c.loop-member.reading) (none_left c.as_slice-members.result.now c.loop-member.member-index past) ∙ at_last body c.loop-member.reading in
    entity_rises body (lent_members c.args.body.now) c.loop-member.reading whole (sorted_slots lent_data c.args.body.now (subst AreRising c.as_slice-members.ensures.members c.as_slice-members.ensures.lent.rising))

pub finish-requires-clause-unreserved : goal.finish-requires-clause-unreserved
finish-requires-clause-unreserved c =
    let body = lent_object c.args.body.now in
    let past : length c.as_slice-members.result.now ≤ c.loop-member.member-index = omega (arith, c.loop-member-test.false) in
    let whole = c.loop-member.invariant ∙ ap (entity_after body c.loop-member.reading) (none_left c.as_slice-members.result.now c.loop-member.member-index past) ∙ at_last body c.loop-member.reading in
    entity_unreserved body (lent_members c.args.body.now) c.loop-member.reading whole

pub returns : goal.returns
returns c =
    let body = lent_object c.args.body.now in
    let past : length c.as_slice-members.result.now ≤ c.loop-member.member-index = omega (arith, c.loop-member-test.false) in
    c.loop-member.invariant
    ∙ ap (entity_after body c.loop-member.reading) (none_left c.as_slice-members.result.now c.loop-member.member-index past)
    ∙ at_last body c.loop-member.reading
    ∙ ap Ok (sym c.finish.ensures)
