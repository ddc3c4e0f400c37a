use Rattle.std.proofs.Common.{rules, ◌≡◌, ◌+◌, ◌-◌, length, vec_len, sym, ◌∙◌, arith}
use Rattle.tab_core.proofs.Lengths.{refusal_is}
use Rattle.tab_core.proofs.Zips.{zip_same, zip_length}
use Rattle.tab_core.proofs.Yards.{popped, zip_two, rose_below, rose_last, made_two, made_short, short_is, half_is}
use Rattle.tab_core.proofs.making.+make_stores.Goals as goal

pub returns-in_default-clause-made : goal.returns-in_default-clause-made
returns-in_default-clause-made g t c honest count even few =
    let size : vec_len c.args.yard.now ≡ length c.args.yard.now.items = search rules in
    made_short g.D.Disk.watch _ count (sym size ∙ even) (short_is _ _ _ c.len.ensures size c.in_default.ensures)

pub returns-in_default-clause-later : goal.returns-in_default-clause-later
returns-in_default-clause-later g t c = zip_same _ (λ disk. omega arith) _

pub returns-in-Ok-clause-made : goal.returns-in-Ok-clause-made
returns-in-Ok-clause-made g t c honest count even few =
    let all : c.in-Some.first + 2 ≡ vec_len c.args.yard.now = search rules in
    let size : vec_len c.pop-2.new.self ≡ c.in-Some.first = search rules in
    let new_size : vec_len c.make_stores-made.new.yard ≡ length c.make_stores-made.new.yard.items = search rules in
    let half = half_is c.in-Some.first _ count all even in
    made_two g.D.Disk.watch c.make_stores-made.result _ _ _ _ _ (count - 1) c.put_back.ensures.items (sym new_size ∙ c.make_stores-made.ensures.size ∙ size ∙ half.0) half.1
    (c.make_stores-made.ensures.made honest (count - 1) (size ∙ half.0) (omega (arith, few))) (c.in-Ok.ensures.made honest (omega (arith, few, half.1)))

pub returns-in-Ok-clause-fault : goal.returns-in-Ok-clause-fault
returns-in-Ok-clause-fault g t c disk is =
    rose_below g.D.Disk.faults _ _ _ _ _ _ _ _ disk (popped _ _ _ _ _ _ _ c.pop.ensures.items c.unwrap-b.ensures c.pop-2.ensures.items c.unwrap-a.ensures) c.put_back.ensures.items
    (zip_length _ _ _ c.make_stores-made.ensures.later) (c.make_stores-made.ensures.fault disk is)

pub returns-in-Ok-clause-later : goal.returns-in-Ok-clause-later
returns-in-Ok-clause-later g t c =
    zip_two _ _ _ _ _ _ _ _ _ (popped _ _ _ _ _ _ _ c.pop.ensures.items c.unwrap-b.ensures c.pop-2.ensures.items c.unwrap-a.ensures) c.put_back.ensures.items
    c.make_stores-made.ensures.later c.in-Ok.ensures.later.0 c.in-Ok.ensures.later.1

pub returns-in-Err-clause-fault : goal.returns-in-Err-clause-fault
returns-in-Err-clause-fault g t c disk is =
    let area = c.refused_at.ensures.fault disk (refusal_is _ _ is) in
    let size : vec_len c.pop-2.new.self ≡ length c.pop-2.new.self.items = search rules in
    let first : vec_len c.pop-2.new.self ≡ c.in-Some.first = search rules in
    rose_last g.D.Disk.faults _ _ _ _ _ _ _ area.0 c.in-Some.first disk (popped _ _ _ _ _ _ _ c.pop.ensures.items c.unwrap-b.ensures c.pop-2.ensures.items c.unwrap-a.ensures)
    c.put_back-in-Err.ensures.items (sym first ∙ size) area.2 (c.in-Err.ensures.causes.fault area.0 area.1)

pub returns-in-Err-clause-later : goal.returns-in-Err-clause-later
returns-in-Err-clause-later g t c =
    zip_two _ _ _ _ _ _ _ _ _ (popped _ _ _ _ _ _ _ c.pop.ensures.items c.unwrap-b.ensures c.pop-2.ensures.items c.unwrap-a.ensures) c.put_back-in-Err.ensures.items
    (zip_same _ (λ disk. omega arith) _) c.in-Err.ensures.causes.later_a c.in-Err.ensures.causes.later_b
