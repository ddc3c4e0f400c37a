use Rattle.std.proofs.Common.{◌<◌, length, subst, ◌∙◌, arith}
use Rattle.std.specs.Ordering.{nat_cmp}
use Rattle.std.proofs.lemmas.Slice.Zip.{zip_turn, zip_end}
use Rattle.tab_keys.proofs.FirstDifference.{SameBelow, text_cmp_by_first, text_cmp_by_lengths}
use Rattle.tab_keys.proofs.text_order.utf16_cmp.Goals as goal

pub returns-then-x-y : goal.returns-then-x-y
returns-then-x-y c =
    let a = c.as_bytes-a.result.now in
    let b = c.as_bytes-b.result.now in
    let turn = zip_turn a b c.loop-x.yielded c.into_iter-x-iterator.result _ c.next.new.self _ (cc) (cc) c.loop-x.yielded_by _ c.in-Some.is c.next.ensures.steps in
    let i = length c.loop-x.yielded in
    let low : c.in-Some.x.now < 256 = rw (turn.2 0, c.as_bytes-a.ensures.value) (let k = c.type_inv.a i in omega arith) in
    let high : c.in-Some.y.now < 256 = rw (turn.3 0, c.as_bytes-b.ensures.value) (let k = c.type_inv.b i in omega arith) in
    rw (← c.as_bytes-a.ensures.value, ← c.as_bytes-b.ensures.value)
    (c.cmp.ensures ∙ (λ j. nat_cmp (c.byte_rank.ensures j) (c.byte_rank-then-x-y.ensures j))
    ∙ text_cmp_by_first a b i c.in-Some.x.now c.in-Some.y.now c.as_bytes-a.ensures.utf8 c.as_bytes-b.ensures.utf8 turn.0 turn.1 c.loop-x.invariant (turn.2 0) (turn.3 0) low high c.if-x-y.true)

pub returns : goal.returns
returns c =
    let a = c.as_bytes-a.result.now in
    let b = c.as_bytes-b.result.now in
    let all = zip_end a b c.loop-x.yielded c.into_iter-x-iterator.result _ c.next.new.self _ (cc) (cc) c.loop-x.yielded_by c.in-None.is c.next.ensures.steps in
    rw (← c.as_bytes-a.ensures.value, ← c.as_bytes-b.ensures.value)
    (c.cmp-2.ensures ∙ text_cmp_by_lengths a b c.as_bytes-a.ensures.utf8 c.as_bytes-b.ensures.utf8 (subst (SameBelow a b) all c.loop-x.invariant))
