use Rattle.std.proofs.Common.{◌<◌, length, sym, ap, ◌∙◌, arith}
use Rattle.tab_server.proofs.Filling.{room_short, fills_first, longer_rises, fills_full, fills_room, last_rises}
use Rattle.tab_server.proofs.rewriting.push_rows.Goals.{then-is_full+in_ok-close, else-is_full}
use Rattle.tab_server.proofs.rewriting.push_rows.Goals as goal

pub loop-row-init : goal.loop-row-init
loop-row-init c = fills_first _ _ _ _ c.new-next.ensures c.requires

pub push-requires : goal.push-requires
push-requires c = room_short c.args.range _ c.loop-row.invariant.room

pub close-requires-clause-rising : goal.close-requires-clause-rising
close-requires-clause-rising c =
    let within : c.loop-row.row-index < length c.args.rows.now = omega arith in
    longer_rises _ _ _ _ _ _ c.loop-row.invariant _ _ within c.row-item.is c.in_ok-push.ensures.rows

pub close-requires-clause-short : goal.close-requires-clause-short
close-requires-clause-short c = c.in_ok-push.ensures.short

pub loop-row-preserved : goal.loop-row-preserved
loop-row-preserved c =
    let within : c.loop-row.row-index < length c.args.rows.now = omega arith in
    let joins = c.in_ok-push.ensures.rows in
    elim c.if-is_full.branch [
      | then-is_full+in_ok-close w ↦ fills_full _ _ _ _ _ _ c.loop-row.invariant _ _ within c.row-item.is joins _ _ (sym c.is_full.ensures ∙ w.if-is_full.true) (ap (λ v. v.items) w.pieces-is ∙ w.in_ok-close.ensures)
          (w.next-is ∙ w.new-next-then-is_full.ensures)
      | else-is_full w ↦ fills_room _ _ _ _ _ _ c.loop-row.invariant _ _ within c.row-item.is joins _ _ (sym c.is_full.ensures ∙ w.if-is_full.false) (ap (λ v. v.items) w.pieces-is) w.next-is
    ]

pub close-requires-2-clause-rising : goal.close-requires-2-clause-rising
close-requires-2-clause-rising c = last_rises _ _ _ _ _ _ c.loop-row.invariant c.loop-row-test.false

pub close-requires-2-clause-short : goal.close-requires-2-clause-short
close-requires-2-clause-short c = let short = room_short c.args.range _ c.loop-row.invariant.room in omega (arith, short)
