use Rattle.std.proofs.Common.{◌≡◌, ◌==◌, ◌+◌, ◌-◌, false, Result, length, take, drop, get_or, sym, subst, ◌∙◌, arith}
use Rattle.std.specs.Prelude.{vec_items}
use Rattle.std.proofs.lemmas.Bool.Decides.{nat_tests}
use Rattle.std.proofs.lemmas.List.{take_rest}
use Rattle.tab_journal.specs.Reading.{frames_of}
use Rattle.tab_journal.specs.Stores.{ReadsFrames}
use Rattle.tab_journal.specs.declared.reading.AreaFrames.{AreaFrames}
use Rattle.tab_journal.specs.declared.reading.Unread.{Unread}
use Rattle.tab_journal.proofs.NextReading.{begun_so, more_so, refused_so, read_missing, read_whole, read_short}
use Rattle.tab_journal.proofs.reading.frames_of.Goals.{then-is_whole, else-is_whole}
use Rattle.tab_journal.proofs.reading.frames_of.Goals as goal

pub loop-at-init : goal.loop-at-init
loop-at-init c = begun_so c.args.kind c.args.area.now _ _ _ c.first-told.ensures c.new-frames.ensures.items c.new-places.ensures.items

pub loop-at-preserved : goal.loop-at-preserved
loop-at-preserved c =
    let so = c.loop-at in
    let area = c.args.area.now in
    let gate : get_or area so.at 0 ≡ 1 = omega arith in
    let rest = take_rest area (so.at + 1) in
    more_so c.args.kind area so.told c.next_frame.new.told (vec_items so.frames) (vec_items c.push.new.self) (vec_items so.places) (vec_items c.push-in-loop-at.new.self) so.at (take (length area - (so.at + 1)) (drop (so.at + 1) area)) c.in-Ok.read.0 c.in-Ok.read.1
    so.invariant c.loop-at-test.true gate rest c.in-Ok.ensures c.in-Ok-Ok.ensures.items c.in-Ok-Ok.ensures'.items

pub returns-then-area-at-ne-OPEN : goal.returns-then-area-at-ne-OPEN
returns-then-area-at-ne-OPEN c =
    let so = c.loop-at in
    let kind = c.args.kind in
    let area = c.args.area.now in
    let list = vec_items so.frames in
    let places = vec_items so.places in
    let shut : (get_or area so.at 0 == 1) ≡ false = grind (arith, nat_tests) in
    elim c.if-is_whole.branch [
      | then-is_whole w ↦ subst (λ (r : Result AreaFrames Unread). ReadsFrames r (frames_of kind area)) (sym w.result-is)
          (read_whole kind area so.told list places so.at so.invariant c.loop-at-test.true shut (sym c.is_whole.ensures ∙ w.if-is_whole.true), so.invariant.gates, so.invariant.end)
      | else-is_whole w ↦ subst (λ (r : Result AreaFrames Unread). ReadsFrames r (frames_of kind area)) (sym w.result-is)
          (read_short kind area so.told list places so.at so.invariant c.loop-at-test.true shut (sym c.is_whole.ensures ∙ w.if-is_whole.false))
    ]

pub returns-in-Err : goal.returns-in-Err
returns-in-Err c =
    let so = c.loop-at in
    let area = c.args.area.now in
    let gate : get_or area so.at 0 ≡ 1 = omega arith in
    let rest = take_rest area (so.at + 1) in
    refused_so c.args.kind area so.told c.next_frame.new.told (vec_items so.frames) (vec_items so.places) so.at (take (length area - (so.at + 1)) (drop (so.at + 1) area)) c.in-Err.unread so.invariant c.loop-at-test.true gate rest c.in-Err.ensures

pub returns : goal.returns
returns c = let so = c.loop-at in read_missing c.args.kind c.args.area.now so.told (vec_items so.frames) (vec_items so.places) so.at so.invariant c.loop-at-test.false
