use Rattle.std.proofs.Common.{◌≤◌, ◌<◌, List, length, subst, sym, arith}
use Rattle.tab_codec.specs.declared.frames.Frame.{Frame}
use Rattle.tab_master.specs.Names.{AreListed, most_names}
use Rattle.tab_master.proofs.CheckpointLaws.{PartsSoFar, parts_more, parts_end, rise_behind}
use Rattle.tab_master.proofs.checkpoint.listing_frames.Goals as goal

pub loop-rest-preserved : goal.loop-rest-preserved
loop-rest-preserved c =
    let rest = c.loop-rest.rest.now in
    let over : most_names < length rest = omega arith in
    record {
      rise = rise_behind rest c.split_at.result.1.now most_names c.split_at.ensures.back c.loop-rest.invariant.rise;
      so_far =
          subst (λ (list : List Frame). PartsSoFar c.args.next_table list c.args.rows.now c.split_at.result.1.now) (sym c.in_ok-push.ensures.items)
          (parts_more c.args.next_table c.loop-rest.pieces.items c.args.rows.now rest c.split_at.result.0.now c.split_at.result.1.now c.in_ok-listing_frame.field-0 c.loop-rest.invariant.so_far over
          c.split_at.ensures.front c.split_at.ensures.back c.in_ok-listing_frame.ensures.is c.in_ok-listing_frame.ensures.spelled);
    }

pub returns : goal.returns
returns c =
    let rest = c.loop-rest.rest.now in
    let few : length rest ≤ most_names = omega arith in
    subst (λ (list : List Frame). AreListed c.args.next_table list c.args.rows.now) (sym c.in_ok-push-2.ensures.items)
    (parts_end c.args.next_table c.loop-rest.pieces.items c.args.rows.now rest c.in_ok-listing_frame-2.field-0 c.loop-rest.invariant.so_far few c.in_ok-listing_frame-2.ensures.is c.in_ok-listing_frame-2.ensures.spelled)
