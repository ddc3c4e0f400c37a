use Rattle.std.proofs.Common.{rules}
use Rattle.std.proofs.lemmas.List.{length_push}
use Rattle.std.proofs.lemmas.Slice.Zip.{zip_turn, zip_end}
use Rattle.tab_auth.proofs.Differences.{difference_more, difference_of_all}
use Rattle.tab_auth.proofs.claims.is_same.Goals as goal

pub loop-left-preserved : goal.loop-left-preserved
loop-left-preserved c =
    let turn = zip_turn c.args.claimed.now c.args.signature.now c.loop-left.yielded c.into_iter-left-iterator.result c.loop-left.left-iterator c.next.new.self c.next.result (search rules) (search rules) c.loop-left.yielded_by (c.in-Some.left, c.in-Some.right) c.in-Some.is c.next.ensures.steps in
    difference_more _ _ _ _ _ _ _ turn.0 turn.1 (turn.2 0) (turn.3 0) (length_push c.loop-left.yielded (c.in-Some.left, c.in-Some.right)) c.loop-left.invariant

pub returns : goal.returns
returns c =
    let all = zip_end c.args.claimed.now c.args.signature.now c.loop-left.yielded c.into_iter-left-iterator.result c.loop-left.left-iterator c.next.new.self c.next.result (search rules) (search rules) c.loop-left.yielded_by c.in-None.is c.next.ensures.steps in
    difference_of_all _ _ _ _ (search rules) all c.loop-left.invariant
