use Rattle.std.proofs.Common.{◌==◌, lit<}
use Rattle.std.specs.List.{slice_split}
use Rattle.std.proofs.lemmas.Iterator.Splits.{YieldsList-from_str_split}
use Rattle.std.proofs.lemmas.Iterator.Consumers.{YieldsList-turn, YieldsList-end}
use Rattle.std.proofs.lemmas.List.{length_push}
use Rattle.tab_page.proofs.SelectLaws.{names_kept, all_kept}
use Rattle.tab_page.proofs.selects.names_in.Goals as goal

pub loop-piece-preserved : goal.loop-piece-preserved
loop-piece-preserved c =
    let turn = YieldsList-turn (YieldsList-from_str_split 44 c.args.text.now (lit< tt) (cc) (cc) (cc)) c.loop-piece.yielded _ c.loop-piece.yielded_by _ _ c.in-Some.piece c.in-Some.is c.next.ensures.steps in
    names_kept (slice_split (λ b. b == 44) c.args.text.now) _ _ c.in-Some.piece.now c.trimmed.result.now _ _ (length_push c.loop-piece.yielded c.in-Some.piece) turn c.trimmed.ensures c.loop-piece.invariant c.in_ok-add_name.ensures

pub returns : goal.returns
returns c =
    let end = YieldsList-end (YieldsList-from_str_split 44 c.args.text.now (lit< tt) (cc) (cc) (cc)) c.loop-piece.yielded _ c.loop-piece.yielded_by _ _ c.in-None.is c.next.ensures.steps in
    all_kept (slice_split (λ b. b == 44) c.args.text.now) _ _ end.1 c.loop-piece.invariant
