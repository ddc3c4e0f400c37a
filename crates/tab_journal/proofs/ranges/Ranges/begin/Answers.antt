use Rattle.std.proofs.Common.{◌≡◌, not, rules}
use Rattle.std.specs.Prelude.{◌==◌}
use Rattle.std.proofs.lemmas.Fn.{filter_same}
use Rattle.tab_journal.specs.declared.ranges.RangeTold.{RangeTold}
use Rattle.tab_journal.specs.Told.{forgotten}
use Rattle.tab_journal.proofs.ranges.Ranges.begin.Goals as goal

pub returns : goal.returns
returns c =
    let same : c.self.inside.list.items ≡ c.args.self.now = let w = c.self.view_is in cc in
    let kept : c.retain.new.self.items ≡ forgotten c.self.inside.list.items c.args.range = filter_same _ (λ (one : RangeTold). not (one.range == c.args.range)) _ (λ x b f k. search rules) _ _ c.retain.ensures.filtered in
    let pushed = c.in_ok-push.ensures.items in
    let span = c.in_ok-span.ensures in
    cc
