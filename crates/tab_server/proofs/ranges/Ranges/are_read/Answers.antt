use Rattle.std.proofs.Common.{◌≤◌, length, refl, ap, ◌∙◌, arith}
use Rattle.std.specs.Option.{option_copied}
use Rattle.std.proofs.lemmas.List.{take_all}
use Rattle.tab_server.proofs.Holding.{one_not, all_spelled}
use Rattle.tab_server.proofs.ranges.Ranges.are_read.Goals as goal

pub returns-then-not-branch : goal.returns-then-not-branch
returns-then-not-branch g c = (
  λ e. absurd cc,
  λ h. one_not c.args.frames.now (option_copied c.args.step) c.deref-marked-items.result.now c.args.self.now c.loop-marked.marked-index c.marked-item.result c.in_ok-is_spelled.field-0 (c.deref-marked-items.ensures.value ∙ c.self.view_is) c.loop-marked-test.true c.marked-item.is c.in_ok-is_spelled.ensures.1 c.if-not-branch.true h,
)

pub returns : goal.returns
returns g c =
    let over : length c.args.self.now ≤ c.loop-marked.marked-index = omega (arith, c.loop-marked-test.false, ap length (c.deref-marked-items.ensures.value ∙ c.self.view_is)) in
    (λ e. all_spelled c.args.frames.now (option_copied c.args.step) c.args.self.now c.args.self.now c.loop-marked.marked-index (take_all c.loop-marked.marked-index c.args.self.now over) refl c.loop-marked.invariant, λ h. refl)
