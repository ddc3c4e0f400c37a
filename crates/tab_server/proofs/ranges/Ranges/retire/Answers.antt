use Rattle.std.proofs.Common.{◌==◌, not, ap, sym, ◌∙◌, subst, rules}
use Rattle.std.proofs.lemmas.Fn.{filter_same}
use Rattle.tab_server.specs.Contents.{IsHolding}
use Rattle.tab_server.specs.Serving.{without_range}
use Rattle.tab_server.specs.declared.ranges.Marked.{Marked}
use Rattle.tab_server.proofs.MarkReady.{left_holding}
use Rattle.tab_server.proofs.ranges.Ranges.retire.Goals as goal

pub invariant_of-self : goal.invariant_of-self
invariant_of-self g c =
    subst IsHolding (sym (filter_same _ (λ (one : Marked _). not (one.range.id == c.args.range)) _ (λ x b f h. search rules) _ _ c.retain.ensures.filtered))
    (left_holding c.self.inside.list.items c.args.range c.self.invariant)

pub returns : goal.returns
returns g c =
    filter_same _ (λ (one : Marked _). not (one.range.id == c.args.range)) _ (λ x b f h. search rules) _ _ c.retain.ensures.filtered
    ∙ ap (without_range c.args.range) c.self.view_is
