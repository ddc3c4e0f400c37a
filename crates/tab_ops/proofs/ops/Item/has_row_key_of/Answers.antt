use Rattle.std.proofs.Common.{◌≡◌, ◌∙◌, ap}
use Rattle.tab_keys.proofs.OrderLaws.{bytes_eq-is}
use Rattle.tab_ops.specs.Groups.{ItemView}
use Rattle.tab_ops.proofs.ops.Item.has_row_key_of.Goals as goal

pub returns-clause-units : goal.returns-clause-units
returns-clause-units c =
    let own : c.as_str.result.now ≡ c.args.self.now.rk = c.as_str.ensures.text ∙ ap (λ (item : ItemView). item.rk) c.self.view_is in
    let others : c.as_str-2.result.now ≡ c.args.other.now.rk = c.as_str-2.ensures.text ∙ ap (λ (item : ItemView). item.rk) c.other.view_is in
    rw (← own, ← others) (c.eq.ensures ∙ bytes_eq-is c.as_str.result.now c.as_str-2.result.now c.as_str.utf8 c.as_str-2.utf8)
