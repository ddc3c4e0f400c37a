use Rattle.std.proofs.Common.{◌≡◌, ◌∙◌, ◌&&◌, ap, sym}
use Rattle.std.specs.Prelude.{bytes_eq}
use Rattle.std.specs.Ordering.{is_eq}
use Rattle.tab_keys.specs.Order.{name_cmp}
use Rattle.tab_ops.specs.Groups.{ItemView}
use Rattle.tab_ops.proofs.GroupLemmas.{same_name}
use Rattle.tab_ops.proofs.ops.Item.is_beside.Goals as goal

pub returns-then-eq : goal.returns-then-eq
returns-then-eq c =
    let name : c.eq.result ≡ is_eq (name_cmp c.args.self.now.name c.args.first.now.name) =
    c.eq.ensures ∙ (ap (λ (item : ItemView). is_eq (name_cmp item.name c.first.inside.name)) c.self.view_is ∙ ap (λ (item : ItemView). is_eq (name_cmp c.args.self.now.name item.name)) c.first.view_is) in
    let own : c.as_str.result.now ≡ c.args.self.now.pk = c.as_str.ensures.text ∙ ap (λ (item : ItemView). item.pk) c.self.view_is in
    let others : c.as_str-then-eq.result.now ≡ c.args.first.now.pk = c.as_str-then-eq.ensures.text ∙ ap (λ (item : ItemView). item.pk) c.first.view_is in
    let same = sym (same_name c.args.self.now.name c.args.first.now.name) ∙ (sym name ∙ c.if-eq.true) in
    c.eq-then-eq.ensures
    ∙ (ap (λ text. bytes_eq text c.as_str-then-eq.result.now) own ∙ (ap (bytes_eq c.args.self.now.pk) others ∙ ap (λ b. b && bytes_eq c.args.self.now.pk c.args.first.now.pk) (sym same)))

pub returns-else-eq : goal.returns-else-eq
returns-else-eq c =
    let name : c.eq.result ≡ is_eq (name_cmp c.args.self.now.name c.args.first.now.name) =
    c.eq.ensures ∙ (ap (λ (item : ItemView). is_eq (name_cmp item.name c.first.inside.name)) c.self.view_is ∙ ap (λ (item : ItemView). is_eq (name_cmp c.args.self.now.name item.name)) c.first.view_is) in
    let differs = sym (same_name c.args.self.now.name c.args.first.now.name) ∙ (sym name ∙ c.if-eq.false) in
    c.if-eq.false ∙ ap (λ b. b && bytes_eq c.args.self.now.pk c.args.first.now.pk) (sym differs)
