use Rattle.std.proofs.Common.{ap, ◌∙◌, sym, string_bytes, bytes_eq}
use Rattle.std.specs.List.{list_any}
use Rattle.tab_page.proofs.SelectLaws.{list_any-map}
use Rattle.tab_page.proofs.selects.Names.contains.Goals as goal

pub returns : goal.returns
returns c =
    c.has_text.ensures
    ∙ ap (list_any (λ text. bytes_eq (string_bytes text) c.args.name.now)) c.as_slice.ensures.value
    ∙ sym (list_any-map (λ other. bytes_eq other c.args.name.now) string_bytes c.self.inside.texts.items)
    ∙ ap (list_any (λ other. bytes_eq other c.args.name.now)) c.self.view_is
