use Rattle.std.proofs.Common.{◌++◌, ap, ap₂, ◌∙◌}
use Rattle.std.proofs.lemmas.Result.{on_ok_weaker}
use Rattle.tab_json.specs.Entities.{entity_members}
use Rattle.tab_json.specs.Objects.{with_members}
use Rattle.tab_json.specs.Written.{written_members}
use Rattle.tab_json.proofs.WrittenLemmas.{row_is_object}
use Rattle.tab_json.proofs.entities.write_row.Goals as goal

pub returns : goal.returns
returns c =
    let is = c.in_ok-put_entity.ensures ∙ ap₂ (λ slots version. with_members (written_members slots) (entity_members c.args.form.now version)) c.clear.ensures c.of.ensures in
    on_ok_weaker c.write_object.result
    (λ object. object ∙ ap (λ ts. c.args.text.now ++ ts) (row_is_object c.put_entity.new.members c.args.form.now c.args.row.now is))
    c.write_object.ensures
