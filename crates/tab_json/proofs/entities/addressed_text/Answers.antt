use Rattle.std.proofs.Common.{◌++◌, ap, ◌∙◌}
use Rattle.json.specs.Print.{print}
use Rattle.serde_json.specs.Data.{object}
use Rattle.serde_json.specs.Written.{compact_text}
use Rattle.tab_json.specs.Entities.{entity_members}
use Rattle.tab_json.specs.Objects.{with_members, object_of}
use Rattle.tab_json.specs.Written.{written_members, object_written}
use Rattle.tab_json.proofs.ObjectLemmas.{put_both}
use Rattle.tab_json.proofs.WrittenLemmas.{object_print}
use Rattle.tab_json.proofs.entities.addressed_text.Goals as goal

pub returns : goal.returns
unfolding object_of
returns c =
    let entity = c.in_ok-put_entity.ensures ∙ ap (λ slots. with_members (written_members slots) (entity_members c.args.form.now c.args.version.now)) c.in_ok-members.ensures in
    let all = put_both _ _ _ _ _ entity c.in_ok-put_address.ensures in
    let written = c.in_ok-write_object.ensures ∙ ap (λ ts. ts ++ object_written c.put_address.new.members) c.in_ok-text.ensures in
    c.finish.ensures ∙ ap print written ∙ object_print c.put_address.new.members ∙ ap (λ ms. compact_text (object ms)) all
