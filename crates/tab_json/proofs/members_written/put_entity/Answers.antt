use Rattle.std.proofs.Common.{sym, ap, ◌∙◌}
use Rattle.std.proofs.lemmas.Result.{on_ok_weaker}
use Rattle.tab_json.specs.Entities.{key_members, entity_members}
use Rattle.tab_json.specs.Objects.{with_members}
use Rattle.tab_json.specs.Written.{written_members}
use Rattle.tab_json.proofs.ObjectLemmas.{put_both}
use Rattle.tab_json.proofs.members_written.put_entity.Goals as goal

pub returns : goal.returns
unfolding entity_members
returns c =
    let keys = c.in_ok-put_keys.ensures ∙ ap (λ version. with_members (written_members c.put_properties.new.members) (key_members c.args.form.now version)) (sym c.version.view_is) in
    let front = put_both _ _ _ _ _ c.in_ok-put_properties.ensures keys in
    on_ok_weaker c.put_etag.result
    (λ at. put_both _ _ _ _ _ front at ∙ ap (λ version. with_members (written_members c.args.members.now) (entity_members c.args.form.now version)) c.version.view_is)
    c.put_etag.ensures
