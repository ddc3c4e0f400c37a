use Rattle.std.proofs.Common.{ap, ◌∙◌}
use Rattle.std.proofs.lemmas.Result.{on_ok_weaker}
use Rattle.tab_json.specs.Entities.{key_members}
use Rattle.tab_json.specs.Objects.{with_members}
use Rattle.tab_json.specs.Written.{written_members}
use Rattle.tab_json.proofs.ObjectLemmas.{put_both}
use Rattle.tab_json.proofs.members_written.put_keys.Goals as goal

pub returns : goal.returns
unfolding key_members
returns c =
    let pk = rw c.as_str.ensures.text at (c.in_ok-put_key.ensures) in
    let rk = rw c.as_str-2.ensures.text at (c.in_ok-put_key-2.ensures) in
    let keys = put_both _ _ _ _ _ pk rk in
    on_ok_weaker c.put_timestamp.result
    (λ at. put_both _ _ _ _ _ keys at ∙ ap (λ version. with_members (written_members c.args.members.now) (key_members c.args.form.now version)) c.version.view_is)
    c.put_timestamp.ensures
