use Rattle.std.proofs.Common.{◌≡◌, true, ◌++◌, codes, ap, ◌∙◌}
use Rattle.std.proofs.lemmas.Result.{IfOk-weaker}
use Rattle.serde_json.specs.Written.{compact_text}
use Rattle.tab_json.specs.Entities.{metadata_address, entity_members, entity_data, entity_json}
use Rattle.tab_json.specs.Objects.{object_of}
use Rattle.tab_json.proofs.WrittenLemmas.{same_metadata}
use Rattle.tab_json.proofs.entities.write_version.Goals as goal

pub returns : goal.returns
unfolding entity_json entity_data
returns c =
    let account = c.args.account.now in
    let form = c.args.form.now in
    let address = c.as_str-2.result.now in
    let named : form.minimal ≡ true → address ≡ metadata_address account c.args.name.now ++ codes "/@Element" =
    λ minimal. c.as_str-2.ensures.value ∙ c.in_ok-address.ensures minimal ∙ ap (λ name. metadata_address account name ++ codes "/@Element") c.as_str.ensures.text in
    IfOk-weaker c.addressed_text.result _ _
    (λ text is. is ∙ ap (λ ms. compact_text (object_of (entity_members form c.args.version.now ++ ms))) (same_metadata form address (metadata_address account c.args.name.now ++ codes "/@Element") named))
    c.addressed_text.ensures
