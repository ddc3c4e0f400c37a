use Rattle.std.proofs.Common.{◌∙◌, ap, sym, append-nil, codes}
use Rattle.serde_json.specs.Data.{object}
use Rattle.tab_json.specs.Entities.{metadata_address}
use Rattle.tab_json.specs.Objects.{object_of}
use Rattle.tab_json.specs.Tables.{tables_data}
use Rattle.tab_json.proofs.ObjectLemmas.{put_both, with_members-one}
use Rattle.tab_json.proofs.tables.tables_value.Goals as goal

pub returns : goal.returns
unfolding tables_data object_of
returns c =
    let address = rw (c.new-members.ensures.empty, append-nil (metadata_address c.args.account.now (codes "Tables"))) at c.in_ok-put_metadata.ensures in
    let values = rw (c.from.ensures, c.in_ok-values.ensures) at c.in_ok-put.ensures.ok in
    c.from-2.ensures ∙ ap object (put_both _ _ _ _ _ address (values ∙ sym (with_members-one _ _ _)))
