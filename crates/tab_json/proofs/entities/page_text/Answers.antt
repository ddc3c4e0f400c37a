use Rattle.std.proofs.Common.{[], ◌∷◌, ◌++◌, ap, ◌∙◌}
use Rattle.json.specs.Print.{print}
use Rattle.json.specs.Token.{begin_object, end_object}
use Rattle.tab_json.specs.Written.{page_written}
use Rattle.tab_json.proofs.entities.page_text.Goals as goal

pub returns : goal.returns
returns c =
    c.finish.ensures
    ∙ ap print
    (c.in_ok-write_page_object.ensures ∙ ap (λ ts. ts ++ begin_object ∷ (page_written c.args.form.now c.args.address.now c.args.rows.now ++ end_object ∷ [])) c.in_ok-text.ensures)
