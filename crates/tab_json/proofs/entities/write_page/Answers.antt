use Rattle.std.proofs.Common.{◌≡◌, true, [], ◌∷◌, ◌++◌, ap, ◌∙◌, append-nil}
use Rattle.std.proofs.lemmas.Result.{IfOk-weaker}
use Rattle.json.specs.Print.{print}
use Rattle.json.specs.Token.{begin_object, end_object}
use Rattle.tab_json.specs.Entities.{metadata_address}
use Rattle.tab_json.specs.Written.{page_written}
use Rattle.tab_json.proofs.WrittenLemmas.{same_page, page_print}
use Rattle.tab_json.proofs.entities.write_page.Goals as goal

pub returns : goal.returns
returns c =
    let account = c.args.account.now in
    let form = c.args.form.now in
    let address = c.as_str-2.result.now in
    let named : form.minimal ≡ true → address ≡ metadata_address account c.args.name.now =
    λ minimal. c.as_str-2.ensures.value ∙ c.in_ok-address.ensures minimal ∙ append-nil (metadata_address account c.as_str.result.now) ∙ ap (metadata_address account) c.as_str.ensures.text in
    IfOk-weaker c.page_text.result _ _
    (λ text is. is
    ∙ ap (λ rows. print (begin_object ∷ (page_written form address rows ++ end_object ∷ []))) c.as_slice.ensures.rows
    ∙ ap (λ ts. print (begin_object ∷ (ts ++ end_object ∷ []))) (same_page form address (metadata_address account c.args.name.now) c.args.page.now.rows named)
    ∙ page_print account c.args.name.now form c.args.page.now.rows)
    c.page_text.ensures
