-- The forms of a request's parts as one list.
use Rattle.std.specs.Prelude.{List, [], ◌∷◌}
use Rattle.tab_service.specs.declared.forms.FormList.{FormList}
use Rattle.tab_service.specs.declared.forms.FormList.TheVariants.{One, Many}
use Rattle.tab_service.specs.declared.forms.PartForm.{PartForm}

abbrev pub forms_in : FormList → List PartForm
forms_in (One form) = form ∷ []
forms_in (Many forms) = forms.items
