use Rattle.std.proofs.Common.{option_map, ap, sym, ◌∙◌}
use Rattle.json.specs.Value.{value_view, members_view}
use Rattle.json.proofs.Trees.{view-Object}
use Rattle.serde_json.specs.Data.{no_members, object}
use Rattle.serde_json.specs.Read.{of_json, of_members}
use Rattle.tab_json.proofs.LentLemmas.{found_weaker}
use Rattle.tab_json.proofs.bodies.members_of.Goals as goal

pub returns-in-Object : goal.returns-in-Object
returns-in-Object c =
    found_weaker _ _ c.of_read.result
    (λ members is. ap of_json (ap value_view c.in-Object.is ∙ view-Object c.in-Object.members) ∙ ap (option_map object) (ap (λ ms. of_members (members_view ms) no_members) (sym c.as_slice.ensures.value) ∙ is)) c.of_read.ensures
