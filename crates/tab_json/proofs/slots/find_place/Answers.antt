use Rattle.tab_json.specs.Slots.{name_cmp}
use Rattle.tab_json.proofs.SlotLemmas.{belongs_last, less_from_is_lt}
use Rattle.tab_json.proofs.slots.find_place.Goals as goal

pub returns-in-Some : goal.returns-in-Some
returns-in-Some g c =
    belongs_last c.args.slots.now c.args.name c.in-Some.last.now c.requires c.in-Some.ensures.value
    (less_from_is_lt (name_cmp c.in-Some.last.now.name c.args.name) cc)
