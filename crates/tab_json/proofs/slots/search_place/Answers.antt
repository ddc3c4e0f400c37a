use Rattle.std.proofs.Common.{rules}
use Rattle.std.proofs.lemmas.Fn.{always_returns_same}
use Rattle.tab_json.specs.Slots.{name_cmp}
use Rattle.tab_json.proofs.SlotLemmas.{place_from_search}
use Rattle.tab_json.proofs.slots.search_place.Goals as goal

pub returns : goal.returns
returns g c =
    place_from_search c.args.slots.now c.args.name c.binary_search_by.result c.requires c.binary_search_by.ensures.bound
    (c.binary_search_by.ensures.position (λ other. name_cmp other.name c.args.name) (always_returns_same _ _ _ (λ a r g h. search rules)))
