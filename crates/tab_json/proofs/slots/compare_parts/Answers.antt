use Rattle.std.proofs.Common.{◌≡◌, refl}
use Rattle.std.specs.Ordering.{nat_cmp}
use Rattle.std.proofs.lemmas.Iterator.Search.{cmp_from_yields_List}
use Rattle.std.proofs.lemmas.Iterator.Consumers.{YieldsList-at, YieldsList-from_chain}
use Rattle.std.proofs.lemmas.Iterator.Adapters.{YieldsList-from_bytes}
use Rattle.tab_json.proofs.slots.compare_parts.Goals as goal

pub returns : goal.returns
returns c =
    cmp_from_yields_List (λ x y. y ≡ x) _ nat_cmp _ c.cmp.ensures.ran
    (YieldsList-from_chain (YieldsList-from_bytes c.args.a.now cc) (YieldsList-from_bytes c.args.x.now cc) c.chain.ensures.first_done c.chain.ensures.second_done)
    (λ it e. YieldsList-at e (YieldsList-from_chain (YieldsList-from_bytes c.args.b.now cc) (YieldsList-from_bytes c.args.y.now cc) c.chain-2.ensures.first_done c.chain-2.ensures.second_done))
    (λ x y. refl)
