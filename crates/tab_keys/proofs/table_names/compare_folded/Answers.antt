use Rattle.std.proofs.Common.{◌≡◌, refl, rules, tests}
use Rattle.std.specs.Ordering.{nat_cmp}
use Rattle.std.proofs.lemmas.Iterator.{YieldsList-from_map}
use Rattle.std.proofs.lemmas.Iterator.Consumers.{YieldsList-at}
use Rattle.std.proofs.lemmas.Iterator.Adapters.{YieldsList-from_bytes}
use Rattle.std.proofs.lemmas.Iterator.Search.{cmp_from_yields_List}
use Rattle.tab_keys.specs.TableNames.{folded, fold_byte}
use Rattle.tab_keys.specs.Order.{name_cmp}
use Rattle.tab_keys.proofs.table_names.compare_folded.Goals as goal

pub returns : goal.returns
unfolding name_cmp folded
returns c =
    cmp_from_yields_List (λ x y. y ≡ x) _ nat_cmp _ c.cmp.ensures.ran
    (YieldsList-from_map _ fold_byte (YieldsList-at c.map.ensures.source (YieldsList-from_bytes c.args.a.now c.bytes.ensures.rest)) c.map.ensures.closure (λ x r q k. search (rules, tests)))
    (λ it e. YieldsList-at e (YieldsList-from_map _ fold_byte (YieldsList-at c.map-2.ensures.source (YieldsList-from_bytes c.args.b.now c.bytes-2.ensures.rest)) c.map-2.ensures.closure (λ x r q k. search (rules, tests))))
    (λ x y. refl)
