use Rattle.std.proofs.Common.{rules}
use Rattle.std.proofs.lemmas.Fn.{always_returns_same}
use Rattle.tab_keys.specs.Order.{name_cmp}
use Rattle.tab_master.proofs.TableIndexes.{index_from_search}
use Rattle.tab_master.proofs.tables.find_index.Goals as goal

pub returns : goal.returns
returns c =
    rw c.ok.ensures.value
    (index_from_search c.args.tables.now c.args.name.now c.binary_search_by-found.result c.requires c.binary_search_by-found.ensures.bound
    (c.binary_search_by-found.ensures.position (λ table. name_cmp table.spelling c.args.name.now) (always_returns_same _ _ _ (λ a r g h. search rules))))
