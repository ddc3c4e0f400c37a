use Rattle.std.proofs.Common.{rules}
use Rattle.std.proofs.lemmas.Fn.{always_returns_same}
use Rattle.tab_keys.specs.Order.{key_cmp}
use Rattle.tab_rows.proofs.IndexLemmas.{index_from_search}
use Rattle.tab_rows.proofs.rows.find_index.Goals as goal

pub returns : goal.returns
returns c =
    index_from_search c.args.rows.now c.args.key.now c.binary_search_by.result c.requires c.binary_search_by.ensures.bound
    (c.binary_search_by.ensures.position (λ row. key_cmp row.key c.args.key.now) (always_returns_same _ _ _ (λ a r g h. search rules)))
