use Rattle.std.proofs.Common.{◌≡◌, ℕ, ◌++◌, List, take, drop}
use Rattle.std.specs.BTreeSet.{contains}
use Rattle.tab_keys.specs.Order.{name_cmp}
use Rattle.tab_journal.specs.Told.{is_taken, are_new}
use Rattle.tab_journal.proofs.listings.are_new.Given as goal

abbrev pub invariant-loop-name : goal.invariant-loop-name
invariant-loop-name l = (name : List ℕ) → contains name_cmp l.taken name ≡ is_taken (take l.name-index l.before) name

abbrev pub invariant-loop-name-2 : goal.invariant-loop-name-2
invariant-loop-name-2 l = record {
  taken : (name : List ℕ) → contains name_cmp l.taken name ≡ is_taken (l.before ++ take l.name-index l.names) name;
  rest : are_new (l.before ++ take l.name-index l.names) (drop l.name-index l.names) ≡ are_new l.before l.names;
}
