use Rattle.std.proofs.Common.{◌∙◌, ap, sym, subst, IsPermutation, AllPairs, IsTrue}
use Rattle.std.specs.Ordering.{is_lt}
use Rattle.tab_history.specs.World.{Named}
use Rattle.tab_master.specs.Spelled.{SpelledNames, by_name}
use Rattle.tab_master.specs.Names.{NamesView}
use Rattle.tab_master.proofs.CheckpointLaws.{listed_exactly}
use Rattle.tab_master.proofs.content.NamesContent.is_listed.Goals as goal

pub returns-then-listing-from-clause-same : goal.returns-then-listing-from-clause-same
returns-then-listing-from-clause-same c =
    let held = ap (λ (v : NamesView). v.told.names) c.self.view_is in
    listed_exactly c.args.listing c.args.self.now.told c.sorted.result.items c.are.result
    (ap (λ (l : SpelledNames). l.next_table) (sym c.listing.view_is) ∙ (c.if-listing-from.true ∙ (c.from.ensures ∙ ap (λ (v : NamesView). v.told.next_table) c.self.view_is)))
    (subst (λ (l : SpelledNames). IsPermutation l.names c.sorted.result.items) c.listing.view_is c.sorted.ensures.elements)
    c.sorted.ensures.in_order
    (subst (λ (v : NamesView). AllPairs (λ (a b : Named). IsTrue (is_lt (by_name a b))) v.told.names) c.self.view_is c.self.invariant.rise)
    (λ is. sym c.deref.ensures.value ∙ (c.are.ensures.0 is ∙ held))
    (λ same. c.are.ensures.1 (c.deref.ensures.value ∙ (same ∙ sym held)))
