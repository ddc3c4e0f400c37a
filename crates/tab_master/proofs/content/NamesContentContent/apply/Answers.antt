use Rattle.std.proofs.Common.{◌+◌, List, subst, sym}
use Rattle.tab_history.specs.World.{Named}
use Rattle.tab_master.specs.Spelled.{SpelledNames, AreNames}
use Rattle.tab_master.specs.Names.{NamesView, NamesFit}
use Rattle.tab_master.specs.declared.steps.NamesStep.{NamesStep}
use Rattle.tab_master.specs.declared.steps.NamesStep.TheVariants.{Create, Drop}
use Rattle.tab_master.proofs.StandingLaws.{stepped_orderly}
use Rattle.tab_master.proofs.content.NamesContentContent.apply.Goals as goal

pub invariant_of-self : goal.invariant_of-self
invariant_of-self c =
    let step : NamesStep = Create c.in-Create.table c.in-Create.name in
    let inside : SpelledNames = record { next_table = c.self.inside.next_table; names = c.self.inside.tables.names } in
    let fits : NamesFit inside step = subst (λ (v : NamesView). NamesFit v.told step) (sym c.self.view_is) (subst (λ s. NamesFit c.args.self.now.told s) c.in-Create.is c.requires.fits.fits) in
    subst (λ (names : List Named). AreNames (record { next_table = c.in-Create.table + 1; names = names })) (sym c.put.ensures) (stepped_orderly inside step fits c.self.invariant)

pub invariant_of-self-in-Drop : goal.invariant_of-self-in-Drop
invariant_of-self-in-Drop c =
    let step : NamesStep = Drop c.in-Drop.table in
    let inside : SpelledNames = record { next_table = c.self.inside.next_table; names = c.self.inside.tables.names } in
    let fits : NamesFit inside step = subst (λ (v : NamesView). NamesFit v.told step) (sym c.self.view_is) (subst (λ s. NamesFit c.args.self.now.told s) c.in-Drop.is c.requires.fits.fits) in
    subst (λ (names : List Named). AreNames (record { next_table = c.self.inside.next_table; names = names })) (sym c.take.ensures) (stepped_orderly inside step fits c.self.invariant)
