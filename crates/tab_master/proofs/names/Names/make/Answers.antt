use Rattle.std.proofs.Common.{rules, ◌≡◌, ℕ, Result, Err, sym, ◌∙◌, ap, subst}
use Rattle.tab_outside.specs.Pairs.{Extends}
use Rattle.tab_journal.specs.Areas.{Spells}
use Rattle.tab_journal.specs.Stores.{area_a, area_b}
use Rattle.tab_journal.specs.Keeping.{StandsWith}
use Rattle.tab_master.specs.Names.{NamesGoOn, names_sense}
use Rattle.tab_master.specs.NamesCalls.{NamesKept, IsNumberFor, AfterStep}
use Rattle.tab_master.specs.declared.refusals.NamesRefused.{NamesRefused}
use Rattle.tab_master.specs.declared.steps.NamesStep.TheVariants.{Create}
use Rattle.tab_master.specs.declared.refusals.NamesRefused.TheVariants.{Memory}
use Rattle.tab_master.proofs.NamesCallLaws.{no_number, no_fault_for, no_memory_creates, no_memory_causes, create_goes_on, created_so, create_refused}
use Rattle.tab_master.proofs.names.Names.make.Goals as goal

abbrev refusing : NamesRefused → Result ℕ NamesRefused
refusing refused = Err refused

pub returns-in_err-table-clause-creates : goal.returns-in_err-table-clause-creates
returns-in_err-table-clause-creates g c =
    let same : c.from_residual.result ≡ Err c.in_err-table.field-0.0 = search rules in
    no_number g.D.Disk.watch g.D.Disk.honest c.args.name.now c.args.self.now c.number_for.result c.in_err-table.field-0.0 c.from_residual.result c.number_for.ensures c.in_err-table.was same

pub returns-in_err-table-clause-causes : goal.returns-in_err-table-clause-causes
returns-in_err-table-clause-causes g c =
    let same : c.from_residual.result ≡ Err c.in_err-table.field-0.0 = search rules in
    no_fault_for g.D.Disk.faults c.args.name.now c.args.self.now c.number_for.result c.in_err-table.field-0.0 c.from_residual.result c.number_for.ensures c.in_err-table.was same

pub returns-in_err-name-clause-creates : goal.returns-in_err-name-clause-creates
returns-in_err-name-clause-creates g c =
    let passed : c.from_residual-in_err-name.result ≡ Err c.in_err-name.field-0.0 = search rules in
    let same : c.from_residual-in_err-name.result ≡ Err Memory = passed ∙ ap refusing c.in_err-name.ensures.refused in
    no_memory_creates g.D.Disk.watch g.D.Disk.honest c.args.name.now c.args.self.now c.room_for.new.self c.number_for.result c.in_ok-table.table c.from_residual-in_err-name.result c.number_for.ensures c.in_ok-table.was c.room_for.ensures.view same

pub returns-in_err-name-clause-causes : goal.returns-in_err-name-clause-causes
returns-in_err-name-clause-causes g c =
    let passed : c.from_residual-in_err-name.result ≡ Err c.in_err-name.field-0.0 = search rules in
    let same : c.from_residual-in_err-name.result ≡ Err Memory = passed ∙ ap refusing c.in_err-name.ensures.refused in
    no_memory_causes g.D.Disk.faults c.args.self.now c.room_for.new.self c.from_residual-in_err-name.result c.room_for.ensures.view same

pub step-requires-clause-fits : goal.step-requires-clause-fits
step-requires-clause-fits g c =
    let for = subst (IsNumberFor c.args.self.now.held.told c.args.name.now) c.in_ok-table.was c.number_for.ensures in
    let told : c.room_for.new.self.held.told ≡ c.args.self.now.held.told = ap (λ (k : NamesKept g.row.D.Denot). k.held.told) c.room_for.ensures.view in
    subst (λ n. NamesGoOn c.room_for.new.self.held.told (Create c.in_ok-table.table n)) (sym c.in_ok-name.ensures.is)
    (subst (λ t. NamesGoOn t (Create c.in_ok-table.table c.args.name.now)) (sym told) (create_goes_on c.args.self.now.held.told c.args.name.now c.in_ok-table.table for.0 for.1))

pub returns-in_err-step-clause-creates : goal.returns-in_err-step-clause-creates
returns-in_err-step-clause-creates g c =
    let mid = c.room_for.new.self in
    let new = c.step.new.self in
    let same : c.from_residual-in_err-step.result ≡ Err c.in_err-step.field-0.0 = search rules in
    let after = subst (λ n. AfterStep mid new (Create c.in_ok-table.table n) c.step.result) c.in_ok-name.ensures.is c.step.ensures.after in
    create_refused g.D.Disk.watch g.D.Disk.honest c.args.name.now c.in_ok-table.table c.args.self.now mid new c.number_for.result c.step.result c.in_err-step.field-0.0 c.from_residual-in_err-step.result
    c.number_for.ensures c.in_ok-table.was c.room_for.ensures.view after c.in_err-step.was same
    (λ honest. subst (λ n. Extends g.D.Disk.watch (Spells mid.store.kind mid.store.number) (StandsWith names_sense mid.held (Create c.in_ok-table.table n)) (area_a mid.store) (area_b mid.store) (area_a new.store) (area_b new.store)) c.in_ok-name.ensures.is (c.step.ensures.images honest))

pub returns-clause-creates : goal.returns-clause-creates
returns-clause-creates g c =
    let mid = c.room_for.new.self in
    let new = c.step.new.self in
    let after = subst (λ n. AfterStep mid new (Create c.in_ok-table.table n) c.step.result) c.in_ok-name.ensures.is c.step.ensures.after in
    created_so g.D.Disk.watch g.D.Disk.honest c.args.name.now c.in_ok-table.table c.args.self.now mid new c.number_for.result c.step.result c.in_ok-step.field-0
    c.number_for.ensures c.in_ok-table.was c.room_for.ensures.view after c.in_ok-step.was
    (λ honest. subst (λ n. Extends g.D.Disk.watch (Spells mid.store.kind mid.store.number) (StandsWith names_sense mid.held (Create c.in_ok-table.table n)) (area_a mid.store) (area_b mid.store) (area_a new.store) (area_b new.store)) c.in_ok-name.ensures.is (c.step.ensures.images honest))
