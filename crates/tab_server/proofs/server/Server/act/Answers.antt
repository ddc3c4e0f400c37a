use Rattle.std.proofs.Common.{rules, ◌≡◌, Some, None, Err, ap, sym, subst, inl, refl}
use Rattle.tab_range.specs.Commands.{command_key}
use Rattle.tab_server.specs.declared.refusals.ActRefused.TheVariants as refused
use Rattle.tab_server.specs.Acting.{Acts}
use Rattle.tab_server.specs.Contents.{IsHolding}
use Rattle.tab_server.specs.Serving.{range_for, is_sealed, IsServed}
use Rattle.tab_server.proofs.ActSettled.{served_by, settled_to, served_settled, unsealed, acts_none, acts_sealed, acts_refused, acts_then}
use Rattle.tab_server.proofs.server.Server.act.Goals as goal

pub answer-requires : goal.answer-requires
answer-requires g c =
    let meant : range_for c.args.self.now.held (command_key c.args.command.now) ≡ Some c.in-Some.marked.now = search rules in
    let holding : IsHolding c.args.self.now.held = search rules in
    let to = settled_to g.T.Tally.drew g.T.Tally.ready g.T.Tally.kin g.D.Disk.watch g.D.Disk.honest g.D.Disk.faults c.args.self.now c.settle.new.self c.settle.result c.in_ok-settle.field-0 c.settle.ensures.settles c.in_ok-settle.was in
    let served = subst (λ n. IsServed c.args.self.now.held n c.args.command.now c.in-Some.marked.now) (sym c.id-range.ensures) (served_by c.args.self.now.held c.args.command.now c.in-Some.marked.now holding meant) in
    let still = served_settled g.T.Tally.drew g.T.Tally.ready g.T.Tally.kin c.args.self.now c.settle.new.self c.id-range.result c.args.command.now c.in-Some.marked.now holding served c.requires.ready to in
    record { running = to.2; stands = (still.marked, still.served); ready = still.can; sound = c.settle.ensures.settles.sound }

pub returns-in_default-clause-acts : goal.returns-in_default-clause-acts
returns-in_default-clause-acts g c = inl (refl, refl)

pub returns-in_default-find_for-clause-acts : goal.returns-in_default-find_for-clause-acts
returns-in_default-find_for-clause-acts g c =
    let none : range_for c.args.self.now.held (command_key c.args.command.now) ≡ None = search rules in
    acts_none g.T.Tally.drew g.T.Tally.ready g.T.Tally.kin g.D.Disk.watch g.D.Disk.honest g.D.Disk.faults c.args.command.now c.args.now c.args.self.now none

pub returns-in-Sealed-clause-acts : goal.returns-in-Sealed-clause-acts
returns-in-Sealed-clause-acts g c =
    let meant : range_for c.args.self.now.held (command_key c.args.command.now) ≡ Some c.in-Some.marked.now = search rules in
    subst (λ n. Acts g.T.Tally.drew g.T.Tally.ready g.T.Tally.kin g.D.Disk.watch g.D.Disk.honest g.D.Disk.faults c.args.command.now c.args.now c.args.self.now c.args.self.now (Err (refused.Sealed n))) (sym c.id-range.ensures)
    (acts_sealed g.T.Tally.drew g.T.Tally.ready g.T.Tally.kin g.D.Disk.watch g.D.Disk.honest g.D.Disk.faults c.args.command.now c.args.now c.args.self.now c.in-Some.marked.now meant (ap is_sealed c.in-Sealed.is))

pub returns-in_err-settle-clause-acts : goal.returns-in_err-settle-clause-acts
returns-in_err-settle-clause-acts g c =
    let meant : range_for c.args.self.now.held (command_key c.args.command.now) ≡ Some c.in-Some.marked.now = search rules in
    let same : c.from_residual.result ≡ Err c.in_err-settle.field-0.0 = search rules in
    acts_refused g.T.Tally.drew g.T.Tally.ready g.T.Tally.kin g.D.Disk.watch g.D.Disk.honest g.D.Disk.faults c.args.command.now c.args.now c.args.self.now c.settle.new.self c.settle.result c.in_err-settle.field-0.0 c.from_residual.result c.in-Some.marked.now meant
    (unsealed c.in-Some.marked.now.mark c.in_default-mark.not-Sealed) c.settle.ensures.settles c.in_err-settle.was same

pub returns-clause-acts : goal.returns-clause-acts
returns-clause-acts g c =
    let meant : range_for c.args.self.now.held (command_key c.args.command.now) ≡ Some c.in-Some.marked.now = search rules in
    acts_then g.T.Tally.drew g.T.Tally.ready g.T.Tally.kin g.D.Disk.watch g.D.Disk.honest g.D.Disk.faults c.args.command.now c.args.now c.args.self.now c.settle.new.self c.answer.new.self c.settle.result c.in_ok-settle.field-0 c.answer.result c.in-Some.marked.now meant
    (unsealed c.in-Some.marked.now.mark c.in_default-mark.not-Sealed) c.settle.ensures.settles c.in_ok-settle.was c.answer.ensures.answers
