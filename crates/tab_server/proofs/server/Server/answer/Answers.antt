use Rattle.std.proofs.Common.{rules, ◌≡◌, List, ap, sym, subst, ◌∙◌}
use Rattle.tab_range.specs.Outcomes.{Outcome}
use Rattle.tab_range.specs.Ranges.{range_outcome}
use Rattle.tab_server.specs.declared.ranges.Marked.{Marked}
use Rattle.tab_server.specs.Acting.{IsReadyToAct}
use Rattle.tab_server.specs.Contents.{IsHolding}
use Rattle.tab_server.specs.Serving.{ServerView, IsServed}
use Rattle.tab_server.proofs.ActCalls.{no_memory_yet, WasTold, replied, due_reply, due_denial}
use Rattle.tab_server.proofs.server.Server.answer.Goals as goal

pub returns-in_default-clause-answers : goal.returns-in_default-clause-answers
returns-in_default-clause-answers g c =
    let holding : IsHolding c.args.self.now.held = search rules in
    no_memory_yet g.T.Tally.drew g.T.Tally.ready g.T.Tally.kin g.D.Disk.watch g.D.Disk.honest g.D.Disk.faults c.args.self.now c.args.range c.args.command.now c.args.now c.requires.stands.0 holding c.requires.stands.1

pub make-requires-clause-ready : goal.make-requires-clause-ready
make-requires-clause-ready g c =
    subst (λ command. IsReadyToAct g.T.Tally.drew g.T.Tally.ready g.T.Tally.kin c.args.self.now command) (sym c.in-Ok.ensures) c.requires.ready

pub tell-requires-clause-ready : goal.tell-requires-clause-ready
tell-requires-clause-ready g c =
    subst (λ command. IsReadyToAct g.T.Tally.drew g.T.Tally.ready g.T.Tally.kin c.args.self.now command) (sym c.in-Ok.ensures) c.requires.ready

pub returns-in-Ok-Reply-clause-answers : goal.returns-in-Ok-Reply-clause-answers
returns-in-Ok-Reply-clause-answers g c =
    let lent : c.held-2.result.now ≡ c.args.self.now.held = c.held-2.ensures ∙ ap (λ (k : ServerView g.row.D.Denot g.row.T.Denot). k.held) c.self.view_is in
    let marked = c.decide.ensures.due.0 in
    let served = subst (λ (h : List (Marked g.row.T.Denot)). IsServed h c.args.range c.args.command.now marked) lent c.decide.ensures.due.1 in
    let told = subst (λ command. WasTold g.T.Tally.drew g.T.Tally.ready g.T.Tally.kin g.D.Disk.watch g.D.Disk.honest g.D.Disk.faults c.args.self.now c.tell.new.self command c.args.now) c.in-Ok.ensures c.tell.ensures.told in
    replied g.T.Tally.drew g.T.Tally.ready g.T.Tally.kin g.D.Disk.watch g.D.Disk.honest g.D.Disk.faults c.args.self.now c.tell.new.self c.args.command.now c.args.now marked c.in-Ok-Reply.reply served.meant
    (due_reply marked.range.rows marked.range.next_tick (range_outcome marked.range c.args.command.now c.args.now) c.decide.result c.in-Ok-Reply.field-0 c.in-Ok-Reply.reply c.in-Ok-Reply.is c.in-Ok-Reply.field-0-is c.decide.ensures.due.2) told

pub tell-requires-in-Err : goal.tell-requires-in-Err
tell-requires-in-Err g c =
    let lent : c.held-2.result.now ≡ c.args.self.now.held = c.held-2.ensures ∙ ap (λ (k : ServerView g.row.D.Denot g.row.T.Denot). k.held) c.self.view_is in
    let marked = c.decide.ensures.due.0 in
    let served = subst (λ (h : List (Marked g.row.T.Denot)). IsServed h c.args.range c.args.command.now marked) lent c.decide.ensures.due.1 in
    let due = due_denial marked.range.rows marked.range.next_tick (range_outcome marked.range c.args.command.now c.args.now) c.decide.result c.in-Err.denied c.in-Err.is (c.is_memory.ensures c.if-is_memory.false) c.decide.ensures.due.2 in
    let copy : c.in-Ok.copy ≡ c.args.command.now = c.in-Ok.ensures in record {
      due = (
        marked,
        subst (λ command. IsServed c.args.self.now.held c.args.range command marked) (sym copy) served,
        ap (λ command. (range_outcome marked.range command c.args.now).tick) copy ∙ ap (λ (o : Outcome). o.tick) due,
      );
      running = c.requires.running;
      ready = subst (λ command. IsReadyToAct g.T.Tally.drew g.T.Tally.ready g.T.Tally.kin c.args.self.now command) (sym copy) c.requires.ready;
    }

pub returns-then-is_memory-clause-answers : goal.returns-then-is_memory-clause-answers
returns-then-is_memory-clause-answers g c =
    let holding : IsHolding c.args.self.now.held = search rules in
    no_memory_yet g.T.Tally.drew g.T.Tally.ready g.T.Tally.kin g.D.Disk.watch g.D.Disk.honest g.D.Disk.faults c.args.self.now c.args.range c.args.command.now c.args.now c.requires.stands.0 holding c.requires.stands.1
