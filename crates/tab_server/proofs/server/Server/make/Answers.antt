use Rattle.std.proofs.Common.{rules, ◌≤◌, length, sym, subst, Ok, Err}
use Rattle.std.specs.Prelude.{IfSome}
use Rattle.tab_history.specs.declared.asks.Reply.TheVariants as reply
use Rattle.tab_server.specs.Acting.{IsStill}
use Rattle.tab_server.specs.Contents.{IsHolding}
use Rattle.tab_server.specs.Serving.{ServerView, range_of}
use Rattle.tab_server.proofs.ActCalls.{IsAsked, step_of, asked_fits, asked_ready, still_fits, found_there, no_memory, no_memory_yet, room_left, server_changed, made_so, made_ok, made_err}
use Rattle.tab_server.proofs.server.Server.make.Goals as goal

pub prepared-requires-clause-few : goal.prepared-requires-clause-few
prepared-requires-clause-few g c =
    (asked_fits c.args.self.now.held c.args.range c.args.command c.args.changes c.args.now c.requires.due.0 (record { served = c.requires.due.1; due = c.requires.due.2; of = c.requires.of })).takes.few

pub prepared-requires-clause-in_time : goal.prepared-requires-clause-in_time
prepared-requires-clause-in_time g c =
    (asked_fits c.args.self.now.held c.args.range c.args.command c.args.changes c.args.now c.requires.due.0 (record { served = c.requires.due.1; due = c.requires.due.2; of = c.requires.of })).takes.in_time

pub returns-in_default-clause-answers : goal.returns-in_default-clause-answers
returns-in_default-clause-answers g c =
    let holding : IsHolding c.args.self.now.held = search rules in
    no_memory_yet g.T.Tally.drew g.T.Tally.ready g.T.Tally.kin g.D.Disk.watch g.D.Disk.honest g.D.Disk.faults c.args.self.now c.args.range c.args.command c.args.now c.requires.due.0 holding c.requires.due.1

pub reserve-requires-clause-held : goal.reserve-requires-clause-held
reserve-requires-clause-held g c = found_there c.args.self.now.held c.args.range c.args.command c.requires.due.0 c.requires.due.1

pub returns-then-is_err-clause-answers : goal.returns-then-is_err-clause-answers
returns-then-is_err-clause-answers g c =
    no_memory g.T.Tally.drew g.T.Tally.ready g.T.Tally.kin g.D.Disk.watch g.D.Disk.honest g.D.Disk.faults c.args.self.now c.reserve.new.self c.args.range c.args.command c.args.now c.requires.due.0 c.requires.due.1 c.reserve.ensures.still

pub change_prepared-requires-clause-fits : goal.change_prepared-requires-clause-fits
change_prepared-requires-clause-fits g c =
    let still = subst (λ (k : ServerView g.row.D.Denot g.row.T.Denot). IsStill g.T.Tally.drew g.T.Tally.ready g.T.Tally.kin c.args.range c.args.self.now k) (sym c.self-2.view_is) c.reserve.ensures.still in
    let asked : IsAsked c.args.self.now.held c.args.range c.args.command c.args.changes c.args.now c.requires.due.0 = record { served = c.requires.due.1; due = c.requires.due.2; of = c.requires.of } in
    still_fits g.T.Tally.drew g.T.Tally.ready g.T.Tally.kin c.args.self.now c.self-2.inside.kept c.args.range c.args.command c.args.changes c.args.now c.requires.due.0 asked still

pub change_prepared-requires-clause-ready : goal.change_prepared-requires-clause-ready
change_prepared-requires-clause-ready g c =
    let still = subst (λ (k : ServerView g.row.D.Denot g.row.T.Denot). IsStill g.T.Tally.drew g.T.Tally.ready g.T.Tally.kin c.args.range c.args.self.now k) (sym c.self-2.view_is) c.reserve.ensures.still in
    let asked : IsAsked c.args.self.now.held c.args.range c.args.command c.args.changes c.args.now c.requires.due.0 = record { served = c.requires.due.1; due = c.requires.due.2; of = c.requires.of } in
    let room = subst (λ n. IfSome (range_of c.reserve.new.self.held c.args.range) (λ m. n ≤ m.range.spare)) c.len-count.ensures (room_left c.reserve.result c.if-is_err.ensures.value c.reserve.ensures.room) in
    asked_ready g.T.Tally.drew g.T.Tally.ready g.T.Tally.kin c.args.self.now c.self-2.inside.kept c.args.range c.args.command c.args.changes c.args.now c.requires.due.0 asked c.requires.ready still
    (subst (λ (k : ServerView g.row.D.Denot g.row.T.Denot). IfSome (range_of k.held c.args.range) (λ m. length c.args.changes.list ≤ m.range.spare)) (sym c.self-2.view_is) room)

pub invariant_of-self-2 : goal.invariant_of-self-2
invariant_of-self-2 g c =
    let still = subst (λ (k : ServerView g.row.D.Denot g.row.T.Denot). IsStill g.T.Tally.drew g.T.Tally.ready g.T.Tally.kin c.args.range c.args.self.now k) (sym c.self-2.view_is) c.reserve.ensures.still in
    let asked : IsAsked c.args.self.now.held c.args.range c.args.command c.args.changes c.args.now c.requires.due.0 = record { served = c.requires.due.1; due = c.requires.due.2; of = c.requires.of } in
    let room = subst (λ n. IfSome (range_of c.reserve.new.self.held c.args.range) (λ m. n ≤ m.range.spare)) c.len-count.ensures (room_left c.reserve.result c.if-is_err.ensures.value c.reserve.ensures.room) in
    server_changed g.T.Tally.drew g.T.Tally.ready g.T.Tally.kin c.self-2.inside.kept c.change_prepared.new.self (step_of c.args.range c.args.command c.args.changes c.args.now) c.change_prepared.result c.change_prepared.ensures.after c.change_prepared.ensures.faults_alone
    (still_fits g.T.Tally.drew g.T.Tally.ready g.T.Tally.kin c.args.self.now c.self-2.inside.kept c.args.range c.args.command c.args.changes c.args.now c.requires.due.0 asked still)
    (asked_ready g.T.Tally.drew g.T.Tally.ready g.T.Tally.kin c.args.self.now c.self-2.inside.kept c.args.range c.args.command c.args.changes c.args.now c.requires.due.0 asked c.requires.ready still
    (subst (λ (k : ServerView g.row.D.Denot g.row.T.Denot). IfSome (range_of k.held c.args.range) (λ m. length c.args.changes.list ≤ m.range.spare)) (sym c.self-2.view_is) room))

pub returns-clause-answers : goal.returns-clause-answers
returns-clause-answers g c =
    let still = subst (λ (k : ServerView g.row.D.Denot g.row.T.Denot). IsStill g.T.Tally.drew g.T.Tally.ready g.T.Tally.kin c.args.range c.args.self.now k) (sym c.self-2.view_is) c.reserve.ensures.still in
    let asked : IsAsked c.args.self.now.held c.args.range c.args.command c.args.changes c.args.now c.requires.due.0 = record { served = c.requires.due.1; due = c.requires.due.2; of = c.requires.of } in
    made_so g.T.Tally.drew g.T.Tally.ready g.T.Tally.kin g.D.Disk.watch g.D.Disk.honest g.D.Disk.faults c.args.self.now c.self-2.inside.kept c.change_prepared.new.self c.args.range c.args.command c.args.changes c.args.now c.requires.due.0 c.change_prepared.result (Err c.act_refused.result)
    asked still c.change_prepared.ensures.after c.change_prepared.ensures.faults_alone c.change_prepared.ensures.images c.change_prepared.ensures.causes
    (made_err c.args.changes.tick c.change_prepared.result c.in-Err.refused c.act_refused.result c.in-Err.is c.act_refused.ensures)

pub returns-in-Ok-change_prepared-clause-answers : goal.returns-in-Ok-change_prepared-clause-answers
returns-in-Ok-change_prepared-clause-answers g c =
    let still = subst (λ (k : ServerView g.row.D.Denot g.row.T.Denot). IsStill g.T.Tally.drew g.T.Tally.ready g.T.Tally.kin c.args.range c.args.self.now k) (sym c.self-2.view_is) c.reserve.ensures.still in
    let asked : IsAsked c.args.self.now.held c.args.range c.args.command c.args.changes c.args.now c.requires.due.0 = record { served = c.requires.due.1; due = c.requires.due.2; of = c.requires.of } in
    made_so g.T.Tally.drew g.T.Tally.ready g.T.Tally.kin g.D.Disk.watch g.D.Disk.honest g.D.Disk.faults c.args.self.now c.self-2.inside.kept c.change_prepared.new.self c.args.range c.args.command c.args.changes c.args.now c.requires.due.0 c.change_prepared.result (Ok (reply.Changed c.args.changes.tick))
    asked still c.change_prepared.ensures.after c.change_prepared.ensures.faults_alone c.change_prepared.ensures.images c.change_prepared.ensures.causes
    (made_ok c.args.changes.tick c.change_prepared.result c.in-Ok-change_prepared.field-0 c.in-Ok-change_prepared.is)
