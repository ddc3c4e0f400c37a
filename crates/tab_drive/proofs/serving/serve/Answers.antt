use Rattle.std.proofs.Common.{arith}
use Rattle.tab_drive.specs.RunStates.{opened_state, state_after_all}
use Rattle.tab_drive.proofs.Schedules.{going_first, going_on, stopped, stopped_legal}
use Rattle.tab_drive.proofs.serving.serve.Goals as goal

pub loop-stop-init : goal.loop-stop-init
loop-stop-init g c = record {
  going = going_first c.args.keys.now c.args.moment _ _ c.in_ok-session.session c.in_ok-session.ensures.keeps c.in_ok-session.ensures.history;
  read_later = omega arith;
  write_later = omega arith;
}

pub loop-stop-preserved : goal.loop-stop-preserved
loop-stop-preserved g c =
    let going = c.loop-stop.invariant.going in
    record {
      going = going_on c.args.keys.now c.args.moment _ _ _ _ _ _ c.loop-stop.session c.serve_event.new.session c.loop-stop.done going
          (c.in_default.ensures.served (state_after_all (opened_state c.args.moment) going.exchanges) going.keeps);
      read_later = omega (arith, c.loop-stop.invariant.read_later, c.serve_event.ensures.read_later);
      write_later = omega (arith, c.loop-stop.invariant.write_later, c.serve_event.ensures.write_later);
    }

pub returns-in-Some-clause-stops : goal.returns-in-Some-clause-stops
returns-in-Some-clause-stops g c =
    let going = c.loop-stop.invariant.going in
    stopped c.args.keys.now c.args.moment _ _ _ _ _ _ c.loop-stop.session c.serve_event.new.session c.loop-stop.done c.in-Some.stop going
    (c.in-Some.ensures.stopped (state_after_all (opened_state c.args.moment) going.exchanges) going.keeps)

pub returns-in-Some-clause-legal : goal.returns-in-Some-clause-legal
returns-in-Some-clause-legal g c =
    let going = c.loop-stop.invariant.going in
    stopped_legal c.args.keys.now c.args.moment _ _ _ _ _ _ c.loop-stop.session c.serve_event.new.session c.loop-stop.done c.in-Some.stop going
    (c.in-Some.ensures.stopped (state_after_all (opened_state c.args.moment) going.exchanges) going.keeps)

pub returns-in-Some-clause-numbered : goal.returns-in-Some-clause-numbered
returns-in-Some-clause-numbered g c = omega (arith, c.loop-stop.invariant.going.numbered, c.in-Some.ensures.numbered)
