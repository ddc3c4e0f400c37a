use Rattle.std.proofs.Common.{◌<◌, ◌≤◌, refl, arith, inl, ap, Err}
use Rattle.tab_drive.specs.RunStates.{last_number}
use Rattle.tab_drive.proofs.Told.{told_weaker}
use Rattle.tab_drive.proofs.ServedEvents.{served, served_short, stopped_number, cut_short}
use Rattle.tab_drive.proofs.serving.serve_event.Goals as goal

pub returns-then-number-clause-stopped : goal.returns-then-number-clause-stopped
returns-then-number-clause-stopped g c state keeps =
    let read = rw c.in-Ok-Event.field-0-is at c.in-Ok-Event.ensures.read in
    let spent : last_number ≤ state.number = omega (arith, keeps.number, c.if-number.true) in
    stopped_number state _ c.in-Ok-Event.event c.args.session.now read.0 spent read.1 refl

pub returns-in-Ok-write_outgoing-clause-served : goal.returns-in-Ok-write_outgoing-clause-served
returns-in-Ok-write_outgoing-clause-served g c state keeps =
    let read = rw c.in-Ok-Event.field-0-is at c.in-Ok-Event.ensures.read in
    let numbered : state.number < last_number = omega (arith, keeps.number) in
    served c.args.keys.now state _ c.in-Ok-Event.event _ c.args.session.now c.step.new.self read.0 numbered (c.in-Ok.ensures.ok state keeps) read.1 c.in-Ok-write_outgoing.ensures.written

pub returns-clause-stopped : goal.returns-clause-stopped
returns-clause-stopped g c state keeps =
    let read = rw c.in-Ok-Event.field-0-is at c.in-Ok-Event.ensures.read in
    let numbered : state.number < last_number = omega (arith, keeps.number) in
    served_short c.args.keys.now state _ c.in-Ok-Event.event _ c.args.session.now c.step.new.self read.0 numbered (c.in-Ok.ensures.ok state keeps) read.1 c.in-Err-write_outgoing.ensures.written

pub returns-in-Err-NoEvent-clause-stopped : goal.returns-in-Err-NoEvent-clause-stopped
returns-in-Err-NoEvent-clause-stopped g c state keeps =
    (told_weaker _ _ _ (c.in-Err-NoEvent.ensures.refused (ap Err c.in-Err-NoEvent.field-0-is)) (λ bytes none. inl none), cut_short _ c.args.session.now c.args.session.now c.in-Err-NoEvent.ensures.part refl refl)

pub returns-in-Err-Memory-clause-stopped : goal.returns-in-Err-Memory-clause-stopped
returns-in-Err-Memory-clause-stopped g c state keeps = cut_short _ c.args.session.now c.args.session.now c.in-Err-Memory.ensures.part refl refl
