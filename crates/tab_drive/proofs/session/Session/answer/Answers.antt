use Rattle.tab_drive.proofs.SessionSteps.{replied_from}
use Rattle.tab_drive.proofs.session.Session.answer.Goals as goal

pub returns-clause-ok : goal.returns-clause-ok
returns-clause-ok c =
    replied_from c.args.self.now c.record.new.self c.planned.new.store c.in_ok-plan.plan.look c.args.request _ c.in_ok-plan.plan.decided
    c.in_ok-plan.ensures.held c.in_ok-plan.ensures.look c.in_ok-plan.ensures.decided c.in_ok-plan.ensures.text
    c.in_ok-record.ensures.history c.in_ok-record.ensures.held c.in_ok-record.ensures.number c.in_ok-record.ensures.moment
