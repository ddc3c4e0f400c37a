use Rattle.std.proofs.Common.{sym, ap, subst}
use Rattle.tab_service.specs.Decisions.{IsDecision}
use Rattle.tab_service.specs.declared.requests.decide.Decided.{Decided}
use Rattle.tab_service.proofs.RequestLaws.{requests_are_in_form}
use Rattle.tab_drive.specs.Outgoing.{outgoing_text}
use Rattle.tab_drive.proofs.Exits.{ok_weaker}
use Rattle.tab_drive.proofs.SessionSteps.{own_form, comes_to, refused_comes, replied_steps, refused_steps}
use Rattle.tab_drive.proofs.session.Session.call.Goals as goal

pub answer-requires-clause-in_form : goal.answer-requires-clause-in_form
answer-requires-clause-in_form c =
    own_form c.args.keys.now.account c.in-Go.request
    (requests_are_in_form c.args.keys.now c.args.self.now.moment c.in-Ok.message c.in-Go.request
    (subst (λ (d : Decided). IsDecision c.args.keys.now c.args.self.now.moment c.in-Ok.message d) c.in-Go.is c.in_ok-request-in-Ok.ensures))

pub returns-in-Go-clause-ok : goal.returns-in-Go-clause-ok
returns-in-Go-clause-ok c state keeps =
    ok_weaker c.answer.result _ _ c.answer.ensures.ok
    (λ outgoing replied. replied_steps c.args.keys.now c.args.message state c.args.self.now c.answer.new.self c.in-Go.request (outgoing_text outgoing) keeps
    (comes_to c.args.keys.now c.args.self.now.moment state.moment c.args.message c.in-Ok.message _ _ keeps.moment c.in-Ok.ensures.read c.in_ok-request-in-Ok.ensures c.in-Go.is) replied)

pub returns-in-Ok-clause-ok : goal.returns-in-Ok-clause-ok
returns-in-Ok-clause-ok c state keeps =
    refused_steps c.args.keys.now c.args.message _ _ state c.args.self.now c.refuse.new.self keeps
    (comes_to c.args.keys.now c.args.self.now.moment state.moment c.args.message c.in-Ok.message _ _ keeps.moment c.in-Ok.ensures.read c.in_ok-request-in-Ok.ensures c.in-No.is)
    (ap outgoing_text c.refuse.ensures.text) c.refuse.ensures.kept

pub returns-in-Some-clause-ok : goal.returns-in-Some-clause-ok
returns-in-Some-clause-ok c state keeps =
    refused_steps c.args.keys.now c.args.message _ _ state c.args.self.now c.refuse-in-Some.new.self keeps
    (refused_comes c.args.keys.now state.moment c.args.message c.in-Err.refused c.in-Some.reply.now c.in-Err.ensures.refused (sym c.in-Some.ensures))
    (ap outgoing_text c.refuse-in-Some.ensures.text) c.refuse-in-Some.ensures.kept
