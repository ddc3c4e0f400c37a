use Rattle.std.proofs.Common.{List, ℕ, ap, sym}
use Rattle.tab_drive.specs.RunStates.{reply_outcome}
use Rattle.tab_drive.specs.Stores.{held_by}
use Rattle.tab_drive.proofs.SessionSteps.{suits_decided, denied_text}
use Rattle.tab_drive.proofs.session.prepare.Goals as goal

pub reply_bytes-requires : goal.reply_bytes-requires
reply_bytes-requires c = suits_decided (held_by c.args.store.now) c.args.moment _ c.in-Ok.decided c.requires.in_form c.in-Ok.ensures.decided

pub returns-in-Err-clause-text : goal.returns-in-Err-clause-text
returns-in-Err-clause-text c = rw (c.memory_reply.ensures, c.denial.ensures) (ap (λ (text : List ℕ). reply_outcome text) (sym (denied_text c.args.request.now)))
