use Rattle.tab_service.proofs.replies.rows.created_text.Goals as goal

pub returns-in-Some : goal.returns-in-Some
returns-in-Some c = rw c.in-Some.is c.reply_with_body-in-Some.ensures
