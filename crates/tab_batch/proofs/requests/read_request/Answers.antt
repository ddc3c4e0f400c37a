use Rattle.tab_batch.proofs.RequestLemmas.{at_path, at_address, nowhere}
use Rattle.tab_batch.proofs.requests.read_request.Goals as goal

pub returns-then-is_path : goal.returns-then-is_path
returns-then-is_path c =
    let head = (rw c.in-Some.is at c.in_ok-head.ensures) in
    at_path c.args.part.now head.0 head.1 c.in-Some.head _ c.into_message-message.result head.2 head.3 c.in_ok-body.ensures (c.into_message-message.ensures head.0 head.3) (rw c.as_str.ensures.text at c.if-is_path.ensures)

pub returns-in_default-2 : goal.returns-in_default-2
returns-in_default-2 c =
    let head = (rw c.in-Some.is at c.in_ok-head.ensures) in
    nowhere c.args.part.now head.0 head.1 _ c.into_message-message.result head.2 (c.into_message-message.ensures head.0 head.3) (rw c.as_str.ensures.text at c.if-is_path.ensures) (rw (c.as_str-2.ensures.text, c.in_default-2.is) at c.in_ok-target.ensures)

pub returns : goal.returns
returns c =
    let head = (rw c.in-Some.is at c.in_ok-head.ensures) in
    at_address c.args.part.now head.0 head.1 c.in-Some.head _ c.in-Some-2.target c.into_message-message.result head.2 head.3 c.in_ok-body.ensures (c.into_message-message.ensures head.0 head.3) (rw c.as_str.ensures.text at c.if-is_path.ensures) (rw (c.as_str-2.ensures.text, c.in-Some-2.is) at c.in_ok-target.ensures)
