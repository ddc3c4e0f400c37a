use Rattle.std.specs.Fmt.{digits}
use Rattle.serde_json.proofs.OnLiterals.{serde_json_on_literals}
use Rattle.tab_json.specs.Objects.{object_of, with_members}
use Rattle.tab_json.specs.Faults.{message_data, fault_data, fault_json}
use Rattle.tab_service.specs.Replies.{header_line, status_line, head_text, reply_with_body, fault_reply}
use Rattle.tab_service.proofs.replies.ready.head_too_long.Goals as goal

pub returns : goal.returns
unfolding digits serde_json_on_literals object_of with_members message_data fault_data fault_json header_line status_line head_text reply_with_body fault_reply
returns c = c.as_bytes.ensures.value
