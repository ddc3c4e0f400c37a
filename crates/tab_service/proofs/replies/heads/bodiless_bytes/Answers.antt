use Rattle.std.proofs.Common.{◌∙◌, ap}
use Rattle.std.specs.Prelude.{vec_items}
use Rattle.tab_service.specs.Replies.{bodiless_reply}
use Rattle.tab_service.proofs.ReplyLemmas.{bodiless_in_turn}
use Rattle.tab_service.proofs.replies.heads.bodiless_bytes.Goals as goal

pub returns : goal.returns
unfolding bodiless_reply
returns c =
    ap vec_items c.into_bytes.ensures.value
    ∙ bodiless_in_turn 204 _ _ _ _ _ _ c.in_ok-head.ensures c.in_ok-push_headers.ensures c.in_ok-push_header.ensures c.in_ok-push_str.ensures.bytes
