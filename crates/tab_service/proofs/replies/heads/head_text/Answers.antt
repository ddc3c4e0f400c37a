use Rattle.std.proofs.Common.{◌∙◌, ap, codes, ◌++◌, string_bytes}
use Rattle.tab_service.specs.Replies.{header_line}
use Rattle.tab_service.proofs.ReplyLemmas.{written_in_turn}
use Rattle.tab_service.proofs.replies.heads.head_text.Goals as goal

pub returns : goal.returns
returns c =
    written_in_turn c.args.status _ _ _ _ _ _ _ _ _ _ c.in_ok-head.ensures
    (c.in_ok-push_header.ensures ∙ ap (λ length. string_bytes c.in_ok-head.head ++ header_line (codes "Content-Length", length)) c.format.ensures.text)
    c.in_ok-push_header-2.ensures c.in_ok-push_headers.ensures c.in_ok-push_header-3.ensures c.in_ok-push_str.ensures.bytes
