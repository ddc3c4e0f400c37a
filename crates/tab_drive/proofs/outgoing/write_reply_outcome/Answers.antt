use Rattle.std.proofs.Common.{◌∙◌, ℕ, List, length, subst}
use Rattle.tab_drive.specs.Outgoing.{Wrote}
use Rattle.tab_drive.proofs.Outcomes.{reply_line, reply_pieces}
use Rattle.tab_drive.proofs.outgoing.write_reply_outcome.Goals as goal

pub returns-clause-written : goal.returns-clause-written
returns-clause-written g c =
    subst (λ (t : List ℕ). Wrote (g.K.Sink.taken c.args.sink.now) (g.K.Sink.taken c.write_joined.new.sink) c.write_joined.result t)
    (reply_pieces _ c.args.reply.now _
    (c.as_bytes.ensures.value ∙ c.as_str.ensures.value
    ∙ reply_line c.new-line.result.bytes c.push_str.new.self.bytes c.push_str-2.new.self.bytes c.push_str-3.new.self.bytes c.format.result.now (length c.args.reply.now)
    c.new-line.ensures c.push_str.ensures.bytes c.push_str-2.ensures.bytes c.format.ensures.text c.push_str-3.ensures.bytes)
    c.as_slice.ensures)
    c.write_joined.ensures.written
