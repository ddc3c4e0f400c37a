use Rattle.std.proofs.Common.{arith}
use Rattle.tab_codec.proofs.FrontLaws.{refused_within}
use Rattle.tab_journal.proofs.reading.next_frame.Goals as goal

pub overflow_add-result-in-Err-NoSpelling : goal.overflow_add-result-in-Err-NoSpelling
overflow_add-result-in-Err-NoSpelling c =
    let none = c.in-Err-NoSpelling in
    let exact = rw none.field-0-is at none.ensures.exact in
    let within = refused_within c.args.bytes.now none.place exact in
    rw none.field-0-is (omega (arith, within, c.requires))
