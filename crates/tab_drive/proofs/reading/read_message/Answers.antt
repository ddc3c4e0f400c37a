use Rattle.std.proofs.Common.{◌≡◌, length, arith, sym}
use Rattle.tab_drive.proofs.OpenMessages.{moved_all, no_message_next, open_message_next}
use Rattle.tab_drive.proofs.reading.read_message.Goals as goal

pub returns-else-eq-clause-refused : goal.returns-else-eq-clause-refused
returns-else-eq-clause-refused g c = λ _.
    let came = moved_all _ _ _ _ c.in_ok-fill.ensures.moved c.new-bytes.ensures.items in
    let size : length c.fill.new.into.items ≡ c.args.size = omega (arith, c.in_ok-fill.ensures.whole, c.new-bytes.ensures.len) in
    rw (← size) (no_message_next _ _ _ _ _ came c.in_ok-read_byte.ensures.read (sym c.if-eq.ensures))

pub returns-else-eq-clause-part : goal.returns-else-eq-clause-part
returns-else-eq-clause-part g c =
    let came = moved_all _ _ _ _ c.in_ok-fill.ensures.moved c.new-bytes.ensures.items in
    let size : length c.fill.new.into.items ≡ c.args.size = omega (arith, c.in_ok-fill.ensures.whole, c.new-bytes.ensures.len) in
    rw (← size) (open_message_next _ _ _ _ _ came c.in_ok-read_byte.ensures.read (sym c.if-eq.ensures))
