use Rattle.std.proofs.Common.{rules, ◌≡◌, ◌%◌, ◌==◌, ◌+◌, ◌<◌, ◌∙◌, ap, ℕ, ◌++◌, true, false, length, take, drop, replicate}
use Rattle.tab_outside.specs.Logs.{Written}
use Rattle.tab_outside.proofs.Settling.{paint_piece, paint_fill}
use Rattle.tab_outside.proofs.logs.paint.Goals as goal

pub returns-then-pick-eq-PICK_ALL : goal.returns-then-pick-eq-PICK_ALL
returns-then-pick-eq-PICK_ALL c =
    let one : Written = record { at = c.args.at; piece = c.args.piece.now } in
    let some : 0 < length c.args.piece.now = search rules in
    let kind : (c.args.pick % 4 == 1) ≡ true = search rules in
    λ base was. paint_piece c.args.pick base c.args.bytes.now c.replace.new.bytes one kind some (c.requires.fits some) c.replace.ensures was

pub returns-else-pick-eq-PICK_ALL : goal.returns-else-pick-eq-PICK_ALL
returns-else-pick-eq-PICK_ALL c =
    let one : Written = record { at = c.args.at; piece = c.args.piece.now } in
    let some : 0 < length c.args.piece.now = search rules in
    let kind : (c.args.pick % 4 == 1) ≡ false = search rules in
    let filled_so = c.fill_range.ensures
    ∙ ap (λ (byte : ℕ). take c.args.at c.args.bytes.now ++ replicate (length c.args.piece.now) byte ++ drop (c.args.at + length c.args.piece.now) c.args.bytes.now) c.fill_byte.ensures in
    λ base was. paint_fill c.args.pick base c.args.bytes.now c.fill_range.new.bytes one kind some (c.requires.fits some) filled_so was
