use Rattle.std.proofs.Common.{◌+◌, ◌<◌, length, take, arith, refl, ◌∙◌}
use Rattle.tab_journal.proofs.Pieces.{one_more, keeps_more, piece_more, unmoved_then, unmoved_still}
use Rattle.tab_journal.proofs.store.Store.write_pieces.Goals as goal

pub loop-piece-init : goal.loop-piece-init
loop-piece-init g c = record {
  running = c.requires.running;
  begun = c.requires.begun;
  unmoved = unmoved_still _;
  has = λ honest frames has built. (has, built);
  keeps = λ honest frames ta tb has built kept. kept;
  stops = record { a = refl; b = refl };
  later_a = omega arith;
  later_b = omega arith;
}

pub loop-piece-preserved : goal.loop-piece-preserved
loop-piece-preserved g c =
    let w = g.D.Disk.watch in
    let i = c.loop-piece.invariant in
    let n = c.loop-piece.piece-index in
    let list = c.args.pieces.now in
    let within : n < length list = omega arith in
    record {
      running = c.in_ok-compact_piece.ensures.failed;
      begun = c.in_ok-compact_piece.ensures.begun;
      unmoved = unmoved_then _ _ _ i.unmoved c.compact_piece.ensures.unmoved;
      has = λ honest. one_more w _ _ _ (take n list) (take (n + 1) list) _ (piece_more list n _ _ within c.piece-item.is) (i.has honest) (c.in_ok-compact_piece.ensures.ok honest);
      keeps = λ honest. keeps_more w _ _ _ (take n list) (i.has honest) (i.keeps honest) (c.compact_piece.ensures.images honest);
      stops = record { a = c.compact_piece.ensures.stops.a ∙ i.stops.a; b = c.compact_piece.ensures.stops.b ∙ i.stops.b };
      later_a = omega (arith, i.later_a, c.compact_piece.ensures.causes.later_a);
      later_b = omega (arith, i.later_b, c.compact_piece.ensures.causes.later_b);
    }

pub returns-in_err-compact_piece-clause-images : goal.returns-in_err-compact_piece-clause-images
returns-in_err-compact_piece-clause-images g c honest =
    let i = c.loop-piece.invariant in
    keeps_more g.D.Disk.watch _ _ _ (take c.loop-piece.piece-index c.args.pieces.now) (i.has honest) (i.keeps honest) (c.compact_piece.ensures.images honest)

pub returns-in_err-compact_piece-clause-stops : goal.returns-in_err-compact_piece-clause-stops
returns-in_err-compact_piece-clause-stops g c =
    let i = c.loop-piece.invariant in
    record { a = c.compact_piece.ensures.stops.a ∙ i.stops.a; b = c.compact_piece.ensures.stops.b ∙ i.stops.b }

pub returns-clause-stops : goal.returns-clause-stops
returns-clause-stops g c = c.loop-piece.invariant.stops
