use Rattle.std.proofs.Common.{◌<◌, ◌++◌, ℕ, List, length, take, subst, arith, ◌∙◌}
use Rattle.std.proofs.lemmas.List.{take_all}
use Rattle.tab_journal.specs.Areas.{header, opened}
use Rattle.tab_journal.specs.Steps.{IsBuilt}
use Rattle.tab_journal.proofs.Makes.{headed, headed_size, opened_next, next_size, spelled_next, is_made}
use Rattle.tab_journal.proofs.making.build.Goals as goal

pub loop-piece-init : goal.loop-piece-init
loop-piece-init g c = record {
  built = λ honest closed. headed g.D.Disk.watch c.args.kind c.args.number _ _ c.header_bytes.result (g.met.D.Disk.reads_image honest) closed c.header_bytes.ensures (c.in_ok-write_closed.ensures.built honest);
  place = λ honest. headed_size c.args.kind c.args.number;
  spelled = tt;
  stops = c.write_closed.ensures.stops;
  later = c.write_closed.ensures.cause.later;
}

pub loop-piece-preserved : goal.loop-piece-preserved
loop-piece-preserved g c =
    let i = c.loop-piece.invariant in
    let n = c.loop-piece.piece-index in
    let list = c.args.pieces.now in
    let head = header c.args.kind c.args.number 1 in
    let within : n < length list = omega arith in
    record {
      built = λ honest closed. subst (λ (l : List ℕ). IsBuilt g.D.Disk.watch l c.write_piece.new.disk) (opened_next head list n _ _ within c.piece-item.is)
          (c.in_ok-at.ensures.built honest (head ++ opened (take n list)) (i.built honest closed) (i.place honest));
      place = λ honest. next_size head list n c.loop-piece.at c.in_ok-at.at _ _ within c.piece-item.is (i.place honest) (c.in_ok-at.ensures.end honest);
      spelled = spelled_next list n _ _ within c.piece-item.is i.spelled c.write_piece.ensures.spelled;
      stops = c.write_piece.ensures.stops ∙ i.stops;
      later = omega (arith, i.later, c.write_piece.ensures.cause.later);
    }

pub returns-clause-done : goal.returns-clause-done
returns-clause-done g c honest closed =
    let i = c.loop-piece.invariant in
    let n = c.loop-piece.piece-index in
    let list = c.args.pieces.now in
    let head = header c.args.kind c.args.number 1 in
    is_made g.D.Disk.watch c.args.kind c.args.number list (take n list) c.loop-piece.at c.open_area.new.disk (take_all n list (omega arith)) i.spelled
    (c.in_ok-open_area.ensures.done honest (head ++ opened (take n list)) (i.built honest closed) (i.place honest)) (i.place honest) (c.in_ok-open_area.ensures.far honest)
