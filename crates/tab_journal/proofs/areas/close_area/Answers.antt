use Rattle.std.proofs.Common.{◌∷◌, ◌∙◌}
use Rattle.tab_journal.specs.Steps.{IsClosedOr}
use Rattle.tab_journal.proofs.Images.{on_ok, adds_then, adds_now, adds_rests}
use Rattle.tab_journal.proofs.Building.{closing_images, closed_done, zero_closed}
use Rattle.tab_journal.proofs.areas.close_area.Goals as goal

pub returns-in_err-write_at-clause-images : goal.returns-in_err-write_at-clause-images
returns-in_err-write_at-clause-images g c honest rest is only =
    let w = g.D.Disk.watch in
    adds_now w (IsClosedOr (1 ∷ rest)) _ _ (c.write_at.ensures.doubt honest).time (closing_images w _ _ rest only (c.write_at.ensures.doubt honest))

pub returns-clause-done : goal.returns-clause-done
returns-clause-done g c honest =
    let w = g.D.Disk.watch in
    on_ok _ _ c.sync.result
    (λ durable image left. zero_closed _ image (closed_done _ _ image ((c.sync.ensures.rests honest).same ∙ c.in_ok-write_at.ensures.written honest) (durable image left)))
    (c.sync.ensures.durable honest)

pub returns-clause-images : goal.returns-clause-images
returns-clause-images g c honest rest is only =
    let w = g.D.Disk.watch in
    let P = IsClosedOr (1 ∷ rest) in
    adds_then w P _ _ _
    (adds_now w P _ _ (c.write_at.ensures.doubt honest).time (closing_images w _ _ rest only (c.write_at.ensures.doubt honest)))
    (adds_rests w P _ _ (g.met.D.Disk.counts_now honest) (c.sync.ensures.rests honest))
