use Rattle.std.proofs.Common.{◌∷◌, [], inl, arith, refl}
use Rattle.tab_journal.specs.Steps.{IsEitherShut}
use Rattle.tab_journal.proofs.Images.{on_ok, adds_then, adds_now, adds_rests, second_images, second_written, staged_same, shut_same}
use Rattle.tab_journal.proofs.Building.{closed_wrote, built_staged}
use Rattle.tab_journal.proofs.areas.open_area.Goals as goal

pub returns-in_err-write_at-clause-images : goal.returns-in_err-write_at-clause-images
returns-in_err-write_at-clause-images g c honest built is place =
    let w = g.D.Disk.watch in
    let wrote = c.write_at.ensures.doubt honest in
    adds_now w (IsEitherShut [] built) _ _ wrote.time (λ b left. inl (closed_wrote w _ _ _ _ (omega (arith, place)) wrote is.closed b left))

pub returns-in_err-sync-clause-images : goal.returns-in_err-sync-clause-images
returns-in_err-sync-clause-images g c honest built is place =
    let w = g.D.Disk.watch in
    let P = IsEitherShut [] built in
    let wrote = c.write_at.ensures.doubt honest in
    let first = adds_now w P _ _ wrote.time (λ b left. inl (closed_wrote w _ _ _ _ (omega (arith, place)) wrote is.closed b left)) in
    adds_then w P _ _ _ first (adds_rests w P _ _ (g.met.D.Disk.counts_now honest) (c.sync.ensures.rests honest))

pub returns-in_err-write_at-2-clause-images : goal.returns-in_err-write_at-2-clause-images
returns-in_err-write_at-2-clause-images g c honest built is place =
    let w = g.D.Disk.watch in
    let P = IsEitherShut [] built in
    let wrote = c.write_at.ensures.doubt honest in
    let closed = closed_wrote w _ _ _ _ (omega (arith, place)) wrote is.closed in
    let first = adds_now w P _ _ wrote.time (λ b left. inl (closed b left)) in
    let synced = adds_then w P _ _ _ first (adds_rests w P _ _ (g.met.D.Disk.counts_now honest) (c.sync.ensures.rests honest)) in
    let staged = staged_same [] built _ _ (c.sync.ensures.rests honest).same (built_staged w _ built _ _ (g.met.D.Disk.reads_image honest) is place closed (c.in_ok-write_at.ensures.written honest)) in
    adds_then w P _ _ _ synced (adds_now w P _ _ (c.write_at-2.ensures.doubt honest).time
    (second_images w _ _ 0 [] built refl staged (c.in_ok-sync.ensures.durable honest) (c.write_at-2.ensures.doubt honest)))

pub returns-clause-done : goal.returns-clause-done
returns-clause-done g c honest built is place =
    let w = g.D.Disk.watch in
    let closed = closed_wrote w _ _ _ _ (omega (arith, place)) (c.write_at.ensures.doubt honest) is.closed in
    let staged = staged_same [] built _ _ (c.sync.ensures.rests honest).same (built_staged w _ built _ _ (g.met.D.Disk.reads_image honest) is place closed (c.in_ok-write_at.ensures.written honest)) in
    on_ok _ _ c.sync-2.result
    (λ durable. shut_same w (1 ∷ built) _ _ (c.sync-2.ensures.rests honest).same (second_written w _ _ 0 [] built refl staged (c.in_ok-write_at-2.ensures.written honest)) durable)
    (c.sync-2.ensures.durable honest)

pub returns-clause-images : goal.returns-clause-images
returns-clause-images g c honest built is place =
    let w = g.D.Disk.watch in
    let P = IsEitherShut [] built in
    let wrote = c.write_at.ensures.doubt honest in
    let closed = closed_wrote w _ _ _ _ (omega (arith, place)) wrote is.closed in
    let first = adds_now w P _ _ wrote.time (λ b left. inl (closed b left)) in
    let synced = adds_then w P _ _ _ first (adds_rests w P _ _ (g.met.D.Disk.counts_now honest) (c.sync.ensures.rests honest)) in
    let staged = staged_same [] built _ _ (c.sync.ensures.rests honest).same (built_staged w _ built _ _ (g.met.D.Disk.reads_image honest) is place closed (c.in_ok-write_at.ensures.written honest)) in
    let opened = adds_then w P _ _ _ synced (adds_now w P _ _ (c.write_at-2.ensures.doubt honest).time
    (second_images w _ _ 0 [] built refl staged (c.in_ok-sync.ensures.durable honest) (c.write_at-2.ensures.doubt honest))) in
    adds_then w P _ _ _ opened (adds_rests w P _ _ (g.met.D.Disk.counts_now honest) (c.sync-2.ensures.rests honest))
