use Rattle.std.proofs.Common.{◌≡◌, ◌+◌, ◌++◌, ◌∷◌, inl, arith}
use Rattle.tab_journal.specs.Steps.{IsEitherShut}
use Rattle.tab_journal.proofs.Images.{on_ok, adds_then, adds_now, adds_rests, first_images, first_written, second_images, second_written, staged_same, shut_same}
use Rattle.tab_journal.proofs.areas.append_to.Goals as goal

pub returns-in_err-write_at-clause-images : goal.returns-in_err-write_at-clause-images
returns-in_err-write_at-clause-images g c honest before spelled may =
    let w = g.D.Disk.watch in
    let at : c.saturating_add.result ≡ c.args.end + 1 = omega (arith, c.saturating_add.ensures, may.within) in
    adds_now w (IsEitherShut before spelled) _ _ (c.write_at.ensures.doubt honest).time
    (λ b left. inl (first_images w _ _ _ _ _ before spelled may at (c.write_at.ensures.doubt honest) b left))

pub returns-in_err-sync-clause-images : goal.returns-in_err-sync-clause-images
returns-in_err-sync-clause-images g c honest before spelled may =
    let w = g.D.Disk.watch in
    let P = IsEitherShut before spelled in
    let at : c.saturating_add.result ≡ c.args.end + 1 = omega (arith, c.saturating_add.ensures, may.within) in
    let first = adds_now w P _ _ (c.write_at.ensures.doubt honest).time
    (λ b left. inl (first_images w _ _ _ _ _ before spelled may at (c.write_at.ensures.doubt honest) b left)) in
    adds_then w P _ _ _ first (adds_rests w P _ _ (g.met.D.Disk.counts_now honest) (c.sync.ensures.rests honest))

pub returns-in_err-write_at-2-clause-images : goal.returns-in_err-write_at-2-clause-images
returns-in_err-write_at-2-clause-images g c honest before spelled may =
    let w = g.D.Disk.watch in
    let P = IsEitherShut before spelled in
    let at : c.saturating_add.result ≡ c.args.end + 1 = omega (arith, c.saturating_add.ensures, may.within) in
    let first = adds_now w P _ _ (c.write_at.ensures.doubt honest).time
    (λ b left. inl (first_images w _ _ _ _ _ before spelled may at (c.write_at.ensures.doubt honest) b left)) in
    let synced = adds_then w P _ _ _ first (adds_rests w P _ _ (g.met.D.Disk.counts_now honest) (c.sync.ensures.rests honest)) in
    let staged = staged_same before spelled _ _ (c.sync.ensures.rests honest).same (first_written w _ _ _ _ _ before spelled may at (c.in_ok-write_at.ensures.written honest)) in
    adds_then w P _ _ _ synced (adds_now w P _ _ (c.write_at-2.ensures.doubt honest).time
    (second_images w _ _ _ before spelled may.stands staged (c.in_ok-sync.ensures.durable honest) (c.write_at-2.ensures.doubt honest)))

pub returns-clause-done : goal.returns-clause-done
returns-clause-done g c honest before spelled may =
    let w = g.D.Disk.watch in
    let at : c.saturating_add.result ≡ c.args.end + 1 = omega (arith, c.saturating_add.ensures, may.within) in
    let staged = staged_same before spelled _ _ (c.sync.ensures.rests honest).same (first_written w _ _ _ _ _ before spelled may at (c.in_ok-write_at.ensures.written honest)) in
    on_ok _ _ c.sync-2.result
    (λ durable. shut_same w (before ++ 1 ∷ spelled) _ _ (c.sync-2.ensures.rests honest).same
    (second_written w _ _ _ before spelled may.stands staged (c.in_ok-write_at-2.ensures.written honest)) durable)
    (c.sync-2.ensures.durable honest)

pub returns-clause-images : goal.returns-clause-images
returns-clause-images g c honest before spelled may =
    let w = g.D.Disk.watch in
    let P = IsEitherShut before spelled in
    let at : c.saturating_add.result ≡ c.args.end + 1 = omega (arith, c.saturating_add.ensures, may.within) in
    let first = adds_now w P _ _ (c.write_at.ensures.doubt honest).time
    (λ b left. inl (first_images w _ _ _ _ _ before spelled may at (c.write_at.ensures.doubt honest) b left)) in
    let synced = adds_then w P _ _ _ first (adds_rests w P _ _ (g.met.D.Disk.counts_now honest) (c.sync.ensures.rests honest)) in
    let staged = staged_same before spelled _ _ (c.sync.ensures.rests honest).same (first_written w _ _ _ _ _ before spelled may at (c.in_ok-write_at.ensures.written honest)) in
    let opened = adds_then w P _ _ _ synced (adds_now w P _ _ (c.write_at-2.ensures.doubt honest).time
    (second_images w _ _ _ before spelled may.stands staged (c.in_ok-sync.ensures.durable honest) (c.write_at-2.ensures.doubt honest))) in
    adds_then w P _ _ _ opened (adds_rests w P _ _ (g.met.D.Disk.counts_now honest) (c.sync-2.ensures.rests honest))
