use Rattle.std.proofs.Common.{◌∙◌, ◌∷◌, ◌++◌, [], ap, length, map}
use Rattle.tab_outside.specs.Logs.{InLog, Written, wrote, logged}
use Rattle.tab_outside.proofs.LogLemmas.{wrote_by, wrote_none, wrote_one, written_by}
use Rattle.tab_outside.proofs.mem_disk.MemDiskDisk.write_at.Goals as goal

pub returns-then-stops-clause-doubt : goal.returns-then-stops-clause-doubt
returns-then-stops-clause-doubt c =
    let one : Written = record { at = c.args.at; piece = c.args.piece.now } in
    wrote_by c.args.self.now c.record-recorded.new.self (map logged c.self.inside.log.items) one c.record-recorded.result (ap (λ (disk : InLog). disk.log) c.self.view_is)
    c.record-recorded.ensures.logged c.record-recorded.ensures.refused

pub returns-else-stops-clause-doubt : goal.returns-else-stops-clause-doubt
returns-else-stops-clause-doubt c = wrote_none c.args.self.now _ c.args.at (length c.args.piece.now) (ap (λ (disk : InLog). disk.log) c.self.view_is)

pub returns-in-Ok-clause-bytes : goal.returns-in-Ok-clause-bytes
returns-in-Ok-clause-bytes c =
    let one : Written = record { at = c.args.at; piece = c.args.piece.now } in
    written_by c.args.self.now.log (map logged c.self.inside.log.items) c.record.new.self.log one (ap (λ (disk : InLog). disk.log) c.self.view_is) c.in-Ok.ensures.logged

pub returns-in-Ok-clause-doubt : goal.returns-in-Ok-clause-doubt
returns-in-Ok-clause-doubt c =
    let one : Written = record { at = c.args.at; piece = c.args.piece.now } in
    wrote_one c.args.self.now c.record.new.self one (c.in-Ok.ensures.logged ∙ ap (λ (disk : InLog). disk.log ++ wrote one ∷ []) c.self.view_is)

pub returns-in-Err-record-clause-doubt : goal.returns-in-Err-record-clause-doubt
returns-in-Err-record-clause-doubt c =
    wrote_none c.args.self.now _ c.args.at (length c.args.piece.now)
    (ap (λ (disk : InLog). disk.log) c.self-2.view_is ∙ c.in-Err-record.ensures.refused ∙ ap (λ (disk : InLog). disk.log) c.self.view_is)
