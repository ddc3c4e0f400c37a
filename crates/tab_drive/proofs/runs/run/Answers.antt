use Rattle.std.proofs.Common.{refl, sym, ◌∙◌, inr, arith}
use Rattle.tab_drive.proofs.Words.{names_key}
use Rattle.tab_drive.proofs.FirstWorld.{none_legal, gives_followed, gives_still, rises, tells_rows, numbers, made, hides}
use Rattle.tab_core.proofs.Zips.{zip_same}
use Rattle.tab_drive.proofs.InitCauses.{init_listed, init_completed, not_usage, not_read, not_written}
use Rattle.tab_drive.proofs.runs.run.Goals as goal

pub returns-then-is_init-clause-status : goal.returns-then-is_init-clause-status
returns-then-is_init-clause-status g c = let inits = c.init.ensures.inits (g.S.Source.left c.args.input.now) in rw inits.status_is (init_listed inits.refused)

pub returns-then-is_init-clause-complete_init : goal.returns-then-is_init-clause-complete_init
returns-then-is_init-clause-complete_init g c words told none sound =
    let inits = c.init.ensures.inits (g.S.Source.left c.args.input.now) in
    init_completed g.D.Disk.tells g.D.Disk.watch g.D.Disk.faults _ _ inits.refused _ inits.cause inits.status_is told none sound

pub returns-then-is_init-clause-words : goal.returns-then-is_init-clause-words
returns-then-is_init-clause-words g c is = let inits = c.init.ensures.inits (g.S.Source.left c.args.input.now) in absurd (not_usage inits.refused (sym inits.status_is ∙ is))

pub returns-then-is_init-clause-usage : goal.returns-then-is_init-clause-usage
returns-then-is_init-clause-usage g c is = let inits = c.init.ensures.inits (g.S.Source.left c.args.input.now) in absurd (not_usage inits.refused (sym inits.status_is ∙ is))

pub returns-then-is_init-clause-read_fault : goal.returns-then-is_init-clause-read_fault
returns-then-is_init-clause-read_fault g c is = let inits = c.init.ensures.inits (g.S.Source.left c.args.input.now) in absurd (not_read inits.refused (sym inits.status_is ∙ is))

pub returns-then-is_init-clause-write_fault : goal.returns-then-is_init-clause-write_fault
returns-then-is_init-clause-write_fault g c is = let inits = c.init.ensures.inits (g.S.Source.left c.args.input.now) in absurd (not_written inits.refused (sym inits.status_is ∙ is))

pub returns-in-Ok-Some-clause-later : goal.returns-in-Ok-Some-clause-later
returns-in-Ok-Some-clause-later g c = zip_same _ (λ disk. omega arith) _

pub returns-in-Ok-None-clause-later : goal.returns-in-Ok-None-clause-later
returns-in-Ok-None-clause-later g c = zip_same _ (λ disk. omega arith) _

pub returns-in-Err-clause-later : goal.returns-in-Err-clause-later
returns-in-Err-clause-later g c = zip_same _ (λ disk. omega arith) _

pub returns-in-Ok-None-clause-followed : goal.returns-in-Ok-None-clause-followed
returns-in-Ok-None-clause-followed g c = gives_followed c.said_only.result.history (none_legal _ c.said_only.ensures.history)

pub returns-in-Err-clause-followed : goal.returns-in-Err-clause-followed
returns-in-Err-clause-followed g c = gives_followed c.said_only-in-Err.result.history (none_legal _ c.said_only-in-Err.ensures.history)

pub returns-in-Ok-Some-clause-followed : goal.returns-in-Ok-Some-clause-followed
returns-in-Ok-Some-clause-followed g c = gives_followed c.drive.result.history c.drive.ensures.legal

pub returns-in-Ok-Some-clause-still : goal.returns-in-Ok-Some-clause-still
returns-in-Ok-Some-clause-still g c = gives_still c.drive.result.history c.drive.ensures.legal

pub returns-in-Ok-Some-clause-ticks : goal.returns-in-Ok-Some-clause-ticks
returns-in-Ok-Some-clause-ticks g c = rises c.drive.result.history c.drive.ensures.legal

pub returns-in-Ok-Some-clause-versions : goal.returns-in-Ok-Some-clause-versions
returns-in-Ok-Some-clause-versions g c = tells_rows c.drive.result.history c.drive.ensures.legal

pub returns-in-Ok-Some-clause-numbers : goal.returns-in-Ok-Some-clause-numbers
returns-in-Ok-Some-clause-numbers g c = numbers c.drive.result.history c.drive.ensures.legal

pub returns-in-Ok-Some-clause-made : goal.returns-in-Ok-Some-clause-made
returns-in-Ok-Some-clause-made g c = made c.drive.result.history c.drive.ensures.legal

pub returns-in-Ok-Some-clause-dropped : goal.returns-in-Ok-Some-clause-dropped
returns-in-Ok-Some-clause-dropped g c = hides c.drive.result.history c.drive.ensures.legal

pub returns-in-Ok-Some-clause-complete : goal.returns-in-Ok-Some-clause-complete
returns-in-Ok-Some-clause-complete g c keys bytes words told servable sound kept = c.drive.ensures.complete bytes told servable sound kept

pub returns-in-Ok-None-clause-drives : goal.returns-in-Ok-None-clause-drives
returns-in-Ok-None-clause-drives g c keys words = absurd ((rw c.in-Ok-None.field-0-is at c.in-Ok-None.ensures.found) keys words)

pub returns-in-Ok-None-clause-status : goal.returns-in-Ok-None-clause-status
returns-in-Ok-None-clause-status g c = rw c.said_only.ensures.status (1, omega arith, refl)

pub returns-in-Ok-None-clause-complete : goal.returns-in-Ok-None-clause-complete
returns-in-Ok-None-clause-complete g c keys bytes words told servable sound kept = absurd ((rw c.in-Ok-None.field-0-is at c.in-Ok-None.ensures.found) keys words)

pub returns-in-Err-clause-refused : goal.returns-in-Err-clause-refused
returns-in-Err-clause-refused g c none = inr (
  c.said_only-in-Err.ensures.status,
  names_key _ c.in-Err.ensures.asked none.no_drive,
  record {
    unread = refl;
    line = c.said_only-in-Err.ensures.line;
    history_is = c.said_only-in-Err.ensures.history;
    counted = c.said_only-in-Err.ensures.done;
  },
)
