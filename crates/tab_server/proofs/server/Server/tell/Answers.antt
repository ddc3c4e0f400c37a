use Rattle.std.proofs.Common.{sym, subst}
use Rattle.tab_journal.specs.Keeping.{IsSound}
use Rattle.tab_server.specs.Contents.{ranges_sense}
use Rattle.tab_server.specs.Serving.{ServerView}
use Rattle.tab_server.proofs.ActCalls.{stroke_told, tallied_stands, silent_there}
use Rattle.tab_server.proofs.server.Server.tell.Goals as goal

pub tell-requires-clause-due : goal.tell-requires-clause-due
tell-requires-clause-due g c = silent_there g.T.Tally.drew g.T.Tally.ready g.T.Tally.kin c.args.self.now c.self.inside.kept c.held_mut.result.now c.args.range c.args.command c.args.now c.self.view_is c.held_mut.ensures.value c.requires.ready c.requires.due

pub returns-clause-told : goal.returns-clause-told
returns-clause-told g c = stroke_told g.T.Tally.drew g.T.Tally.ready g.T.Tally.kin c.self.inside.kept c.args.self.now c.held_mut.result.now c.tell.new.self c.args.range c.args.command c.args.now c.self.view_is c.held_mut.ensures.value c.tell.ensures

pub returns-clause-sound : goal.returns-clause-sound
returns-clause-sound g c honest sound =
    c.held_mut.ensures.sound honest (subst (λ (k : ServerView g.row.D.Denot g.row.T.Denot). IsSound g.D.Disk.watch (ranges_sense g.T.Tally.drew g.T.Tally.ready g.T.Tally.kin) k) (sym c.self.view_is) sound) c.tell.new.self
    (tallied_stands g.T.Tally.drew g.T.Tally.ready g.T.Tally.kin c.self.inside.kept c.held_mut.result.now c.tell.new.self c.args.range c.args.command c.args.now c.held_mut.ensures.value c.tell.ensures)
