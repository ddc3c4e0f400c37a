use Rattle.std.proofs.Common.{sym, subst}
use Rattle.tab_journal.specs.Keeping.{IsSound}
use Rattle.tab_server.specs.Contents.{ranges_sense}
use Rattle.tab_server.specs.Serving.{ServerView}
use Rattle.tab_server.proofs.ActCalls.{roomed_still, roomed_stands}
use Rattle.tab_server.proofs.server.Server.reserve.Goals as goal

pub returns-clause-still : goal.returns-clause-still
returns-clause-still g c = roomed_still g.T.Tally.drew g.T.Tally.ready g.T.Tally.kin c.self.inside.kept c.args.self.now c.held_mut.result.now c.reserve.new.self c.args.range c.self.view_is c.held_mut.ensures.value c.reserve.ensures.kept

pub returns-clause-sound : goal.returns-clause-sound
returns-clause-sound g c honest sound =
    c.held_mut.ensures.sound honest (subst (λ (k : ServerView g.row.D.Denot g.row.T.Denot). IsSound g.D.Disk.watch (ranges_sense g.T.Tally.drew g.T.Tally.ready g.T.Tally.kin) k) (sym c.self.view_is) sound) c.reserve.new.self
    (roomed_stands g.T.Tally.drew g.T.Tally.ready g.T.Tally.kin c.self.inside.kept c.held_mut.result.now c.reserve.new.self c.args.range c.held_mut.ensures.value c.reserve.ensures.kept)
