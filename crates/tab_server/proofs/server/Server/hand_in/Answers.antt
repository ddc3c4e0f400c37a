use Rattle.std.proofs.Common.{◌≡◌, ap, sym, subst, ◌∙◌}
use Rattle.tab_journal.specs.Keeping.{IsSound}
use Rattle.tab_server.specs.Contents.{told_ranges, IsReadyFor, ranges_sense}
use Rattle.tab_server.proofs.ActLaws.{still_told}
use Rattle.tab_server.proofs.MarkServer.{server_still}
use Rattle.tab_server.proofs.server.Server.hand_in.Goals as goal

pub invariant_of-self : goal.invariant_of-self
invariant_of-self g c =
    let told : told_ranges c.give.new.self ≡ told_ranges c.self.inside.kept.held = c.give.ensures.told ∙ ap told_ranges c.held_mut.ensures.value in
    server_still g.T.Tally.drew g.T.Tally.ready g.T.Tally.kin c.self.inside.kept c.give.new.self told
    (λ step doubted r. c.give.ensures.ready step (subst (λ held. IsReadyFor g.T.Tally.ready held step) (sym c.held_mut.ensures.value) r)) c.self.invariant

pub returns-clause-sound : goal.returns-clause-sound
returns-clause-sound g c honest =
    let told : told_ranges c.give.new.self ≡ told_ranges c.self.inside.kept.held = c.give.ensures.told ∙ ap told_ranges c.held_mut.ensures.value in
    c.held_mut.ensures.sound honest (subst (IsSound g.D.Disk.watch (ranges_sense g.T.Tally.drew g.T.Tally.ready g.T.Tally.kin)) (sym c.self.view_is) (c.requires.sound honest)) c.give.new.self
    (still_told g.T.Tally.drew g.T.Tally.ready g.T.Tally.kin c.self.inside.kept.held c.give.new.self c.self.inside.kept.doubt told)
