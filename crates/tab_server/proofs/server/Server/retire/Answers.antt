use Rattle.std.proofs.Common.{rules, ◌≡◌, true, false, ap, sym, subst, ◌∙◌}
use Rattle.tab_journal.specs.Keeping.{IsSound, IfDoubt, StandsFor, StandsStill}
use Rattle.tab_server.specs.Contents.{ranges_sense}
use Rattle.tab_server.specs.Serving.{IsServer, without_range, is_in_doubt}
use Rattle.tab_server.proofs.MarkServer.{stands_left, left_forgotten, server_left}
use Rattle.tab_server.proofs.server.Server.retire.Goals as goal

pub invariant_of-self : goal.invariant_of-self
invariant_of-self g c =
    let free : is_in_doubt c.self.inside.kept.doubt c.args.range ≡ false = search rules in
    let left : c.retire.new.self ≡ without_range c.args.range c.self.inside.kept.held = c.retire.ensures ∙ ap (without_range c.args.range) c.held_mut.ensures.value in
    subst (λ held. IsServer g.T.Tally.drew g.T.Tally.ready g.T.Tally.kin (record c.self.inside.kept { held = held })) (sym left)
    (server_left g.T.Tally.drew g.T.Tally.ready g.T.Tally.kin c.args.range c.self.inside.kept free c.self.invariant)

pub returns-then-not-is_in_doubt-clause-sound : goal.returns-then-not-is_in_doubt-clause-sound
returns-then-not-is_in_doubt-clause-sound g c honest =
    let left : c.retire.new.self ≡ without_range c.args.range c.self.inside.kept.held = c.retire.ensures ∙ ap (without_range c.args.range) c.held_mut.ensures.value in
    c.held_mut.ensures.sound honest (subst (IsSound g.D.Disk.watch (ranges_sense g.T.Tally.drew g.T.Tally.ready g.T.Tally.kin)) (sym c.self.view_is) (c.requires.sound honest)) c.retire.new.self
    (subst (λ held. StandsStill (ranges_sense g.T.Tally.drew g.T.Tally.ready g.T.Tally.kin) c.self.inside.kept.held c.self.inside.kept.doubt held) (sym left)
    (stands_left g.T.Tally.drew g.T.Tally.ready g.T.Tally.kin c.args.range c.self.inside.kept.held c.self.inside.kept.doubt))

pub forget-requires : goal.forget-requires
forget-requires g c frames spelled =
    let doubted : is_in_doubt c.self.inside.kept.doubt c.args.range ≡ true = search rules in
    let left : c.retire-2.new.self ≡ without_range c.args.range c.self.inside.kept.held = c.retire-2.ensures ∙ ap (without_range c.args.range) c.held_mut-2.ensures.value in
    subst (λ held. StandsFor (ranges_sense g.T.Tally.drew g.T.Tally.ready g.T.Tally.kin) held frames) (sym left)
    (left_forgotten g.T.Tally.drew g.T.Tally.ready g.T.Tally.kin c.args.range c.self.inside.kept.held c.self.inside.kept.doubt doubted frames
    (subst (λ held. IfDoubt (ranges_sense g.T.Tally.drew g.T.Tally.ready g.T.Tally.kin) held c.self.inside.kept.doubt frames) left spelled))

pub returns-clause-sound : goal.returns-clause-sound
returns-clause-sound g c honest =
    let left : c.retire-2.new.self ≡ without_range c.args.range c.self.inside.kept.held = c.retire-2.ensures ∙ ap (without_range c.args.range) c.held_mut-2.ensures.value in
    c.forget.ensures.sound honest
    (c.held_mut-2.ensures.sound honest (subst (IsSound g.D.Disk.watch (ranges_sense g.T.Tally.drew g.T.Tally.ready g.T.Tally.kin)) (sym c.self.view_is) (c.requires.sound honest)) c.retire-2.new.self
    (subst (λ held. StandsStill (ranges_sense g.T.Tally.drew g.T.Tally.ready g.T.Tally.kin) c.self.inside.kept.held c.self.inside.kept.doubt held) (sym left)
    (stands_left g.T.Tally.drew g.T.Tally.ready g.T.Tally.kin c.args.range c.self.inside.kept.held c.self.inside.kept.doubt)))
