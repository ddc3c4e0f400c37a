use Rattle.std.proofs.Common.{rules, ◌≡◌, true, ap, sym, subst, ◌∙◌}
use Rattle.tab_journal.specs.Keeping.{IsSound}
use Rattle.tab_server.specs.Contents.{told_ranges, IsReadyFor, ranges_sense}
use Rattle.tab_server.specs.Serving.{range_of, is_marked, is_serving}
use Rattle.tab_server.proofs.ActLaws.{still_told}
use Rattle.tab_server.proofs.MarkServer.{where_serving, where_held, server_still}
use Rattle.tab_server.proofs.server.Server.seal.Goals as goal

pub remark-requires-clause-held : goal.remark-requires-clause-held
remark-requires-clause-held g c = where_held is_serving _ (search rules)

pub invariant_of-self : goal.invariant_of-self
invariant_of-self g c =
    let is : is_marked is_serving (range_of c.held_mut.result.now c.args.range) ≡ true = search rules in
    let told : told_ranges c.remark.new.self ≡ told_ranges c.self.inside.kept.held = c.remark.ensures.told (where_serving _ is) ∙ ap told_ranges c.held_mut.ensures.value in
    server_still g.T.Tally.drew g.T.Tally.ready g.T.Tally.kin c.self.inside.kept c.remark.new.self told
    (λ step doubted r. c.remark.ensures.ready step (subst (λ held. IsReadyFor g.T.Tally.ready held step) (sym c.held_mut.ensures.value) r)) c.self.invariant

pub returns-clause-sound : goal.returns-clause-sound
returns-clause-sound g c honest =
    let is : is_marked is_serving (range_of c.held_mut.result.now c.args.range) ≡ true = search rules in
    let told : told_ranges c.remark.new.self ≡ told_ranges c.self.inside.kept.held = c.remark.ensures.told (where_serving _ is) ∙ ap told_ranges c.held_mut.ensures.value in
    c.held_mut.ensures.sound honest (subst (IsSound g.D.Disk.watch (ranges_sense g.T.Tally.drew g.T.Tally.ready g.T.Tally.kin)) (sym c.self.view_is) (c.requires.sound honest)) c.remark.new.self
    (still_told g.T.Tally.drew g.T.Tally.ready g.T.Tally.kin c.self.inside.kept.held c.remark.new.self c.self.inside.kept.doubt told)
