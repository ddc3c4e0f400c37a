use Rattle.std.proofs.Common.{rules, ◌≡◌, None, true, false, ap, sym, subst, ◌∙◌}
use Rattle.std.specs.Prelude.{IfSome}
use Rattle.tab_journal.specs.Keeping.{IsSound}
use Rattle.tab_server.specs.Contents.{told_ranges, IsReadyFor, ranges_sense}
use Rattle.tab_server.specs.Serving.{ServerView, range_of, tally_out, is_marked, is_sealed, is_in_doubt}
use Rattle.tab_server.proofs.ActLaws.{still_told}
use Rattle.tab_server.proofs.MarkServer.{where_held, server_still, other_doubt, doubted_out, open_out, some_out}
use Rattle.tab_server.proofs.server.Server.hand_out.Goals.{then-is_in_doubt-via-then-is_in_doubt, then-is_in_doubt-via-else-is_in_doubt+then-not-is_sealed}
use Rattle.tab_server.proofs.server.Server.hand_out.Goals as goal

pub take_tally-requires : goal.take_tally-requires
take_tally-requires g c = where_held is_sealed _ (search rules)

pub invariant_of-self : goal.invariant_of-self
invariant_of-self g c =
    let free : is_in_doubt c.self.inside.kept.doubt c.args.range ≡ false = search rules in
    let told : told_ranges c.take_tally.new.self ≡ told_ranges c.self.inside.kept.held = c.take_tally.ensures.told ∙ ap told_ranges c.held_mut.ensures.value in
    server_still g.T.Tally.drew g.T.Tally.ready g.T.Tally.kin c.self.inside.kept c.take_tally.new.self told
    (λ step doubted r. c.take_tally.ensures.ready step (other_doubt g.T.Tally.drew g.T.Tally.ready g.T.Tally.kin c.self.inside.kept.doubt c.args.range step free doubted)
    (subst (λ held. IsReadyFor g.T.Tally.ready held step) (sym c.held_mut.ensures.value) r)) c.self.invariant

pub returns-clause-sound : goal.returns-clause-sound
returns-clause-sound g c honest =
    let told : told_ranges c.take_tally.new.self ≡ told_ranges c.self.inside.kept.held = c.take_tally.ensures.told ∙ ap told_ranges c.held_mut.ensures.value in
    c.held_mut.ensures.sound honest (subst (IsSound g.D.Disk.watch (ranges_sense g.T.Tally.drew g.T.Tally.ready g.T.Tally.kin)) (sym c.self.view_is) (c.requires.sound honest)) c.take_tally.new.self
    (still_told g.T.Tally.drew g.T.Tally.ready g.T.Tally.kin c.self.inside.kept.held c.take_tally.new.self c.self.inside.kept.doubt told)

pub returns-then-is_in_doubt-clause-tally : goal.returns-then-is_in_doubt-clause-tally
returns-then-is_in_doubt-clause-tally g c =
    subst (λ (v : ServerView g.row.D.Denot g.row.T.Denot). None ≡ tally_out v.doubt (range_of v.held c.args.range)) c.self.view_is
    (elim c.then-is_in_doubt.branch [
      | then-is_in_doubt-via-then-is_in_doubt w ↦
          (let doubted : is_in_doubt c.self.inside.kept.doubt c.args.range ≡ true = search rules in
          doubted_out c.self.inside.kept.doubt c.args.range c.self.inside.kept.held doubted)
      | then-is_in_doubt-via-else-is_in_doubt+then-not-is_sealed w ↦
          (let other : is_marked is_sealed (range_of c.self.inside.kept.held c.args.range) ≡ false = search rules in
          open_out c.self.inside.kept.doubt c.args.range c.self.inside.kept.held other)
    ])

pub returns-clause-tally : goal.returns-clause-tally
returns-clause-tally g c =
    let sealed : is_marked is_sealed (range_of c.self.inside.kept.held c.args.range) ≡ true = search rules in
    let free : is_in_doubt c.self.inside.kept.doubt c.args.range ≡ false = search rules in
    let taken : IfSome (range_of c.self.inside.kept.held c.args.range) (λ marked. c.take_tally.result ≡ marked.range.tally) =
    subst (λ held. IfSome (range_of held c.args.range) (λ marked. c.take_tally.result ≡ marked.range.tally)) c.held_mut.ensures.value c.take_tally.ensures.taken in
    subst (λ (v : ServerView g.row.D.Denot g.row.T.Denot). c.take_tally.result ≡ tally_out v.doubt (range_of v.held c.args.range)) c.self.view_is
    (some_out c.self.inside.kept.doubt c.args.range c.self.inside.kept.held c.take_tally.result sealed free taken)
