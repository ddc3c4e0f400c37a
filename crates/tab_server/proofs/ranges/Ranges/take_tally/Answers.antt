use Rattle.std.proofs.Common.{◌≡◌, sym, subst, ◌∙◌}
use Rattle.std.specs.Prelude.{IfSome}
use Rattle.tab_server.proofs.MarkLaws.{is_placed}
use Rattle.tab_server.proofs.MarkReady.{no_tally_free, untaken, match_more, tallied_is, tallied_told, tallied_holding, taken_still}
use Rattle.tab_server.proofs.ranges.Ranges.take_tally.Goals as goal

pub invariant_of-self : goal.invariant_of-self
invariant_of-self g c =
    let at = is_placed _ _ c.args.range _ _ c.self.view_is c.self.invariant c.in-Some.ensures.some c.index_mut-marked.ensures.value in
    tallied_holding _ _ c.args.range _ _ at _ _ c.take_tally.ensures.left (no_tally_free _ _)

pub returns-clause-left : goal.returns-clause-left
returns-clause-left g c =
    let at = is_placed _ _ c.args.range _ _ c.self.view_is c.self.invariant c.in-Some.ensures.some c.index_mut-marked.ensures.value in
    tallied_is _ _ c.args.range _ _ at _ _ c.take_tally.ensures.left

pub returns-clause-told : goal.returns-clause-told
returns-clause-told g c =
    let at = is_placed _ _ c.args.range _ _ c.self.view_is c.self.invariant c.in-Some.ensures.some c.index_mut-marked.ensures.value in
    tallied_told _ _ c.args.range _ _ at _ _ c.take_tally.ensures.left

pub returns-clause-ready : goal.returns-clause-ready
returns-clause-ready g c step other r =
    let at = is_placed _ _ c.args.range _ _ c.self.view_is c.self.invariant c.in-Some.ensures.some c.index_mut-marked.ensures.value in
    taken_still _ _ c.args.range _ _ at _ _ c.take_tally.ensures.left g.T.Tally.ready step other r

pub returns-clause-taken : goal.returns-clause-taken
returns-clause-taken g c =
    let at = is_placed _ _ c.args.range _ _ c.self.view_is c.self.invariant c.in-Some.ensures.some c.index_mut-marked.ensures.value in
    subst (λ o. IfSome o (λ marked. c.take_tally.result ≡ marked.range.tally)) (sym at.found) c.take_tally.ensures.taken

pub returns-clause-none : goal.returns-clause-none
returns-clause-none g c e =
    let at = is_placed _ _ c.args.range _ _ c.self.view_is c.self.invariant c.in-Some.ensures.some c.index_mut-marked.ensures.value in
    untaken _ _ c.args.range _ _ at _ c.take_tally.ensures.left (sym c.take_tally.ensures.taken ∙ e)

pub returns-clause-means : goal.returns-clause-means
returns-clause-means g c =
    let at = is_placed _ _ c.args.range _ _ c.self.view_is c.self.invariant c.in-Some.ensures.some c.index_mut-marked.ensures.value in
    match_more _ _ c.take_tally.result (λ t h. (_, at.found, h.0, h.1)) c.take_tally.ensures.allows
