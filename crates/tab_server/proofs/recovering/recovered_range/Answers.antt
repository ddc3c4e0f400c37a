use Rattle.std.proofs.Common.{Some, sym, ap, ◌∙◌}
use Rattle.tab_server.specs.Replays.{SpelledRange}
use Rattle.tab_server.proofs.Inside.{spelled_inside}
use Rattle.tab_server.proofs.Recovered.{read_over}
use Rattle.tab_server.proofs.recovering.recovered_range.Goals as goal

pub new-requires : goal.new-requires
new-requires g c =
    let r = c.replay.inside in
    let one : SpelledRange = record { range = r.range; span = r.span; rows = r.rows.rows; next_tick = r.next_tick; is_whole = r.is_whole } in
    spelled_inside c.args.frames.now c.args.number one c.requires (sym c.in_ok-replay.ensures ∙ (c.in-Some.is ∙ ap Some (sym c.replay.view_is)))

pub returns : goal.returns
returns g c =
    let r = c.replay.inside in
    let one : SpelledRange = record { range = r.range; span = r.span; rows = r.rows.rows; next_tick = r.next_tick; is_whole = r.is_whole } in
    read_over c.args.frames.now c.args.number c.args.span.now one c.new.result r.rows.spare c.requires (sym c.in_ok-replay.ensures ∙ (c.in-Some.is ∙ ap Some (sym c.replay.view_is))) (c.same_span.ensures.0 c.if-not-same_span.false) c.if-not-replay.false c.new.ensures
