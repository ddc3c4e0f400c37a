use Rattle.std.proofs.Common.{◌≡◌, map, Some, ap, sym, ◌∙◌}
use Rattle.std.proofs.lemmas.Bool.{true≢false}
use Rattle.tab_master.specs.Spelled.{SpelledMap, map_row}
use Rattle.tab_master.specs.MapListing.{MapListed}
use Rattle.tab_master.proofs.MapListingLaws.{nothing_spelled, told_stands, stands_told}
use Rattle.tab_master.proofs.map_content.are_read.Goals as goal

pub returns-in_default : goal.returns-in_default
returns-in_default c =
    let told : SpelledMap = record { next_range = c.args.next_range; next_plan = c.args.next_plan; rows = map map_row c.args.rows.now } in (
      λ is. absurd (true≢false (sym is)),
      λ spelled. absurd (nothing_spelled c.args.frames.now c.in_ok-held.field-0 told c.in_ok-held.ensures (ap (λ (l : MapListed). l.held) (sym c.held.view_is) ∙ c.in_default.is) spelled),
    )

pub returns-then-told_plan-from : goal.returns-then-told_plan-from
returns-then-told_plan-from c =
    let told : SpelledMap = record { next_range = c.args.next_range; next_plan = c.args.next_plan; rows = map map_row c.args.rows.now } in
    let some : c.in_ok-held.field-0.held ≡ Some c.in-Some.listed = ap (λ (l : MapListed). l.held) (sym c.held.view_is) ∙ c.in-Some.is in (
      λ is. told_stands c.args.frames.now c.in_ok-held.field-0 c.in-Some.listed told c.in_ok-held.ensures some
          (ap (λ (l : MapListed). l.next_plan) (sym c.held.view_is) ∙ (c.if-told_plan-from.true ∙ c.from.ensures))
          (c.is_listed.ensures.0 is),
      λ spelled.
          let same = stands_told c.args.frames.now c.in_ok-held.field-0 c.in-Some.listed told c.in_ok-held.ensures some spelled in
          c.is_listed.ensures.1 (ap (λ (t : SpelledMap). t.next_range) same, ap (λ (t : SpelledMap). t.rows) same),
    )

pub returns : goal.returns
returns c =
    let told : SpelledMap = record { next_range = c.args.next_range; next_plan = c.args.next_plan; rows = map map_row c.args.rows.now } in
    let some : c.in_ok-held.field-0.held ≡ Some c.in-Some.listed = ap (λ (l : MapListed). l.held) (sym c.held.view_is) ∙ c.in-Some.is in (
      λ is. absurd (true≢false (sym is)),
      λ spelled.
          let same = stands_told c.args.frames.now c.in_ok-held.field-0 c.in-Some.listed told c.in_ok-held.ensures some spelled in
          absurd (c.if-told_plan-from.false (ap (λ (l : MapListed). l.next_plan) c.held.view_is ∙ (ap (λ (t : SpelledMap). t.next_plan) same ∙ sym c.from.ensures))),
    )
