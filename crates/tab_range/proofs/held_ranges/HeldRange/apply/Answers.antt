use Rattle.std.proofs.Common.{◌≡◌, ◌+◌, List, Option, MatchOption, IsTrue, ap, sym, subst, ◌∙◌}
use Rattle.std.specs.Prelude.{⊤}
use Rattle.tab_keys.specs.Spans.{has}
use Rattle.tab_rows.specs.Rows.{RowView}
use Rattle.tab_ops.specs.Changes.{applied}
use Rattle.tab_range.specs.Commands.{command_key}
use Rattle.tab_range.specs.Outcomes.{Outcome, accepted, command_outcome}
use Rattle.tab_range.specs.Ranges.{RangeView, LieIn, range_outcome}
use Rattle.tab_range.proofs.Accepting.{accepted_is, stays_inside}
use Rattle.tab_range.proofs.held_ranges.HeldRange.apply.Goals as goal

pub invariant_of-self : goal.invariant_of-self
invariant_of-self g c =
    let span = c.self.inside.span in
    let rows = c.self.inside.rows.rows in
    let next_tick = c.self.inside.next_tick in
    let told = c.args.told.now in
    let now = c.args.now in
    let tick = c.args.changes.tick in
    let after = applied rows c.args.changes.list in
    let Due : RangeView g.row.T.Denot → Type 0 = λ v. range_outcome v told.command now ≡ accepted tick (applied v.rows c.args.changes.list) in
    let Inside : RangeView g.row.T.Denot → Type 0 = λ v. IsTrue (has v.span (command_key told.command)) in
    let Backed : Option g.row.T.Denot → Type 0 = λ o. MatchOption o ⊤ (λ t. g.T.Tally.covers t span × g.T.Backing.allows t span rows next_tick) in
    let Left : Outcome → Type 0 = λ o. g.T.Backing.allows c.stroke.new.self span o.rows o.next_tick in
    let Allowed : List RowView → Type 0 = λ l. g.T.Backing.allows c.stroke.new.self span l (tick + 1) in
    let due : command_outcome rows next_tick span.hi told.command now ≡ accepted tick after = subst Due (sym c.self.view_is) c.requires.due in
    let inside : IsTrue (has span (command_key told.command)) = subst Inside (sym c.self.view_is) c.requires.inside in
    let backed = subst Backed c.in-Some.is c.self.invariant.1 in
    let left = subst Left due (c.stroke.ensures.allows span rows next_tick backed.1 inside (c.requires.tick ∙ sym (ap (λ (o : Outcome). o.tick) due))) in (
      subst (LieIn span) (sym c.make_changes.ensures.rows)
          (stays_inside span rows after next_tick told.command.table told.command.what now tick c.has_groups.ensures inside c.self.invariant.0
          (accepted_is rows after next_tick span.hi told.command.table told.command.what now tick due)),
      (c.stroke.ensures.covers span backed.0, subst Allowed (sym c.make_changes.ensures.rows) left),
    )
