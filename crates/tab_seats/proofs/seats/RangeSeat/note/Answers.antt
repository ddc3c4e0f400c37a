use Rattle.std.proofs.Common.{◌*◌, false}
use Rattle.tab_seats.specs.Views.{note_of, after_note}
use Rattle.tab_seats.specs.Offices.{IsNote}
use Rattle.tab_seats.proofs.Holders.{at_view, HoldsSeat, seat_noted, right_noted, note_taken}
use Rattle.tab_seats.proofs.seats.RangeSeat.note.Goals as goal

pub new-requires-clause-note : goal.new-requires-clause-note
new-requires-clause-note g c = let h = c.in_ok-member.ensures.ok in
    at_view IsNote c.in_ok-member.member c.self.inside.member.office (note_of h.0 c.self.inside.member.view h.1) h.3 (note_taken h.0 c.self.inside.member.view h.1 c.self.invariant.0)

pub invariant_of-self-2 : goal.invariant_of-self-2
invariant_of-self-2 g c = let h = c.in_ok-member.ensures.ok in
    at_view (HoldsSeat c.self.inside.next false) c.note_as.new.self c.self.inside.member.office (after_note c.self.inside.member.view) h.4
    (seat_noted c.self.inside.member.view c.self.invariant.0, c.self.invariant.1, right_noted g.C.Keyed.key (1099511627776 * c.self.inside.member.office.passes) h.1 c.self.inside.next c.self.inside.member.view c.self.invariant.1 h.5)
