use Rattle.std.proofs.Common.{ℕ, ◌*◌, sym, subst}
use Rattle.tab_seats.specs.Views.{after_fuse}
use Rattle.tab_seats.proofs.Holders.{at_view, HoldsSeat, holds_fused}
use Rattle.tab_seats.proofs.seats.RangeSeat.fuse.Goals as goal

pub invariant_of-result : goal.invariant_of-result
invariant_of-result g c = let h = c.fuse_as.ensures in let v = c.self.inside.member.view in let w = c.other.inside.member.view in let both = c.has_last.ensures in
    at_view (HoldsSeat c.max.result c.has_last.result) c.fuse_as.new.self c.self.inside.member.office (after_fuse h.0 h.1 v w h.2 h.3) h.7
    (let P : ℕ → Type 0 = λ k. HoldsSeat k c.has_last.result (after_fuse h.0 h.1 v w h.2 h.3) in subst P (sym c.max.ensures)
    (holds_fused g.C.Keyed.key (1099511627776 * c.self.inside.member.office.passes) h.4 c.self.inside.next c.other.inside.next c.self.inside.has_right c.other.inside.has_right c.has_last.result h.0 h.1 v w h.2 h.3 c.self.invariant c.other.invariant both.left both.right both.both h.8))
