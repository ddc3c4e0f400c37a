use Rattle.std.proofs.Common.{◌≡◌, ◌+◌, ◌*◌, ◌^◌, ◌≤◌, max, None}
use Rattle.std.specs.List.{All, sum_by}
use Rattle.tab_keys.specs.declared.bounds.Bound.TheVariants.{End}
use Rattle.tab_seats.proofs.Closing.{most, known_of, calls_of, permits_of}
use Rattle.tab_seats.proofs.offices.Office.close.Given as goal

abbrev pub invariant-loop-seat : goal.invariant-loop-seat
invariant-loop-seat g l = record {
  office : l.member.office ≡ l.fn.self.office;
  offices : All (λ s. s.office ≡ l.fn.self.office) l.seats.items;
  known : most known_of l.initial.seats.items ≤ max (known_of l.member) (most known_of l.seats.items);
}

abbrev pub decreases-loop-seat : goal.decreases-loop-seat
decreases-loop-seat g l = goal.left-loop-seat g l

abbrev pub invariant-loop-pass : goal.invariant-loop-pass
invariant-loop-pass g l = record {
  office : l.member.office ≡ l.fn.self.office;
  offices : All (λ p. p.office ≡ l.fn.self.office) l.passes.items;
  earlier : known_of l.initial.member ≤ known_of l.member;
  known : most known_of l.initial.passes.items ≤ max (known_of l.member) (most known_of l.passes.items);
  calls : sum_by calls_of l.initial.passes.items ≤ calls_of l.member + sum_by calls_of l.passes.items;
  permits : sum_by permits_of l.initial.passes.items ≤ permits_of l.member + sum_by permits_of l.passes.items;
}

abbrev pub decreases-loop-pass : goal.decreases-loop-pass
decreases-loop-pass g l = goal.left-loop-pass g l

abbrev pub ghosts-check_as : goal.ghosts-check_as
ghosts-check_as g a = record { command = None; now = 0; bound = 2 ^ 40 * a.self.now.office.passes; at = End }
