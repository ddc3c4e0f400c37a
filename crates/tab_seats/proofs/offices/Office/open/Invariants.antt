use Rattle.std.proofs.Common.{◌≡◌, ◌*◌, ◌^◌, length, ◌-◌}
use Rattle.std.specs.List.{All}
use Rattle.tab_seats.specs.Views.{new_pass, seat_over, everything}
use Rattle.tab_seats.proofs.offices.Office.open.Given as goal

abbrev pub invariant-loop-i : goal.invariant-loop-i
invariant-loop-i g l = (l.member ≡ record { office = l.initial.member.office; view = seat_over everything (2 ^ 40 * l.passes - 2 ^ 40 * l._i) })
    × (length l.all.items ≡ l._i) × All (λ p. p ≡ record { office = l.initial.member.office; view = new_pass (2 ^ 40) }) l.all.items
