use Rattle.std.proofs.Common.{◌*◌, ◌≡◌, ◌∷◌, ◌++◌, [], ◌∙◌, length, sym, ap, inl, arith}
use Rattle.std.proofs.lemmas.List.Elements.{All-pop}
use Rattle.std.proofs.lemmas.Grind.{common_steps}
use Rattle.tab_seats.specs.Logs.{next_number}
use Rattle.tab_seats.proofs.Fitting.{next_number_le}
use Rattle.tab_seats.proofs.Holders.{counted}
use Rattle.tab_seats.proofs.Closing.{one_taken, All-most, most_none, sum_none}
use Rattle.tab_seats.proofs.offices.Office.close.Goals as goal

pub loop-seat-preserved : goal.loop-seat-preserved
loop-seat-preserved g c =
    let rest = c.pop.new.self.items in
    let taken = one_taken c.loop-seat.member c.into_member.result c.meet.new.self c.loop-seat.member.office c.loop-seat.seats.items rest (c.in-Some.ensures.items ∙ ap (λ s. rest ++ s ∷ []) (sym c.into_member.ensures)) c.meet.ensures in
    let i = c.loop-seat.invariant in
    record {
      office = ap (λ m. m.office) c.meet.ensures ∙ i.office;
      offices = (All-pop (λ s. s.office ≡ c.args.self.office) c.loop-seat.seats.items rest c.pop.result c.pop.ensures.items i.offices).0;
      known = (let a = i.known in let b = taken.known in omega arith);
    }

pub loop-pass-preserved : goal.loop-pass-preserved
loop-pass-preserved g c =
    let rest = c.pop-in-loop-pass.new.self.items in
    let taken = one_taken c.loop-pass.member c.into_member-in-Some-pop.result c.meet-in-Some-pop.new.self c.loop-pass.member.office c.loop-pass.passes.items rest (c.in-Some-pop.ensures.items ∙ ap (λ p. rest ++ p ∷ []) (sym c.into_member-in-Some-pop.ensures)) c.meet-in-Some-pop.ensures in
    let i = c.loop-pass.invariant in
    record {
      office = ap (λ m. m.office) c.meet-in-Some-pop.ensures ∙ i.office;
      offices = (All-pop (λ p. p.office ≡ c.args.self.office) c.loop-pass.passes.items rest c.pop-in-loop-pass.result c.pop-in-loop-pass.ensures.items i.offices).0;
      earlier = (let a = i.earlier in let b = taken.grows in omega arith);
      known = (let a = i.known in let b = taken.known in omega arith);
      calls = (let a = i.calls in let b = taken.calls in omega arith);
      permits = (let a = i.permits in let b = taken.permits in omega arith);
    }

pub returns-clause-seats : goal.returns-clause-seats
returns-clause-seats g c =
    let told = c.check_as.ensures.told in
    let last = next_number_le c.check_as.result c.loop-pass.member.view.log (λ x h. told.numbers x (inl h)) in
    let a = c.loop-seat.invariant.known in let b = c.loop-pass.invariant.earlier in
    let cases = c.in_default.ensures.cases in let none : length c.loop-seat.seats.items ≡ 0 = grind (arith, common_steps, cases) in
    let n = most_none (λ s. next_number s.view.log) c.loop-seat.seats.items none in
    All-most (λ s. next_number s.view.log) c.args.seats.items c.check_as.result (omega arith)

pub returns-clause-passes : goal.returns-clause-passes
returns-clause-passes g c =
    let told = c.check_as.ensures.told in
    let last = next_number_le c.check_as.result c.loop-pass.member.view.log (λ x h. told.numbers x (inl h)) in
    let a = c.loop-pass.invariant.known in
    let cases = c.in_default-pop.ensures.cases in let none : length c.loop-pass.passes.items ≡ 0 = grind (arith, common_steps, cases) in
    let n = most_none (λ p. next_number p.view.log) c.loop-pass.passes.items none in
    All-most (λ p. next_number p.view.log) c.args.passes.items c.check_as.result (omega arith)

pub returns-clause-calls : goal.returns-clause-calls
returns-clause-calls g c =
    let h = counted g.C.Keyed.key (1099511627776 * c.loop-pass.member.office.passes) c.check_as.result c.loop-pass.member.view c.check_as.ensures.told in
    let a = c.loop-pass.invariant.calls in
    let cases = c.in_default-pop.ensures.cases in let none : length c.loop-pass.passes.items ≡ 0 = grind (arith, common_steps, cases) in
    let n = sum_none (λ p. length p.view.rights) c.loop-pass.passes.items none in
    omega arith
