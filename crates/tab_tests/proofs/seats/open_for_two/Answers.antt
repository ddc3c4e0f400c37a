use Rattle.std.proofs.Common.{◌∙◌, ◌≡◌, ◌++◌, List, Some, All, option_to_list, sym, ap}
use Rattle.std.proofs.lemmas.List.Elements.{All-pop}
use Rattle.tab_seats.specs.declared.views.View.{View}
use Rattle.tab_seats.specs.Offices.{OfficeId, MemberView}
use Rattle.tab_tests.proofs.seats.open_for_two.Goals as goal

-- the last two of a list whose elements are all of one office
last_two : {C O : Type 0} (office : OfficeId O) (view : View C) (xs ys zs : List (MemberView C O)) (x y : MemberView C O)
    → All (λ (p : MemberView C O). p ≡ record { office = office; view = view }) xs
    → xs ≡ ys ++ option_to_list (Some x) → ys ≡ zs ++ option_to_list (Some y) → (y.office ≡ office) × (x.office ≡ office)
last_two {C} {O} office view xs ys zs x y all e f =
    let Same : MemberView C O → Type 0 = λ (p : MemberView C O). p ≡ record { office = office; view = view } in
    let last = All-pop Same xs ys (Some x) e all in
    let before = All-pop Same ys zs (Some y) f last.0 in
    (ap (λ (p : MemberView C O). p.office) before.1, ap (λ (p : MemberView C O). p.office) last.1)

pub returns-clause-passes : goal.returns-clause-passes
returns-clause-passes c =
    let opened = c.in-Ok in
    let office = sym opened.ensures.office.0 in
    let same = last_two opened.seat.office _ opened.passes.items c.pop.new.self.items c.pop-2.new.self.items c.in_ok-second.second c.in_ok-first.first opened.ensures.passes.1 c.in_ok-second.ensures.items c.in_ok-first.ensures.items in
    (same.0 ∙ office, same.1 ∙ office)
