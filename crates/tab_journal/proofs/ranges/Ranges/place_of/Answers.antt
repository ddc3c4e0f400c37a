use Rattle.std.proofs.Common.{◌≡◌, ℕ, Option, Some, None, cond, ltb, List, length, sym, subst, rules, tests}
use Rattle.std.specs.Prelude.{◌==◌}
use Rattle.std.proofs.lemmas.Iterator.{YieldsList-from_slice}
use Rattle.std.proofs.lemmas.Iterator.Search.{position_from_yields_List}
use Rattle.tab_journal.specs.declared.ranges.RangeTold.{RangeTold}
use Rattle.tab_journal.specs.Begun.{IsPlaceOf}
use Rattle.tab_journal.proofs.Begun.{place, placed}
use Rattle.tab_journal.proofs.ranges.Ranges.place_of.Goals as goal

pub returns : goal.returns
returns c =
    let range = c.args.range in
    let inside = c.self.inside.list.items in
    let same : inside ≡ c.args.self.now = let w = c.self.view_is in cc in
    let found : c.position.result ≡ cond (ltb (place range inside) (length inside)) (Some (place range inside)) None =
    position_from_yields_List (λ (one : RangeTold). one.range == range) _ _ c.position.result c.position.ensures.ran (YieldsList-from_slice inside (let e = c.iter.ensures.rest in let f = c.deref.ensures.value in cc)) (λ x b q k. search (rules, tests)) in
    subst (λ (l : List RangeTold). IsPlaceOf l range c.position.result) same (subst (λ (r : Option ℕ). IsPlaceOf inside range r) (sym found) (placed range inside))
