-- Where the copy of a range stands.
use Rattle.std.proofs.Common.{◌≡◌, ℕ, suc, ◌+◌, ◌<◌, ◌≤◌, Bool, true, false, not, cond, ltb, Some, None, List, [], ◌∷◌, length, get_or, set, refl, sym, ap, ◌∙◌, arith}
use Rattle.std.specs.Prelude.{◌==◌, Result, Ok, Err, IfOk, IsTrue}
use Rattle.std.specs.List.{position_or_len}
use Rattle.std.proofs.lemmas.Bool.Decides.{nat_tests}
use Rattle.std.proofs.lemmas.List.Folds.{find_at}
use Rattle.std.proofs.lemmas.Option.{slice_get-get_or, slice_get_past}
use Rattle.tab_journal.specs.declared.ranges.RangeTold.{RangeTold}
use Rattle.tab_journal.specs.Told.{at_range}
use Rattle.tab_journal.specs.Begun.{IsBegunAt, IsPlaceOf}

abbrev pub place : ℕ → List RangeTold → ℕ
place range ranges = position_or_len (λ one. one.range == range) ranges

here : (range : ℕ) (one : RangeTold) (ranges : List RangeTold) → (one.range == range) ≡ true → place range (one ∷ ranges) ≡ 0
here range one ranges h = ap (λ (v : Bool). cond (not v) (1 + place range ranges) 0) h

further : (range : ℕ) (one : RangeTold) (ranges : List RangeTold) → (one.range == range) ≡ false → place range (one ∷ ranges) ≡ suc (place range ranges)
further range one ranges h =
    let e : 1 + place range ranges ≡ suc (place range ranges) = omega arith in
    ap (λ (v : Bool). cond (not v) (1 + place range ranges) 0) h ∙ e

changed_first : (range : ℕ) (f : RangeTold → RangeTold) (one : RangeTold) (ranges : List RangeTold) → (one.range == range) ≡ true → at_range range f (one ∷ ranges) ≡ f one ∷ ranges
unfolding at_range
changed_first range f one ranges h = rw h refl

changed_more : (range : ℕ) (f : RangeTold → RangeTold) (one : RangeTold) (ranges : List RangeTold) → (one.range == range) ≡ false → at_range range f (one ∷ ranges) ≡ one ∷ at_range range f ranges
unfolding at_range
changed_more range f one ranges h = rw h refl

abbrev set_at : (RangeTold → RangeTold) → RangeTold → List RangeTold → ℕ → List RangeTold
set_at f d ranges n = set ranges n (f (get_or ranges n d))

changed_by : (range : ℕ) (f : RangeTold → RangeTold) (d one : RangeTold) (ranges : List RangeTold) (v : Bool) → (one.range == range) ≡ v → place range (one ∷ ranges) < length (one ∷ ranges)
    → (place range ranges < length ranges → at_range range f ranges ≡ set_at f d ranges (place range ranges))
    → at_range range f (one ∷ ranges) ≡ set_at f d (one ∷ ranges) (place range (one ∷ ranges))
changed_by range f d one ranges true h less so = changed_first range f one ranges h ∙ ap (set_at f d (one ∷ ranges)) (sym (here range one ranges h))
changed_by range f d one ranges false h less so =
    changed_more range f one ranges h
    ∙ ap (λ (l : List RangeTold). one ∷ l) (so (omega (arith, less, further range one ranges h)))
    ∙ ap (set_at f d (one ∷ ranges)) (sym (further range one ranges h))

changed_at : (range : ℕ) (f : RangeTold → RangeTold) (d : RangeTold) (ranges : List RangeTold) → place range ranges < length ranges → at_range range f ranges ≡ set_at f d ranges (place range ranges)
changed_at range f d [] less = absurd (let none : ⊥ = omega (arith, less) in none)
changed_at range f d (one ∷ ranges) less = changed_by range f d one ranges (one.range == range) refl less (changed_at range f d ranges)

by_test : (range : ℕ) (ranges : List RangeTold) (b : Bool) → ltb (place range ranges) (length ranges) ≡ b → IsPlaceOf ranges range (cond b (Some (place range ranges)) None)
by_test range ranges true e =
    let within : place range ranges < length ranges = grind (arith, nat_tests) in
    record {
      within = within;
      found = λ d. find_at (λ one. one.range == range) ranges ∙ slice_get-get_or ranges (place range ranges) d within;
      changed = λ f d. changed_at range f d ranges within;
    }
by_test range ranges false e =
    let past : length ranges ≤ place range ranges = grind (arith, nat_tests) in
    find_at (λ one. one.range == range) ranges ∙ slice_get_past ranges (place range ranges) past

pub placed : (range : ℕ) (ranges : List RangeTold) → IsPlaceOf ranges range (cond (ltb (place range ranges) (length ranges)) (Some (place range ranges)) None)
placed range ranges = by_test range ranges (ltb (place range ranges) (length ranges)) refl

-- a change at the place where the copy was found
pub changed_here : (ranges inside : List RangeTold) (range place : ℕ) (f : RangeTold → RangeTold) (one : RangeTold) → IsBegunAt ranges range place → inside ≡ ranges → one ≡ get_or inside place one
    → set inside place (f one) ≡ at_range range f ranges
changed_here ranges inside range place f one at same is =
    ap (λ (l : List RangeTold). set l place (f one)) same
    ∙ ap (λ (x : RangeTold). set ranges place (f x)) (is ∙ ap (λ (l : List RangeTold). get_or l place one) same)
    ∙ sym (at.changed f one)

-- the same, where an answer says whether the change was made
pub rows_here : {E : Type 0} (r : Result Bool E) (ranges inside : List RangeTold) (range place : ℕ) (f : RangeTold → RangeTold) (one new : RangeTold) → IsBegunAt ranges range place → inside ≡ ranges
    → one ≡ get_or inside place one → IfOk r (λ fits. IsTrue fits → new ≡ f one) → IfOk r (λ fits. IsTrue fits → set inside place new ≡ at_range range f ranges)
rows_here (Ok fits) ranges inside range place f one new at same is done =
    λ w. ap (λ (x : RangeTold). set inside place x) (done w) ∙ changed_here ranges inside range place f one at same is
rows_here (Err e) ranges inside range place f one new at same is done = tt
