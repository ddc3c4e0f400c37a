-- What a change makes of what frames spell, and of what a server holds.
use Rattle.std.proofs.Common.{◌≡◌, ℕ, zero, suc, ◌+◌, ◌<◌, List, [], ◌∷◌, ◌++◌, true, false, Some, None, refl, sym, ap, subst, ◌∙◌, map, set, arith}
use Rattle.std.specs.Prelude.{◌==◌, Option, All, AllPairs, slice_get}
use Rattle.std.specs.List.{list_all}
use Rattle.std.proofs.lemmas.Bool.Decides.{nat_tests}
use Rattle.std.proofs.lemmas.List.Elements.{All-from_recursion, All-contains, All-head, All-tail}
use Rattle.tab_rows.proofs.Lists.{AllPairs-head, AllPairs-tail}
use Rattle.tab_keys.specs.Spans.{Interval, has}
use Rattle.tab_rows.specs.declared.changes.Change.{Change}
use Rattle.tab_codec.specs.declared.frames.Frame.{Frame}
use Rattle.tab_journal.specs.declared.ranges.RangeTold.{RangeTold}
use Rattle.tab_journal.specs.declared.fitting.Told.{Told}
use Rattle.tab_journal.specs.declared.fitting.Told.TheVariants as told
use Rattle.tab_journal.specs.Told.{begun, server_takes, takes_changes, changed_key, keys_differ}
use Rattle.tab_journal.specs.Fitting.{takes, Fits}
use Rattle.tab_server.specs.Replays.{SpelledRange, with_changes, changed_at, spelled_range, SpellsEach}
use Rattle.tab_server.specs.Contents.{with_change, change_frame, TakesChange}
use Rattle.tab_server.specs.declared.steps.RangeChange.{RangeChange}
use Rattle.tab_server.proofs.Replaying.{spells_changed}
use Rattle.tab_server.proofs.Copies.{Agree, agree_all, told_after, told_by_server}

-- ---- frames

changes_taken : (o : Option RangeTold) (one : SpelledRange) (changes : List Change) → Agree o (Some one) → one.is_whole ≡ true → list_all (λ change. has one.span (changed_key change)) changes ≡ true
    → keys_differ changes ≡ true → takes_changes o changes ≡ true
changes_taken None one changes agree whole inside apart = elim agree [ ]
changes_taken (Some told) one changes agree whole inside apart =
    let first : told.is_whole ≡ true = agree.1 ∙ whole in
    let second : list_all (λ change. has told.span (changed_key change)) changes ≡ true = subst (λ (s : Interval). list_all (λ change. has s (changed_key change)) changes ≡ true) (sym agree.0) inside in
    rw (first, second, apart) refl

fits_server : (ranges : List RangeTold) (step : RangeChange) → takes_changes (begun ranges step.range) step.changes.list ≡ true → takes (told.Server ranges) (change_frame step) ≡ true
unfolding takes server_takes
fits_server ranges step h = h

pub goes_on : (frames : List Frame) (ranges : List SpelledRange) (step : RangeChange) → TakesChange ranges step → SpellsEach frames ranges
    → Fits 2 frames (change_frame step) × SpellsEach (frames ++ change_frame step ∷ []) (with_change ranges step)
goes_on frames ranges step t spells =
    let spelled : spelled_range frames t.one.range ≡ Some t.one = All-contains (λ one. spelled_range frames one.range ≡ Some one) ranges t.one (All-from_recursion _ ranges spells) t.held in
    let agree : Agree (begun (told_after [] frames) t.one.range) (Some t.one) = subst (Agree (begun (told_after [] frames) t.one.range)) spelled (agree_all frames t.one.range) in
    let taken : takes_changes (begun (told_after [] frames) step.range) step.changes.list ≡ true =
    subst (λ (n : ℕ). takes_changes (begun (told_after [] frames) n) step.changes.list ≡ true) t.number (changes_taken _ t.one step.changes.list agree t.whole t.inside t.apart) in (
      subst (λ (told : Told). takes told (change_frame step) ≡ true) (sym (told_by_server frames)) (fits_server (told_after [] frames) step taken),
      spells_changed frames step.range step.changes.list (step.changes.tick + 1) ranges spells,
    )

-- ---- one range among others

module _ (range : ℕ) (changes : List Change) (next_tick : ℕ) where
  none_changed : (ranges : List SpelledRange) → All (λ n. range < n) (map (λ one. one.range) ranges) → map (changed_at range changes next_tick) ranges ≡ ranges
  none_changed [] above = refl
  none_changed (one ∷ ranges) above =
      let here : range < one.range = All-head (λ n. range < n) one.range (map (λ other. other.range) ranges) above in
      let apart : (range == one.range) ≡ false = grind (arith, nat_tests) in
      let same : changed_at range changes next_tick one ≡ one = rw apart refl in
      ap (λ (first : SpelledRange). first ∷ map (changed_at range changes next_tick) ranges) same
      ∙ ap (λ (rest : List SpelledRange). one ∷ rest) (none_changed ranges (All-tail (λ n. range < n) one.range (map (λ other. other.range) ranges) above))

  above_first : (ranges : List SpelledRange) (place : ℕ) (one : SpelledRange) (n : ℕ) → All (λ m. n < m) (map (λ other. other.range) ranges) → slice_get ranges place ≡ Some one → n < one.range
  above_first [] place one n above here = absurd cc
  above_first (first ∷ ranges) zero one n above here =
      let same : first ≡ one = cc in
      subst (λ (x : SpelledRange). n < x.range) same (All-head (λ m. n < m) first.range (map (λ other. other.range) ranges) above)
  above_first (first ∷ ranges) (suc place) one n above here = above_first ranges place one n (All-tail (λ m. n < m) first.range (map (λ other. other.range) ranges) above) here

  pub changed_alone : (ranges : List SpelledRange) (place : ℕ) (one : SpelledRange) → slice_get ranges place ≡ Some one → one.range ≡ range → AllPairs (λ a b. a < b) (map (λ other. other.range) ranges)
      → set ranges place (with_changes changes next_tick one) ≡ map (changed_at range changes next_tick) ranges
  changed_alone [] place one here number apart = absurd cc
  changed_alone (first ∷ ranges) zero one here number apart =
      let same : first ≡ one = cc in
      let at : (range == first.range) ≡ true = grind (arith, nat_tests) in
      let changed : changed_at range changes next_tick first ≡ with_changes changes next_tick one = rw at (ap (with_changes changes next_tick) same) in
      let above : All (λ m. range < m) (map (λ other. other.range) ranges) =
      subst (λ (n : ℕ). All (λ m. n < m) (map (λ other. other.range) ranges)) (ap (λ (x : SpelledRange). x.range) same ∙ number) (AllPairs-head (λ a b. a < b) first.range (map (λ other. other.range) ranges) apart) in
      ap (λ (rest : List SpelledRange). with_changes changes next_tick one ∷ rest) (sym (none_changed ranges above))
      ∙ ap (λ (x : SpelledRange). x ∷ map (changed_at range changes next_tick) ranges) (sym changed)
  changed_alone (first ∷ ranges) (suc place) one here number apart =
      let below : first.range < one.range = above_first ranges place one first.range (AllPairs-head (λ a b. a < b) first.range (map (λ other. other.range) ranges) apart) here in
      let other : (range == first.range) ≡ false = grind (arith, nat_tests) in
      let same : changed_at range changes next_tick first ≡ first = rw other refl in
      ap (λ (rest : List SpelledRange). first ∷ rest) (changed_alone ranges place one here number (AllPairs-tail (λ a b. a < b) first.range (map (λ other. other.range) ranges) apart))
      ∙ ap (λ (x : SpelledRange). x ∷ map (changed_at range changes next_tick) ranges) (sym same)
