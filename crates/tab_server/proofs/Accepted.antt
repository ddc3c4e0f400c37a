-- The changes that a group's command is answered fit the range that has its key.
use Rattle.std.proofs.Common.{◌≡◌, ℕ, ◌<◌, ◌≤◌, List, [], ◌∷◌, length, Bool, true, false, not, ◌&&◌, ltb, Some, refl, ap, subst, ◌∙◌, map, arith}
use Rattle.std.specs.Prelude.{option_map, All, Contains, IsTrue, IsFalse, slice_get}
use Rattle.std.specs.List.{list_all, list_any}
use Rattle.std.proofs.lemmas.Bool.Decides.{nat_tests}
use Rattle.std.proofs.lemmas.List.Elements.{All-head, All-tail, Contains-get_or}
use Rattle.std.proofs.lemmas.Option.{slice_get-map, slice_get_within, get_or_from_slice_get}
use Rattle.std.specs.Ordering.{is_eq}
use Rattle.tab_keys.specs.Order.{text_cmp, same_key}
use Rattle.tab_keys.specs.Spans.{Interval, has}
use Rattle.tab_keys.specs.declared.keys.Key.{Key}
use Rattle.tab_keys.proofs.OrderLaws.{same_key_equivalence}
use Rattle.tab_rows.proofs.Lists.{AllPairs-tail}
use Rattle.tab_rows.specs.declared.changes.Change.{Change}
use Rattle.tab_rows.specs.declared.changes.Change.TheVariants.{Put, Take}
use Rattle.tab_ops.specs.Groups.{ItemView, item_key, most_items, group_refusal, AreApart, IsGroup}
use Rattle.tab_ops.specs.Changes.{change_key, group_keys, applied}
use Rattle.tab_ops.proofs.GroupLaws.{head_apart}
use Rattle.tab_journal.specs.Told.{changed_key, keys_differ}
use Rattle.tab_range.specs.declared.commands.What.{What}
use Rattle.tab_range.specs.declared.commands.What.TheVariants as what
use Rattle.tab_range.specs.Commands.{key_of}
use Rattle.tab_range.specs.Outcomes.{AreOfGroup}
use Rattle.tab_range.proofs.Accepting.{accepted_is, group_inside}
use Rattle.tab_server.specs.Replays.{SpelledRange}
use Rattle.tab_server.specs.Contents.{told_of, told_ranges, TakesChange, ChangeFits, IsAcceptedChange}
use Rattle.tab_server.specs.declared.steps.RangeChange.{RangeChange}
use Rattle.tab_server.specs.declared.ranges.Marked.{Marked}
use Rattle.tab_server.proofs.RowSizes.{limit_kept}
use Rattle.tab_server.proofs.ChangeLaws.{goes_on}

-- ---- keys of changes

key_is : (change : Change) → changed_key change ≡ change_key change
key_is (Put row) = refl
key_is (Take key) = refl

inside_is : (span : Interval) (changes : List Change) → list_all (λ change. has span (changed_key change)) changes ≡ list_all (has span) (map change_key changes)
inside_is span [] = refl
inside_is span (change ∷ changes) = rw (key_is change, inside_is span changes) refl

any_is : (key : Key) (changes : List Change) → list_any (λ other. same_key (changed_key other) key) changes ≡ list_any (λ other. same_key other key) (map change_key changes)
any_is key [] = refl
any_is key (change ∷ changes) = rw (key_is change, any_is key changes) refl

-- no key stands twice
differ : List Key → Bool
differ [] = true
differ (key ∷ keys) = not (list_any (λ other. same_key other key) keys) && differ keys

differ_is : (changes : List Change) → keys_differ changes ≡ differ (map change_key changes)
unfolding keys_differ differ
differ_is [] = refl
differ_is (change ∷ changes) = rw (key_is change, any_is (change_key change) changes, differ_is changes) refl

-- ---- keys of a group

group_has : (span : Interval) (table : ℕ) (group : List ItemView) → All (λ item. IsTrue (has span (item_key table item))) group → list_all (has span) (group_keys table group) ≡ true
group_has span table [] h = refl
group_has span table (item ∷ items) h =
    rw (All-head (λ item. IsTrue (has span (item_key table item))) item items h, group_has span table items (All-tail (λ item. IsTrue (has span (item_key table item))) item items h)) refl

none_same : (table : ℕ) (item : ItemView) (items : List ItemView) → All (λ other. IsFalse (same_key (item_key table item) (item_key table other))) items
    → list_any (λ other. same_key other (item_key table item)) (group_keys table items) ≡ false
none_same table item [] h = refl
none_same table item (other ∷ items) h =
    let P : ItemView → Type 0 = λ other. IsFalse (same_key (item_key table item) (item_key table other)) in
    let apart : same_key (item_key table other) (item_key table item) ≡ false = same_key_equivalence.symm (item_key table other) (item_key table item) ∙ All-head P other items h in
    rw (apart, none_same table item items (All-tail P other items h)) refl

group_differs : (table : ℕ) (group : List ItemView) → AreApart group → differ (group_keys table group) ≡ true
unfolding differ
group_differs table [] apart = refl
group_differs table (item ∷ items) apart =
    let rest : AreApart items = AllPairs-tail (λ a b. IsFalse (is_eq (text_cmp a.rk b.rk))) item items apart in
    rw (none_same table item items (head_apart table item items apart), group_differs table items rest) refl

group_few : (group : List ItemView) → IsGroup group → length group ≤ 100
unfolding group_refusal
group_few [] is = omega arith
group_few (first ∷ items) is =
    let few : ltb most_items (length (first ∷ items)) ≡ false = limit_kept _ _ _ is.allowed in
    grind (arith, nat_tests)

-- ---- an accepted change

abbrev as_group : {T : Type 0} → Marked T → RangeChange → List ItemView → Type 0
as_group marked step group = (step.told.command.what ≡ what.Change group) × AreOfGroup step.told.command.table group step.changes

taken_by : {T : Type 0} (held : List (Marked T)) (step : RangeChange) (accepted : IsAcceptedChange held step) (group : List ItemView) → as_group accepted.marked step group → TakesChange (told_ranges held) step
taken_by held step accepted group of =
    let table : ℕ = step.told.command.table in
    let one : SpelledRange = told_of accepted.marked in
    let here : slice_get (told_ranges held) accepted.place ≡ Some one = slice_get-map told_of held accepted.place ∙ ap (option_map told_of) accepted.stands.here in
    let within : accepted.place < length (told_ranges held) = slice_get_within (told_ranges held) accepted.place one here in
    let first_in : IsTrue (has one.span (key_of table (what.Change group))) = subst (λ (asked : What). IsTrue (has one.span (key_of table asked))) of.0 accepted.inside in
    let range = accepted.marked.range in
    let due = accepted_is range.rows (applied range.rows step.changes.list) range.next_tick range.span.hi table step.told.command.what step.moment step.changes.tick accepted.due in
    record {
      one = one;
      held = subst (Contains (told_ranges held)) (get_or_from_slice_get (told_ranges held) accepted.place one one here) (Contains-get_or (told_ranges held) accepted.place one within);
      number = accepted.stands.number;
      whole = accepted.whole;
      inside = inside_is one.span step.changes.list ∙ ap (list_all (has one.span)) of.1.keys ∙ group_has one.span table group (group_inside one.span table group of.1.is_group first_in);
      apart = differ_is step.changes.list ∙ ap differ of.1.keys ∙ group_differs table group of.1.is_group.apart;
      few = omega (arith, of.1.each, group_few group of.1.is_group);
      in_time = omega (arith, due.in_time);
    }

-- a change that ranges take fits them
pub fits_taken : (ranges : List SpelledRange) (step : RangeChange) → TakesChange ranges step → ChangeFits ranges step
fits_taken ranges step t = record { takes = t; goes_on = λ frames stand. goes_on frames ranges step t stand }

-- the changes of an accepted command fit
pub fits_answer : {T : Type 0} (held : List (Marked T)) (step : RangeChange) → IsAcceptedChange held step → ChangeFits (told_ranges held) step
fits_answer held step accepted = fits_taken (told_ranges held) step (taken_by held step accepted accepted.of.0 (accepted.of.1, accepted.of.2))
