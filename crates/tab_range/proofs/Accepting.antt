-- Changes that are accepted, and where the rows lie that they leave.
use Rattle.std.proofs.Common.{◌≡◌, ℕ, ◌≤◌, List, [], ◌∷◌, Bool, true, false, cond, max, refl, sym, ap, ◌∙◌, subst, arith}
use Rattle.std.proofs.lemmas.List.Elements.{All-cons, All-weaker}
use Rattle.std.proofs.lemmas.Bool.Decides.{nat_tests}
use Rattle.std.specs.Prelude.{slice_get, Some, None, Result, Ok, Err, All, IsTrue, nat_lt}
use Rattle.std.specs.Ordering.{is_lt, nat_cmp, ordering_then}
use Rattle.tab_keys.specs.Order.{text_cmp, is_before}
use Rattle.tab_keys.specs.Spans.{Interval, has}
use Rattle.tab_keys.specs.declared.keys.Key.{Key}
use Rattle.tab_keys.specs.declared.bounds.Bound.{Bound}
use Rattle.tab_keys.specs.declared.bounds.Bound.TheVariants.{At, End}
use Rattle.tab_keys.proofs.OrderLaws.{is_before_At}
use Rattle.tab_edm.specs.Entities.{EntityView}
use Rattle.tab_edm.specs.declared.TheConstants.{GREATEST}
use Rattle.tab_rows.specs.Rows.{RowView, row_at}
use Rattle.tab_page.specs.Pages.{page_below}
use Rattle.tab_ops.specs.Groups.{ItemView, IsGroup, item_key, group_refusal}
use Rattle.tab_ops.specs.Changes.{group_outcome}
use Rattle.tab_ops.specs.declared.groups.OpRefused.{OpRefused}
use Rattle.tab_ops.specs.declared.groups.GroupRefused.TheVariants.{Empty}
use Rattle.tab_ops.proofs.GroupLaws.{All-rows_after, in_one_partition}
use Rattle.tab_history.specs.declared.asks.Reply.{Reply}
use Rattle.tab_history.specs.declared.asks.Reply.TheVariants as reply
use Rattle.tab_history.specs.declared.entries.Denied.{Denied}
use Rattle.tab_history.specs.declared.entries.Denied.TheVariants as denied
use Rattle.tab_range.specs.declared.commands.What.{What}
use Rattle.tab_range.specs.declared.commands.What.TheVariants as what
use Rattle.tab_range.specs.Commands.{first_key, key_of}
use Rattle.tab_range.specs.Outcomes.{Outcome, found_or_not, unchanged, accepted, group_answered, group_with_tick, outcome_of, HasGroup}
use Rattle.tab_range.specs.Ranges.{LieIn}

-- a command that is a change of a group, with the tick that the rule gives it
pub record IsAccepted (rows : List RowView) (next_tick table : ℕ) (asked : What) (now tick : ℕ) (after : List RowView) : Type 0 where
  pub group : List ItemView
  pub is : asked ≡ what.Change group
  pub tick_is : max now next_tick ≡ tick
  pub in_time : tick ≤ GREATEST
  pub outcome : group_outcome rows table tick group ≡ Ok after

unchanged_not : {X : Type 0} (rows after : List RowView) (next_tick tick : ℕ) (answer : Result Reply Denied) → unchanged rows next_tick answer ≡ accepted tick after → X
unchanged_not rows after next_tick tick answer e = let stuck : None ≡ Some tick = ap (λ (o : Outcome). o.tick) e in absurd (cc)

accepted_group : (rows after : List RowView) (next_tick table now tick : ℕ) (group : List ItemView)
    → group_with_tick rows next_tick table group (max now next_tick) ≡ accepted tick after → IsAccepted rows next_tick table (what.Change group) now tick after
accepted_group rows after next_tick table now tick group h = by_time (nat_lt GREATEST (max now next_tick)) refl
  where
    due : ℕ
    due = max now next_tick

    with_outcome : due ≤ GREATEST → (r : Result (List RowView) OpRefused) → group_outcome rows table due group ≡ r → group_answered rows next_tick due r ≡ accepted tick after
        → IsAccepted rows next_tick table (what.Change group) now tick after
    with_outcome in_time (Ok found) e k =
        let some : Some due ≡ Some tick = ap (λ (o : Outcome). o.tick) k in
        let same : due ≡ tick = cc in
        let P : ℕ → Type 0 = λ n. group_outcome rows table n group ≡ Ok after in
        record {
          group = group;
          is = refl;
          tick_is = same;
          in_time = subst (λ (n : ℕ). n ≤ GREATEST) same in_time;
          outcome = subst P same (e ∙ ap Ok (ap (λ (o : Outcome). o.rows) k));
        }
    with_outcome in_time (Err why) e k = unchanged_not rows after next_tick tick (Err (denied.Op why)) k

    at_time : Bool → Outcome
    at_time b = cond b (unchanged rows next_tick (Err denied.TimeSpent)) (group_answered rows next_tick due (group_outcome rows table due group))

    by_time : (b : Bool) → nat_lt GREATEST due ≡ b → IsAccepted rows next_tick table (what.Change group) now tick after
    by_time true e = unchanged_not rows after next_tick tick (Err denied.TimeSpent) (ap at_time (sym e) ∙ h)
    by_time false e = with_outcome (grind (arith, nat_tests)) (group_outcome rows table due group) refl (ap at_time (sym e) ∙ h)

pub accepted_is : (rows after : List RowView) (next_tick : ℕ) (hi : Bound) (table : ℕ) (asked : What) (now tick : ℕ)
    → outcome_of rows next_tick hi table asked now ≡ accepted tick after → IsAccepted rows next_tick table asked now tick after
accepted_is rows after next_tick hi table (what.Get pk rk) now tick e = unchanged_not rows after next_tick tick (found_or_not (row_at rows (record { table = table; pk = pk; rk = rk }))) e
accepted_is rows after next_tick hi table (what.Page options) now tick e = unchanged_not rows after next_tick tick (Ok (reply.Listed (page_below rows table options hi))) e
accepted_is rows after next_tick hi table (what.Change group) now tick e = accepted_group rows after next_tick table now tick group e

-- a group has a first operation
pub has_first : (group : List ItemView) → IsGroup group → slice_get group 0 ≡ None → ⊥
unfolding group_refusal
has_first [] is e = let stuck : Some Empty ≡ None = is.allowed in cc
has_first (item ∷ items) is e = cc

-- ---- where rows lie

is_before_partition : (a b : Key) (bound : Bound) → a.table ≡ b.table → a.pk ≡ b.pk → is_before a bound ≡ is_before b bound
is_before_partition a b (At table pk) e f =
    is_before_At a table pk
    ∙ (ap (λ (number : ℕ). is_lt (ordering_then (nat_cmp number table) (text_cmp a.pk pk))) e
    ∙ (ap (λ (text : List ℕ). is_lt (ordering_then (nat_cmp b.table table) (text_cmp text pk))) f ∙ sym (is_before_At b table pk)))
is_before_partition a b End e f = refl

has_partition : (span : Interval) (a b : Key) → a.table ≡ b.table → a.pk ≡ b.pk → has span a ≡ has span b
has_partition span a b e f = rw (is_before_partition a b span.lo e f, is_before_partition a b span.hi e f) refl

-- a span that has the key of a group's first operation has the keys of all
pub group_inside : (span : Interval) (table : ℕ) (group : List ItemView) → IsGroup group → IsTrue (has span (first_key table group)) → All (λ item. IsTrue (has span (item_key table item))) group
group_inside span table [] is inside = λ k d within. absurd (omega arith)
group_inside span table (first ∷ items) is inside =
    All-cons (λ item. IsTrue (has span (item_key table item))) first items inside
    (All-weaker (λ (item : ItemView). item.pk ≡ first.pk) (λ item. IsTrue (has span (item_key table item)))
    (λ item e. has_partition span (item_key table item) (item_key table first) refl e ∙ inside) items (in_one_partition first items is.allowed))

-- the rows that an accepted change leaves lie in the span in which the rows before it lay
pub stays_inside : (span : Interval) (rows after : List RowView) (next_tick table : ℕ) (asked : What) (now tick : ℕ) → HasGroup asked → IsTrue (has span (key_of table asked)) → LieIn span rows
    → IsAccepted rows next_tick table asked now tick after → LieIn span after
stays_inside span rows after next_tick table asked now tick has_group inside lie change =
    All-rows_after (λ row. IsTrue (has span row.key)) 0 rows table tick change.group after lie
    (All-weaker (λ item. IsTrue (has span (item_key table item))) (λ item. (entity : EntityView) → IsTrue (has span (item_key table item)))
    (λ item h entity. h) change.group (group_inside span table change.group (subst HasGroup change.is has_group)
    (subst (λ (asked : What). IsTrue (has span (key_of table asked))) change.is inside)))
    change.outcome
