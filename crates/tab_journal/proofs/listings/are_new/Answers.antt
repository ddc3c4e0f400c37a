use Rattle.std.proofs.Common.{ℕ, true, cond, List, sym, ap, ◌∙◌}
use Rattle.std.specs.BTreeSet.{contains}
use Rattle.std.specs.Ordering.{is_eq}
use Rattle.tab_keys.specs.Order.{name_cmp}
use Rattle.tab_journal.proofs.Names.{added_so, not_added_so, listed_none, listed_more, listed_all, has_more}
use Rattle.tab_journal.proofs.listings.are_new.Goals as goal

pub returns-then-not-branch : goal.returns-then-not-branch
returns-then-not-branch c =
    let so = c.loop-name-2 in
    let name = c.name-item-in-loop-name-2.result in
    let key = c.in_ok-try_copy-2.field-0 in
    let held = not_added_so c.in_ok-insert.field-0 (contains name_cmp so.taken key) c.in_ok-insert.ensures.added c.if-not-branch.true in
    listed_none c.args.before.now c.args.names.now so.name-index name c.loop-name-2-test.true c.name-item-in-loop-name-2.is so.invariant.rest
    (sym (so.invariant.taken name.1) ∙ ap (contains name_cmp so.taken) (sym c.in_ok-try_copy-2.ensures) ∙ held)

pub loop-name-2-preserved : goal.loop-name-2-preserved
loop-name-2-preserved c =
    let so = c.loop-name-2 in
    let name = c.name-item-in-loop-name-2.result in
    let key = c.in_ok-try_copy-2.field-0 in
    let held = added_so c.in_ok-insert.field-0 (contains name_cmp so.taken key) c.in_ok-insert.ensures.added c.if-not-branch.false in
    let new = contains name_cmp c.insert-in-loop-name-2.new.self in
    record {
      taken = has_more c.args.before.now c.args.names.now so.name-index name (contains name_cmp so.taken) new c.loop-name-2-test.true c.name-item-in-loop-name-2.is so.invariant.taken
          (λ other. c.in_ok-insert.ensures.updates.0 other ∙ ap (λ (k : List ℕ). cond (is_eq (name_cmp k other)) true (contains name_cmp so.taken other)) c.in_ok-try_copy-2.ensures);
      rest = listed_more c.args.before.now c.args.names.now so.name-index name c.loop-name-2-test.true c.name-item-in-loop-name-2.is so.invariant.rest
          (sym (so.invariant.taken name.1) ∙ ap (contains name_cmp so.taken) (sym c.in_ok-try_copy-2.ensures) ∙ held);
    }

pub returns : goal.returns
returns c = listed_all c.args.before.now c.args.names.now c.loop-name-2.name-index c.loop-name-2-test.false c.loop-name-2.invariant.rest
