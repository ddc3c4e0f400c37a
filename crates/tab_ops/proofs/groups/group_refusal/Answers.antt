use Rattle.std.proofs.Common.{◌∙◌, sym}
use Rattle.tab_ops.proofs.GroupLemmas.{refusal_none, refusal_many, refusal_first, refusal_last}
use Rattle.tab_ops.proofs.groups.group_refusal.Goals as goal

pub returns-in_default-clause-refusal : goal.returns-in_default-clause-refusal
returns-in_default-clause-refusal c = sym (refusal_none c.args.items.now (sym c.in_default.ensures.value))

pub returns-then-items-gt-MOST_ITEMS-clause-refusal : goal.returns-then-items-gt-MOST_ITEMS-clause-refusal
returns-then-items-gt-MOST_ITEMS-clause-refusal c = sym (refusal_many c.args.items.now c.if-items-gt-MOST_ITEMS.true)

pub returns-in-Some-first_elsewhere-clause-refusal : goal.returns-in-Some-first_elsewhere-clause-refusal
returns-in-Some-first_elsewhere-clause-refusal c =
    sym (refusal_first c.args.items.now c.in-Some.first.now c.in-Some-first_elsewhere.why (sym c.in-Some.ensures.value) c.if-items-gt-MOST_ITEMS.false (sym c.first_elsewhere.ensures ∙ c.in-Some-first_elsewhere.is))

pub returns-in-None-clause-refusal : goal.returns-in-None-clause-refusal
returns-in-None-clause-refusal c =
    c.first_doubled.ensures.refusal
    ∙ sym (refusal_last c.args.items.now c.in-Some.first.now (sym c.in-Some.ensures.value) c.if-items-gt-MOST_ITEMS.false (sym c.first_elsewhere.ensures ∙ c.in-None.is))
