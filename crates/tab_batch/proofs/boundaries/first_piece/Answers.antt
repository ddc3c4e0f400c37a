use Rattle.std.proofs.Common.{rules, ◌∙◌}
use Rattle.std.proofs.lemmas.List.{take_rest}
use Rattle.tab_batch.proofs.PieceLemmas.{begins, goes_on, parted, whole}
use Rattle.tab_batch.proofs.boundaries.first_piece.Goals as goal

pub loop-at-init : goal.loop-at-init
loop-at-init c = record { within = search rules; read = begins c.args.bytes.now }

pub returns-then-not-quoted-clause-parts : goal.returns-then-not-quoted-clause-parts
returns-then-not-quoted-clause-parts c =
    rw take_rest (rw c.if-not-quoted.true at c.loop-at.invariant.read ∙ parted c.args.bytes.now c.loop-at.at c.loop-at-test.true c.if-byte-eq59.true)

pub loop-at-preserved : goal.loop-at-preserved
loop-at-preserved c = record {
  within = search rules;
  read = rw c.turned-quoted.ensures (c.loop-at.invariant.read ∙ goes_on c.args.bytes.now c.loop-at.at c.loop-at.quoted c.loop-at-test.true (search rules));
}

pub returns-clause-parts : goal.returns-clause-parts
returns-clause-parts c = c.loop-at.invariant.read ∙ whole c.args.bytes.now c.loop-at.at c.loop-at.quoted c.loop-at-test.false c.loop-at.invariant.within
