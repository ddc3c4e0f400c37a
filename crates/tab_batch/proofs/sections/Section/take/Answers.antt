use Rattle.std.proofs.Common.{arith}
use Rattle.tab_batch.proofs.SectionLemmas.{later}
use Rattle.tab_batch.proofs.sections.Section.take.Goals as goal

pub returns-clause-below : goal.returns-clause-below
returns-clause-below c = record {
  ranges = later c.args.line.start c.args.line.next c.end_request.new.self.ranges.items (omega (arith, c.requires.inside)) (c.in_ok-end_request.ensures.below c.args.line.start c.requires.below).ranges;
  state = c.behind-self.ensures.below;
}
