use Rattle.tab_server.proofs.ActCalls.{key_inside}
use Rattle.tab_server.proofs.ranges.Ranges.decide.Goals as goal

pub answer-requires : goal.answer-requires
answer-requires g c = key_inside c.args.self.now c.args.range c.args.command.now c.requires.0 c.in-Some.marked.now c.requires.1 c.in-Some.ensures
