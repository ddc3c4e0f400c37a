use Rattle.tab_history.proofs.ExampleLaws.{example_world, example_legal, example_followed}
use Rattle.tab_history.proofs.laws.a_followed_query.Goals as goal

pub returns-clause-world : goal.returns-clause-world
returns-clause-world c = example_world

pub returns-clause-legal : goal.returns-clause-legal
returns-clause-legal c = example_legal

pub returns-clause-followed : goal.returns-clause-followed
returns-clause-followed c = example_followed
