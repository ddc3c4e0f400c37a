use Rattle.tab_filter.specs.Lexer.{is_unquoted}
use Rattle.tab_filter.proofs.Splits.{front_read, behind_shorter_is}
use Rattle.tab_filter.proofs.lexer.split_unquoted.Goals as goal

pub taken-requires : goal.taken-requires
taken-requires c = behind_shorter_is is_unquoted c.args.text.now c.behind_unquoted-rest.result.now c.behind_unquoted-rest.ensures

pub returns-clause-inside : goal.returns-clause-inside
returns-clause-inside c = front_read is_unquoted c.args.text.now c.taken.result.now c.behind_unquoted-rest.result.now c.behind_unquoted-rest.ensures c.taken.ensures
