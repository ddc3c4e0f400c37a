use Rattle.tab_filter.specs.Lexer.{is_plain}
use Rattle.tab_filter.proofs.Splits.{front_read, behind_shorter_is}
use Rattle.tab_filter.proofs.lexer.split_word.Goals as goal

pub taken-requires : goal.taken-requires
taken-requires c = behind_shorter_is is_plain c.args.text.now c.behind_word-rest.result.now c.behind_word-rest.ensures

pub returns-clause-word : goal.returns-clause-word
returns-clause-word c = front_read is_plain c.args.text.now c.taken.result.now c.behind_word-rest.result.now c.behind_word-rest.ensures c.taken.ensures
