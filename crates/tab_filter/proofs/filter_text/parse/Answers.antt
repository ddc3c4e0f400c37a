use Rattle.std.specs.Prelude.{chars}
use Rattle.tab_filter.proofs.FilterLaws.{answers_spelled, answers_only, answers_refused}
use Rattle.tab_filter.proofs.filter_text.parse.Goals as goal

pub returns-clause-spelled : goal.returns-clause-spelled
returns-clause-spelled c =
    answers_spelled c.args.text.now (chars c.args.text.now) c.parse_characters.result c.parse_characters.ensures.exact

pub returns-clause-only : goal.returns-clause-only
returns-clause-only c =
    answers_only c.args.text.now (chars c.args.text.now) c.parse_characters.result c.parse_characters.ensures.exact

pub returns-clause-refused : goal.returns-clause-refused
returns-clause-refused c =
    answers_refused c.args.text.now c.parse_characters.result c.parse_characters.ensures.utf8 c.parse_characters.ensures.exact
