use Rattle.std.proofs.Common.{ap, ◌∙◌, List, ℕ}
use Rattle.tab_filter.specs.Lexer.{name_behind}
use Rattle.tab_filter.proofs.Splits.{name_read, name_shorter_is}
use Rattle.tab_filter.proofs.lexer.split_name.Goals as goal

pub taken-requires : goal.taken-requires
taken-requires c =
    name_shorter_is c.args.text.now c.name_behind-rest.result.now (c.name_behind-rest.ensures ∙ ap (λ (l : List ℕ). name_behind 254 l) c.past_first.ensures)

pub returns-clause-name : goal.returns-clause-name
returns-clause-name c =
    name_read c.args.text.now c.taken.result.now c.name_behind-rest.result.now (c.name_behind-rest.ensures ∙ ap (λ (l : List ℕ). name_behind 254 l) c.past_first.ensures) c.taken.ensures
