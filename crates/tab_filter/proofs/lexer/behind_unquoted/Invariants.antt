use Rattle.std.proofs.Common.{◌≡◌, length}
use Rattle.tab_filter.specs.Lexer.{behind, is_unquoted}
use Rattle.tab_filter.proofs.lexer.behind_unquoted.Given as goal

abbrev pub invariant-loop-text : goal.invariant-loop-text
invariant-loop-text l = behind is_unquoted l.text ≡ behind is_unquoted l.fn.text

abbrev pub decreases-loop-text : goal.decreases-loop-text
decreases-loop-text l = length l.text
