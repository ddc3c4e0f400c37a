use Rattle.std.proofs.Common.{◌≡◌, length}
use Rattle.tab_filter.specs.Lexer.{behind, is_plain}
use Rattle.tab_filter.proofs.lexer.behind_word.Given as goal

abbrev pub invariant-loop-text : goal.invariant-loop-text
invariant-loop-text l = behind is_plain l.text ≡ behind is_plain l.fn.text

abbrev pub decreases-loop-text : goal.decreases-loop-text
decreases-loop-text l = length l.text
