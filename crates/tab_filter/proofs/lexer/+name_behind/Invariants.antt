use Rattle.tab_filter.proofs.lexer.+name_behind.Given as goal

abbrev pub decreases-name_behind : goal.decreases-name_behind
decreases-name_behind l = l.room
