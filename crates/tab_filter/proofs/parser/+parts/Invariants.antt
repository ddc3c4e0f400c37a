use Rattle.std.proofs.Common.{◌+◌, ◌*◌}
use Rattle.tab_filter.proofs.parser.+parts.Given as goal

abbrev pub decreases-group : goal.decreases-group
decreases-group l = 40 * l.depth

abbrev pub decreases-negation : goal.decreases-negation
decreases-negation l = 40 * l.depth

abbrev pub decreases-part : goal.decreases-part
decreases-part l = 40 * l.depth + 1

abbrev pub decreases-second : goal.decreases-second
decreases-second l = 40 * l.depth + 1

abbrev pub decreases-all : goal.decreases-all
decreases-all l = 40 * l.depth + l.room + 2

abbrev pub decreases-any : goal.decreases-any
decreases-any l = 40 * l.depth + l.room + 20

abbrev pub decreases-grouped : goal.decreases-grouped
decreases-grouped l = 40 * l.depth + 37
