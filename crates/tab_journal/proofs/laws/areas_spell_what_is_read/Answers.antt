use Rattle.tab_codec.proofs.FrameLaws.{frame_again}
use Rattle.tab_journal.proofs.PairLaws.{one_spelled, none_spelled}
use Rattle.tab_journal.proofs.Opening.{read_spelled}
use Rattle.tab_journal.proofs.laws.areas_spell_what_is_read.Goals as goal

pub returns-clause-read : goal.returns-clause-read
returns-clause-read c = read_spelled

pub returns-clause-one : goal.returns-clause-one
returns-clause-one c = one_spelled frame_again

pub returns-clause-none : goal.returns-clause-none
returns-clause-none c = none_spelled frame_again
