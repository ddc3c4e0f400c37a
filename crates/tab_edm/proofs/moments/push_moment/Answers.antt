use Rattle.tab_edm.proofs.AsciiMoments.{utf8_moment}
use Rattle.tab_edm.proofs.moments.push_moment.Goals as goal

pub from_utf8_unchecked-requires : goal.from_utf8_unchecked-requires
from_utf8_unchecked-requires c = rw c.moment_bytes-moment.ensures (utf8_moment c.args.tick)
