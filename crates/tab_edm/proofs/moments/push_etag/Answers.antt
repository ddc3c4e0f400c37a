use Rattle.tab_edm.proofs.AsciiMoments.{utf8_etag}
use Rattle.tab_edm.proofs.moments.push_etag.Goals as goal

pub from_utf8_unchecked-requires : goal.from_utf8_unchecked-requires
from_utf8_unchecked-requires c = rw c.etag_bytes-etag.ensures (utf8_etag c.args.tick)
