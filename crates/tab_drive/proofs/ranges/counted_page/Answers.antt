use Rattle.tab_drive.proofs.RangeLemmas.{has_key, has_rows}
use Rattle.tab_drive.proofs.ranges.counted_page.Goals as goal

pub page-requires-clause-start : goal.page-requires-clause-start
page-requires-clause-start g c = has_key c.args.keys.now _ c.requires.all

pub page-requires-clause-inside : goal.page-requires-clause-inside
page-requires-clause-inside g c = has_rows c.args.keys.now c.args.rows.now.rows c.requires.all
