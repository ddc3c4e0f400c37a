use Rattle.tab_cases.proofs.Everywhere.{has_all, all_has}
use Rattle.tab_cases.proofs.pages.counted_page.Goals as goal

pub page-requires-clause-start : goal.page-requires-clause-start
page-requires-clause-start g c = has_all _ _ c.requires.all

pub page-requires-clause-inside : goal.page-requires-clause-inside
page-requires-clause-inside g c = all_has _ _ c.requires.all
