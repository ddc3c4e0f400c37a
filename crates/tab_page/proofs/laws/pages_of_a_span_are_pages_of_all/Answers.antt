use Rattle.tab_page.proofs.SpanLaws.{page_of-in, looked_at-in}
use Rattle.tab_page.proofs.laws.pages_of_a_span_are_pages_of_all.Goals as goal

pub returns-clause-page : goal.returns-clause-page
returns-clause-page c = page_of-in

pub returns-clause-looked_at : goal.returns-clause-looked_at
returns-clause-looked_at c = looked_at-in
