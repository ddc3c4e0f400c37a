use Rattle.std.proofs.Common.{◌≡◌, ◌≤◌, ◌+◌, ◌∙◌, filter}
use Rattle.std.specs.Option.{option_copied}
use Rattle.tab_page.specs.Pages.{listed, looked_at}
use Rattle.tab_page.specs.Scans.{is_within}
use Rattle.tab_page.proofs.RowRuns.{opened, all_listed, all_in_one_run, page_is, steps_are}
use Rattle.tab_page.proofs.page_rule.page.Goals as goal
use Rattle.tab_page.proofs.page_rule.page.Goals.{After-scan}

pub scan-requires : goal.scan-requires
scan-requires g c =
    all_in_one_run c.args.rows.now.rows c.rows_at-cursor.result c.args.table c.args.options.now c.in_ok-start.start c.in_ok-window.window
    (opened c.args.table c.args.options.now c.in_ok-start.start c.in_ok-window.window c.in_ok-window.ensures c.in_ok-start.ensures)
    c.rows_at-cursor.ensures.rising c.rows_at-cursor.ensures.rows

scanned : (g : _) (c : After-scan g) → filter (is_within c.in_ok-start.start.table c.in_ok-window.window) c.rows_at-cursor.result ≡ listed c.args.rows.now.rows c.args.table c.args.options.now c.args.span.now.hi
scanned g c =
    all_listed c.args.rows.now.rows c.rows_at-cursor.result c.args.table c.args.options.now c.args.span.now c.in_ok-start.start c.in_ok-window.window
    (opened c.args.table c.args.options.now c.in_ok-start.start c.in_ok-window.window c.in_ok-window.ensures c.in_ok-start.ensures)
    c.requires.inside c.rows_at-cursor.ensures.rows

few_steps : (g : _) (c : After-scan g) → c.scan.new.steps ≤ c.args.steps.now + looked_at c.args.rows.now.rows c.args.table c.args.options.now c.args.span.now.hi + 2
few_steps g c = steps_are c.args.rows.now.rows c.args.table c.args.options.now c.args.span.now.hi _ c.args.steps.now c.scan.new.steps (scanned g c) c.scan.ensures.steps

pub returns-in_err-matches-clause-steps : goal.returns-in_err-matches-clause-steps
returns-in_err-matches-clause-steps g c = few_steps g (goal.at.returns-in_err-matches-clause-steps g c).After-scan

pub returns-in_err-next_of-clause-steps : goal.returns-in_err-next_of-clause-steps
returns-in_err-next_of-clause-steps g c = few_steps g (goal.at.returns-in_err-next_of-clause-steps g c).After-scan

pub returns-in_err-try_copy-clause-steps : goal.returns-in_err-try_copy-clause-steps
returns-in_err-try_copy-clause-steps g c = few_steps g (goal.at.returns-in_err-try_copy-clause-steps g c).After-scan

pub returns-clause-steps : goal.returns-clause-steps
returns-clause-steps g c = few_steps g (goal.at.returns-clause-steps g c).After-scan

pub returns-clause-page : goal.returns-clause-page
returns-clause-page g c =
    page_is c.args.rows.now.rows c.args.table c.args.options.now c.args.span.now.hi c.hi.result.now c.in_ok-try_copy.field-0 _ c.new.result c.in_ok-matches.matches.items (option_copied c.in_ok-matches.rest) c.in_ok-window.window c.in_ok-next_of.field-0
    (scanned g (goal.at.returns-clause-page g c).After-scan) c.in_ok-matches.ensures.found c.in_ok-matches.ensures.rest c.in_ok-window.ensures c.in_ok-next_of.ensures c.hi.ensures.bound (c.in_ok-try_copy.ensures ∙ c.hi-2.ensures.bound) c.new.ensures
