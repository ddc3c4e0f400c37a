use Rattle.std.proofs.Common.{filter, length}
use Rattle.tab_page.specs.Pages.{matches, most_looked_at}
use Rattle.tab_page.specs.Scans.{is_within, AreInOneRun}
use Rattle.tab_page.proofs.ScanLaws.{ScanSoFar, Stepped}
use Rattle.tab_page.proofs.page_rule.scan.Given as goal

abbrev pub invariant-loop-row : goal.invariant-loop-row
invariant-loop-row g l = record {
  run : AreInOneRun l.start l.window l.cursor;
  scan : ScanSoFar (is_within l.start.table l.window) (matches l.options) l.options.top most_looked_at (filter (is_within l.start.table l.window) l.initial.cursor) l.cursor l.found.items l.looked;
  steps : Stepped l.start l.window l.cursor l.initial.steps l.steps l.looked;
}

abbrev pub decreases-loop-row : goal.decreases-loop-row
decreases-loop-row g l = length l.cursor
