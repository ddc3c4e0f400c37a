use Rattle.std.proofs.Common.{◌≡◌, ◌<◌, List, true, false, ◌∷◌, filter, length, subst, sym, ap, ◌∙◌, None, arith}
use Rattle.tab_keys.specs.Order.{key_lt}
use Rattle.tab_keys.specs.declared.keys.Key.{Key}
use Rattle.tab_rows.specs.Rows.{RowView}
use Rattle.tab_filter.specs.Windows.{WindowView}
use Rattle.tab_page.specs.Pages.{matches, most_looked_at}
use Rattle.tab_page.specs.Scans.{is_within, AreInOneRun}
use Rattle.tab_page.proofs.ScanLaws.{ScanSoFar, Ended, passed, looked_at_row, ended_last, run_ends, run_rest, Stepped, stepped_over, stepped_past, compared}
use Rattle.tab_page.proofs.page_rule.scan.Goals as goal
use Rattle.tab_page.proofs.page_rule.scan.Goals.{Then-lt}

ended_at : (g : _) (c : Then-lt g) → Ended (is_within c.args.start.now.table c.args.window.now) (matches c.args.options.now) c.args.options.now.top most_looked_at (filter (is_within c.args.start.now.table c.args.window.now) c.args.cursor.now) c.loop-row.found.items None c.loop-row.looked
ended_at g c =
    let start : Key = c.args.start.now in
    let all : WindowView = c.args.window.now in
    let above : key_lt start c.in-Some.row.now.key ≡ true = compared start _ c.in-Some.row.now c.lt.result true c.row.view_is c.lt.ensures c.if-lt.true in
    ended_last (is_within start.table all) (matches c.args.options.now) c.args.options.now.top most_looked_at _ c.loop-row.cursor c.loop-row.found.items c.loop-row.looked
    (ap (filter (is_within start.table all)) c.in-Some.ensures.row
    ∙ run_ends start all c.in-Some.row.now c.next.new.self (subst (AreInOneRun start all) c.in-Some.ensures.row c.loop-row.invariant.run) above (sym c.is_within.ensures ∙ c.if-not-is_within.true))
    c.loop-row.invariant.scan

pub returns-then-lt-clause-found : goal.returns-then-lt-clause-found
returns-then-lt-clause-found g c = (ended_at g c).found_all

pub returns-then-lt-clause-rest : goal.returns-then-lt-clause-rest
returns-then-lt-clause-rest g c = (ended_at g c).rest_all

pub loop-row-preserved-then-not-is_within : goal.loop-row-preserved-then-not-is_within
loop-row-preserved-then-not-is_within g c =
    let start : Key = c.args.start.now in
    let all : WindowView = c.args.window.now in
    let run : AreInOneRun start all (c.in-Some.row.now ∷ c.next.new.self) = subst (AreInOneRun start all) c.in-Some.ensures.row c.loop-row.invariant.run in
    let low : key_lt start c.in-Some.row.now.key ≡ false = compared start _ c.in-Some.row.now c.lt.result false c.row.view_is c.lt.ensures c.if-lt.false in
    record {
      run = run_rest start all c.in-Some.row.now c.next.new.self run;
      scan = passed (is_within start.table all) (matches c.args.options.now) c.args.options.now.top most_looked_at _ c.next.new.self c.loop-row.found.items c.loop-row.looked c.in-Some.row.now (sym c.is_within.ensures ∙ c.if-not-is_within.true)
          (subst (λ (rows : List RowView). ScanSoFar (is_within start.table all) (matches c.args.options.now) c.args.options.now.top most_looked_at (filter (is_within start.table all) c.args.cursor.now) rows c.loop-row.found.items c.loop-row.looked) c.in-Some.ensures.row c.loop-row.invariant.scan);
      steps = stepped_past start all c.in-Some.row.now c.next.new.self _ c.loop-row.steps c.next.new.steps c.loop-row.looked c.in-Some.ensures.counted low run
          (subst (λ (rows : List RowView). Stepped start all rows c.args.steps.now c.loop-row.steps c.loop-row.looked) c.in-Some.ensures.row c.loop-row.invariant.steps);
    }

pub loop-row-preserved : goal.loop-row-preserved
loop-row-preserved g c =
    let start : Key = c.args.start.now in
    let all : WindowView = c.args.window.now in
    let run : AreInOneRun start all (c.in-Some.row.now ∷ c.next.new.self) = subst (AreInOneRun start all) c.in-Some.ensures.row c.loop-row.invariant.run in
    let scan = subst (λ (rows : List RowView). ScanSoFar (is_within start.table all) (matches c.args.options.now) c.args.options.now.top most_looked_at (filter (is_within start.table all) c.args.cursor.now) rows c.loop-row.found.items c.loop-row.looked) c.in-Some.ensures.row c.loop-row.invariant.scan in
    let few = c.loop-row.invariant.scan.few in
    let some : c.loop-row.looked < most_looked_at = omega (arith, c.if-looked-eq-MOST_LOOKED_AT.false) in
    let room : length c.loop-row.found.items < c.args.options.now.top = omega (arith, c.if-len-top.false, c.len.ensures, c.from-top.ensures, c.loop-row.found.ok) in
    record {
      run = run_rest start all c.in-Some.row.now c.next.new.self run;
      scan = looked_at_row (is_within start.table all) (matches c.args.options.now) c.args.options.now.top most_looked_at _ c.next.new.self c.loop-row.found.items c.add_match.new.found.items c.loop-row.looked c.in-Some.row.now (sym c.is_within.ensures ∙ c.if-not-is_within.false) some room c.in_ok-add_match.ensures scan;
      steps = stepped_over start all c.in-Some.row.now c.next.new.self _ c.loop-row.steps c.next.new.steps c.loop-row.looked c.in-Some.ensures.counted run
          (subst (λ (rows : List RowView). Stepped start all rows c.args.steps.now c.loop-row.steps c.loop-row.looked) c.in-Some.ensures.row c.loop-row.invariant.steps);
    }
