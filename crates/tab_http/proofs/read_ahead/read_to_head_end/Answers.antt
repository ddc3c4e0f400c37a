use Rattle.std.proofs.Common.{rules, inl, inr, sym, ◌∙◌, subst, arith}
use Rattle.tab_http.proofs.Exits.{passed_on}
use Rattle.tab_http.proofs.ReadingLemmas.{gathered_more, state_read, state_kept, open_at, read_refused}
use Rattle.tab_http.proofs.read_ahead.read_to_head_end.Goals as goal
use Rattle.tab_http.proofs.read_ahead.read_to_head_end.Goals.{then-is_ended-via-then-is_ended, then-is_ended-via-else-is_ended+then-seen-ge-LONGEST_HEAD}
use Rattle.tab_http.specs.Messages.{IsOpen}
use Rattle.tab_http.specs.Reading.{ReadRefused}

pub returns-then-is_ended-clause-reached : goal.returns-then-is_ended-clause-reached
returns-then-is_ended-clause-reached g c =
    let here = state_read c.loop-piece.carry.items c.deref.result.now c.loop-piece.seen c.loop-piece.state c.after-state.result c.deref.ensures.value c.loop-piece.invariant.state c.after-state.ensures in
    elim c.then-is_ended.branch [
      | then-is_ended-via-then-is_ended w ↦ inl (sym here ∙ c.is_ended.ensures.0 w.if-is_ended.true)
      | then-is_ended-via-else-is_ended+then-seen-ge-LONGEST_HEAD w ↦ inr (search rules)
    ]

pub returns-in_err-read_more-clause-gathered : goal.returns-in_err-read_more-clause-gathered
returns-in_err-read_more-clause-gathered g c =
    let here = state_read c.loop-piece.carry.items c.deref.result.now c.loop-piece.seen c.loop-piece.state c.after-state.result c.deref.ensures.value c.loop-piece.invariant.state c.after-state.ensures in
    gathered_more _ _ _ _ c.loop-piece.carry.items _ c.loop-piece.invariant.gathered (open_at c.loop-piece.carry.items c.after-state.result c.is_ended.result here c.is_ended.ensures c.if-is_ended.false (search rules)) c.read_more.ensures.moved (omega (arith, c.read_more.ensures.little))

pub returns-in_err-read_more-clause-refused : goal.returns-in_err-read_more-clause-refused
returns-in_err-read_more-clause-refused g c =
    let here = state_read c.loop-piece.carry.items c.deref.result.now c.loop-piece.seen c.loop-piece.state c.after-state.result c.deref.ensures.value c.loop-piece.invariant.state c.after-state.ensures in
    passed_on (ReadRefused c.read_more.new.carry.items) _ c.in_err-read_more.field-0.0 c.from_residual.ensures.1 (read_refused _ _ c.in_err-read_more.ensures.refused (subst IsOpen (sym c.in_err-read_more.ensures.kept) (open_at c.loop-piece.carry.items c.after-state.result c.is_ended.result here c.is_ended.ensures c.if-is_ended.false (search rules))))

pub returns-then-not-branch-clause-gathered : goal.returns-then-not-branch-clause-gathered
returns-then-not-branch-clause-gathered g c =
    let here = state_read c.loop-piece.carry.items c.deref.result.now c.loop-piece.seen c.loop-piece.state c.after-state.result c.deref.ensures.value c.loop-piece.invariant.state c.after-state.ensures in
    gathered_more _ _ _ _ c.loop-piece.carry.items _ c.loop-piece.invariant.gathered (open_at c.loop-piece.carry.items c.after-state.result c.is_ended.result here c.is_ended.ensures c.if-is_ended.false (search rules)) c.read_more.ensures.moved (omega (arith, c.read_more.ensures.little))

pub loop-piece-preserved : goal.loop-piece-preserved
loop-piece-preserved g c =
    let here = state_read c.loop-piece.carry.items c.deref.result.now c.loop-piece.seen c.loop-piece.state c.after-state.result c.deref.ensures.value c.loop-piece.invariant.state c.after-state.ensures in
    record {
      gathered = gathered_more _ _ _ _ c.loop-piece.carry.items _ c.loop-piece.invariant.gathered (open_at c.loop-piece.carry.items c.after-state.result c.is_ended.result here c.is_ended.ensures c.if-is_ended.false (search rules)) c.read_more.ensures.moved (omega (arith, c.read_more.ensures.little));
      seen = search rules;
      state = state_kept _ _ c.loop-piece.carry.items _ c.len-seen.result c.after-state.result (search rules) here c.read_more.ensures.moved;
      later = omega (arith, c.loop-piece.invariant.later, c.read_more.ensures.later);
      beside = c.read_more.ensures.beside ∙ c.loop-piece.invariant.beside;
    }
