use Rattle.std.proofs.Common.{sym, subst}
use Rattle.tab_http.proofs.Exits.{passed_on}
use Rattle.tab_http.proofs.ReadingLemmas.{head_unread, gathered_on, never_later, still_none, refused_headless}
use Rattle.tab_http.proofs.reading.read_head.Goals as goal
use Rattle.tab_http.specs.Heads.{HasNoHead}
use Rattle.tab_http.specs.Reading.{HeadRefused}

pub returns-in_err-ended-clause-refused : goal.returns-in_err-ended-clause-refused
returns-in_err-ended-clause-refused g c =
    passed_on (HeadRefused (g.S.Source.left c.read_to_head_end.new.source) c.read_to_head_end.new.carry.items) _ c.in_err-ended.field-0.0 c.from_residual-in_err-ended.ensures.1 (head_unread _ _ _ c.in_err-ended.ensures.refused)

pub read_to_limit-requires : goal.read_to_limit-requires
read_to_limit-requires g c =
    let no_head = rw c.in_default-2.is at c.in_ok-head-2.ensures in
    let reached = rw c.if-ended.false at c.in_ok-ended.ensures.reached in
    never_later c.read_to_head_end.new.carry.items (subst HasNoHead c.deref-2.ensures.value no_head) reached

pub returns-in_err-read_to_limit-clause-gathered : goal.returns-in_err-read_to_limit-clause-gathered
returns-in_err-read_to_limit-clause-gathered g c = gathered_on _ _ _ _ c.read_to_head_end.new.carry.items _ c.read_to_head_end.ensures.gathered c.read_to_limit.ensures.gathered

pub headless_refusal-requires-2 : goal.headless_refusal-requires-2
headless_refusal-requires-2 g c =
    let no_head = rw c.in_default-2.is at c.in_ok-head-2.ensures in
    let reached = rw c.if-ended.false at c.in_ok-ended.ensures.reached in
    let never = never_later c.read_to_head_end.new.carry.items (subst HasNoHead c.deref-2.ensures.value no_head) reached in
    subst HasNoHead (sym c.deref-3.ensures.value) (still_none _ _ _ _ never c.read_to_limit.ensures.gathered)

pub returns-clause-gathered : goal.returns-clause-gathered
returns-clause-gathered g c = gathered_on _ _ _ _ c.read_to_head_end.new.carry.items _ c.read_to_head_end.ensures.gathered c.read_to_limit.ensures.gathered

pub returns-clause-refused : goal.returns-clause-refused
returns-clause-refused g c =
    let no_head = rw c.in_default-2.is at c.in_ok-head-2.ensures in
    let reached = rw c.if-ended.false at c.in_ok-ended.ensures.reached in
    let never = never_later c.read_to_head_end.new.carry.items (subst HasNoHead c.deref-2.ensures.value no_head) reached in
    refused_headless _ c.deref-3.result.now c.read_to_limit.new.carry.items c.headless_refusal-2.result c.deref-3.ensures.value (still_none _ _ _ _ never c.read_to_limit.ensures.gathered)
    c.headless_refusal-2.ensures.cause c.headless_refusal-2.ensures.parsed c.in_ok-read_to_limit.ensures.reached
