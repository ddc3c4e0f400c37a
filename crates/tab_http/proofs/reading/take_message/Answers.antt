use Rattle.std.proofs.Common.{sym}
use Rattle.tab_http.proofs.Exits.{passed_on, passed_other}
use Rattle.tab_http.proofs.MessageLemmas.{size_refused}
use Rattle.tab_http.proofs.TakenLemmas.{refuses_head, refuses_size, refuses_body, took_message, size_said, no_fault}
use Rattle.tab_http.proofs.reading.take_message.Goals as goal
use Rattle.tab_http.specs.Reading.{Refuses}

pub returns-in_err-head-clause-refused : goal.returns-in_err-head-clause-refused
returns-in_err-head-clause-refused g c =
    passed_on (Refuses (g.S.Source.left c.args.source.now) (g.S.Source.left c.read_head.new.source) c.args.carry.now.items) _ c.in_err-head.field-0.0 c.from_residual.ensures.1
    (refuses_head _ _ _ c.read_head.new.carry.items _ c.in_err-head.ensures.gathered c.in_err-head.ensures.refused)

pub returns-in_err-size-clause-refused : goal.returns-in_err-size-clause-refused
returns-in_err-size-clause-refused g c =
    let is = c.in_ok-head.ensures.head in
    let sized = size_said is.h c.in_ok-head.head c.as_str.result.now c.as_slice.result.now _ is.parts c.as_str.ensures.text c.as_slice.ensures c.in_err-size.ensures in
    passed_on (Refuses (g.S.Source.left c.args.source.now) (g.S.Source.left c.read_head.new.source) c.args.carry.now.items) _ c.in_err-size.field-0.0 c.from_residual-in_err-size.ensures.1
    (refuses_size _ _ _ c.read_head.new.carry.items _ is.h _ (size_refused _ _ _ (sym c.in_err-size.ensures)) c.in_ok-head.ensures.gathered is.begins sized)

pub returns-in_err-size-clause-fault : goal.returns-in_err-size-clause-fault
returns-in_err-size-clause-fault g c = λ is. absurd (passed_other _ c.in_err-size.field-0.0 _ c.from_residual-in_err-size.ensures.1 (no_fault _ _ _ c.in_err-size.ensures) is)

pub returns-in_err-body-clause-refused : goal.returns-in_err-body-clause-refused
returns-in_err-body-clause-refused g c =
    let is = c.in_ok-head.ensures.head in
    let sized = size_said is.h c.in_ok-head.head c.as_str.result.now c.as_slice.result.now _ is.parts c.as_str.ensures.text c.as_slice.ensures c.in_ok-size.ensures in
    passed_on (Refuses (g.S.Source.left c.args.source.now) (g.S.Source.left c.read_body.new.source) c.args.carry.now.items) _ c.in_err-body.field-0.0 c.from_residual-in_err-body.ensures.1
    (refuses_body _ _ _ _ c.read_head.new.carry.items is.h _ c.in_ok-size.size _ c.in_ok-head.ensures.gathered is.begins sized c.in_err-body.ensures.refused)

pub returns-clause-read : goal.returns-clause-read
returns-clause-read g c =
    let is = c.in_ok-head.ensures.head in
    let sized = size_said is.h c.in_ok-head.head c.as_str.result.now c.as_slice.result.now _ is.parts c.as_str.ensures.text c.as_slice.ensures c.in_ok-size.ensures in
    took_message _ _ _ _ c.read_head.new.carry.items _ is.h _ c.in_ok-size.size c.in_ok-body.body _ c.in_ok-head.ensures.gathered is.begins sized c.in_ok-body.ensures.body
    (c.into_message.ensures is.h is.parts)
