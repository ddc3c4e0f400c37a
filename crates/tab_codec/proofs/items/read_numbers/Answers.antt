use Rattle.std.proofs.Common.{◌++◌, ◌∷◌, [], None}
use Rattle.std.proofs.lemmas.Result.{err_from_is_err_and}
use Rattle.std.specs.Int.{w64}
use Rattle.tab_codec.specs.Reading.{items_at, last_read, number_at}
use Rattle.tab_codec.proofs.Loops.{last_of, last_pushed, goes_on, ends, is_done}
use Rattle.tab_codec.proofs.items.read_numbers.Goals as goal

pub returns-in_err-item : goal.returns-in_err-item
returns-in_err-item c =
    let p = err_from_is_err_and c.from_residual.result c.from_residual.ensures.1 in
    rw (p.1, p.2) (ends (λ _. number_at w64) last_read (last_of c.loop.items.items) c.in_err-item.field-0.0 c.loop.items.items c.args.count c.loop.counter c.loop.rest.now (items_at (λ _. number_at w64) last_read None c.args.count c.args.bytes.now) c.loop-test.true c.in_err-item.ensures c.loop.invariant)

pub loop-preserved : goal.loop-preserved
loop-preserved c =
    let x = c.in_ok-item.item in
    let total = items_at (λ _. number_at w64) last_read None c.args.count c.args.bytes.now in
    rw c.in_ok-push.ensures.items (goes_on (λ _. number_at w64) last_read (last_of c.loop.items.items) (last_of (c.loop.items.items ++ x ∷ [])) c.loop.items.items c.args.count c.loop.counter c.loop.rest.now x c.in_ok-item.after.now total c.loop-test.true c.in_ok-item.ensures (last_pushed c.loop.items.items x) c.loop.invariant)

pub returns : goal.returns
returns c = is_done (λ _. number_at w64) last_read (last_of c.loop.items.items) c.loop.items.items c.args.count c.loop.counter c.loop.rest.now (items_at (λ _. number_at w64) last_read None c.args.count c.args.bytes.now) c.loop-test.false c.loop.invariant
