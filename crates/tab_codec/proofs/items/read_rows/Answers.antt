use Rattle.std.proofs.Common.{◌≡◌, ◌++◌, ◌∷◌, [], Option, None, Ok, subst, rules}
use Rattle.std.specs.Option.{option_copied}
use Rattle.std.proofs.lemmas.Result.{err_from_is_err_and}
use Rattle.tab_rows.specs.Rows.{RowView}
use Rattle.tab_codec.specs.Reading.{Stops, items_at, last_read, row_at}
use Rattle.tab_codec.proofs.Loops.{last_of, last_pushed, goes_on, ends, is_done}
use Rattle.tab_codec.proofs.items.read_rows.Goals as goal

pub returns-in_err-item : goal.returns-in_err-item
returns-in_err-item c =
    let p = err_from_is_err_and c.from_residual.result c.from_residual.ensures.1 in
    let last : option_copied c.last.result ≡ last_of c.loop.items.items = search rules in
    let stops = subst (λ (s : Option RowView). Stops c.in_err-item.field-0.0 (row_at s c.loop.rest.now)) last c.in_err-item.ensures in
    rw (p.1, p.2) (ends row_at last_read (last_of c.loop.items.items) c.in_err-item.field-0.0 c.loop.items.items c.args.count c.loop.counter c.loop.rest.now (items_at row_at last_read None c.args.count c.args.bytes.now) c.loop-test.true stops c.loop.invariant)

pub loop-preserved : goal.loop-preserved
loop-preserved c =
    let x = c.in_ok-item.item in
    let total = items_at row_at last_read None c.args.count c.args.bytes.now in
    let last : option_copied c.last.result ≡ last_of c.loop.items.items = search rules in
    let read = subst (λ (s : Option RowView). row_at s c.loop.rest.now ≡ Ok (x, c.in_ok-item.after.now)) last c.in_ok-item.ensures in
    rw c.in_ok-push.ensures.items (goes_on row_at last_read (last_of c.loop.items.items) (last_of (c.loop.items.items ++ x ∷ [])) c.loop.items.items c.args.count c.loop.counter c.loop.rest.now x c.in_ok-item.after.now total c.loop-test.true read (last_pushed c.loop.items.items x) c.loop.invariant)

pub returns : goal.returns
returns c = is_done row_at last_read (last_of c.loop.items.items) c.loop.items.items c.args.count c.loop.counter c.loop.rest.now (items_at row_at last_read None c.args.count c.args.bytes.now) c.loop-test.false c.loop.invariant
