use Rattle.std.proofs.Common.{◌∙◌, ◌≡◌, ◌≤◌, take, length, rules}
use Rattle.tab_outside.proofs.Fronts.{grown_front, cut_behind}
use Rattle.tab_outside.proofs.transfers.fill_piece.Goals as goal

pub returns-clause-moved : goal.returns-clause-moved
returns-clause-moved g c =
    let start = c.len-start.result in
    let done = c.read_full-done.result.0 in
    let old = c.args.into.now.items in
    let size : length old ≡ start = search rules in
    let front : take start c.deref_mut.result.now ≡ old = rw (c.deref_mut.ensures.value, c.in-Ok.ensures.items) (grown_front old _ start c.in-Some.end size (search rules)) in
    let fits : done ≤ length c.read_full-done.new.buf = rw c.read_full-done.auto.buf c.read_full-done.ensures.bound in
    record {
      bytes = take done c.read_full-done.new.buf;
      consumed = c.read_full-done.ensures.bytes;
      behind = c.truncate.ensures.items ∙ cut_behind old c.deref_mut.result.now c.read_full-done.new.buf _ _ start done _ size front fits (search rules);
    }
