use Rattle.std.proofs.Common.{take}
use Rattle.std.proofs.lemmas.List.{take_rest}
use Rattle.tab_outside.proofs.Fronts.{read_front, read_none}
use Rattle.tab_outside.proofs.sources.MemSourceSource.read.Goals as goal

pub returns-clause-bytes : goal.returns-clause-bytes
returns-clause-bytes c =
    let bytes = c.self.inside.bytes.items in
    let at = c.self.inside.at in
    let n = c.copy_front-count.result in
    let count = rw (take_rest, c.deref.ensures.value) at c.copy_front-count.ensures.count in
    let front = rw (take_rest, c.deref.ensures.value) at c.copy_front-count.ensures.front in
    rw (← c.self.view_is) (
      read_front bytes (take n c.copy_front-count.new.buf) at n front,
      λ none room. read_none bytes at n _ count none (rw (← c.copy_front-count.auto.buf) room),
    )
