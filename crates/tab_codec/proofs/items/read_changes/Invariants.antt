use Rattle.std.proofs.Common.{◌≡◌, ◌-◌, None}
use Rattle.tab_codec.specs.Reading.{items_at, last_read, change_at}
use Rattle.tab_codec.proofs.Loops.{with_front, last_of}
use Rattle.tab_codec.proofs.items.read_changes.Given as goal

abbrev pub invariant-loop : goal.invariant-loop
invariant-loop l = with_front l.items.items (items_at (λ _. change_at) last_read (last_of l.items.items) (l.count - l.counter) l.rest) ≡ items_at (λ _. change_at) last_read None l.count l.bytes
