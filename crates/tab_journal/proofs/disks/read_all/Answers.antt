use Rattle.std.proofs.Common.{◌≡◌, ℕ, List, ◌++◌, length, take, ap, ◌∙◌, arith}
use Rattle.std.specs.Prelude.{min}
use Rattle.std.proofs.lemmas.List.{take_all, take-take, take-append-le}
use Rattle.tab_journal.proofs.disks.read_all.Goals as goal

-- a buffer of the disk's size takes all of its bytes
all_read : (seen mid buf rest : List ℕ) (count len size room : ℕ) → mid ≡ seen → size ≡ length seen → len ≡ size → room ≡ len → length buf ≡ room → count ≡ min (length mid) room
    → take count buf ≡ take count mid → take count (take len (buf ++ rest)) ≡ seen
all_read seen mid buf rest count len size room is_mid is_size is_len is_room is_buf is_count same =
    take-take count len (buf ++ rest) (omega (arith, is_count, is_room)) ∙ take-append-le count buf rest (omega (arith, is_count, is_buf)) ∙ same
    ∙ take_all count mid (omega (arith, is_count, ap length is_mid, is_size, is_len, is_room)) ∙ is_mid

pub returns-clause-bytes : goal.returns-clause-bytes
returns-clause-bytes g c honest =
    let tells = g.met.D.Disk.honest_tells honest in
    c.truncate.ensures.items
    ∙ all_read (g.D.Disk.watch.seen c.args.disk.now) (g.D.Disk.watch.seen c.len.new.self) c.read_at.new.buf _ c.in-Ok-read_at.count c.resize.new.self.len c.in-Ok.size (length c.deref_mut.result.now)
    (c.len.ensures.rests honest).same (c.in-Ok.ensures.length tells) c.in-Ok-resize.ensures.len c.deref_mut.ensures.len c.read_at.auto.buf (c.in-Ok-read_at.ensures.count tells) (c.in-Ok-read_at.ensures.bytes tells)
