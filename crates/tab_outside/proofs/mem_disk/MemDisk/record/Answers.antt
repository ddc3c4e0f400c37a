use Rattle.std.proofs.Common.{◌≤◌, ◌-◌, List, ℕ, ap, sym, subst, map, length, replicate, arith}
use Rattle.std.proofs.lemmas.List.{length-append, length-replicate}
use Rattle.tab_outside.specs.Logs.{Written, Logged, wrote, logged, KeepsLog}
use Rattle.tab_outside.proofs.Settling.{keeps_write, logged_more, overwritten_length}
use Rattle.tab_outside.proofs.mem_disk.MemDisk.record.Goals as goal

pub invariant_of-self-2 : goal.invariant_of-self-2
invariant_of-self-2 c =
    let one : Written = record { at = c.args.at; piece = c.args.piece.now } in
    let log : List Logged = map logged c.self.inside.log.items in
    let bytes : List ℕ = c.self.inside.bytes.items in
    let padded : List ℕ = c.self.inside.synced.items in
    let gap : ℕ = c.end_of.result - length padded in
    let items = logged_more c.self.inside.log.items c.reserve.new.self.items c.push_reserved.new.self.items _ (wrote one) c.push_reserved.ensures.items c.reserve.ensures.items
    (ap (λ (piece : List ℕ). wrote (record { at = c.args.at; piece = piece })) c.in-Ok-from_slice.ensures.items) in
    let room : length c.overwrite.new.bytes.items ≤ length c.grow_to.new.bytes.items =
    omega (
      arith,
      c.self.invariant.0.room,
      ap length c.in-Ok-overwrite.ensures.written,
      overwritten_length bytes c.args.at c.args.piece.now,
      ap length c.in-Ok-grow_to.ensures.grown,
      length-append padded (replicate gap 0),
      length-replicate {A = ℕ} gap 0,
      c.end_of.ensures,
    ) in
    let keeps = keeps_write log bytes padded c.self.inside.kept c.self.inside.before one c.overwrite.new.bytes.items c.grow_to.new.bytes.items gap c.self.invariant.0
    c.in-Ok-overwrite.ensures.written c.in-Ok-grow_to.ensures.grown room in (
      subst (λ (calls : List Logged). KeepsLog calls c.overwrite.new.bytes.items c.grow_to.new.bytes.items c.self.inside.kept c.self.inside.before) (sym items) keeps,
      λ more. omega (arith, c.push_reserved.ensures.len, c.push_reserved.ensures.capacity, c.in-Ok.ensures.ok, c.reserve.ensures.len),
    )
