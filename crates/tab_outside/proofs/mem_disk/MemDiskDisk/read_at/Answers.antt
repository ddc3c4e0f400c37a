use Rattle.std.proofs.Common.{◌≡◌, ◌∙◌, List, ℕ, ap, subst, min, length, take, drop}
use Rattle.tab_outside.specs.Logs.{InLog, bytes_of}
use Rattle.tab_outside.proofs.mem_disk.MemDiskDisk.read_at.Goals as goal

pub returns-clause-count : goal.returns-clause-count
returns-clause-count c =
    let read : c.deref.result.now ≡ bytes_of c.args.self.now.log = c.deref.ensures.value ∙ c.self.invariant.0.read ∙ ap (λ (disk : InLog). bytes_of disk.log) c.self.view_is in
    subst (λ (bytes : List ℕ). c.copy_at.result ≡ min (length (drop c.args.at bytes)) (length c.args.buf.now)) read c.copy_at.ensures.count

pub returns-clause-read : goal.returns-clause-read
returns-clause-read c =
    let read : c.deref.result.now ≡ bytes_of c.args.self.now.log = c.deref.ensures.value ∙ c.self.invariant.0.read ∙ ap (λ (disk : InLog). bytes_of disk.log) c.self.view_is in
    subst (λ (bytes : List ℕ). take c.copy_at.result c.copy_at.new.buf ≡ take c.copy_at.result (drop c.args.at bytes)) read c.copy_at.ensures.front
