use Rattle.std.proofs.Common.{rules, ◌≡◌, ◌≤◌, ◌+◌, ◌∷◌, ◌++◌, [], List, ℕ, ap, sym, subst, ◌∙◌, map, length, take, drop, refl, vec_len, arith}
use Rattle.std.specs.List.{AllByRecursion}
use Rattle.std.proofs.lemmas.List.{take_at, length-map}
use Rattle.tab_outside.specs.Logs.{Written, Logged, InLog, logged, settled, after_log, empty_disk, bytes_of, picture_of, IsPadded, FitsIn, KeepsLog}
use Rattle.tab_outside.proofs.Settling.{all_fit, rest_writes, picture_all, picture_no_longer, padded_front, logged_more, keeps_settled, settles_more, settled_now, kept_now}
use Rattle.tab_outside.proofs.mem_disk.MemDisk.settle.Goals as goal
use Rattle.tab_outside.proofs.mem_disk.MemDisk.settle.Goals.{After-deref-2}

pub settle-requires : goal.settle-requires
settle-requires c =
    let log : List Logged = map logged c.self.inside.log.items in
    let keeps = c.self.invariant.0 in
    let size : ℕ = length c.deref_mut.result.now in
    let room : length (bytes_of log) ≤ size = omega (arith, ap length keeps.read, keeps.room, ap length c.deref_mut.ensures.value) in
    let fits = all_fit size (after_log empty_disk log).bytes (after_log empty_disk log).since room in
    record {
      fits = subst (λ (writes : List Written). AllByRecursion (FitsIn size) writes) (keeps.since ∙ sym (rest_writes c.self.inside.log.items c.deref.result.now c.self.inside.before c.deref.ensures.value)) fits;
    }

-- the bytes of the last sync, settled
is_settled : (c : After-deref-2) → IsPadded (picture_of c.args.pick (map logged c.self.inside.log.items)) c.settle.new.bytes
is_settled c =
    settled_now c.args.pick c.self.inside.log.items c.deref.result.now c.self.inside.before c.self.inside.kept c.self.inside.bytes.items c.self.inside.synced.items c.deref_mut.result.now c.settle.new.bytes
    c.self.invariant.0 c.deref_mut.ensures.value c.deref.ensures.value c.settle.ensures

kept_is : (c : After-deref-2) → c.kept_after-self-inside.result ≡ length (picture_of c.args.pick (map logged c.self.inside.log.items))
kept_is c =
    let read : c.len-2.result ≡ length c.self.inside.bytes.items = search rules in
    kept_now c.args.pick (map logged c.self.inside.log.items) c.self.inside.bytes.items c.self.inside.synced.items c.self.inside.kept c.self.inside.before c.len-2.result c.kept_after-self-inside.result
    c.self.invariant.0 c.kept_after-self-inside.ensures read

back : (c : After-deref-2) → take c.self.inside.synced.len (c.settle.new.bytes ++ drop (length c.settle.new.bytes) c.self.inside.synced.items) ≡ c.settle.new.bytes
back c = take_at _ _ _ (c.settle.auto.bytes ∙ c.deref_mut.ensures.len)

taken : (c : After-deref-2) → take c.kept_after-self-inside.result c.deref-2.result.now ≡ picture_of c.args.pick (map logged c.self.inside.log.items)
taken c =
    ap (take c.kept_after-self-inside.result) (c.deref-2.ensures.value ∙ back c)
    ∙ padded_front (picture_of c.args.pick (map logged c.self.inside.log.items)) c.settle.new.bytes c.kept_after-self-inside.result (kept_is c) (is_settled c)

pub restore-requires-clause-fits : goal.restore-requires-clause-fits
restore-requires-clause-fits c =
    let size : vec_len c.self.inside.bytes ≡ length c.self.inside.bytes.items = search rules in
    omega (arith, ap length (taken c), picture_no_longer c.args.pick (map logged c.self.inside.log.items), ap length c.self.invariant.0.read, size)

pub restore-requires-clause-all : goal.restore-requires-clause-all
restore-requires-clause-all c = λ kind. c.self.invariant.0.read ∙ sym (picture_all c.args.pick (map logged c.self.inside.log.items) kind) ∙ sym (taken c)

pub invariant_of-self : goal.invariant_of-self
invariant_of-self c =
    let at = (goal.at.invariant_of-self c).After-deref-2 in
    let log : List Logged = map logged c.self.inside.log.items in
    let items = logged_more c.self.inside.log.items c.self.inside.log.items c.push_reserved.new.self.items _ (settled c.args.pick) c.push_reserved.ensures.items refl refl in
    let count : vec_len c.self.inside.log ≡ length c.self.inside.log.items = search rules in
    let all : c.len-self-inside.result ≡ length log + 1 = omega (arith, c.len-self-inside.ensures, c.push_reserved.ensures.len, length-map c.self.inside.log.items logged, count) in
    let keeps = keeps_settled log c.args.pick c.restore.new.bytes.items c.settle.new.bytes c.kept_after-self-inside.result c.len-self-inside.result (c.restore.ensures ∙ taken at) (is_settled at) (kept_is at) all in (
      subst (λ (calls : List Logged). KeepsLog calls c.restore.new.bytes.items (take c.self.inside.synced.len (c.settle.new.bytes ++ drop (length c.settle.new.bytes) c.self.inside.synced.items)) c.kept_after-self-inside.result c.len-self-inside.result) (sym items)
          (subst (λ (zeros : List ℕ). KeepsLog (log ++ settled c.args.pick ∷ []) c.restore.new.bytes.items zeros c.kept_after-self-inside.result c.len-self-inside.result) (sym (back at)) keeps),
      λ more. absurd (let no : ⊥ = omega (arith, more, c.len-self-inside.ensures) in no),
    )

pub returns-clause-log : goal.returns-clause-log
returns-clause-log c =
    let items = logged_more c.self.inside.log.items c.self.inside.log.items c.push_reserved.new.self.items _ (settled c.args.pick) c.push_reserved.ensures.items refl refl in
    settles_more c.args.pick c.args.self.now.log (map logged c.push_reserved.new.self.items) (items ∙ ap (λ (disk : InLog). disk.log ++ settled c.args.pick ∷ []) c.self.view_is)
