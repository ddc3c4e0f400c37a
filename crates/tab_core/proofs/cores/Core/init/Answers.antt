use Rattle.std.proofs.Common.{rules, ◌≡◌, ◌≤◌, ◌+◌, List, length, vec_len, sym, ◌∙◌, ap, arith, subst, All}
use Rattle.std.specs.Prelude.{Err}
use Rattle.std.specs.List.{AllZip}
use Rattle.tab_outside.specs.Disks.{Rests}
use Rattle.tab_core.specs.Points.{Holds}
use Rattle.tab_core.specs.Making.{IsFirstFilled}
use Rattle.tab_core.proofs.Zips.{zip_then, taken}
use Rattle.tab_core.proofs.Holding.{still_hold, not_all_empty}
use Rattle.tab_core.proofs.Refusals.{none_filled, decides, rose_since, ok_holds}
use Rattle.tab_core.proofs.cores.Core.init.Goals as goal

pub returns-in_err-find_empty-clause-kept : goal.returns-in_err-find_empty-clause-kept
returns-in_err-find_empty-clause-kept g c honest course holds =
    let size : vec_len c.args.yard.now ≡ length c.args.yard.now.items = search rules in
    let rests : AllZip (Rests g.D.Disk.watch) c.args.yard.now.items c.find_empty.new.disks =
    subst (λ (xs : List _). AllZip (Rests g.D.Disk.watch) xs c.find_empty.new.disks) c.as_mut_slice.ensures.value (c.find_empty.ensures.rests honest) in
    subst (λ (xs : List _). Holds g.D.Disk.watch course xs) (sym (taken (Rests g.D.Disk.watch) _ _ _ rests size)) (still_hold g.D.Disk.watch course _ _ rests holds)

pub returns-in_err-find_empty-clause-first : goal.returns-in_err-find_empty-clause-first
returns-in_err-find_empty-clause-first g c told disk first =
    let same : c.from_residual.result ≡ Err c.in_err-find_empty.field-0.0 = search rules in
    decides g.D.Disk.watch c.as_mut_slice.result.now c.from_residual.result c.in_err-find_empty.field-0.0 disk same
    (λ is. c.find_empty.ensures.memory (c.in_err-find_empty.was ∙ ap (λ e. Err e) is))
    (λ other is. c.in_err-find_empty.ensures.not_empty told other (ap (λ e. Err e) is))
    (λ other is. c.in_err-find_empty.ensures.before told other (ap (λ e. Err e) is))
    (subst (λ (xs : List _). IsFirstFilled g.D.Disk.watch xs disk) (sym c.as_mut_slice.ensures.value) first)

pub returns-clause-holds : goal.returns-clause-holds
returns-clause-holds g c honest yard =
    let size : vec_len c.make_stores.new.yard ≡ length c.make_stores.new.yard.items = search rules in
    ok_holds g.D.Disk.watch c.make_stores.result _ yard.servers yard.least (sym size ∙ c.make_stores.ensures.size ∙ yard.count)
    (c.make_stores.ensures.made honest (yard.servers + 2) yard.count (let most = yard.most in omega (arith, most)))

pub returns-clause-kept : goal.returns-clause-kept
returns-clause-kept g c honest course holds =
    absurd (not_all_empty g.D.Disk.watch course _ (g.met.D.Disk.reads_image honest) holds
    (subst (λ (xs : List _). All (λ disk. length (g.D.Disk.watch.seen disk) ≡ 0) xs) c.as_mut_slice.ensures.value (c.in_ok-find_empty.ensures.empty (g.met.D.Disk.honest_tells honest))))

pub returns-clause-first : goal.returns-clause-first
returns-clause-first g c told disk first =
    absurd (none_filled g.D.Disk.watch _ disk (c.in_ok-find_empty.ensures.empty told) (subst (λ (xs : List _). IsFirstFilled g.D.Disk.watch xs disk) (sym c.as_mut_slice.ensures.value) first))

pub returns-clause-fault : goal.returns-clause-fault
returns-clause-fault g c disk is =
    let size : vec_len c.args.yard.now ≡ length c.args.yard.now.items = search rules in
    let later : AllZip (λ a b. g.D.Disk.faults a ≤ g.D.Disk.faults b) c.args.yard.now.items c.find_empty.new.disks =
    subst (λ (xs : List _). AllZip (λ a b. g.D.Disk.faults a ≤ g.D.Disk.faults b) xs c.find_empty.new.disks) c.as_mut_slice.ensures.value c.find_empty.ensures.later in
    rose_since g.D.Disk.faults _ _ _ disk
    (subst (λ (xs : List _). AllZip (λ a b. g.D.Disk.faults a ≤ g.D.Disk.faults b) c.args.yard.now.items xs) (sym (taken (λ a b. g.D.Disk.faults a ≤ g.D.Disk.faults b) _ _ _ later size)) later)
    (c.make_stores.ensures.fault disk is)

pub returns-clause-later : goal.returns-clause-later
returns-clause-later g c =
    let size : vec_len c.args.yard.now ≡ length c.args.yard.now.items = search rules in
    let later : AllZip (λ a b. g.D.Disk.faults a ≤ g.D.Disk.faults b) c.args.yard.now.items c.find_empty.new.disks =
    subst (λ (xs : List _). AllZip (λ a b. g.D.Disk.faults a ≤ g.D.Disk.faults b) xs c.find_empty.new.disks) c.as_mut_slice.ensures.value c.find_empty.ensures.later in
    zip_then (λ a b. g.D.Disk.faults a ≤ g.D.Disk.faults b) (λ x y z first second. omega (arith, first, second)) _ _ _
    (subst (λ (xs : List _). AllZip (λ a b. g.D.Disk.faults a ≤ g.D.Disk.faults b) c.args.yard.now.items xs) (sym (taken (λ a b. g.D.Disk.faults a ≤ g.D.Disk.faults b) _ _ _ later size)) later)
    c.make_stores.ensures.later

pub returns-in_err-find_empty-clause-rests : goal.returns-in_err-find_empty-clause-rests
returns-in_err-find_empty-clause-rests g c honest disk is =
    let size : vec_len c.args.yard.now ≡ length c.args.yard.now.items = search rules in
    let rests : AllZip (Rests g.D.Disk.watch) c.args.yard.now.items c.find_empty.new.disks =
    subst (λ (xs : List _). AllZip (Rests g.D.Disk.watch) xs c.find_empty.new.disks) c.as_mut_slice.ensures.value (c.find_empty.ensures.rests honest) in
    subst (λ (xs : List _). AllZip (Rests g.D.Disk.watch) c.args.yard.now.items xs) (sym (taken (Rests g.D.Disk.watch) _ _ _ rests size)) rests

pub returns-clause-rests : goal.returns-clause-rests
returns-clause-rests g c honest disk is = absurd (c.make_stores.ensures.empty disk is)
