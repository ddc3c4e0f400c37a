use Rattle.std.proofs.Common.{arith, subst, sym, ◌∙◌, ◌≤◌, ℕ}
use Rattle.tab_core.proofs.Lengths.{asked_begins, asked_more, later_with, rests_with, none_before, fault_is}
use Rattle.tab_core.proofs.cores.find_empty.Goals as goal

pub loop-index-init : goal.loop-index-init
loop-index-init g c = asked_begins g.D.Disk.watch g.D.Disk.tells g.D.Disk.honest g.D.Disk.faults c.args.disks.now

pub returns-in-Ok-clause-rests : goal.returns-in-Ok-clause-rests
returns-in-Ok-clause-rests g c =
    rests_with g.D.Disk.watch g.D.Disk.tells g.D.Disk.honest g.D.Disk.faults _ _ _ _ _ c.loop-index.invariant c.len.ensures.rests

pub returns-in-Ok-clause-later : goal.returns-in-Ok-clause-later
returns-in-Ok-clause-later g c =
    later_with g.D.Disk.watch g.D.Disk.tells g.D.Disk.honest g.D.Disk.faults _ _ _ _ _ c.loop-index.invariant c.len.ensures.cause.later

pub returns-in-Err-clause-before : goal.returns-in-Err-clause-before
returns-in-Err-clause-before g c told disk is k first =
    subst (λ (i : ℕ). i ≤ k) (fault_is _ _ is)
    (none_before g.D.Disk.watch g.D.Disk.tells g.D.Disk.honest g.D.Disk.faults _ _ _ k c.index-disks-index.result c.loop-index.invariant told first)

pub returns-in-Err-clause-rests : goal.returns-in-Err-clause-rests
returns-in-Err-clause-rests g c =
    rests_with g.D.Disk.watch g.D.Disk.tells g.D.Disk.honest g.D.Disk.faults _ _ _ _ _ c.loop-index.invariant c.len.ensures.rests

pub returns-in-Err-clause-later : goal.returns-in-Err-clause-later
returns-in-Err-clause-later g c =
    later_with g.D.Disk.watch g.D.Disk.tells g.D.Disk.honest g.D.Disk.faults _ _ _ _ _ c.loop-index.invariant c.len.ensures.cause.later

pub loop-index-preserved : goal.loop-index-preserved
loop-index-preserved g c =
    asked_more g.D.Disk.watch g.D.Disk.tells g.D.Disk.honest g.D.Disk.faults _ _ _ _ _ c.loop-index.invariant (omega arith) c.len.ensures.cause.later c.len.ensures.rests
    (λ told. sym (c.in-Ok-eq0.ensures.length told) ∙ c.in-Ok-eq0.field-0-test)
