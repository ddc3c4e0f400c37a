use Rattle.std.proofs.Common.{rules, ◌≡◌, None, sym, subst}
use Rattle.tab_master.proofs.NamesCallLaws.{IsPassed, rewrites_so}
use Rattle.tab_master.proofs.names.Names.rewrite.Goals as goal

pub returns-clause-rewrites : goal.returns-clause-rewrites
returns-clause-rewrites g c =
    let passed : IsPassed c.checkpoint.result c.match-checkpoint.result = search rules in
    let clear : c.args.self.now.doubt ≡ None = subst (λ k. k.doubt ≡ None) c.self.view_is (c.self.invariant.clear (subst (λ k. k.failed ≡ Rattle.std.proofs.Common.false) (sym c.self.view_is) c.requires.running)) in
    rewrites_so g.D.Disk.watch g.D.Disk.honest c.args.self.now c.checkpoint.new.self c.checkpoint.result c.match-checkpoint.result passed clear
    (subst (λ k. Rattle.tab_journal.specs.KeptCauses.AfterCheckpoint k c.checkpoint.new.self c.checkpoint.result) c.self.view_is c.checkpoint.ensures.after)
    c.checkpoint.ensures.ok (search rules) (search rules) (search rules)
