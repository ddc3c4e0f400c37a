use Rattle.std.proofs.Common.{rules}
use Rattle.tab_master.proofs.NamesCallLaws.{IsSettlePassed, damage_passed}
use Rattle.tab_master.proofs.names.Names.settle.Goals as goal

pub returns-clause-damaged : goal.returns-clause-damaged
returns-clause-damaged g c =
    let passed : IsSettlePassed c.settle.result c.match-settle.result = search rules in
    damage_passed c.settle.result c.match-settle.result passed c.settle.ensures.damaged
