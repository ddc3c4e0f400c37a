use Rattle.tab_server.proofs.ActLaws.{no_place}
use Rattle.tab_server.proofs.ranges.Ranges.place_held.Goals as goal

pub returns-clause-absent : goal.returns-clause-absent
returns-clause-absent g c e = no_place c.args.self.now c.args.range (c.place_of.ensures.none e)
