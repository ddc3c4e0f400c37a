use Rattle.std.specs.Prelude.{codes}
use Rattle.tab_edm.specs.Moments.{text_of_moment}
use Rattle.tab_edm.proofs.MomentLaws.{exactly, in_time, written_spells}
use Rattle.tab_edm.proofs.MomentFunction.{moment_of-exact}
use Rattle.tab_edm.proofs.moments.read_moment.Goals as goal

pub returns-clause-value : goal.returns-clause-value
returns-clause-value c =
    rw (← c.as_bytes.ensures.value) (moment_of-exact c.as_bytes.result.now c.read_tick.result (exactly (codes ":") c.as_bytes.result.now c.read_tick.result c.read_tick.ensures))

pub returns-clause-exact : goal.returns-clause-exact
returns-clause-exact c =
    rw (← c.as_bytes.ensures.value) (λ tick. exactly (codes ":") c.as_bytes.result.now c.read_tick.result c.read_tick.ensures tick)

pub returns-clause-in_time : goal.returns-clause-in_time
returns-clause-in_time c = in_time (codes ":") c.as_bytes.result.now c.read_tick.result c.read_tick.ensures

pub returns-clause-written : goal.returns-clause-written
unfolding text_of_moment
returns-clause-written c =
    rw (← c.as_bytes.ensures.value) (λ tick bound is. (exactly (codes ":") c.as_bytes.result.now c.read_tick.result c.read_tick.ensures tick).1 (rw is (written_spells (codes ":") tick bound)))
