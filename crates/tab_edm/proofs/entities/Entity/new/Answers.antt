use Rattle.std.proofs.Common.{ap, ◌∙◌}
use Rattle.std.proofs.lemmas.List.Sorted.{All-permutation}
use Rattle.std.specs.Bool.{IsFalse}
use Rattle.tab_edm.specs.Entities.{made}
use Rattle.tab_edm.specs.Values.{is_reserved, IsInTime}
use Rattle.tab_edm.proofs.Order.{one_rising}
use Rattle.tab_edm.proofs.entities.Entity.new.Goals as goal

pub from_sorted-requires-clause-unreserved : goal.from_sorted-requires-clause-unreserved
from_sorted-requires-clause-unreserved c =
    All-permutation (λ p. IsFalse (is_reserved p.name)) _ _ c.sorted_by_name.ensures.permutation c.requires.unreserved

pub from_sorted-requires-clause-in_time : goal.from_sorted-requires-clause-in_time
from_sorted-requires-clause-in_time c =
    All-permutation (λ p. IsInTime p.value) _ _ c.sorted_by_name.ensures.permutation c.requires.in_time

pub returns-clause-exact : goal.returns-clause-exact
returns-clause-exact c =
    λ given sorted moved rising. c.from_sorted.ensures given ∙ ap (made c.args.pk_units c.args.rk_units) (one_rising _ _ sorted c.sorted_by_name.ensures.permutation moved c.sorted_by_name.ensures.rising rising)
