use Rattle.std.proofs.Common.{◌≡◌, ◌<◌, Bool, List, None, cond, insert, vec_len, vec_capacity, ap, sym, ◌∙◌, subst, arith}
use Rattle.tab_history.specs.World.{Named, table_of, with_name}
use Rattle.tab_history.proofs.NameLaws.{rising-with_name}
use Rattle.tab_master.specs.Tables.{TablesView, AreInOrder, BeginsAt}
use Rattle.tab_master.proofs.TableIndexes.{with_name-begins}
use Rattle.tab_master.proofs.tables.Tables.put.Goals as goal

abbrev named : goal.Joined-insert → Named
named c = record { spelling = c.args.name; table = c.args.table }

absent : (c : goal.Joined-insert) → table_of c.self.inside.tables.items c.args.name ≡ None
absent c = ap (λ (all : TablesView). table_of all.names c.args.name) c.self.view_is ∙ c.requires.absent

begins : (c : goal.Joined-insert) → BeginsAt c.self.inside.tables.items c.args.name c.count_below-index.result
begins c = subst (λ (names : List Named). BeginsAt names c.args.name c.count_below-index.result) c.as_slice.ensures.value c.count_below-index.ensures

room : (c : goal.Joined-insert) → vec_len c.self.inside.tables < vec_capacity c.self.inside.tables
room c = omega (arith, c.requires.room, ap (λ (all : TablesView). all.spare) c.self.view_is)

inserted : (c : goal.Joined-insert) → c.insert.new.self.items ≡ with_name c.self.inside.tables.items (named c)
inserted c =
    c.insert.ensures.items
    ∙ (ap (λ (done : Bool). cond done (insert c.self.inside.tables.items c.count_below-index.result (named c)) c.self.inside.tables.items) (c.insert.ensures.succeeds (room c))
    ∙ sym (with_name-begins c.self.inside.tables.items (named c) c.count_below-index.result (begins c) (absent c)))

pub invariant_of-self : goal.invariant_of-self
invariant_of-self c = subst AreInOrder (sym (inserted c)) (rising-with_name c.self.inside.tables.items (named c) (absent c) c.self.invariant)

pub returns : goal.returns
returns c = inserted c ∙ ap (λ (all : TablesView). with_name all.names (named c)) c.self.view_is
