use Rattle.std.proofs.Common.{◌≡◌, map, ap, sym, ◌∙◌}
use Rattle.tab_journal.specs.Told.{MapTold}
use Rattle.tab_master.specs.Spelled.{map_row, by_start}
use Rattle.tab_master.specs.Ordered.{in_order}
use Rattle.tab_master.proofs.MapRowLaws.{listed_rows}
use Rattle.tab_master.proofs.map_content.is_listed.Goals as goal

pub returns-then-listed-next_range : goal.returns-then-listed-next_range
returns-then-listed-next_range c =
    let next : c.args.listed.next_range ≡ c.args.next_range = ap (λ (l : MapTold). l.next_range) (sym c.listed.view_is) ∙ c.if-listed-next_range.true in
    let told : in_order by_start (map map_row c.args.listed.rows) ≡ in_order by_start (map map_row c.listed.inside.rows.items) = ap (λ (l : MapTold). in_order by_start (map map_row l.rows)) (sym c.listed.view_is) in
    let same = listed_rows c.listed.inside.rows.items c.sorted.result.items c.args.rows.now c.are_same.result c.sorted.ensures.elements c.sorted.ensures.in_order c.requires
    (λ is. sym c.as_slice.ensures.value ∙ c.are_same.ensures.0 is)
    (λ equal. c.are_same.ensures.1 (c.as_slice.ensures.value ∙ equal)) in (
      λ is. (next, told ∙ same.0 is),
      λ both. same.1 (sym told ∙ both.1),
    )
