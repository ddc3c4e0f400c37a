use Rattle.std.proofs.Common.{◌≡◌, ℕ, ◌++◌, not, List, ap, ◌∙◌, rules}
use Rattle.std.proofs.lemmas.Fn.{filter_same}
use Rattle.tab_codec.specs.declared.frames.RangeRow.{RangeRow}
use Rattle.tab_journal.specs.Told.{MapTold, is_listed, rows_besides}
use Rattle.tab_master.proofs.map_listing.ListedRows.replace.Goals as goal

abbrev made : ℕ → List RangeRow → MapTold
made next_range rows = record { next_range = next_range; rows = rows }

pub returns : goal.returns
returns c =
    let old = c.args.old_ranges.now in
    let new = c.args.new_rows.now in
    let kept : c.retain.new.self.items ≡ rows_besides old c.self.inside.rows.items = filter_same _ (λ (row : RangeRow). not (is_listed old row.range)) _ (λ x b f k. search rules) _ _ c.retain.ensures.filtered in
    ap (made c.args.next_range) (c.in_ok-append.ensures ∙ ap (λ (l : List RangeRow). l ++ new) (kept ∙ ap (λ (told : MapTold). rows_besides old told.rows) c.self.view_is))
