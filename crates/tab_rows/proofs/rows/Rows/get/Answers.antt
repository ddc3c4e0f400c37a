use Rattle.std.proofs.Common.{ap, sym, ◌∙◌, subst}
use Rattle.tab_rows.specs.Rows.{RowsView, row_at}
use Rattle.tab_rows.specs.Indices.{StandsAt, BelongsAt}
use Rattle.tab_rows.proofs.IndexLemmas.{row_at-read, row_at-belongs}
use Rattle.tab_rows.proofs.rows.Rows.get.Goals as goal

pub returns-in-Ok-clause-row : goal.returns-in-Ok-clause-row
returns-in-Ok-clause-row c =
    let key = c.args.key.now in
    let stands : StandsAt c.self.inside.rows.items key c.in-Ok.index = subst (λ rows. StandsAt rows key c.in-Ok.index) c.as_slice.ensures.value c.in-Ok.ensures in
    row_at-read c.self.inside.rows.items key c.in-Ok.index c.index.result.now stands c.index.ensures ∙ ap (λ (all : RowsView). row_at all.rows key) c.self.view_is

pub returns-in-Err-clause-row : goal.returns-in-Err-clause-row
returns-in-Err-clause-row c =
    let key = c.args.key.now in
    let belongs : BelongsAt c.self.inside.rows.items key c.in-Err.field-0 = subst (λ rows. BelongsAt rows key c.in-Err.field-0) c.as_slice.ensures.value c.in-Err.ensures in
    sym (row_at-belongs c.self.inside.rows.items key c.in-Err.field-0 belongs) ∙ ap (λ (all : RowsView). row_at all.rows key) c.self.view_is
