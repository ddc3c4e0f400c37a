use Rattle.std.proofs.Common.{ap, sym, ◌∙◌, subst}
use Rattle.tab_rows.specs.Rows.{RowsView, row_at, without_row}
use Rattle.tab_rows.specs.Indices.{StandsAt, BelongsAt}
use Rattle.tab_rows.proofs.IndexLemmas.{row_at-read, row_at-belongs, without_row-stands, without_row-belongs}
use Rattle.tab_rows.proofs.rows.Rows.take.Goals as goal

pub returns-in-Ok-clause-rows : goal.returns-in-Ok-clause-rows
returns-in-Ok-clause-rows c =
    let key = c.args.key.now in
    let stands : StandsAt c.self.inside.rows.items key c.in-Ok.index = subst (λ rows. StandsAt rows key c.in-Ok.index) c.as_slice.ensures.value c.in-Ok.ensures in
    c.remove.ensures.items ∙ (sym (without_row-stands c.self.inside.rows.items key c.in-Ok.index stands) ∙ ap (λ (all : RowsView). without_row all.rows key) c.self.view_is)

pub returns-in-Ok-clause-before : goal.returns-in-Ok-clause-before
returns-in-Ok-clause-before c =
    let key = c.args.key.now in
    let stands : StandsAt c.self.inside.rows.items key c.in-Ok.index = subst (λ rows. StandsAt rows key c.in-Ok.index) c.as_slice.ensures.value c.in-Ok.ensures in
    row_at-read c.self.inside.rows.items key c.in-Ok.index c.remove.result stands c.remove.ensures.value ∙ ap (λ (all : RowsView). row_at all.rows key) c.self.view_is

pub returns-in-Err-clause-rows : goal.returns-in-Err-clause-rows
returns-in-Err-clause-rows c =
    let key = c.args.key.now in
    let belongs : BelongsAt c.args.self.now.rows key c.in-Err.field-0 = subst (λ rows. BelongsAt rows key c.in-Err.field-0) (c.as_slice.ensures.value ∙ ap (λ (all : RowsView). all.rows) c.self.view_is) c.in-Err.ensures in
    sym (without_row-belongs c.args.self.now.rows key c.in-Err.field-0 belongs)

pub returns-in-Err-clause-before : goal.returns-in-Err-clause-before
returns-in-Err-clause-before c =
    let key = c.args.key.now in
    let belongs : BelongsAt c.args.self.now.rows key c.in-Err.field-0 = subst (λ rows. BelongsAt rows key c.in-Err.field-0) (c.as_slice.ensures.value ∙ ap (λ (all : RowsView). all.rows) c.self.view_is) c.in-Err.ensures in
    sym (row_at-belongs c.args.self.now.rows key c.in-Err.field-0 belongs)
