use Rattle.std.proofs.Common.{◌≡◌, ◌<◌, Bool, List, None, cond, insert, get_or, set, vec_len, vec_capacity, length, ap, sym, ◌∙◌, subst, arith}
use Rattle.tab_keys.specs.declared.keys.Key.{Key}
use Rattle.tab_rows.specs.Rows.{RowView, RowsView, AreRising, row_at, with_row}
use Rattle.tab_rows.specs.Indices.{StandsAt, BelongsAt}
use Rattle.tab_rows.proofs.RowLaws.{AreRising-with_row}
use Rattle.tab_rows.proofs.IndexLemmas.{row_at-read, row_at-belongs, with_row-stands, with_row-belongs}
use Rattle.tab_rows.proofs.rows.Rows.put.Goals as goal

stands : (c : goal.After-self-1) → StandsAt c.self.inside.rows.items c.args.row.key c.in-Ok.index
stands c =
    subst (λ (key : Key). StandsAt c.self.inside.rows.items key c.in-Ok.index) (ap (λ (row : RowView). row.key) c.row.view_is)
    (subst (λ (rows : List RowView). StandsAt rows c.row.inside.key c.in-Ok.index) c.as_slice.ensures.value c.in-Ok.ensures)

replaced : (c : goal.After-self-1) → set c.self.inside.rows.items c.in-Ok.index c.replace.new.dest ≡ with_row c.self.inside.rows.items c.args.row
replaced c =
    ap (λ (row : RowView). set c.self.inside.rows.items c.in-Ok.index row) c.replace.ensures.after ∙ sym (with_row-stands c.self.inside.rows.items c.args.row c.in-Ok.index (stands c))

belongs : (c : goal.Joined-insert) → BelongsAt c.self.inside.rows.items c.args.row.key c.in-Err.index
belongs c =
    subst (λ (key : Key). BelongsAt c.self.inside.rows.items key c.in-Err.index) (ap (λ (row : RowView). row.key) c.row.view_is)
    (subst (λ (rows : List RowView). BelongsAt rows c.row.inside.key c.in-Err.index) c.as_slice.ensures.value c.in-Err.ensures)

absent : (c : goal.Joined-insert) → row_at c.args.self.now.rows c.args.row.key ≡ None
absent c = ap (λ (all : RowsView). row_at all.rows c.args.row.key) (sym c.self.view_is) ∙ row_at-belongs c.self.inside.rows.items c.args.row.key c.in-Err.index (belongs c)

room : (c : goal.Joined-insert) → vec_len c.self.inside.rows < vec_capacity c.self.inside.rows
room c = omega (arith, c.requires (absent c), ap (λ (all : RowsView). all.spare) c.self.view_is)

inserted : (c : goal.Joined-insert) → c.insert.new.self.items ≡ with_row c.self.inside.rows.items c.args.row
inserted c =
    c.insert.ensures.items
    ∙ (ap (λ (done : Bool). cond done (insert c.self.inside.rows.items c.in-Err.index c.args.row) c.self.inside.rows.items) (c.insert.ensures.succeeds (room c)) ∙ sym (with_row-belongs c.self.inside.rows.items c.args.row c.in-Err.index (belongs c)))

pub invariant_of-self : goal.invariant_of-self
invariant_of-self c = subst AreRising (sym (replaced c)) (AreRising-with_row c.self.inside.rows.items c.args.row c.self.invariant)

pub invariant_of-self-in-Err : goal.invariant_of-self-in-Err
invariant_of-self-in-Err c = subst AreRising (sym (inserted c)) (AreRising-with_row c.self.inside.rows.items c.args.row c.self.invariant)

pub returns-in-Ok-clause-rows : goal.returns-in-Ok-clause-rows
returns-in-Ok-clause-rows c = replaced c ∙ ap (λ (all : RowsView). with_row all.rows c.args.row) c.self.view_is

pub returns-in-Ok-clause-before : goal.returns-in-Ok-clause-before
returns-in-Ok-clause-before c =
    let read : c.replace.result ≡ get_or c.self.inside.rows.items c.in-Ok.index c.replace.result = c.replace.ensures.value ∙ (c.index_mut.ensures.value ∙ ap (λ (d : RowView). get_or c.self.inside.rows.items c.in-Ok.index d) (sym c.replace.ensures.value)) in
    row_at-read c.self.inside.rows.items c.args.row.key c.in-Ok.index c.replace.result (stands c) read ∙ ap (λ (all : RowsView). row_at all.rows c.args.row.key) c.self.view_is

pub returns-in-Err-clause-rows : goal.returns-in-Err-clause-rows
returns-in-Err-clause-rows c = inserted c ∙ ap (λ (all : RowsView). with_row all.rows c.args.row) c.self.view_is

pub returns-in-Err-clause-before : goal.returns-in-Err-clause-before
returns-in-Err-clause-before c = sym (absent c)

pub returns-in-Err-clause-room : goal.returns-in-Err-clause-room
returns-in-Err-clause-room c =
    omega (arith, room c, (c.insert.ensures.in_place (room c)).1.0, c.insert.new.self.ok.0, c.insert.new.self.ok.1, c.self.inside.rows.ok.0, ap (λ (all : RowsView). all.spare) c.self.view_is, ap (λ (all : RowsView). length all.rows) c.self.view_is)
