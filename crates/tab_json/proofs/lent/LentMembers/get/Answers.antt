use Rattle.std.proofs.Common.{List, Some, ap, sym, ◌∙◌, subst}
use Rattle.serde_json.specs.Find.{get_member}
use Rattle.tab_json.specs.declared.lent.Lent.{Lent}
use Rattle.tab_json.specs.declared.slots.Slot.{Slot}
use Rattle.tab_json.specs.Lent.{lent_data, lent_members}
use Rattle.tab_json.specs.Slots.{name_text, StandsAt, BelongsAt}
use Rattle.tab_json.proofs.SlotLemmas.{get_stands, get_belongs}
use Rattle.tab_json.proofs.lent.LentMembers.get.Goals as goal

pub returns-in-Ok : goal.returns-in-Ok
returns-in-Ok c =
    let h : StandsAt c.self.inside.slots.items c.args.name c.in-Ok.place = subst (λ (slots : List (Slot Lent)). StandsAt slots c.args.name c.in-Ok.place) c.as_slice.ensures.value c.in-Ok.ensures in
    sym
    (ap (λ (slots : List (Slot Lent)). get_member (name_text c.args.name) (lent_members slots)) (sym c.self.view_is)
    ∙ get_stands lent_data c.self.inside.slots.items c.args.name c.in-Ok.place h
    ∙ ap (λ (s : Slot Lent). Some (lent_data s.value)) (sym (c.index.ensures ∙ h.here c.index.result.now)))

pub returns-in-Err : goal.returns-in-Err
returns-in-Err c =
    let h : BelongsAt c.self.inside.slots.items c.args.name c.in-Err.field-0 = subst (λ (slots : List (Slot Lent)). BelongsAt slots c.args.name c.in-Err.field-0) c.as_slice.ensures.value c.in-Err.ensures in
    sym
    (ap (λ (slots : List (Slot Lent)). get_member (name_text c.args.name) (lent_members slots)) (sym c.self.view_is)
    ∙ get_belongs lent_data c.self.inside.slots.items c.args.name c.in-Err.field-0 h)
