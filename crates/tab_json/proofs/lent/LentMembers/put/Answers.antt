use Rattle.std.proofs.Common.{List, refl, ap, sym, ◌∙◌, subst}
use Rattle.serde_json.specs.Data.{put}
use Rattle.tab_json.specs.declared.slots.Name.{Name}
use Rattle.tab_json.specs.declared.slots.Slot.{Slot}
use Rattle.tab_json.specs.declared.lent.Lent.{Lent}
use Rattle.tab_json.specs.Slots.{name_text, StandsAt, BelongsAt}
use Rattle.tab_json.specs.Lent.{lent_data, lent_members, AreLent}
use Rattle.tab_json.proofs.LentLemmas.{lent_belongs}
use Rattle.tab_json.proofs.SlotLemmas.{put_stands, put_belongs}
use Rattle.tab_json.proofs.lent.LentMembers.put.Goals as goal

pub returns-in-Ok : goal.returns-in-Ok
returns-in-Ok c =
    let h : StandsAt c.self.inside.slots.items (Name.Plain c.args.name) c.in-Ok.place = subst (λ (slots : List (Slot Lent)). StandsAt slots (Name.Plain c.args.name) c.in-Ok.place) c.as_slice.ensures.value c.in-Ok.ensures in
    put_stands lent_data c.self.inside.slots.items (Name.Plain c.args.name) c.args.value c.index_mut.result.now c.in-Ok.place h (sym (c.index_mut.ensures.value ∙ h.here c.index_mut.result.now))
    ∙ ap (λ (slots : List (Slot Lent)). put (name_text (Name.Plain c.args.name)) (lent_data c.args.value) (lent_members slots)) c.self.view_is

pub returns-in_ok-insert-in-Err : goal.returns-in_ok-insert-in-Err
returns-in_ok-insert-in-Err c =
    let slot : Slot Lent = record { name = Name.Plain c.args.name; value = c.args.value } in
    let h : BelongsAt c.self.inside.slots.items (Name.Plain c.args.name) c.in-Err.place = subst (λ (slots : List (Slot Lent)). BelongsAt slots (Name.Plain c.args.name) c.in-Err.place) c.as_slice.ensures.value c.in-Err.ensures in
    ap lent_members c.in_ok-insert-in-Err.ensures.items
    ∙ put_belongs lent_data c.self.inside.slots.items slot c.in-Err.place h
    ∙ ap (λ (slots : List (Slot Lent)). put (name_text (Name.Plain c.args.name)) (lent_data c.args.value) (lent_members slots)) c.self.view_is

pub invariant_of-self-in-Continue-1 : goal.invariant_of-self-in-Continue-1
invariant_of-self-in-Continue-1 c =
    let slot : Slot Lent = record { name = Name.Plain c.args.name; value = c.args.value } in
    let h : BelongsAt c.self.inside.slots.items (Name.Plain c.args.name) c.in-Err.place = subst (λ (slots : List (Slot Lent)). BelongsAt slots (Name.Plain c.args.name) c.in-Err.place) c.as_slice.ensures.value c.in-Err.ensures in
    subst AreLent (sym c.in_ok-insert-in-Err.ensures.items) (lent_belongs c.self.inside.slots.items slot c.in-Err.place c.self.invariant refl h)
