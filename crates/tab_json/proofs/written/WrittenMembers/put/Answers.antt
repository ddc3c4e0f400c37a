use Rattle.std.proofs.Common.{List, ap, sym, ◌∙◌, subst}
use Rattle.serde_json.specs.Data.{put}
use Rattle.tab_json.specs.declared.slots.Slot.{Slot}
use Rattle.tab_json.specs.declared.written.Leaf.{Leaf}
use Rattle.tab_json.specs.Slots.{name_text, StandsAt, BelongsAt}
use Rattle.tab_json.specs.Written.{leaf_data, written_members}
use Rattle.tab_json.proofs.SlotLemmas.{put_stands, put_belongs}
use Rattle.tab_json.proofs.written.WrittenMembers.put.Goals as goal

pub returns-in-Ok : goal.returns-in-Ok
returns-in-Ok c =
    let h : StandsAt c.self.inside.slots.items c.args.name c.in-Ok.place = subst (λ (slots : List (Slot Leaf)). StandsAt slots c.args.name c.in-Ok.place) c.as_slice.ensures.value c.in-Ok.ensures in
    put_stands leaf_data c.self.inside.slots.items c.args.name c.args.value c.index_mut.result.now c.in-Ok.place h (sym (c.index_mut.ensures.value ∙ h.here c.index_mut.result.now))
    ∙ ap (λ (slots : List (Slot Leaf)). put (name_text c.args.name) (leaf_data c.args.value) (written_members slots)) c.self.view_is

pub returns-in_ok-insert-in-Err : goal.returns-in_ok-insert-in-Err
returns-in_ok-insert-in-Err c =
    let slot : Slot Leaf = record { name = c.args.name; value = c.args.value } in
    let h : BelongsAt c.self.inside.slots.items c.args.name c.in-Err.place = subst (λ (slots : List (Slot Leaf)). BelongsAt slots c.args.name c.in-Err.place) c.as_slice.ensures.value c.in-Err.ensures in
    ap written_members c.in_ok-insert-in-Err.ensures.items
    ∙ put_belongs leaf_data c.self.inside.slots.items slot c.in-Err.place h
    ∙ ap (λ (slots : List (Slot Leaf)). put (name_text c.args.name) (leaf_data c.args.value) (written_members slots)) c.self.view_is
