-- What an append leaves of a store that runs.
use Rattle.std.proofs.Common.{◌≡◌, ℕ, ◌+◌, ◌<◌, ◌≤◌, ◌^◌, true, cond, Some, None, List, [], ◌∷◌, ◌++◌, length, take, refl, sym, ap, subst, ◌∙◌, inl, inr, arith, length-append}
use Rattle.std.specs.Prelude.{◌⊎◌}
use Rattle.std.proofs.lemmas.List.{take-append-le, length-take}
use Rattle.tab_outside.specs.Disks.{Watch, CountsNow, ReadsImage}
use Rattle.tab_outside.specs.Pairs.{Extends, AddsNone}
use Rattle.tab_codec.specs.declared.frames.Frame.{Frame}
use Rattle.tab_codec.specs.declared.frames.Frame.TheVariants as frames
use Rattle.tab_codec.specs.Spelling.{spelling}
use Rattle.tab_codec.specs.Frames.{HasSpelling}
use Rattle.tab_journal.specs.Told.{MapTold, NamesTold, map_after, names_after}
use Rattle.tab_journal.specs.Fitting.{told_first, told_by, after, is_whole_store, Fits}
use Rattle.tab_journal.specs.declared.fitting.Told.{Told}
use Rattle.tab_journal.specs.declared.fitting.Told.TheVariants as told
use Rattle.tab_journal.specs.Areas.{first_gate, front, opened, ShutAt, AreFrames, IsOpen, Spells}
use Rattle.tab_journal.specs.Steps.{Adds, IsShutOn, MayAppend, IsEitherShut}
use Rattle.tab_journal.specs.Stores.{StoreView, area_a, area_b, gates_from, HasFrames}
use Rattle.tab_journal.proofs.Images.{adds_weaker}
use Rattle.tab_journal.proofs.Fronts.{ReadsBack, front_more, all_more, after_more, takes_more}
use Rattle.tab_journal.proofs.Appending.{extends_current, extends_in_order}

map_stays : (m : MapTold) (f : Frame) → is_whole_store (told.Map (map_after (Some m) f)) ≡ true
unfolding is_whole_store map_after
map_stays m (frames.Begin range span next_tick) = refl
map_stays m (frames.Rows range rows) = refl
map_stays m (frames.Whole range next_tick) = refl
map_stays m (frames.Change range next_tick changes) = refl
map_stays m (frames.Map next_range next_plan rows) = refl
map_stays m (frames.Commit plan next_range old_ranges new_rows) = refl
map_stays m (frames.Names next_table names) = refl
map_stays m (frames.Create table name) = refl
map_stays m (frames.Drop table) = refl

names_stay : (n : NamesTold) (f : Frame) → is_whole_store (told.Names (names_after (Some n) f)) ≡ true
unfolding is_whole_store names_after
names_stay n (frames.Begin range span next_tick) = refl
names_stay n (frames.Rows range rows) = refl
names_stay n (frames.Whole range next_tick) = refl
names_stay n (frames.Change range next_tick changes) = refl
names_stay n (frames.Map next_range next_plan rows) = refl
names_stay n (frames.Commit plan next_range old_ranges new_rows) = refl
names_stay n (frames.Names next_table names) = refl
names_stay n (frames.Create table name) = refl
names_stay n (frames.Drop table) = refl

-- a store that has its first frame keeps it
whole_stays : (so_far : Told) (f : Frame) → is_whole_store so_far ≡ true → is_whole_store (after so_far f) ≡ true
unfolding is_whole_store after
whole_stays (told.Map None) f whole = absurd cc
whole_stays (told.Map (Some m)) f whole = map_stays m f
whole_stays (told.Names None) f whole = absurd cc
whole_stays (told.Names (Some n)) f whole = names_stay n f
whole_stays (told.Server ranges) f whole = refl
whole_stays told.Nothing f whole = whole

pub are_more : (kind : ℕ) (list : List Frame) (frame : Frame) → AreFrames kind list → HasSpelling frame → Fits kind list frame → AreFrames kind (list ++ frame ∷ [])
are_more kind list frame are spelled fits = record {
  spelled = all_more HasSpelling list frame are.spelled spelled;
  fit = takes_more (told_first kind) list frame are.fit fits;
  whole = subst (λ (t : Told). is_whole_store t ≡ true) (sym (after_more (told_first kind) list frame)) (whole_stays (told_by kind list) frame are.whole);
}

gates_more : (at : ℕ) (list : List Frame) (frame : Frame) → (last : ℕ) × (gates_from at (list ++ frame ∷ []) ≡ gates_from at list ++ last ∷ [])
unfolding gates_from
gates_more at [] frame = (at, refl)
gates_more at (first ∷ list) frame =
    let more = gates_more (at + length (opened (first ∷ []))) list frame in
    (more.0, ap (λ (l : List ℕ). at ∷ l) more.1)

places_more : (places : List ℕ) (list : List Frame) (frame : Frame) → places ≡ take (length places) (gates_from first_gate list)
    → places ≡ take (length places) (gates_from first_gate (list ++ frame ∷ []))
places_more places list frame is =
    let more = gates_more first_gate list frame in
    let n = length places in
    let within : n ≤ length (gates_from first_gate list) = omega (arith, ap length is, length-take n (gates_from first_gate list)) in
    is ∙ sym (take-append-le n (gates_from first_gate list) (more.0 ∷ []) within) ∙ ap (take n) (sym more.1)

module _ {D : Type 0} (w : Watch D) where
  pub may_append : (store : StoreView D) (list : List Frame) (frame : Frame) (piece : List ℕ) → HasFrames w store list → piece ≡ spelling frame ++ 0 ∷ []
      → MayAppend w store.current store.end piece (front store.kind store.number store.epoch list) (spelling frame)
  may_append store list frame piece has is = record { stands = has.end; within = has.short; shut = has.current; ends = is }

  pub appended : (store : StoreView D) (list : List Frame) (frame : Frame) (d : D) (end : ℕ) → HasFrames w store list → Fits store.kind list frame → HasSpelling frame
      → IsShutOn w (front store.kind store.number store.epoch list ++ 1 ∷ spelling frame) d → end ≡ store.end + (length (spelling frame) + 1) → end + 1 < 2 ^ 64
      → HasFrames w (record store { current = d; end = end }) (list ++ frame ∷ [])
  appended store list frame d end has fits spelled shut is short =
      let more = front_more store.kind store.number store.epoch list frame in
      record {
        running = has.running;
        within = has.within;
        are = are_more store.kind list frame has.are spelled fits;
        current = subst (λ (l : List ℕ). IsShutOn w l d) (sym more) shut;
        end = omega (arith, is, has.end, ap length more, length-append (front store.kind store.number store.epoch list) (1 ∷ spelling frame));
        short = short;
        other = has.other;
        places = places_more store.places list frame has.places;
      }

  pub left_alone : (disk : D) → AddsNone w disk disk
  left_alone disk = record { later = omega arith; each = λ t earlier c left. left }

  open_too : (kind number epoch : ℕ) (list : List Frame) (frame : Frame) (c : List ℕ) → epoch < 2 ^ 64 → AreFrames kind list → HasSpelling frame → Fits kind list frame
      → IsEitherShut (front kind number epoch list) (spelling frame) c → IsOpen kind number epoch list c ⊎ IsOpen kind number epoch (list ++ frame ∷ []) c
  open_too kind number epoch list frame c within are spelled fits (inl shut) = inl (record { within = within; are = are; shut = shut })
  open_too kind number epoch list frame c within are spelled fits (inr shut) =
      inr (record { within = within; are = are_more kind list frame are spelled fits; shut = subst (λ (l : List ℕ). ShutAt l c) (sym (front_more kind number epoch list frame)) shut })

  -- the images of an append, of areas 0 and 1
  pub append_extends : ReadsBack → (store : StoreView D) (list : List Frame) (frame : Frame) (d : D) → CountsNow w → ReadsImage w → HasFrames w store list → Fits store.kind list frame → HasSpelling frame
      → Adds w (IsEitherShut (front store.kind store.number store.epoch list) (spelling frame)) store.current d
      → Extends w (Spells store.kind store.number) (λ others. others ≡ list ++ frame ∷ []) (area_a store) (area_b store) (cond store.second store.other d) (cond store.second d store.other)
  append_extends reads store list frame d counts images has fits spelled adds =
      let gs = list ++ frame ∷ [] in
      let now : IsOpen store.kind store.number store.epoch list (w.seen store.current) = record { within = has.within; are = has.are; shut = has.current.shut } in
      extends_in_order reads store.kind store.number w (λ others. others ≡ gs) store.second store.current store.other d store.other
      (extends_current reads store.kind store.number w store.epoch list gs store.current d store.other store.other (w.seen store.current) counts (images store.current) now
      (adds_weaker w _ _ store.current d (λ c either. open_too store.kind store.number store.epoch list frame c has.within has.are spelled fits either) adds)
      (left_alone store.other))
