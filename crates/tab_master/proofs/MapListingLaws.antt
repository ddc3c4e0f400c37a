-- The map in the order in which frames told of it: one frame more, and what the frames stand for.
use Rattle.std.proofs.Common.{◌≡◌, ℕ, ◌+◌, ◌<◌, List, [], ◌∷◌, ◌++◌, map, take, length, get_or, Option, Some, None, refl, sym, ap, ◌∙◌}
use Rattle.std.specs.Prelude.{option_map}
use Rattle.std.proofs.lemmas.List.{take_more}
use Rattle.tab_codec.specs.declared.frames.Frame.{Frame}
use Rattle.tab_journal.specs.Told.{MapTold, map_after}
use Rattle.tab_journal.specs.Fitting.{told_first, told_by, after, after_all}
use Rattle.tab_journal.specs.declared.fitting.Told.{Told}
use Rattle.tab_journal.specs.declared.fitting.Told.TheVariants as told
use Rattle.tab_history.specs.Configurations.{MapRow}
use Rattle.tab_master.specs.Ordered.{in_order}
use Rattle.tab_master.specs.Spelled.{SpelledMap, map_kind, map_row, by_start, map_told, map_of, next_plan_after, next_plan_by, spelled_map}
use Rattle.tab_master.specs.MapListing.{MapListed, map_listed_after, map_after_all, map_listed}

pub held_more : (held : Option MapTold) (list : List Frame) (frame : Frame) → map_after_all held (list ++ frame ∷ []) ≡ map_after (map_after_all held list) frame
unfolding map_after_all
held_more held [] frame = refl
held_more held (first ∷ list) frame = held_more (map_after held first) list frame

pub plan_more : (next : ℕ) (list : List Frame) (frame : Frame) → next_plan_by next (list ++ frame ∷ []) ≡ next_plan_after (next_plan_by next list) frame
unfolding next_plan_by
plan_more next [] frame = refl
plan_more next (first ∷ list) frame = plan_more (next_plan_after next first) list frame

listed : Option MapTold → ℕ → MapListed
listed held next = record { held = held; next_plan = next }

pub frame_more : (list : List Frame) (frame : Frame) → map_listed (list ++ frame ∷ []) ≡ map_listed_after (map_listed list) frame
frame_more list frame =
    ap (λ (held : Option MapTold). record { held = held; next_plan = next_plan_by 0 (list ++ frame ∷ []) }) (held_more None list frame)
    ∙ ap (λ (next : ℕ). record { held = map_after (map_after_all None list) frame; next_plan = next }) (plan_more 0 list frame)

pub nothing_listed : map_listed [] ≡ record { held = None; next_plan = 0 }
unfolding map_after_all next_plan_by
nothing_listed = refl

-- a step of a loop over frames
pub next_listed : (list : List Frame) (i : ℕ) (frame : Frame) (so_far next : MapListed) → i < length list → frame ≡ get_or list i frame → so_far ≡ map_listed (take i list) → next ≡ map_listed_after so_far frame
    → next ≡ map_listed (take (i + 1) list)
next_listed list i frame so_far next less is before more =
    more ∙ (ap (λ (s : MapListed). map_listed_after s frame) before ∙ (sym (frame_more (take i list) frame)
    ∙ ap (λ (l : List Frame). map_listed l) (ap (λ f. take i list ++ f ∷ []) is ∙ sym (take_more list i frame less))))

-- ---- what the frames of a map spell

pub told_is_map : (held : Option MapTold) (list : List Frame) → after_all (told.Map held) list ≡ told.Map (map_after_all held list)
unfolding after_all after map_after_all
told_is_map held [] = refl
told_is_map held (frame ∷ list) = told_is_map (map_after held frame) list

pub first_is_map : told_first map_kind ≡ told.Map None
unfolding told_first
first_is_map = refl

pub told_by_map : (list : List Frame) → told_by map_kind list ≡ told.Map (map_after_all None list)
told_by_map list = ap (λ (t : Told). after_all t list) first_is_map ∙ told_is_map None list

of_map : (next : ℕ) (held : Option MapTold) → map_of next (told.Map held) ≡ option_map (map_told next) held
of_map next None = refl
of_map next (Some held) = refl

-- what is spelled is what was listed, in the order of the rows' bounds
pub spelled_is : (list : List Frame) → spelled_map list ≡ option_map (map_told (map_listed list).next_plan) (map_listed list).held
unfolding spelled_map
spelled_is list = ap (map_of (next_plan_by 0 list)) (told_by_map list) ∙ of_map (next_plan_by 0 list) (map_after_all None list)

pub spelled_listed : (list : List Frame) (listing : MapListed) (held : MapTold) → listing ≡ map_listed list → listing.held ≡ Some held → spelled_map list ≡ Some (map_told listing.next_plan held)
spelled_listed list listing held is some =
    spelled_is list
    ∙ (ap (λ (l : MapListed). option_map (map_told l.next_plan) l.held) (sym is)
    ∙ ap (λ (o : Option MapTold). option_map (map_told listing.next_plan) o) some)

pub nothing_spelled : (list : List Frame) (listing : MapListed) (told : SpelledMap) → listing ≡ map_listed list → listing.held ≡ None → spelled_map list ≡ Some told → ⊥
nothing_spelled list listing told is none spelled =
    let nothing : spelled_map list ≡ None = spelled_is list ∙ (ap (λ (l : MapListed). option_map (map_told l.next_plan) l.held) (sym is) ∙ ap (λ (o : Option MapTold). option_map (map_told listing.next_plan) o) none) in
    absurd (none_is_not told (sym nothing ∙ spelled))
  where
    none_is_not : (it : SpelledMap) → None ≡ Some it → ⊥
    none_is_not it same = cc

same_some : {A : Type 0} (a b : A) → Some a ≡ Some b → a ≡ b
same_some a b same = cc

-- ---- what was told stands for a map

pub told_stands : (list : List Frame) (listing : MapListed) (held : MapTold) (told : SpelledMap) → listing ≡ map_listed list → listing.held ≡ Some held → listing.next_plan ≡ told.next_plan
    → (held.next_range ≡ told.next_range) × (in_order by_start (map map_row held.rows) ≡ told.rows) → spelled_map list ≡ Some told
told_stands list listing held told is some plan same =
    spelled_listed list listing held is some
    ∙ (ap (λ (n : ℕ). Some (map_told n held)) plan
    ∙ (ap (λ (n : ℕ). Some (record { next_range = n; next_plan = told.next_plan; rows = in_order by_start (map map_row held.rows) })) same.0
    ∙ ap (λ (rows : List MapRow). Some (record { next_range = told.next_range; next_plan = told.next_plan; rows = rows })) same.1))

pub stands_told : (list : List Frame) (listing : MapListed) (held : MapTold) (told : SpelledMap) → listing ≡ map_listed list → listing.held ≡ Some held → spelled_map list ≡ Some told → map_told listing.next_plan held ≡ told
stands_told list listing held told is some spelled = same_some (map_told listing.next_plan held) told (sym (spelled_listed list listing held is some) ∙ spelled)
