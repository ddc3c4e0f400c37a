-- What the frames of a store spell, where they mean what a service holds for a course.
use Rattle.std.proofs.Common.{◌≡◌, ℕ, zero, suc, ◌+◌, ◌<◌, get_or, length, List, [], ◌∷◌, Bool, true, false, Option, Some, None, refl, ap, subst, ◌∙◌, inl, inr}
use Rattle.std.specs.Prelude.{◌==◌, slice_get, option_map, Any, All, IfSome, IsSomeAnd, if◌then◌else◌}
use Rattle.std.specs.List.{AllByRecursion}
use Rattle.std.proofs.lemmas.Option.{slice_get-map}
use Rattle.tab_codec.specs.declared.frames.Frame.{Frame}
use Rattle.tab_seats.specs.declared.views.Stroke.{Stroke}
use Rattle.tab_journal.specs.Keeping.{Means}
use Rattle.tab_history.specs.Configurations.{Configuration, MapRow, ticked}
use Rattle.tab_history.specs.Legality.{State, acted}
use Rattle.tab_range.specs.declared.commands.Told.{Told}
use Rattle.tab_server.specs.declared.ranges.Marked.{Marked}
use Rattle.tab_server.specs.declared.steps.RangeChange.{RangeChange}
use Rattle.tab_server.specs.Replays.{SpelledRange, with_changes, spelled_range, SpellsEach}
use Rattle.tab_server.specs.Contents.{told_of, told_ranges, told_with, with_change, ranges_sense}
use Rattle.tab_server.specs.Serving.{ServerView, range_of}
use Rattle.tab_server.proofs.ActLaws.{placed}
use Rattle.tab_master.specs.Spelled.{SpelledNames, spelled_map, spelled_names}
use Rattle.tab_master.specs.Names.{NamesView, names_sense, names_stepped}
use Rattle.tab_master.specs.Maps.{MapView, MapCommit, map_sense, map_stepped}
use Rattle.tab_master.specs.declared.steps.NamesStep.{NamesStep}
use Rattle.tab_core.specs.Courses.{Course, committed_by}
use Rattle.tab_core.specs.Points.{SpellsMap, MapPoint, SpellsNames, NamesPoint, held_in, SpellsRange, RangePoint, RangesPoint, ServerPoint}
use Rattle.tab_core.specs.Cores.{told_map, told_names, NamesBy, HoldsRow, ChangesBy, HoldsRanges, KeepsServer}

-- ---- some and each

any_so : {X : Type 0} (P Q : X → Type 0) (xs : List X) → ((x : X) → P x → Q x) → Any P xs → Any Q xs
any_so P Q xs to any = (any.0, any.1, any.2, any.3, to any.1 any.4)

some_so : {X : Type 0} (P Q : X → Type 0) (o : Option X) → ((x : X) → P x → Q x) → IsSomeAnd o P → IsSomeAnd o Q
some_so P Q None to is = is
some_so P Q (Some x) to is = to x is

if_so : {X : Type 0} (P Q : X → Type 0) (o : Option X) → ((x : X) → P x → Q x) → IfSome o P → IfSome o Q
if_so P Q None to is = tt
if_so P Q (Some x) to is = to x is

each_at : {X : Type 0} (P : X → Type 0) (xs : List X) (place : ℕ) (x : X) → AllByRecursion P xs → slice_get xs place ≡ Some x → P x
each_at P [] place x all here = absurd cc
each_at P (first ∷ xs) zero x all here =
    let same : first ≡ x = cc in
    subst P same all.0
each_at P (first ∷ xs) (suc place) x all here = each_at P xs place x all.1 here

-- ---- the map

map_still : (course : Course) (held : MapView) (frames : List Frame) → held.told ≡ told_map course.config → spelled_map frames ≡ Some held.told → MapPoint course frames
map_still course held frames told spelled = inl (spelled ∙ ap Some told)

map_stepping : (course : Course) (held : MapView) (step : MapCommit) (frames : List Frame) → IsSomeAnd course.past.commit (λ plan. map_stepped held.told step ≡ told_map (committed_by course.config plan))
    → spelled_map frames ≡ Some (map_stepped held.told step) → MapPoint course frames
map_stepping course held step frames made spelled =
    inr (some_so (λ plan. map_stepped held.told step ≡ told_map (committed_by course.config plan)) (λ plan. SpellsMap (committed_by course.config plan) frames) course.past.commit
    (λ plan is. spelled ∙ ap Some is) made)

-- frames that mean the map of a course, with the step in doubt or without it, meet the map's point
pub map_point : (course : Course) (held : MapView) (doubt : Option MapCommit) (frames : List Frame) → held.told ≡ told_map course.config
    → IfSome doubt (λ step. IsSomeAnd course.past.commit (λ plan. map_stepped held.told step ≡ told_map (committed_by course.config plan)))
    → Means map_sense held doubt frames → MapPoint course frames
map_point course held doubt frames told in_doubt (inl stands) = map_still course held frames told stands
map_point course held None frames told in_doubt (inr none) = absurd none
map_point course held (Some step) frames told in_doubt (inr stands) = map_stepping course held step frames in_doubt stands

-- ---- the names

names_stepping : (course : Course) (held : NamesView) (step : NamesStep) (frames : List Frame) → held.told ≡ told_names course.past.world → Any (λ it. NamesBy course.past.world step it.1) course.past.doubts
    → spelled_names frames ≡ Some (names_stepped held.told step) → NamesPoint course frames
names_stepping course held step frames told made spelled =
    inr (any_so (λ it. NamesBy course.past.world step it.1) (λ it. SpellsNames (acted course.past.world it.1) frames) course.past.doubts
    (λ it by. spelled ∙ ap Some (ap (λ (names : SpelledNames). names_stepped names step) told ∙ by.makes)) made)

-- and so those that mean its names
pub names_point : (course : Course) (held : NamesView) (doubt : Option NamesStep) (frames : List Frame) → held.told ≡ told_names course.past.world
    → IfSome doubt (λ step. Any (λ it. NamesBy course.past.world step it.1) course.past.doubts)
    → Means names_sense held doubt frames → NamesPoint course frames
names_point course held doubt frames told in_doubt (inl stands) = inl (stands.spelled ∙ ap Some told)
names_point course held None frames told in_doubt (inr none) = absurd none
names_point course held (Some step) frames told in_doubt (inr stands) = names_stepping course held step frames told in_doubt stands.spelled

-- ---- one range of a server

pub same_number : (step : RangeChange) (one : SpelledRange) → (told_with (Some step) one).range ≡ one.range
same_number step one = by_test (step.range == one.range)
  where
    by_test : (b : Bool) → (if b then with_changes step.changes.list (step.changes.tick + 1) one else one).range ≡ one.range
    by_test true = refl
    by_test false = refl

-- the range of a number that is held is what frames spell that stand for all that is held
spelled_held : {T : Type 0} (held : List (Marked T)) (range : ℕ) (marked : Marked T) (frames : List Frame) → SpellsEach frames (told_ranges held) → range_of held range ≡ Some marked
    → spelled_range frames range ≡ Some (told_of marked)
spelled_held held range marked frames stand found =
    let at = placed held range marked found in
    let here : slice_get (told_ranges held) at.0 ≡ Some (told_of marked) = slice_get-map told_of held at.0 ∙ ap (option_map told_of) at.1.here in
    subst (λ (n : ℕ). spelled_range frames n ≡ Some (told_of marked)) at.1.number (each_at (λ one. spelled_range frames one.range ≡ Some one) (told_ranges held) at.0 (told_of marked) stand here)

-- and with a change
spelled_changed : {T : Type 0} (held : List (Marked T)) (range : ℕ) (marked : Marked T) (step : RangeChange) (frames : List Frame) → SpellsEach frames (with_change (told_ranges held) step)
    → range_of held range ≡ Some marked → spelled_range frames range ≡ Some (told_with (Some step) (told_of marked))
spelled_changed held range marked step frames stand found =
    let at = placed held range marked found in
    let told : slice_get (told_ranges held) at.0 ≡ Some (told_of marked) = slice_get-map told_of held at.0 ∙ ap (option_map told_of) at.1.here in
    let here : slice_get (with_change (told_ranges held) step) at.0 ≡ Some (told_with (Some step) (told_of marked)) =
    slice_get-map (told_with (Some step)) (told_ranges held) at.0 ∙ ap (option_map (told_with (Some step))) told in
    subst (λ (n : ℕ). spelled_range frames n ≡ Some (told_with (Some step) (told_of marked))) (same_number step (told_of marked) ∙ at.1.number)
    (each_at (λ one. spelled_range frames one.range ≡ Some one) (with_change (told_ranges held) step) at.0 (told_with (Some step) (told_of marked)) stand here)

-- a row's range, as the world has it
row_still : {T : Type 0} (past : State) (config : Configuration) (held : List (Marked T)) (row : MapRow) (frames : List Frame) → SpellsEach frames (told_ranges held)
    → (o : Option (Marked T)) → range_of held row.range ≡ o → IsSomeAnd o (λ marked. told_of marked ≡ held_in past.world config row) → SpellsRange past.world config row frames
row_still past config held row frames stand None found is = absurd is
row_still past config held row frames stand (Some marked) found is = spelled_held held row.range marked frames stand found ∙ ap Some is

row_changed : {T : Type 0} (past : State) (config : Configuration) (held : List (Marked T)) (row : MapRow) (step : RangeChange) (frames : List Frame) → SpellsEach frames (with_change (told_ranges held) step)
    → (o : Option (Marked T)) → range_of held row.range ≡ o → IsSomeAnd o (λ marked. told_of marked ≡ held_in past.world config row)
    → spelled_range frames row.range ≡ Some (told_with (Some step) (held_in past.world config row))
row_changed past config held row step frames stand None found is = absurd is
row_changed past config held row step frames stand (Some marked) found is =
    spelled_changed held row.range marked step frames stand found ∙ ap (λ (one : SpelledRange). Some (told_with (Some step) one)) is

-- and as the operation in doubt makes it
row_stepping : (past : State) (config : Configuration) (number : ℕ) (step : RangeChange) (frames : List Frame) (i : ℕ) (d : MapRow) → i < length config.rows → (get_or config.rows i d).server ≡ number
    → spelled_range frames (get_or config.rows i d).range ≡ Some (told_with (Some step) (held_in past.world config (get_or config.rows i d)))
    → Any (λ it. ChangesBy past config number step it.1) past.doubts → RangePoint past config (get_or config.rows i d) frames
row_stepping past config number step frames i d inside here spelled made =
    inr (any_so (λ it. ChangesBy past config number step it.1) (λ it. SpellsRange (acted past.world it.1) (ticked config (Some it.1)) (get_or config.rows i d) frames) past.doubts
    (λ it by. spelled ∙ ap Some (by.makes i d inside here)) made)

-- ---- the ranges of a server

ranges_point : {T : Type 0} (drawn : T → Stroke Told → T → Type 0) (ready : T → ℕ → Type 0) (kin : T → T → Type 0) (past : State) (config : Configuration) (number : ℕ)
    (held : List (Marked T)) (doubt : Option RangeChange) (frames : List Frame) → All (λ row. row.server ≡ number → HoldsRow past config held row) config.rows
    → IfSome doubt (λ step. Any (λ it. ChangesBy past config number step it.1) past.doubts)
    → Means (ranges_sense drawn ready kin) held doubt frames → RangesPoint past config number frames
ranges_point drawn ready kin past config number held doubt frames holds in_doubt (inl stands) i d inside here =
    inl (row_still past config held _ frames stands _ refl (holds i d inside here))
ranges_point drawn ready kin past config number held None frames holds in_doubt (inr none) i d inside here = absurd none
ranges_point drawn ready kin past config number held (Some step) frames holds in_doubt (inr stands) i d inside here =
    row_stepping past config number step frames i d inside here (row_changed past config held _ step frames stands _ refl (holds i d inside here)) in_doubt

-- frames that mean what a server holds for a course meet the server's point
pub server_point : {D T : Type 0} (drawn : T → Stroke Told → T → Type 0) (ready : T → ℕ → Type 0) (kin : T → T → Type 0) (course : Course) (number : ℕ) (server : ServerView D T) (frames : List Frame)
    → KeepsServer course number server → Means (ranges_sense drawn ready kin) server.held server.doubt frames → ServerPoint course number frames
server_point drawn ready kin course number server frames keeps means = (
  ranges_point drawn ready kin course.past course.config number server.held server.doubt frames keeps.ranges.held keeps.ranges.in_doubt means,
  if_so (λ plan. HoldsRanges course.past (committed_by course.config plan) number server) (λ plan. RangesPoint course.past (committed_by course.config plan) number frames) course.past.commit
      (λ plan holds. ranges_point drawn ready kin course.past (committed_by course.config plan) number server.held server.doubt frames holds.held holds.in_doubt means) keeps.committed,
)
