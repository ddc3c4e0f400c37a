-- The frames with which the stores begin are frames of their kinds, and spell what a store that was just made is to spell.
use Rattle.std.proofs.Common.{◌≡◌, ℕ, zero, suc, List, [], refl, sym, subst, true, inl, arith, lit≤}
use Rattle.std.specs.List.{AllByRecursion}
use Rattle.std.proofs.lemmas.List.Elements.{All-cons, All-nil}
use Rattle.tab_codec.specs.Spelling.{body, bound_spelling, span_spelling, range_row_spelling, sized}
use Rattle.tab_codec.specs.Frames.{IsOrderly, IsShort}
use Rattle.tab_codec.specs.declared.frames.Frame.{Frame}
use Rattle.tab_outside.specs.Disks.{Watch}
use Rattle.tab_outside.specs.Pairs.{Now}
use Rattle.tab_journal.specs.Areas.{Spells}
use Rattle.tab_journal.specs.Stores.{StoreView, area_a, area_b, HasFrames}
use Rattle.tab_journal.proofs.Keeping.{frames_now}
use Rattle.tab_journal.specs.Fitting.{takes_all, told_first, told_by, is_whole_store, takes, after, after_all}
use Rattle.tab_journal.specs.Told.{map_takes, map_after, names_takes, names_after, server_takes, server_after, numbers_differ, are_new, at_range}
use Rattle.tab_history.specs.Configurations.{next_tick_of}
use Rattle.tab_core.specs.Courses.{first_course, first_row, first_config, first_state, first_world}
use Rattle.tab_master.specs.Ordered.{placed, placed_all}
use Rattle.tab_master.specs.Spelled.{spelled_map, spelled_names, next_plan_by}
use Rattle.tab_core.specs.Points.{Point, MapPoint, NamesPoint, RangePoint, RangesPoint, SpellsRange, held_in, kind_of, number_of}
use Rattle.tab_core.specs.Making.{first_frames, IsMade}

pub orderly : (store : ℕ) → AllByRecursion IsOrderly (first_frames store)
unfolding first_frames
orderly zero = ((omega arith, λ i j d less within. absurd (omega (arith, less, within))), tt)
orderly (suc zero) = ((omega arith, λ i j d less within. absurd (omega (arith, less, within))), tt)
orderly (suc (suc zero)) = (tt, (tt, tt))
orderly (suc (suc (suc server))) = tt

pub short : (store : ℕ) → AllByRecursion (λ frame. IsShort (body frame)) (first_frames store)
unfolding first_frames body range_row_spelling span_spelling bound_spelling sized
short zero = (lit≤ tt, tt)
short (suc zero) = (lit≤ tt, tt)
short (suc (suc zero)) = (lit≤ tt, (lit≤ tt, tt))
short (suc (suc (suc server))) = tt

pub fit : (store : ℕ) → takes_all (told_first (kind_of store)) (first_frames store) ≡ true
unfolding first_frames takes_all told_first takes after map_takes map_after names_takes names_after server_takes server_after numbers_differ are_new at_range
fit zero = refl
fit (suc zero) = refl
fit (suc (suc zero)) = refl
fit (suc (suc (suc server))) = refl

pub whole : (store : ℕ) → is_whole_store (told_by (kind_of store) (first_frames store)) ≡ true
unfolding first_frames is_whole_store after_all told_first takes after map_after names_after server_after at_range
whole zero = refl
whole (suc zero) = refl
whole (suc (suc zero)) = refl
whole (suc (suc (suc server))) = refl

first_range : SpellsRange first_world first_config first_row (first_frames 2)
unfolding first_frames held_in next_tick_of
first_range = refl

own_range : (server : ℕ) → 0 ≡ server → SpellsRange first_world first_config first_row (first_frames (suc (suc server)))
own_range zero same = first_range
own_range (suc server) same = absurd (cc)

first_ranges : (server : ℕ) → RangesPoint first_state first_config server (first_frames (suc (suc server)))
first_ranges server =
    All-cons (λ row. row.server ≡ server → RangePoint first_state first_config row (first_frames (suc (suc server)))) first_row [] (λ same. inl (own_range server same))
    (All-nil (λ row. row.server ≡ server → RangePoint first_state first_config row (first_frames (suc (suc server)))))

first_map : MapPoint first_course (first_frames 0)
unfolding first_frames spelled_map next_plan_by told_first after_all after map_after placed placed_all
first_map = inl refl

first_names : NamesPoint first_course (first_frames 1)
unfolding first_frames spelled_names told_first after_all after names_after placed_all
first_names = inl refl

pub first_point : (store : ℕ) → Point first_course store (first_frames store)
first_point zero = first_map
first_point (suc zero) = first_names
first_point (suc (suc server)) = (first_ranges server, tt)

-- ---- the same of frames that are these

pub orderly_at : (store : ℕ) (frames : List Frame) → frames ≡ first_frames store → AllByRecursion IsOrderly frames
orderly_at store frames same = subst (λ (fs : List Frame). AllByRecursion IsOrderly fs) (sym same) (orderly store)

pub short_at : (store : ℕ) (frames : List Frame) → frames ≡ first_frames store → AllByRecursion (λ frame. IsShort (body frame)) frames
short_at store frames same = subst (λ (fs : List Frame). AllByRecursion (λ frame. IsShort (body frame)) fs) (sym same) (short store)

pub fit_at : (store kind : ℕ) (frames : List Frame) → kind ≡ kind_of store → frames ≡ first_frames store → takes_all (told_first kind) frames ≡ true
fit_at store kind frames is same =
    subst (λ (k : ℕ). takes_all (told_first k) frames ≡ true) (sym is) (subst (λ (fs : List Frame). takes_all (told_first (kind_of store)) fs ≡ true) (sym same) (fit store))

pub whole_at : (store kind : ℕ) (frames : List Frame) → kind ≡ kind_of store → frames ≡ first_frames store → is_whole_store (told_by kind frames) ≡ true
whole_at store kind frames is same =
    subst (λ (k : ℕ). is_whole_store (told_by k frames) ≡ true) (sym is) (subst (λ (fs : List Frame). is_whole_store (told_by (kind_of store) fs) ≡ true) (sym same) (whole store))

-- a store with these frames was made
pub made_store : {D : Type 0} (w : Watch D) (view : StoreView D) (frames : List Frame) (store : ℕ) (a b : D) → HasFrames w view frames → view.kind ≡ kind_of store
    → view.number ≡ number_of store → frames ≡ first_frames store → a ≡ area_a view → b ≡ area_b view → IsMade w store a b
made_store {D = D} w view frames store a b has kind number are is_a is_b =
    let kinded = subst (λ (n : ℕ). Now w (Spells n view.number) (λ fs. fs ≡ frames) (area_a view) (area_b view)) kind (frames_now w view frames has) in
    let numbered = subst (λ (n : ℕ). Now w (Spells (kind_of store) n) (λ fs. fs ≡ frames) (area_a view) (area_b view)) number kinded in
    let framed = subst (λ (gs : List Frame). Now w (Spells (kind_of store) (number_of store)) (λ fs. fs ≡ gs) (area_a view) (area_b view)) are numbered in
    subst (λ (x : D). IsMade w store x b) (sym is_a) (subst (λ (y : D). IsMade w store (area_a view) y) (sym is_b) framed)
