-- Whatever is read of disks that hold a course, some opening's entries lead to the course that it spells.
use Rattle.std.proofs.Common.{◌≡◌, ◌≢◌, ℕ, suc, ◌+◌, ◌<◌, List, [], ◌∷◌, ◌++◌, Bool, true, false, Contains, All, AllPairs, refl, sym, ap, ◌∙◌, subst, inl, inr, arith}
use Rattle.std.specs.Prelude.{Option, Some, None, IfSome, IsSomeAnd}
use Rattle.std.proofs.lemmas.List.Elements.{All-contains}
use Rattle.tab_page.proofs.RisingLists.{Contains-nil, All-from_each, AllPairs-weaker}
use Rattle.tab_keys.specs.declared.bounds.Bound.{Bound}
use Rattle.tab_codec.specs.declared.frames.Frame.{Frame}
use Rattle.tab_history.specs.World.{World}
use Rattle.tab_history.specs.Legality.{State}
use Rattle.tab_history.specs.Configurations.{MapRow, Configuration, bounds_of, opened_again}
use Rattle.tab_history.specs.declared.entries.Entry.{Entry}
use Rattle.tab_history.specs.declared.entries.Entry.TheVariants as entry
use Rattle.tab_history.specs.declared.entries.Doubt.{Doubt}
use Rattle.tab_history.specs.declared.plans.Turn.TheVariants as turn
use Rattle.tab_server.specs.Replays.{spelled_range}
use Rattle.tab_master.specs.Spelled.{spelled_names}
use Rattle.tab_core.specs.Courses.{Course, IsCourse, MayCommit, committed_by, store_of}
use Rattle.tab_core.specs.Points.{MapPoint, SpellsMap, SpellsRange, RangePoint, RangesPoint, held_in}
use Rattle.tab_core.specs.Steps.{after_entry, after_entries}
use Rattle.tab_core.specs.Openings.{TellsCommit, AreSettled, settled_entries, MeetPoints, SpellCourse, IsFound}
use Rattle.tab_core.proofs.Sorting.{same_by, Rises, sorted, sorted-has, sorted-from, sorted-rises, AllPairs-from_map, first-of, of_first}
use Rattle.tab_core.proofs.Views.{PointOf, names_view, range_view}
use Rattle.tab_core.proofs.Settling.{Midway, Meets, Settles, settles_all}

pub entries_append : (course : Course) (xs ys : List Entry) → after_entries course (xs ++ ys) ≡ after_entries (after_entries course xs) ys
entries_append course [] ys = refl
entries_append course (x ∷ xs) ys = entries_append (after_entry course x) xs ys

-- ---- the commit

-- what an opening tells of the commit in doubt, behind which the frames meet the points of the course without it
pub record Decided (course : Course) (frames : ℕ → List Frame) : Type 0 where
  pub told : List Entry
  pub tells : TellsCommit course.past.commit told
  pub midway : Midway (after_entries course told).past (after_entries course told).config
  pub meets : Meets (after_entries course told).past (after_entries course told).config frames

nothing_told : (commit : Option ℕ) → TellsCommit commit []
nothing_told None = refl
nothing_told (Some plan) = inl refl

-- a row's point is one of its server's
row_point : (past : State) (config : Configuration) (row : MapRow) (frames : List Frame) → RangesPoint past config row.server frames → Contains config.rows row → RangePoint past config row frames
row_point past config row frames points among = All-contains (λ (it : MapRow). it.server ≡ row.server → RangePoint past config it frames) config.rows row points among refl

server_below : (servers : ℕ) (rows : List MapRow) (row : MapRow) → All (λ it. it.server < servers) rows → Contains rows row → suc (suc row.server) < servers + 2
server_below servers rows row are among = let below : row.server < servers = All-contains (λ (it : MapRow). it.server < servers) rows row are among in omega (arith, below)

without_commit : (servers : ℕ) (course : Course) (frames : ℕ → List Frame) → IsCourse servers course → MeetPoints servers course frames → SpellsMap course.config (frames 0) → Decided course frames
without_commit servers course frames is meets spelled = record {
  told = [];
  tells = nothing_told course.past.commit;
  midway = record {
    rising = is.world.rows_rise;
    doubts = is.doubts;
    groups = is.groups;
    asks_differ = is.asks_differ;
    stores_differ = is.config.stores_differ;
    tiles = is.config.map.tiles;
    differ = is.config.map.differ;
  };
  meets = record {
    map = spelled;
    names = meets 1 (omega arith);
    ranges = λ row among.
        row_point course.past course.config row (frames (suc (suc row.server)))
        (meets (suc (suc row.server)) (server_below servers course.config.rows row is.config.map.servers_are among)).0 among;
  };
}

with_commit : (servers : ℕ) (course : Course) (frames : ℕ → List Frame) (plan : ℕ) → course.past.commit ≡ Some plan → IsCourse servers course → MayCommit servers course plan → MeetPoints servers course frames
    → SpellsMap (committed_by course.config plan) (frames 0) → Decided course frames
with_commit servers course frames plan here is may meets spelled = record {
  told = entry.Turn plan turn.Committed ∷ [];
  tells = subst (λ (commit : Option ℕ). TellsCommit commit (entry.Turn plan turn.Committed ∷ [])) (sym here) (inr refl);
  midway = record {
    rising = is.world.rows_rise;
    doubts = is.doubts;
    groups = is.groups;
    asks_differ = is.asks_differ;
    stores_differ = may.config.stores_differ;
    tiles = may.config.map.tiles;
    differ = may.config.map.differ;
  };
  meets = record {
    map = spelled;
    names = meets 1 (omega arith);
    ranges = λ row among.
        row_point course.past (committed_by course.config plan) row (frames (suc (suc row.server)))
        (subst (λ (commit : Option ℕ). IfSome commit (λ it. RangesPoint course.past (committed_by course.config it) row.server (frames (suc (suc row.server))))) here
        (meets (suc (suc row.server)) (server_below servers (committed_by course.config plan).rows row may.config.map.servers_are among)).1) among;
  };
}

pub decided : (servers : ℕ) (course : Course) (frames : ℕ → List Frame) → IsCourse servers course → IfSome course.past.commit (MayCommit servers course) → MeetPoints servers course frames → Decided course frames
decided servers course frames is in_doubt meets = by_point (meets 0 (omega arith))
  where
    by_commit : (commit : Option ℕ) → course.past.commit ≡ commit → IsSomeAnd commit (λ plan. SpellsMap (committed_by course.config plan) (frames 0)) → IfSome commit (MayCommit servers course) → Decided course frames
    by_commit None here some may = absurd some
    by_commit (Some plan) here some may = with_commit servers course frames plan here is may meets some

    by_point : MapPoint course (frames 0) → Decided course frames
    by_point (inl spelled) = without_commit servers course frames is meets spelled
    by_point (inr some) = by_commit course.past.commit refl some in_doubt

-- ---- behind the bounds

-- where nothing is in doubt, what was read is what is seen
alone : {A : Type 0} (view : World → Configuration → A) (read : Option A) (past : State) (config : Configuration) → past.doubts ≡ [] → PointOf view read past config → read ≡ Some (view past.world config)
alone view read past config none (inl e) = e
alone view read past config none (inr any) = absurd (Contains-nil any.1 (subst (λ (doubts : List (ℕ × Doubt)). Contains doubts any.1) none (any.0, any.2, any.3)))

-- an opening's bounds change nothing that frames spell
opened : (world : World) (config : Configuration) (frames : ℕ → List Frame) (stopped : Bool) → SpellsMap config (frames 0) → All (λ row. SpellsRange world config row (frames (suc (suc row.server)))) config.rows
    → SpellsMap (opened_again config stopped) (frames 0) × All (λ row. SpellsRange world (opened_again config stopped) row (frames (suc (suc row.server)))) (opened_again config stopped).rows
unfolding held_in
opened world config frames true map ranges = (map, ranges)
opened world config frames false map ranges = (map, ranges)

spelled_behind : (course : Course) (bounds : List Bound) (frames : ℕ → List Frame) → course.past.doubts ≡ [] → Meets course.past course.config frames → SpellCourse (after_entry course (entry.Bounds bounds)) frames
spelled_behind course bounds frames none meets =
    let both = opened course.past.world course.config frames course.config.stopped meets.map
    (All-from_each (λ (row : MapRow). SpellsRange course.past.world course.config row (frames (suc (suc row.server)))) course.config.rows
    (λ row among. alone (range_view row) (spelled_range (frames (suc (suc row.server))) row.range) course.past course.config none (meets.ranges row among))) in
    record { map = both.0; names = alone names_view (spelled_names (frames 1)) course.past course.config none meets.names; ranges = both.1; settled = none; commit = refl }

-- ---- the whole

-- the doubts in the order of their stores
abbrev store_number : Course → ℕ × Doubt → ℕ
store_number course it = store_of course.config it.1

abbrev in_order : Course → List (ℕ × Doubt)
in_order course = sorted (store_number course) course.past.doubts

order_differs : (course : Course) → Midway course.past course.config → AllPairs (λ a b. a.0 ≢ b.0) (in_order course)
order_differs course midway =
    AllPairs-weaker (λ (a b : ℕ × Doubt). store_number course a < store_number course b) (λ (a b : ℕ × Doubt). a.0 ≢ b.0) (λ (it : ℕ × Doubt). Contains course.past.doubts it)
    (λ a b here there less e.
    let same = ap (store_number course) (same_by (λ (it : ℕ × Doubt). it.0) course.past.doubts a b midway.asks_differ here there e) in
    absurd (omega (arith, less, same)))
    (in_order course)
    (All-from_each (λ (it : ℕ × Doubt). Contains course.past.doubts it) (in_order course) (λ it among. sorted-from (store_number course) course.past.doubts it among))
    (sorted-rises (store_number course) course.past.doubts midway.stores_differ)

are_settled : (course : Course) (frames : ℕ → List Frame) (midway : Midway course.past course.config) (all : Settles course frames (in_order course)) → AreSettled course all.settled
are_settled course frames midway all = record {
  rise =
      AllPairs-from_map (λ (a b : ℕ × Doubt). store_number course a < store_number course b) (λ (it : (ℕ × Doubt) × Bool). it.0) all.settled
      (subst (λ (xs : List (ℕ × Doubt)). Rises (store_number course) xs) (sym all.are) (sorted-rises (store_number course) course.past.doubts midway.stores_differ));
  are = λ it. (
    λ has. first-of all.settled it (subst (λ (xs : List (ℕ × Doubt)). Contains xs it) (sym all.are) (sorted-has (store_number course) course.past.doubts it has)),
    λ found. sorted-from (store_number course) course.past.doubts it (subst (λ (xs : List (ℕ × Doubt)). Contains xs it) all.are (of_first all.settled it found.0 found.1)),
  );
}

found_by : (course : Course) (frames : ℕ → List Frame) → Decided course frames → IsFound course frames
found_by course frames first =
    let mid = after_entries course first.told in
    let all = settles_all mid frames (in_order mid) first.midway first.meets (order_differs mid first.midway)
    (λ it among. sorted-from (store_number mid) mid.past.doubts it among) (λ it among. sorted-has (store_number mid) mid.past.doubts it among) in
    let last = entry.Bounds (bounds_of mid.config.rows) in
    record {
      rest = first.told ++ (settled_entries all.settled ++ (last ∷ []));
      reopens = record { told = first.told; tells = first.tells; settled = all.settled; are = are_settled mid frames first.midway all; is = refl };
      spell =
          subst (λ (end : Course). SpellCourse end frames)
          (sym (entries_append course first.told (settled_entries all.settled ++ (last ∷ [])) ∙ entries_append mid (settled_entries all.settled) (last ∷ [])))
          (spelled_behind (after_entries mid (settled_entries all.settled)) (bounds_of mid.config.rows) frames all.none all.meets);
    }

-- whatever frames are read, they spell the course behind some opening
pub openings_found : (servers : ℕ) (course : Course) (frames : ℕ → List Frame) → IsCourse servers course → IfSome course.past.commit (MayCommit servers course) → MeetPoints servers course frames → IsFound course frames
openings_found servers course frames is in_doubt meets = found_by course frames (decided servers course frames is in_doubt meets)
