-- The entries of an opening suit the course that it opens, and behind them nothing is in doubt.
use Rattle.std.proofs.Common.{◌≡◌, ◌≢◌, ℕ, ◌<◌, List, [], ◌∷◌, ◌++◌, Bool, true, ◌==◌, not, Contains, AllPairs, sym, ap, ◌∙◌, subst, inl, inr, ⊎_elim, arith}
use Rattle.std.specs.Prelude.{Option, Some, None, IfSome, is_some}
use Rattle.std.proofs.lemmas.Bool.{true≢false, eq-eqb, ne_eqb}
use Rattle.std.proofs.lemmas.List.Elements.{All-contains}
use Rattle.std.proofs.lemmas.List.Kept.{AllPairs-filter}
use Rattle.tab_rows.proofs.Lists.{AllPairs-head, AllPairs-tail}
use Rattle.tab_page.proofs.RisingLists.{Contains-here, Contains-there, Contains-cons_cases, Contains-nil, Contains-filter, Contains-filtered, All-from_each, AllPairs-weaker}
use Rattle.tab_history.specs.Doubts.{without_doubt}
use Rattle.tab_history.specs.Configurations.{bounds_of}
use Rattle.tab_history.specs.Tilings.{TileKeys}
use Rattle.tab_history.specs.declared.entries.Entry.{Entry}
use Rattle.tab_history.specs.declared.entries.Entry.TheVariants as entry
use Rattle.tab_history.specs.declared.entries.Doubt.{Doubt}
use Rattle.tab_history.proofs.ConfigurationLaws.{are_bounds}
use Rattle.tab_core.specs.Courses.{Course, IsCourse, MayCommit, store_of}
use Rattle.tab_core.specs.Steps.{after_entry, after_entries, EachSuits}
use Rattle.tab_core.specs.Openings.{TellsCommit, AreSettled, settled_entries, Reopens}
use Rattle.tab_core.proofs.Sorting.{same_by}
use Rattle.tab_core.proofs.Settling.{found_of, none_in}
use Rattle.tab_core.proofs.Opening.{entries_append}

-- ---- what is left in doubt

ended_apart : (it z : ℕ × Doubt) → it ≡ z → not (z.0 == it.0) ≡ true → ⊥
ended_apart it z same left = true≢false (sym left ∙ ap not (eq-eqb z.0 it.0 (ap (λ (d : ℕ × Doubt). d.0) (sym same))))

-- a doubt that is left behind entries that settle some was there, and none of these is its own
left_in : (course : Course) (settled : List ((ℕ × Doubt) × Bool)) (z : ℕ × Doubt) → Contains (after_entries course (settled_entries settled)).past.doubts z
    → Contains course.past.doubts z × ((stood : Bool) → Contains settled (z, stood) → ⊥)
left_in course [] z has = (has, λ stood among. Contains-nil (z, stood) among)
left_in course (one ∷ settled) z has = by_rest (left_in (after_entry course (entry.Settled one.0.0 one.1)) settled z has)
  where
    by_rest : Contains (without_doubt course.past.doubts one.0.0) z × ((stood : Bool) → Contains settled (z, stood) → ⊥)
        → Contains course.past.doubts z × ((stood : Bool) → Contains (one ∷ settled) (z, stood) → ⊥)
    by_rest rest =
        let found = Contains-filtered (λ (d : ℕ × Doubt). not (d.0 == one.0.0)) course.past.doubts z rest.0 in (
          found.0,
          λ stood among.
              ⊎_elim (λ same. ended_apart one.0 z (ap (λ (it : (ℕ × Doubt) × Bool). it.0) same) found.1) (λ later. rest.1 stood later) (Contains-cons_cases one (z, stood) settled among),
        )

none_left : (course : Course) (settled : List ((ℕ × Doubt) × Bool)) → AreSettled course settled → (after_entries course (settled_entries settled)).past.doubts ≡ []
none_left course settled are =
    none_in (after_entries course (settled_entries settled)).past.doubts
    (λ z has. let left = left_in course settled z has in let told = (are.are z).0 left.0 in left.1 told.0 told.1)

-- an opening's entries end with the bounds, behind those of its doubts
ends_as : (course : Course) (rest : List Entry) (reopens : Reopens course rest)
    → after_entries course rest
    ≡ after_entry (after_entries (after_entries course reopens.told) (settled_entries reopens.settled)) (entry.Bounds (bounds_of (after_entries course reopens.told).config.rows))
ends_as course rest reopens =
    let last = entry.Bounds (bounds_of (after_entries course reopens.told).config.rows) in
    ap (λ (entries : List Entry). after_entries course entries) reopens.is
    ∙ (entries_append course reopens.told (settled_entries reopens.settled ++ (last ∷ [])) ∙ entries_append (after_entries course reopens.told) (settled_entries reopens.settled) (last ∷ []))

pub reopened_settled : (course : Course) (rest : List Entry) → Reopens course rest → (after_entries course rest).past.doubts ≡ []
reopened_settled course rest reopens =
    ap (λ (end : Course). end.past.doubts) (ends_as course rest reopens) ∙ none_left (after_entries course reopens.told) reopens.settled reopens.are

pub reopened_commit : (course : Course) (rest : List Entry) → Reopens course rest → (after_entries course rest).past.commit ≡ None
reopened_commit course rest reopens = ap (λ (end : Course). end.past.commit) (ends_as course rest reopens)

-- ---- entries that suit

pub suits_append : (servers : ℕ) (course : Course) (xs ys : List Entry) → EachSuits servers course xs → EachSuits servers (after_entries course xs) ys → EachSuits servers course (xs ++ ys)
suits_append servers course [] ys first rest = rest
suits_append servers course (x ∷ xs) ys first rest = (first.0, suits_append servers (after_entry course x) xs ys first.1 rest)

-- what is told of the commit suits, and leaves a map and the doubts' requests apart
record Told (servers : ℕ) (course : Course) (told : List Entry) : Type 0 where
  suits : EachSuits servers course told
  asks_differ : AllPairs (λ a b. a.0 ≢ b.0) (after_entries course told).past.doubts
  tiles : TileKeys (after_entries course told).config.rows

nothing : (servers : ℕ) (course : Course) → IsCourse servers course → Told servers course []
nothing servers course is = record { suits = tt; asks_differ = is.asks_differ; tiles = is.config.map.tiles }

told_of : (servers : ℕ) (course : Course) → IsCourse servers course → (commit : Option ℕ) → IfSome commit (MayCommit servers course) → (told : List Entry) → TellsCommit commit told → Told servers course told
told_of servers course is None may told e = subst (λ (entries : List Entry). Told servers course entries) (sym e) (nothing servers course is)
told_of servers course is (Some plan) may told (inl e) = subst (λ (entries : List Entry). Told servers course entries) (sym e) (nothing servers course is)
told_of servers course is (Some plan) may told (inr e) =
    subst (λ (entries : List Entry). Told servers course entries) (sym e) (record { suits = ((tt, may.config), tt); asks_differ = is.asks_differ; tiles = may.config.map.tiles })

-- the doubts that end are of different requests
asks_apart : (course : Course) (settled : List ((ℕ × Doubt) × Bool)) → AllPairs (λ a b. a.0 ≢ b.0) course.past.doubts → AreSettled course settled → AllPairs (λ a b. a.0.0 ≢ b.0.0) settled
asks_apart course settled differ are =
    AllPairs-weaker (λ (a b : (ℕ × Doubt) × Bool). store_of course.config a.0.1 < store_of course.config b.0.1) (λ (a b : (ℕ × Doubt) × Bool). a.0.0 ≢ b.0.0)
    (λ (it : (ℕ × Doubt) × Bool). Contains course.past.doubts it.0)
    (λ a b here there less e.
    let same = ap (λ (it : ℕ × Doubt). store_of course.config it.1) (same_by (λ (it : ℕ × Doubt). it.0) course.past.doubts a.0 b.0 differ here there e) in
    absurd (omega (arith, less, same)))
    settled
    (All-from_each (λ (it : (ℕ × Doubt) × Bool). Contains course.past.doubts it.0) settled (λ it among. (are.are it.0).1 (it.1, among)))
    are.rise

settled_suit : (servers : ℕ) (course : Course) (settled : List ((ℕ × Doubt) × Bool)) → AllPairs (λ a b. a.0 ≢ b.0) course.past.doubts → AllPairs (λ a b. a.0.0 ≢ b.0.0) settled
    → ((it : (ℕ × Doubt) × Bool) → Contains settled it → Contains course.past.doubts it.0) → EachSuits servers course (settled_entries settled)
settled_suit servers course [] differ apart there = tt
settled_suit servers course (one ∷ settled) differ apart there = (
  (ap (λ (operation : Option Doubt). is_some operation) (found_of course.past.doubts one.0 differ (there one (Contains-here one settled))), tt),
  settled_suit servers (after_entry course (entry.Settled one.0.0 one.1)) settled
      (AllPairs-filter (λ (a b : ℕ × Doubt). a.0 ≢ b.0) (λ (d : ℕ × Doubt). not (d.0 == one.0.0)) course.past.doubts differ) (AllPairs-tail (λ (a b : (ℕ × Doubt) × Bool). a.0.0 ≢ b.0.0) one settled apart)
      (λ it among.
      let other : one.0.0 ≢ it.0.0 = All-contains (λ (b : (ℕ × Doubt) × Bool). one.0.0 ≢ b.0.0) settled it (AllPairs-head (λ (a b : (ℕ × Doubt) × Bool). a.0.0 ≢ b.0.0) one settled apart) among in
      Contains-filter (λ (d : ℕ × Doubt). not (d.0 == one.0.0)) course.past.doubts it.0 (there it (Contains-there one it settled among)) (ap not (ne_eqb it.0.0 one.0.0 (λ e. other (sym e))))),
)

pub reopened_suits : (servers : ℕ) (course : Course) (rest : List Entry) → IsCourse servers course → IfSome course.past.commit (MayCommit servers course) → Reopens course rest → EachSuits servers course rest
reopened_suits servers course rest is in_doubt reopens =
    let first = told_of servers course is course.past.commit in_doubt reopens.told reopens.tells in
    let mid = after_entries course reopens.told in
    subst (λ (entries : List Entry). EachSuits servers course entries) (sym reopens.is)
    (suits_append servers course reopens.told (settled_entries reopens.settled ++ (entry.Bounds (bounds_of mid.config.rows) ∷ [])) first.suits
    (suits_append servers mid (settled_entries reopens.settled) (entry.Bounds (bounds_of mid.config.rows) ∷ [])
    (settled_suit servers mid reopens.settled first.asks_differ (asks_apart mid reopens.settled first.asks_differ reopens.are) (λ it among. (reopens.are.are it.0).1 (it.1, among)))
    ((are_bounds mid.config.rows first.tiles, tt), tt)))
