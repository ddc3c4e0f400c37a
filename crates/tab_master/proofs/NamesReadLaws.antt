-- The frames of a store of names stand for names: their numbers differ and are below the next one, and no two have one name.
use Rattle.std.proofs.Common.{◌≡◌, ℕ, ◌+◌, ◌-◌, ◌^◌, ◌<◌, ◌≤◌, List, [], ◌∷◌, ◌++◌, Bool, true, false, not, ◌&&◌, ◌||◌, map, filter, Option, Some, None, refl, sym, ap, ◌∙◌, subst, arith, IsPermutation}
use Rattle.std.specs.Prelude.{All, AllPairs, IsFalse, ◌==◌, nat_lt}
use Rattle.std.specs.List.{list_all, list_any, last_or, Contains, AllByRecursion, IsDistinct}
use Rattle.std.specs.Ordering.{is_lt, is_eq}
use Rattle.std.proofs.lemmas.Bool.Decides.{nat_tests}
use Rattle.std.proofs.lemmas.Option.{none-some}
use Rattle.std.proofs.lemmas.List.Elements.{All-nil, All-cons, All-head, All-tail, All-append, All-push, All-weaker, All-map, All-filter}
use Rattle.std.proofs.lemmas.List.Kept.{AllPairs-cons, AllPairs-filter}
use Rattle.std.proofs.lemmas.List.Sorted.{All-permutation}
use Rattle.std.proofs.lemmas.Map.Keys.{IsDistinct-from_apart, IsDistinct-IsPermutation, apart_from_distinct}
use Rattle.tab_keys.specs.Order.{name_cmp}
use Rattle.tab_rows.proofs.Lists.{AllPairs-head, AllPairs-tail}
use Rattle.tab_page.proofs.RisingLists.{AllPairs-nil, All-from_each, Contains-here, Contains-there}
use Rattle.tab_codec.specs.declared.frames.Frame.{Frame}
use Rattle.tab_codec.specs.declared.frames.Frame.TheVariants as frames
use Rattle.tab_codec.specs.Frames.{HasSpelling}
use Rattle.tab_journal.specs.Areas.{AreFrames}
use Rattle.tab_journal.specs.Told.{NamesTold, names_takes, names_after, takes_names, is_taken, are_new, last_number, is_above}
use Rattle.tab_journal.specs.Fitting.{told_by, takes, takes_all, after, after_all, is_whole_store}
use Rattle.tab_journal.specs.declared.fitting.Told.{Told}
use Rattle.tab_journal.specs.declared.fitting.Told.TheVariants as told
use Rattle.tab_journal.proofs.Fronts.{and_true}
use Rattle.tab_history.specs.World.{Named}
use Rattle.tab_master.specs.Ordered.{in_order}
use Rattle.tab_master.specs.Spelled.{SpelledNames, named, by_name, names_of, names_told, names_kind, spelled_names, AreNames}
use Rattle.std.specs.Prelude.{Result, Ok}
use Rattle.tab_journal.specs.Reading.{Found}
use Rattle.tab_journal.specs.Stores.{StoreView, current_area}
use Rattle.tab_master.specs.NamesCalls.{NamesKept}
use Rattle.tab_master.specs.Names.{NamesView, NamesStand}
use Rattle.tab_master.specs.Listing.{listing_of}
use Rattle.tab_master.proofs.OrderedLaws.{in_order-elements, in_order-is, rises_from_elements, sorted_otherwise}
use Rattle.tab_master.proofs.SpellingLaws.{by_name_total}
use Rattle.tab_master.proofs.ListingLaws.{first_is_names}

abbrev Entries : Type 0
Entries = List (ℕ × List ℕ)

abbrev Rise : Entries → Type 0
Rise = AllPairs (λ (a b : ℕ × List ℕ). a.0 < b.0)

abbrev Apart : Entries → Type 0
Apart = AllPairs (λ (a b : ℕ × List ℕ). is_eq (name_cmp a.1 b.1) ≡ false)

abbrev Differ : Entries → Type 0
Differ = AllPairs (λ (a b : ℕ × List ℕ). IsFalse (a.0 == b.0))

abbrev Below : ℕ → Entries → Type 0
Below next = All (λ (a : ℕ × List ℕ). a.0 < next)

-- what the frames of names told, where each had a spelling and fitted those before it
record AreTold (held : NamesTold) : Type 0 where
  pub within : held.next_table < 2 ^ 64
  pub below : Below held.next_table held.names
  pub differ : Differ held.names
  pub apart : Apart held.names
  pub rise : held.is_listing ≡ true → Rise held.names

abbrev AreToldSoFar : Option NamesTold → Type 0
AreToldSoFar None = Unit {0}
AreToldSoFar (Some held) = AreTold held

-- ---- lists put together

pairs_joined : {X : Type 0} (R : X → X → Type 0) (xs ys : List X) → AllPairs R xs → AllPairs R ys → ((x y : X) → Contains xs x → Contains ys y → R x y) → AllPairs R (xs ++ ys)
pairs_joined R [] ys h k across = k
pairs_joined R (x ∷ xs) ys h k across =
    AllPairs-cons R x (xs ++ ys)
    (All-append (R x) xs ys (AllPairs-head R x xs h) (All-from_each (R x) ys (λ y there. across x y (Contains-here x xs) there)))
    (pairs_joined R xs ys (AllPairs-tail R x xs h) k (λ a b i j. across a b (Contains-there x a xs i) j))

one_alone : {X : Type 0} (R : X → X → Type 0) (x : X) → AllPairs R (x ∷ [])
one_alone R x = AllPairs-cons R x [] (All-nil (R x)) (AllPairs-nil R)

each_of : {X : Type 0} (P : X → Type 0) (xs : List X) (x : X) → All P xs → Contains xs x → P x
each_of P xs x h there = Rattle.std.proofs.lemmas.List.Elements.All-contains P xs x h there

-- what is behind all of a list is behind it with one more
pairs_pushed : {X : Type 0} (R : X → X → Type 0) (xs : List X) (y : X) → AllPairs R xs → All (λ x. R x y) xs → AllPairs R (xs ++ y ∷ [])
pairs_pushed R xs y h k = pairs_joined R xs (y ∷ []) h (one_alone R y) (λ a b i j. pairs_last a b i j)
  where
    pairs_last : (a b : _) → Contains xs a → Contains (y ∷ []) b → R a b
    pairs_last a b i j = each_of (R a) (y ∷ []) b (All-cons (R a) y [] (each_of (λ x. R x y) xs a k i) (All-nil (R a))) j

-- ---- names that are listed

less_from : (a b : ℕ) → nat_lt a b ≡ true → a < b
less_from a b h = grind (arith, nat_tests)

-- a number above the last of numbers that rise is above them all
above_all : (start : Option ℕ) (entries : Entries) (number : ℕ) → Rise entries → is_above (last_or start (map (λ (entry : ℕ × List ℕ). entry.0) entries)) number ≡ true → Below number entries
above_all start [] number rise above = All-nil (λ (a : ℕ × List ℕ). a.0 < number)
above_all start (first ∷ []) number rise above = All-cons (λ (a : ℕ × List ℕ). a.0 < number) first [] (less_from first.0 number above) (All-nil (λ (a : ℕ × List ℕ). a.0 < number))
above_all start (first ∷ next ∷ rest) number rise above =
    let later : Below number (next ∷ rest) = above_all (Some first.0) (next ∷ rest) number (AllPairs-tail (λ (a b : ℕ × List ℕ). a.0 < b.0) first (next ∷ rest) rise) above in
    let up : first.0 < next.0 = All-head (λ (b : ℕ × List ℕ). first.0 < b.0) next rest (AllPairs-head (λ (a b : ℕ × List ℕ). a.0 < b.0) first (next ∷ rest) rise) in
    let high : next.0 < number = All-head (λ (a : ℕ × List ℕ). a.0 < number) next rest later in
    All-cons (λ (a : ℕ × List ℕ). a.0 < number) first (next ∷ rest) (omega arith) later

each_test : {X : Type 0} (p : X → Bool) (xs : List X) → list_all p xs ≡ true → All (λ x. p x ≡ true) xs
each_test p [] h = All-nil (λ x. p x ≡ true)
each_test p (x ∷ xs) h = let both = and_true (p x) (list_all p xs) h in All-cons (λ x. p x ≡ true) x xs both.0 (each_test p xs both.1)

none_test : {X : Type 0} (p : X → Bool) (xs : List X) → list_any p xs ≡ false → All (λ x. p x ≡ false) xs
none_test p [] h = All-nil (λ x. p x ≡ false)
none_test p (x ∷ xs) h = by_test (none_test p xs) (p x) refl h
  where
    by_test : (list_any p xs ≡ false → All (λ x. p x ≡ false) xs) → (t : Bool) → p x ≡ t → (t || list_any p xs) ≡ false → All (λ x. p x ≡ false) (x ∷ xs)
    by_test later true e k = absurd cc
    by_test later false e k = All-cons (λ x. p x ≡ false) x xs e (later k)

not_true : (t : Bool) → not t ≡ true → t ≡ false
not_true false h = refl
not_true true h = absurd cc

-- names that are absent from those before them are apart from these and from each other
new_apart : (before names : Entries) → Apart before → are_new before names ≡ true → Apart (before ++ names)
unfolding are_new
new_apart before [] apart h = subst Apart (sym (Rattle.std.proofs.lemmas.List.append-nil before)) apart
new_apart before (name ∷ names) apart h =
    let both = and_true (not (is_taken before name.1)) (are_new (before ++ name ∷ []) names) h in
    let absent : All (λ (other : ℕ × List ℕ). is_eq (name_cmp other.1 name.1) ≡ false) before = none_test (λ (other : ℕ × List ℕ). is_eq (name_cmp other.1 name.1)) before (not_true (is_taken before name.1) both.0) in
    subst Apart (Rattle.std.proofs.Common.append_assoc before (name ∷ []) names)
    (new_apart (before ++ name ∷ []) names (pairs_pushed (λ (a b : ℕ × List ℕ). is_eq (name_cmp a.1 b.1) ≡ false) before name apart absent) both.1)

rise_differ : (entries : Entries) → Rise entries → Differ entries
rise_differ entries rise = λ i j d low high. apart_of _ _ (rise i j d low high)
  where
    apart_of : (a b : ℕ) → a < b → (a == b) ≡ false
    apart_of a b less = grind (arith, nat_tests)

record AreListed (next : ℕ) (names : Entries) : Type 0 where
  pub below : Below next names
  pub rise : Rise names
  pub apart : Apart names

listed : (next : ℕ) (before names : Entries) → Below next before → Rise before → Apart before → Rise names → takes_names next before names ≡ true → AreListed next (before ++ names)
listed next before names below rise apart up fits =
    let both = and_true (list_all (λ (name : ℕ × List ℕ). nat_lt name.0 next && is_above (last_number before) name.0) names) (are_new before names) fits in
    let tests : All (λ (name : ℕ × List ℕ). (nat_lt name.0 next && is_above (last_number before) name.0) ≡ true) names = each_test (λ (name : ℕ × List ℕ). nat_lt name.0 next && is_above (last_number before) name.0) names both.0 in
    record {
      below = All-append (λ (a : ℕ × List ℕ). a.0 < next) before names below
          (All-weaker (λ (name : ℕ × List ℕ). (nat_lt name.0 next && is_above (last_number before) name.0) ≡ true) (λ (a : ℕ × List ℕ). a.0 < next) (λ name h. less_from name.0 next (and_true (nat_lt name.0 next) (is_above (last_number before) name.0) h).0) names tests);
      rise = pairs_joined (λ (a b : ℕ × List ℕ). a.0 < b.0) before names rise up (λ a b i j. each_of (λ (x : ℕ × List ℕ). x.0 < b.0) before a
          (above_all None before b.0 rise (and_true (nat_lt b.0 next) (is_above (last_number before) b.0) (each_of (λ (name : ℕ × List ℕ). (nat_lt name.0 next && is_above (last_number before) name.0) ≡ true) names b tests j)).1) i);
      apart = new_apart before names apart both.1;
    }

listed_told : (next : ℕ) (names : Entries) → next < 2 ^ 64 → AreListed next names → AreTold (record { next_table = next; names = names; is_listing = true })
listed_told next names within are = record { within = within; below = are.below; differ = rise_differ names are.rise; apart = are.apart; rise = λ is. are.rise }

-- ---- one frame more

created_told : (held : NamesTold) (table : ℕ) (name : List ℕ) → AreTold held → (((table == held.next_table) && nat_lt table (2 ^ 64 - 1)) && not (is_taken held.names name)) ≡ true
    → AreTold (record { next_table = table + 1; names = held.names ++ (table, name) ∷ []; is_listing = false })
created_told held table name are fits =
    let first = and_true ((table == held.next_table) && nat_lt table (2 ^ 64 - 1)) (not (is_taken held.names name)) fits in
    let second = and_true (table == held.next_table) (nat_lt table (2 ^ 64 - 1)) first.0 in
    let here : (table == held.next_table) ≡ true = second.0 in
    let is : table ≡ held.next_table = grind (arith, nat_tests) in
    let less : table < 2 ^ 64 - 1 = less_from table (2 ^ 64 - 1) second.1 in
    let below : Below table held.names = subst (λ n. Below n held.names) (sym is) are.below in
    record {
      within = omega arith;
      below = All-push (λ (a : ℕ × List ℕ). a.0 < table + 1) held.names (table, name) (All-weaker (λ (a : ℕ × List ℕ). a.0 < table) (λ (a : ℕ × List ℕ). a.0 < table + 1) (λ a h. omega arith) held.names below) (omega arith);
      differ = pairs_pushed (λ (a b : ℕ × List ℕ). IsFalse (a.0 == b.0)) held.names (table, name) are.differ (All-weaker (λ (a : ℕ × List ℕ). a.0 < table) (λ (a : ℕ × List ℕ). IsFalse (a.0 == table)) (λ a h. grind (arith, nat_tests)) held.names below);
      apart = pairs_pushed (λ (a b : ℕ × List ℕ). is_eq (name_cmp a.1 b.1) ≡ false) held.names (table, name) are.apart
          (none_test (λ (other : ℕ × List ℕ). is_eq (name_cmp other.1 name)) held.names (not_true (is_taken held.names name) first.1));
      rise = λ is. absurd cc;
    }

dropped_told : (held : NamesTold) (table : ℕ) → AreTold held → AreTold (record held { names = filter (λ (other : ℕ × List ℕ). not (other.0 == table)) held.names; is_listing = false })
dropped_told held table are = record {
  within = are.within;
  below = All-filter (λ (other : ℕ × List ℕ). not (other.0 == table)) (λ (a : ℕ × List ℕ). a.0 < held.next_table) held.names are.below;
  differ = AllPairs-filter (λ (a b : ℕ × List ℕ). IsFalse (a.0 == b.0)) (λ (other : ℕ × List ℕ). not (other.0 == table)) held.names are.differ;
  apart = AllPairs-filter (λ (a b : ℕ × List ℕ). is_eq (name_cmp a.1 b.1) ≡ false) (λ (other : ℕ × List ℕ). not (other.0 == table)) held.names are.apart;
  rise = λ is. absurd cc;
}

one_told : (held : Option NamesTold) (frame : Frame) → AreToldSoFar held → HasSpelling frame → names_takes held frame ≡ true → AreToldSoFar (names_after held frame)
unfolding names_takes names_after
one_told None (frames.Names next names) are has fits =
    listed_told next names has.parts.0 (listed next [] names (All-nil (λ (a : ℕ × List ℕ). a.0 < next)) (AllPairs-nil (λ (a b : ℕ × List ℕ). a.0 < b.0)) (AllPairs-nil (λ (a b : ℕ × List ℕ). is_eq (name_cmp a.1 b.1) ≡ false)) has.orderly.1 fits)
one_told (Some held) (frames.Names next names) are has fits =
    let first = and_true (held.is_listing && (next == held.next_table)) (takes_names next held.names names) fits in
    let second = and_true held.is_listing (next == held.next_table) first.0 in
    let here : (next == held.next_table) ≡ true = second.1 in
    let is : next ≡ held.next_table = grind (arith, nat_tests) in
    let all = listed next held.names names (subst (λ n. Below n held.names) (sym is) are.below) (are.rise second.0) are.apart has.orderly.1 first.1 in
    record {
      within = are.within;
      below = subst (λ n. Below n (held.names ++ names)) is all.below;
      differ = rise_differ (held.names ++ names) all.rise;
      apart = all.apart;
      rise = λ is. all.rise;
    }
one_told (Some held) (frames.Create table name) are has fits = created_told held table name are fits
one_told (Some held) (frames.Drop table) are has fits = dropped_told held table are
one_told None (frames.Create table name) are has fits = absurd cc
one_told None (frames.Drop table) are has fits = absurd cc
one_told None (frames.Begin range span tick) are has fits = absurd cc
one_told None (frames.Rows range rows) are has fits = absurd cc
one_told None (frames.Whole range tick) are has fits = absurd cc
one_told None (frames.Change range tick changes) are has fits = absurd cc
one_told None (frames.Map next plan rows) are has fits = absurd cc
one_told None (frames.Commit plan next olds news) are has fits = absurd cc
one_told (Some held) (frames.Begin range span tick) are has fits = absurd cc
one_told (Some held) (frames.Rows range rows) are has fits = absurd cc
one_told (Some held) (frames.Whole range tick) are has fits = absurd cc
one_told (Some held) (frames.Change range tick changes) are has fits = absurd cc
one_told (Some held) (frames.Map next plan rows) are has fits = absurd cc
one_told (Some held) (frames.Commit plan next olds news) are has fits = absurd cc

-- ---- all frames

record ToldAll (so_far : Told) (list : List Frame) : Type 0 where
  pub held : Option NamesTold
  pub is : after_all so_far list ≡ told.Names held
  pub are : AreToldSoFar held

all_told : (held : Option NamesTold) (list : List Frame) → AreToldSoFar held → AllByRecursion HasSpelling list → takes_all (told.Names held) list ≡ true → ToldAll (told.Names held) list
unfolding takes_all takes after_all after
all_told held [] are has fits = record { held = held; is = refl; are = are }
all_told held (frame ∷ list) are has takes_them =
    let both = and_true (names_takes held frame) (takes_all (told.Names (names_after held frame)) list) takes_them in
    let rest = all_told (names_after held frame) list (one_told held frame are has.0 both.0) has.1 both.1 in
    record { held = rest.held; is = rest.is; are = rest.are }

-- what frames of names told
pub record NamesWereTold (list : List Frame) : Type 0 where
  pub held : NamesTold
  pub told : told_by names_kind list ≡ told.Names (Some held)
  pub within : held.next_table < 2 ^ 64
  pub orderly : AreNames (names_told held)

ordered_names : (held : NamesTold) → AreTold held → AreNames (names_told held)
ordered_names held are =
    let names : List Named = map named held.names in
    let sorted : List Named = in_order by_name names in
    let same : IsPermutation names sorted = in_order-elements by_name names in
    let distinct : IsDistinct (λ (a b : Named). a.table == b.table) sorted =
    IsDistinct-IsPermutation (λ (a b : Named). a.table == b.table) (λ a b. flips a.table b.table) names sorted same
    (IsDistinct-from_apart (λ (a b : Named). a.table == b.table) names (mapped_pairs (λ (a b : Named). (a.table == b.table) ≡ false) held.names are.differ)) in
    record {
      rise = rises_from_elements by_name by_name_total names sorted (IsDistinct-from_apart (λ (a b : Named). is_eq (by_name a b)) names (mapped_pairs (λ (a b : Named). is_eq (by_name a b) ≡ false) held.names are.apart)) same (in_order-is by_name by_name_total names);
      differ = λ i j d low high. apart_from_distinct (λ (a b : Named). a.table == b.table) sorted i j d distinct low high;
      below = All-permutation (λ (one : Named). one.table < held.next_table) names sorted same (All-map (λ (one : Named). one.table < held.next_table) named held.names are.below);
    }
  where
    flips : (a b : ℕ) → (a == b) ≡ (b == a)
    flips a b = grind (arith, nat_tests)

    mapped_pairs : (R : Named → Named → Type 0) (entries : Entries) → AllPairs (λ (a b : ℕ × List ℕ). R (named a) (named b)) entries → AllPairs R (map named entries)
    mapped_pairs R [] h = AllPairs-nil R
    mapped_pairs R (first ∷ entries) h =
        AllPairs-cons R (named first) (map named entries) (All-map (R (named first)) named entries (AllPairs-head (λ (a b : ℕ × List ℕ). R (named a) (named b)) first entries h))
        (mapped_pairs R entries (AllPairs-tail (λ (a b : ℕ × List ℕ). R (named a) (named b)) first entries h))

whole_told : (list : List Frame) (held : Option NamesTold) → told_by names_kind list ≡ told.Names held → is_whole_store (told_by names_kind list) ≡ true → AreToldSoFar held → NamesWereTold list
unfolding is_whole_store
whole_told list None is whole are = absurd (none_whole (told_by names_kind list) is whole)
  where
    none_whole : (t : Told) → t ≡ told.Names None → is_whole_store t ≡ true → ⊥
    none_whole t is whole = let no_end : is_whole_store (told.Names None) ≡ true = subst (λ s. is_whole_store s ≡ true) is whole in absurd cc
whole_told list (Some held) is whole are = record { held = held; told = is; within = are.within; orderly = ordered_names held are }

pub names_were_told : (list : List Frame) → AreFrames names_kind list → NamesWereTold list
names_were_told list are =
    let all = all_told None list tt are.spelled (subst (λ t. takes_all t list ≡ true) first_is_names are.fit) in
    whole_told list all.held (ap (λ t. after_all t list) first_is_names ∙ all.is) are.whole all.are

-- ---- what was listed, sorted, is what the frames stand for

some_same : {A : Type 0} (a b : A) → Some a ≡ Some b → a ≡ b
some_same a b same = cc

listing_is : (list : List Frame) (t : NamesWereTold list) → listing_of (told_by names_kind list) ≡ Some (record { next_table = t.held.next_table; names = map named t.held.names })
listing_is list t = ap listing_of t.told

stand_is : (list : List Frame) (t : NamesWereTold list) → NamesStand list (names_told t.held)
unfolding spelled_names
stand_is list t = record { spelled = ap names_of t.told; orderly = t.orderly }

-- what was read of frames of names is there
pub listing_there : (list : List Frame) (listing : Option SpelledNames) → AreFrames names_kind list → listing ≡ listing_of (told_by names_kind list) → listing ≡ None → ⊥
listing_there list listing are is none = let t = names_were_told list are in none-some (record { next_table = t.held.next_table; names = map named t.held.names }) (sym none ∙ (is ∙ listing_is list t))

-- and, sorted, stands for what they tell
pub record IsReadFrom (list : List Frame) (listing : SpelledNames) (sorted : List Named) : Type 0 where
  pub within : listing.next_table < 2 ^ 64
  pub stand : NamesStand list (record { next_table = listing.next_table; names = sorted })

pub read_from : (list : List Frame) (listing : SpelledNames) (sorted : List Named) → AreFrames names_kind list → Some listing ≡ listing_of (told_by names_kind list) → IsPermutation listing.names sorted
    → AllPairs (λ (a b : Named). IsFalse (is_lt (by_name b a))) sorted → IsReadFrom list listing sorted
read_from list listing sorted are is moved up =
    let t = names_were_told list are in
    let same : listing ≡ record { next_table = t.held.next_table; names = map named t.held.names } = some_same listing (record { next_table = t.held.next_table; names = map named t.held.names }) (is ∙ listing_is list t) in
    let names : List Named = in_order by_name (map named t.held.names) in
    let next : listing.next_table ≡ t.held.next_table = ap (λ (l : SpelledNames). l.next_table) same in
    let sorted_is : sorted ≡ names = sorted_otherwise by_name by_name_total listing.names sorted names moved up t.orderly.rise (ap (λ (l : SpelledNames). in_order by_name l.names) same) in
    record {
      within = subst (λ n. n < 2 ^ 64) (sym next) t.within;
      stand = subst (λ n. NamesStand list (record { next_table = n; names = sorted })) (sym next) (subst (λ l. NamesStand list (record { next_table = t.held.next_table; names = l })) (sym sorted_is) (stand_is list t));
    }

pub is_some_from : {A : Type 0} (o : Option A) → (o ≡ None → ⊥) → Rattle.std.specs.Option.IsSome o
is_some_from None h = absurd (h refl)
is_some_from (Some x) h = search Rattle.std.proofs.Common.rules

-- ---- an opening

pub opens_so : {D : Type 0} (store : StoreView D) (frames : List Frame) (held : NamesView) (names : NamesKept D) (read : Result Found (ℕ × ℕ)) → names ≡ record { store = store; held = held; doubt = None; failed = store.failed }
    → read ≡ Ok (record { area = current_area store; epoch = store.epoch; frames = frames }) → NamesStand frames held.told
    → (found : Found) × (read ≡ Ok found) × (found.area ≡ current_area names.store) × (found.epoch ≡ names.store.epoch) × NamesStand found.frames names.held.told
opens_so {D = D} store frames held names read is opened stand = (
  record { area = current_area store; epoch = store.epoch; frames = frames },
  opened,
  ap (λ (k : NamesKept D). current_area k.store) (sym is),
  ap (λ (k : NamesKept D). k.store.epoch) (sym is),
  subst (λ (k : NamesKept D). NamesStand frames k.held.told) (sym is) stand,
)
