-- The frames of a checkpoint of the names stand for them.
use Rattle.std.proofs.Common.{◌≡◌, ℕ, ◌+◌, ◌*◌, ◌<◌, ◌≤◌, List, [], ◌∷◌, ◌++◌, Bool, true, false, cond, not, ◌&&◌, map, length, get_or, take, drop, Option, Some, None, refl, sym, ap, ◌∙◌, subst, arith, IsPermutation, append_assoc}
use Rattle.std.specs.Prelude.{All, AllPairs, IsTrue, IsFalse, ◌==◌, nat_lt}
use Rattle.std.specs.List.{list_all, last_or, Contains, AllByRecursion, IsDistinct}
use Rattle.std.specs.Ordering.{is_lt, is_eq, nat_cmp}
use Rattle.std.proofs.lemmas.Bool.{true≢false}
use Rattle.std.proofs.lemmas.Bool.Decides.{nat_tests}
use Rattle.std.specs.declared.cmp.Ordering.TheVariants.{Less, Equal, Greater}
use borrow.Author.Tests.{ltb-true}
use Rattle.std.proofs.lemmas.List.{append-nil, take-append-drop, map-append, take_more, take_all, length-map, take-map, drop-map}
use Rattle.std.proofs.lemmas.List.Elements.{All-nil, All-cons, All-head, All-tail, All-weaker, All-map, All-contains}
use Rattle.std.proofs.lemmas.List.Folds.{list_any_none}
use Rattle.std.proofs.lemmas.List.Kept.{AllPairs-cons}
use Rattle.std.proofs.lemmas.List.Sorted.{IsPermutation-sym, IsPermutation-trans, All-permutation}
use Rattle.std.proofs.lemmas.Map.Keys.{IsDistinct-from_apart, IsDistinct-IsPermutation, apart_from_distinct}
use Rattle.tab_keys.specs.Order.{name_cmp}
use Rattle.tab_rows.proofs.Lists.{AllPairs-head, AllPairs-tail}
use Rattle.tab_page.proofs.RisingLists.{AllPairs-front, AllPairs-back, AllPairs-across, All-from_each, Contains-here}
use Rattle.tab_codec.specs.declared.frames.Frame.{Frame}
use Rattle.tab_codec.specs.declared.frames.Frame.TheVariants as frames
use Rattle.tab_keys.specs.TableNames.{IsTableName, name_refusal, is_well_formed, folded}
use Rattle.tab_keys.specs.declared.table_names.NameRefused.TheVariants.{BadName, Reserved}
use Rattle.std.specs.Prelude.{bytes_eq, codes, nat_le, if◌then◌else◌}
use Rattle.std.specs.Int.{w32, w64, to_be_bytes}
use Rattle.std.proofs.Common.{length-append}
use Rattle.tab_codec.specs.Spelling.{body, sized, name_spelling}
use Rattle.std.specs.List.{flat_map}
use Rattle.std.proofs.lemmas.List.Concat.{flat_map-append}
use Rattle.tab_codec.specs.Frames.{IsShort, HasSpelling}
use Rattle.tab_journal.specs.Told.{NamesTold, names_takes, names_after, takes_names, is_taken, are_new, last_number, is_above}
use Rattle.tab_journal.specs.Fitting.{told_first, told_by, takes, takes_all, after, after_all, is_whole_store}
use Rattle.tab_journal.specs.declared.fitting.Told.{Told}
use Rattle.tab_journal.specs.declared.fitting.Told.TheVariants as told
use Rattle.tab_journal.proofs.Fronts.{both_true, and_true, all_more}
use Rattle.tab_history.specs.World.{Named}
use Rattle.tab_master.specs.Ordered.{in_order}
use Rattle.tab_master.specs.Spelled.{SpelledNames, named, by_name, by_number, names_of, names_kind, spelled_names, AreNames}
use Rattle.tab_master.specs.Names.{most_names, AreParts, pair, AreListed, IsNamesCheckpoint}
use Rattle.tab_master.proofs.OrderedLaws.{in_order-elements, in_order-is, in_order_rising, sorted_otherwise, rises_from_elements, apart_from_rises, ties_flip, one_order}
use Rattle.tab_master.proofs.SpellingLaws.{by_name_total, by_number_total}

abbrev Entries : Type 0
Entries = List (ℕ × List ℕ)

-- entries that may be listed: their numbers rise and are below the next, and no two have one name
pub record AreListable (next : ℕ) (entries : List (ℕ × List ℕ)) : Type 0 where
  pub rise : AllPairs (λ a b. a.0 < b.0) entries
  pub below : All (λ a. a.0 < next) entries
  pub apart : AllPairs (λ a b. is_eq (name_cmp a.1 b.1) ≡ false) entries

front_listable : (next : ℕ) (xs ys : Entries) → AreListable next (xs ++ ys) → AreListable next xs
front_listable next xs ys are = record {
  rise = AllPairs-front (λ a b. a.0 < b.0) xs ys are.rise;
  below = All-from_each (λ a. a.0 < next) xs (λ x h. All-contains (λ a. a.0 < next) (xs ++ ys) x are.below (Rattle.std.proofs.lemmas.List.Elements.Contains-append_left xs ys x h));
  apart = AllPairs-front (λ a b. is_eq (name_cmp a.1 b.1) ≡ false) xs ys are.apart;
}

-- a number above all of some is above the last
above_from : (start : Option ℕ) (entries : Entries) (number : ℕ) → is_above start number ≡ true → All (λ a. a.0 < number) entries → is_above (last_or start (map (λ entry. entry.0) entries)) number ≡ true
above_from start [] number above all = above
above_from start (first ∷ entries) number above all =
    let less : first.0 < number = All-head (λ a. a.0 < number) first entries all in
    let here : nat_lt first.0 number ≡ true = grind (arith, nat_tests) in
    above_from (Some first.0) entries number here (All-tail (λ a. a.0 < number) first entries all)

all_numbers : (next : ℕ) (before part rest : Entries) → AreListable next (before ++ part) → ((x : ℕ × List ℕ) → Contains rest x → Contains part x)
    → list_all (λ name. nat_lt name.0 next && is_above (last_number before) name.0) rest ≡ true
all_numbers next before part [] are within = refl
all_numbers next before part (first ∷ rest) are within =
    let there : Contains part first = within first (Contains-here first rest) in
    let less : first.0 < next = All-contains (λ a. a.0 < next) (before ++ part) first are.below (Rattle.std.proofs.lemmas.List.Elements.Contains-append_right before part first there) in
    let low : nat_lt first.0 next ≡ true = grind (arith, nat_tests) in
    let above : is_above (last_number before) first.0 ≡ true =
    above_from None before first.0 refl (All-from_each (λ a. a.0 < first.0) before (λ x h. AllPairs-across (λ a b. a.0 < b.0) before part are.rise x first h there)) in
    both_true (nat_lt first.0 next && is_above (last_number before) first.0) (list_all (λ name. nat_lt name.0 next && is_above (last_number before) name.0) rest)
    (both_true (nat_lt first.0 next) (is_above (last_number before) first.0) low above)
    (all_numbers next before part rest are (λ x h. within x (Rattle.tab_page.proofs.RisingLists.Contains-there first x rest h)))

all_new : (before part : Entries) → AllPairs (λ a b. is_eq (name_cmp a.1 b.1) ≡ false) (before ++ part) → are_new before part ≡ true
unfolding are_new
all_new before [] apart = refl
all_new before (first ∷ part) apart =
    let free : is_taken before first.1 ≡ false =
    list_any_none (λ other. is_eq (name_cmp other.1 first.1)) before
    (All-from_each (λ other. is_eq (name_cmp other.1 first.1) ≡ false) before (λ x h. AllPairs-across (λ a b. is_eq (name_cmp a.1 b.1) ≡ false) before (first ∷ part) apart x first h (Contains-here first part))) in
    both_true (not (is_taken before first.1)) (are_new (before ++ first ∷ []) part) (ap not free)
    (all_new (before ++ first ∷ []) part (subst (AllPairs (λ a b. is_eq (name_cmp a.1 b.1) ≡ false)) (sym (append_assoc before (first ∷ []) part)) apart))

part_fits : (next : ℕ) (before part : Entries) → AreListable next (before ++ part) → takes_names next before part ≡ true
part_fits next before part are =
    both_true (list_all (λ name. nat_lt name.0 next && is_above (last_number before) name.0) part) (are_new before part) (all_numbers next before part part are (λ x h. h)) (all_new before part are.apart)

-- ---- part after part

abbrev listing : ℕ → Entries → NamesTold
listing next names = record { next_table = next; names = names; is_listing = true }

pub record PartsFit (so_far : Told) (next : ℕ) (parts : List (List (ℕ × List ℕ))) (names : List (ℕ × List ℕ)) : Type 0 where
  pub fit : takes_all so_far (map (frames.Names next) parts) ≡ true
  pub told : after_all so_far (map (frames.Names next) parts) ≡ told.Names (Some (record { next_table = next; names = names; is_listing = true }))

same_number : (n : ℕ) → (n == n) ≡ true
same_number n = grind (arith, nat_tests)

one_more : (next : ℕ) (before part : Entries) → AreListable next (before ++ part) → takes (told.Names (Some (listing next before))) (frames.Names next part) ≡ true
unfolding takes names_takes
one_more next before part are = rw (same_number next) (part_fits next before part are)

after_one : (next : ℕ) (before part : Entries) → after (told.Names (Some (listing next before))) (frames.Names next part) ≡ told.Names (Some (listing next (before ++ part)))
unfolding after names_after
after_one next before part = refl

first_fits : (next : ℕ) (part : Entries) → AreListable next part → takes (told.Names None) (frames.Names next part) ≡ true
unfolding takes names_takes
first_fits next part are = part_fits next [] part are

after_first : (next : ℕ) (part : Entries) → after (told.Names None) (frames.Names next part) ≡ told.Names (Some (listing next part))
unfolding after names_after
after_first next part = refl

-- a part more before others that fit behind it
put_before : (so_far next_told : Told) (next : ℕ) (part : Entries) (parts : List Entries) (names : Entries) → takes so_far (frames.Names next part) ≡ true → after so_far (frames.Names next part) ≡ next_told
    → PartsFit next_told next parts names → PartsFit so_far next (part ∷ parts) names
unfolding takes_all after_all
put_before so_far next_told next part parts names fits is rest = record {
  fit = both_true (takes so_far (frames.Names next part)) (takes_all (after so_far (frames.Names next part)) (map (frames.Names next) parts)) fits
      (subst (λ t. takes_all t (map (frames.Names next) parts) ≡ true) (sym is) rest.fit);
  told = ap (λ t. after_all t (map (frames.Names next) parts)) is ∙ rest.told;
}

none_left : (next : ℕ) (names : Entries) → PartsFit (told.Names (Some (listing next names))) next [] names
unfolding takes_all after_all
none_left next names = record { fit = refl; told = refl }

-- the part and what is left behind it
cut : (before xs : Entries) (part : Entries) → part ≡ take most_names xs → (before ++ part) ++ drop most_names xs ≡ before ++ xs
cut before xs part is = append_assoc before part (drop most_names xs) ∙ ap (λ l. before ++ l) (ap (λ l. l ++ drop most_names xs) is ∙ take-append-drop most_names xs)

parts_fit : (next : ℕ) (before : Entries) (parts : List Entries) (xs : Entries) → AreParts parts xs → AreListable next (before ++ xs) → PartsFit (told.Names (Some (listing next before))) next parts (before ++ xs)
parts_fit next before [] xs cuts are = absurd cuts
parts_fit next before (part ∷ []) xs cuts are =
    let is : before ++ part ≡ before ++ xs = ap (λ l. before ++ l) cuts.0 in
    put_before (told.Names (Some (listing next before))) (told.Names (Some (listing next (before ++ xs)))) next part [] (before ++ xs)
    (one_more next before part (subst (AreListable next) (sym is) are))
    (after_one next before part ∙ ap (λ l. told.Names (Some (listing next l))) is)
    (none_left next (before ++ xs))
parts_fit next before (part ∷ other ∷ parts) xs cuts are =
    let is : (before ++ part) ++ drop most_names xs ≡ before ++ xs = cut before xs part cuts.0 in
    let all : AreListable next ((before ++ part) ++ drop most_names xs) = subst (AreListable next) (sym is) are in
    put_before (told.Names (Some (listing next before))) (told.Names (Some (listing next (before ++ part)))) next part (other ∷ parts) (before ++ xs)
    (one_more next before part (front_listable next (before ++ part) (drop most_names xs) all))
    (after_one next before part)
    (subst (PartsFit (told.Names (Some (listing next (before ++ part)))) next (other ∷ parts)) is (parts_fit next (before ++ part) (other ∷ parts) (drop most_names xs) cuts.2 all))

all_parts_fit : (next : ℕ) (parts : List Entries) (xs : Entries) → AreParts parts xs → AreListable next xs → PartsFit (told.Names None) next parts xs
all_parts_fit next [] xs cuts are = absurd cuts
all_parts_fit next (part ∷ []) xs cuts are =
    put_before (told.Names None) (told.Names (Some (listing next xs))) next part [] xs
    (first_fits next part (subst (AreListable next) (sym cuts.0) are))
    (after_first next part ∙ ap (λ l. told.Names (Some (listing next l))) cuts.0)
    (none_left next xs)
all_parts_fit next (part ∷ other ∷ parts) xs cuts are =
    let is : part ++ drop most_names xs ≡ xs = cut [] xs part cuts.0 in
    let all : AreListable next (part ++ drop most_names xs) = subst (AreListable next) (sym is) are in
    put_before (told.Names None) (told.Names (Some (listing next part))) next part (other ∷ parts) xs
    (first_fits next part (front_listable next part (drop most_names xs) all))
    (after_first next part)
    (subst (PartsFit (told.Names (Some (listing next part))) next (other ∷ parts)) is (parts_fit next part (other ∷ parts) (drop most_names xs) cuts.2 all))

-- ---- names by their numbers

-- two numbers that are not one are not tied
number_apart : (a b : ℕ) → (a == b) ≡ false → is_eq (nat_cmp a b) ≡ false
number_apart a b h = by_test (nat_lt a b)
  where
    by_test : (t : Bool) → is_eq (cond t Less (cond (a == b) Equal Greater)) ≡ false
    by_test true = refl
    by_test false = rw h refl

number_below : (a b : ℕ) → is_lt (nat_cmp a b) ≡ true → a < b
number_below a b h = by_test (nat_lt a b) refl h
  where
    by_test : (t : Bool) → nat_lt a b ≡ t → is_lt (cond t Less (cond (a == b) Equal Greater)) ≡ true → a < b
    by_test true e h = ltb-true a b e
    by_test false e h = absurd (not_lt (a == b) h)
      where
        not_lt : (u : Bool) → is_lt (cond u Equal Greater) ≡ true → ⊥
        not_lt true k = true≢false (sym k)
        not_lt false k = true≢false (sym k)

map_pairs : (R : ℕ × List ℕ → ℕ × List ℕ → Type 0) (names : List Named) → AllPairs (λ a b. R (pair a) (pair b)) names → AllPairs R (map pair names)
map_pairs R [] h = Rattle.tab_page.proofs.RisingLists.AllPairs-nil R
map_pairs R (first ∷ names) h =
    AllPairs-cons R (pair first) (map pair names) (All-map (R (pair first)) pair names (AllPairs-head (λ a b. R (pair a) (pair b)) first names h))
    (map_pairs R names (AllPairs-tail (λ a b. R (pair a) (pair b)) first names h))

named_pairs : (names : List Named) → map named (map pair names) ≡ names
named_pairs [] = refl
named_pairs (first ∷ names) = ap (λ rest. first ∷ rest) (named_pairs names)

-- names in the order of their numbers
pub by_numbers : (told : SpelledNames) → AllPairs (λ a b. IsFalse (a.table == b.table)) told.names → AllPairs (λ a b. IsTrue (is_lt (by_number a b))) (in_order by_number told.names)
by_numbers told differ =
    rises_from_elements by_number by_number_total told.names (in_order by_number told.names)
    (IsDistinct-from_apart (λ a b. is_eq (by_number a b)) told.names (λ i j d low high. number_apart _ _ (differ i j d low high)))
    (in_order-elements by_number told.names) (in_order-is by_number by_number_total told.names)

-- tables sorted by numbers that differ are the tables in the order of their numbers
pub numbered_is : (names sorted : List Named) → AllPairs (λ a b. IsFalse (a.table == b.table)) names → IsPermutation names sorted → AllPairs (λ a b. IsFalse (is_lt (by_number b a))) sorted → sorted ≡ in_order by_number names
numbered_is names sorted differ same up =
    let numbered : List Named = in_order by_number names in
    let there : IsPermutation names numbered = in_order-elements by_number names in
    one_order by_number by_number_total numbered sorted (by_numbers (record { next_table = 0; names = names }) differ) (IsPermutation-trans numbered names sorted (IsPermutation-sym names numbered there) same) up

listable : (told : SpelledNames) → AreNames told → AreListable told.next_table (map pair (in_order by_number told.names))
listable told are =
    let numbered : List Named = in_order by_number told.names in
    let same : IsPermutation told.names numbered = in_order-elements by_number told.names in
    let distinct : IsDistinct (λ a b. is_eq (by_name a b)) numbered =
    IsDistinct-IsPermutation (λ a b. is_eq (by_name a b)) (ties_flip by_name by_name_total) told.names numbered same (apart_from_rises by_name by_name_total told.names are.rise) in
    record {
      rise = map_pairs (λ a b. a.0 < b.0) numbered (λ i j d low high. number_below _ _ (by_numbers told are.differ i j d low high));
      below = All-map (λ a. a.0 < told.next_table) pair numbered (All-permutation (λ (one : Named). one.table < told.next_table) told.names numbered same are.below);
      apart = map_pairs (λ a b. is_eq (name_cmp a.1 b.1) ≡ false) numbered (λ i j d low high. apart_from_distinct (λ a b. is_eq (by_name a b)) numbered i j d distinct low high);
    }

told_of_none : told_first names_kind ≡ told.Names None
unfolding told_first
told_of_none = refl

checkpoint_told : (list : List Frame) (told : SpelledNames) → AreNames told → (c : AreListed told.next_table list (in_order by_number told.names))
    → PartsFit (told_first names_kind) told.next_table c.parts (map pair (in_order by_number told.names))
checkpoint_told list told are c =
    subst (λ t. PartsFit t told.next_table c.parts (map pair (in_order by_number told.names))) (sym told_of_none) (all_parts_fit told.next_table c.parts (map pair (in_order by_number told.names)) c.are (listable told are))

is_whole : (t : Told) (held : NamesTold) → t ≡ told.Names (Some held) → is_whole_store t ≡ true
unfolding is_whole_store
is_whole t held is = rw is refl

checkpoint_spells : (list : List Frame) (held : SpelledNames) → told_by names_kind list ≡ told.Names (Some (listing held.next_table (map pair (in_order by_number held.names)))) → AreNames held
    → spelled_names list ≡ Some held
unfolding spelled_names
checkpoint_spells list held is are =
    ap names_of is
    ∙ ap (λ names. Some (record { next_table = held.next_table; names = names }))
    (ap (in_order by_name) (named_pairs (in_order by_number held.names))
    ∙ in_order_rising by_name by_name_total (in_order by_number held.names) held.names are.rise (IsPermutation-sym held.names (in_order by_number held.names) (in_order-elements by_number held.names)))

pub names_check_out : (list : List Frame) (held : SpelledNames) → AreNames held → AreListed held.next_table list (in_order by_number held.names) → IsNamesCheckpoint list held
names_check_out list held are c =
    let fits = checkpoint_told list held are c in
    let told_is : told_by names_kind list ≡ told.Names (Some (listing held.next_table (map pair (in_order by_number held.names)))) = ap (after_all (told_first names_kind)) c.is ∙ fits.told in
    record {
      listed = c;
      are = record {
        spelled = c.spelled;
        fit = ap (takes_all (told_first names_kind)) c.is ∙ fits.fit;
        whole = is_whole (told_by names_kind list) (listing held.next_table (map pair (in_order by_number held.names))) told_is;
      };
      stand = record { spelled = checkpoint_spells list held told_is are; orderly = are };
    }

-- ---- what is listed and what is held

-- tables that were sorted are the names that are held exactly where what was told of them stands for these
pub listed_exactly : (listing told : SpelledNames) (sorted : List Named) (same : Bool) → listing.next_table ≡ told.next_table → IsPermutation listing.names sorted
    → AllPairs (λ a b. IsFalse (is_lt (by_name b a))) sorted → AllPairs (λ a b. IsTrue (is_lt (by_name a b))) told.names → (IsTrue same → sorted ≡ told.names) → (sorted ≡ told.names → IsTrue same)
    → (IsTrue same → (listing.next_table ≡ told.next_table) × (in_order by_name listing.names ≡ told.names)) × ((listing.next_table ≡ told.next_table) × (in_order by_name listing.names ≡ told.names) → IsTrue same)
listed_exactly read held sorted same next moved up rises so not_else = (
  λ is. (next, in_order_rising by_name by_name_total read.names held.names rises (subst (IsPermutation read.names) (so is) moved)),
  λ stands. not_else (sorted_otherwise by_name by_name_total read.names sorted held.names moved up rises stands.1),
)

-- ---- frames of names are short

at_most_from : (a b : ℕ) → nat_le a b ≡ true → a ≤ b
at_most_from a b h = grind (arith, nat_tests)

pub name_short : (name : List ℕ) → IsTableName name → length name ≤ 63
unfolding name_refusal is_well_formed
name_short name is = by_test (is_well_formed name) refl is.allowed
  where
    by_test : (t : Bool) → is_well_formed name ≡ t → (if t then (if bytes_eq (folded name) (codes "tables") then Some Reserved else None) else Some BadName) ≡ None → length name ≤ 63
    by_test false e none = absurd cc
    by_test true e none =
        let lengths : (nat_le 3 (length name) && nat_le (length name) 63) ≡ true = (and_true _ _ (and_true _ _ e).0).0 in
        let long : nat_le (length name) 63 ≡ true = (and_true (nat_le 3 (length name)) (nat_le (length name) 63) lengths).1 in
        at_most_from (length name) 63 long

pub create_short : (table : ℕ) (name : List ℕ) → IsTableName name → IsShort (body (frames.Create table name))
unfolding body sized
create_short table name is =
    let eight : length (to_be_bytes w64 table) ≡ 8 = refl in
    let four : length (to_be_bytes w32 (length name)) ≡ 4 = refl in
    let short : length name ≤ 63 = name_short name is in
    omega (arith, eight, four, length-append (to_be_bytes w64 table) (to_be_bytes w32 (length name) ++ name), length-append (to_be_bytes w32 (length name)) name)

pub drop_short : (table : ℕ) → IsShort (body (frames.Drop table))
unfolding body
drop_short table = let eight : length (to_be_bytes w64 table) ≡ 8 = refl in omega (arith, eight)

-- one name more in a frame
pub row_short : (entries : Entries) (entry : ℕ × List ℕ) (count : ℕ) → IsTableName entry.1 → length (flat_map name_spelling entries) ≤ 75 * count → length (flat_map name_spelling (entries ++ entry ∷ [])) ≤ 75 * (count + 1)
unfolding name_spelling sized
row_short entries entry count is short =
    let eight : length (to_be_bytes w64 entry.0) ≡ 8 = refl in
    let four : length (to_be_bytes w32 (length entry.1)) ≡ 4 = refl in
    let name : length entry.1 ≤ 63 = name_short entry.1 is in
    rw flat_map-append (omega (
      arith,
      eight,
      four,
      name,
      short,
      length-append (flat_map name_spelling entries) (flat_map name_spelling (entry ∷ [])),
      length-append (to_be_bytes w64 entry.0 ++ (to_be_bytes w32 (length entry.1) ++ entry.1)) [],
      length-append (to_be_bytes w64 entry.0) (to_be_bytes w32 (length entry.1) ++ entry.1),
      length-append (to_be_bytes w32 (length entry.1)) entry.1,
    ))

pub names_short : (next : ℕ) (entries : Entries) (count : ℕ) → count ≤ most_names → length (flat_map name_spelling entries) ≤ 75 * count → IsShort (body (frames.Names next entries))
unfolding body
names_short next entries count few short =
    let eight : length (to_be_bytes w64 next) ≡ 8 = refl in
    let four : length (to_be_bytes w32 (length entries)) ≡ 4 = refl in
    omega (arith, eight, four, length-append (to_be_bytes w64 next) (to_be_bytes w32 (length entries) ++ flat_map name_spelling entries), length-append (to_be_bytes w32 (length entries)) (flat_map name_spelling entries))

-- ---- a part more before what is left

pub record PartsSoFar (next : ℕ) (list : List Frame) (all rest : List Named) : Type 0 where
  pub spelled : AllByRecursion HasSpelling list
  pub done : List (List (ℕ × List ℕ))
  pub is : list ≡ map (frames.Names next) done
  pub cuts : (parts : List (List (ℕ × List ℕ))) → AreParts parts (map pair rest) → AreParts (done ++ parts) (map pair all)

parts_mapped : (next : ℕ) (parts : List Entries) (part : Entries) → map (frames.Names next) (parts ++ part ∷ []) ≡ map (frames.Names next) parts ++ frames.Names next part ∷ []
parts_mapped next parts part = map-append (frames.Names next) parts (part ∷ [])

pub parts_begin : (next : ℕ) (rows : List Named) → PartsSoFar next [] rows rows
parts_begin next rows = record { spelled = tt; done = []; is = refl; cuts = λ parts h. h }

frames_more : (next : ℕ) (list : List Frame) (parts : List Entries) (part : Entries) (frame : Frame) → list ≡ map (frames.Names next) parts → frame ≡ frames.Names next part
    → list ++ frame ∷ [] ≡ map (frames.Names next) (parts ++ part ∷ [])
frames_more next list parts part frame is one = ap (λ l. l ++ frame ∷ []) is ∙ (ap (λ f. map (frames.Names next) parts ++ f ∷ []) one ∙ sym (parts_mapped next parts part))

one_cut : (rest part more : List Named) (parts : List Entries) → most_names < length rest → part ≡ take most_names rest → more ≡ drop most_names rest → AreParts parts (map pair more) → AreParts (map pair part ∷ parts) (map pair rest)
one_cut rest part more [] over front back cuts = absurd cuts
one_cut rest part more (other ∷ parts) over front back cuts = (
  ap (map pair) front ∙ sym (take-map pair most_names rest),
  subst (λ n. most_names < n) (sym (length-map rest pair)) over,
  subst (AreParts (other ∷ parts)) (ap (map pair) back ∙ sym (drop-map pair most_names rest)) cuts,
)

pub parts_more : (next : ℕ) (list : List Frame) (all rest part more : List Named) (frame : Frame) → PartsSoFar next list all rest → most_names < length rest → part ≡ take most_names rest → more ≡ drop most_names rest
    → frame ≡ frames.Names next (map pair part) → HasSpelling frame → PartsSoFar next (list ++ frame ∷ []) all more
parts_more next list all rest part more frame so_far over front back is has = record {
  spelled = all_more HasSpelling list frame so_far.spelled has;
  done = so_far.done ++ map pair part ∷ [];
  is = frames_more next list so_far.done (map pair part) frame so_far.is is;
  cuts = λ parts h. subst (λ l. AreParts l (map pair all)) (sym (append_assoc so_far.done (map pair part ∷ []) parts)) (so_far.cuts (map pair part ∷ parts) (one_cut rest part more parts over front back h));
}

pub parts_end : (next : ℕ) (list : List Frame) (all rest : List Named) (frame : Frame) → PartsSoFar next list all rest → length rest ≤ most_names → frame ≡ frames.Names next (map pair rest) → HasSpelling frame
    → AreListed next (list ++ frame ∷ []) all
parts_end next list all rest frame so_far few is has = record {
  spelled = all_more HasSpelling list frame so_far.spelled has;
  parts = so_far.done ++ map pair rest ∷ [];
  are = so_far.cuts (map pair rest ∷ []) (refl, subst (λ n. n ≤ most_names) (sym (length-map rest pair)) few);
  is = frames_more next list so_far.done (map pair rest) frame so_far.is is;
}

-- ---- the entries of a frame

pub record EntriesSoFar (entries : List (ℕ × List ℕ)) (rows : List Named) (i : ℕ) : Type 0 where
  pub names : entries ≡ map pair (take i rows)
  pub short : length (flat_map name_spelling entries) ≤ 75 * i

pub entries_more : (entries new : Entries) (entry : ℕ × List ℕ) (rows : List Named) (i : ℕ) (row : Named) → EntriesSoFar entries rows i → i < length rows → row ≡ get_or rows i row → entry ≡ pair row → IsTableName row.spelling
    → new ≡ entries ++ entry ∷ [] → EntriesSoFar new rows (i + 1)
entries_more entries new entry rows i row so_far less is one name pushed = record {
  names = pushed ∙ (ap (λ l. l ++ entry ∷ []) so_far.names ∙ (ap (λ e. map pair (take i rows) ++ e ∷ []) one ∙ sym (ap (map pair) (take_more rows i row less ∙ ap (λ r. take i rows ++ r ∷ []) (sym is)) ∙ map-append pair (take i rows) (row ∷ []))));
  short = subst (λ l. length (flat_map name_spelling l) ≤ 75 * (i + 1)) (sym pushed) (row_short entries entry i (subst (λ (e : ℕ × List ℕ). IsTableName e.1) (sym one) name) so_far.short);
}

pub entries_orderly : (entries : Entries) (rows : List Named) → entries ≡ map pair rows → length rows ≤ most_names → AllPairs (λ a b. IsTrue (is_lt (by_number a b))) rows
    → (length entries < 4_294_967_296) × AllPairs (λ (a b : ℕ × List ℕ). a.0 < b.0) entries
entries_orderly entries rows is few rise = (
  (let long : length entries ≡ length rows = ap length is ∙ length-map rows pair in omega (arith, long, few)),
  subst (AllPairs (λ (a b : ℕ × List ℕ). a.0 < b.0)) (sym is) (map_pairs (λ a b. a.0 < b.0) rows (λ i j d low high. number_below _ _ (rise i j d low high))),
)

pub rise_behind : (rows more : List Named) (n : ℕ) → more ≡ drop n rows → AllPairs (λ a b. IsTrue (is_lt (by_number a b))) rows → AllPairs (λ a b. IsTrue (is_lt (by_number a b))) more
rise_behind rows more n is rise =
    subst (AllPairs (λ a b. IsTrue (is_lt (by_number a b)))) (sym is)
    (AllPairs-back (λ a b. IsTrue (is_lt (by_number a b))) (take n rows) (drop n rows) (subst (AllPairs (λ a b. IsTrue (is_lt (by_number a b)))) (sym (take-append-drop n rows)) rise))
