-- What look-ups find among ranges of which one is changed.
use Rattle.std.proofs.Common.{◌≡◌, ℕ, zero, suc, ◌<◌, List, [], ◌∷◌, Bool, true, false, Some, None, refl, sym, ap, subst, ◌∙◌, map, set, cond, ◌≤◌, length, get_or, arith}
use Rattle.std.specs.Prelude.{◌==◌, ◌≢◌, Option, option_map, find, All, AllPairs, slice_get, if◌then◌else◌, Result, Ok, Err, ⊤, OnOk, IfSome}
use Rattle.std.proofs.lemmas.Bool.Decides.{nat_tests}
use Rattle.std.proofs.lemmas.List.Elements.{All-head, All-tail, All-get_or}
use Rattle.std.proofs.lemmas.Option.{none-some, slice_get_within, get_or_from_slice_get}
use Rattle.tab_rows.proofs.Lists.{AllPairs-head, AllPairs-tail}
use Rattle.tab_codec.specs.declared.frames.Frame.{Frame}
use Rattle.tab_seats.specs.declared.views.Stroke.{Stroke}
use Rattle.tab_range.specs.declared.commands.Told.{Told}
use Rattle.tab_range.specs.Ranges.{RangeView}
use Rattle.tab_journal.specs.Keeping.{IfDoubt, StandsStill}
use Rattle.tab_server.specs.Replays.{SpelledRange, SpellsEach}
use Rattle.tab_server.specs.Contents.{is_whole, told_of, told_ranges, numbers, with_change, StandsAt, IsHolding, IsUncounted, ranges_sense}
use Rattle.tab_server.specs.Serving.{takes_commands, range_of, at_number, with_spare}
use Rattle.tab_server.specs.declared.steps.RangeChange.{RangeChange}
use Rattle.tab_server.specs.declared.marks.Mark.{Mark}
use Rattle.tab_server.specs.declared.marks.Mark.TheVariants.{Serving, Sealed, Copy}
use Rattle.tab_server.specs.declared.ranges.Marked.{Marked}
use Rattle.tab_server.proofs.Holding.{still_holding}

-- ---- the range of a number, and its place

above_at : {T : Type 0} (held : List (Marked T)) (place : ℕ) (marked : Marked T) (n : ℕ) → All (λ m. n < m) (numbers held) → slice_get held place ≡ Some marked → n < marked.range.id
above_at [] place marked n above here = absurd cc
above_at (first ∷ held) zero marked n above here =
    let same : first ≡ marked = cc in
    subst (λ (x : Marked _). n < x.range.id) same (All-head (λ m. n < m) first.range.id (numbers held) above)
above_at (first ∷ held) (suc place) marked n above here = above_at held place marked n (All-tail (λ m. n < m) first.range.id (numbers held) above) here

-- the range that stands at a place is that of its number
pub found_at : {T : Type 0} (held : List (Marked T)) (range place : ℕ) (marked : Marked T) → AllPairs (λ a b. a < b) (numbers held) → slice_get held place ≡ Some marked → marked.range.id ≡ range → range_of held range ≡ Some marked
found_at [] range place marked apart here number = absurd cc
found_at (first ∷ held) range zero marked apart here number =
    let same : first ≡ marked = cc in
    let first_is : first.range.id ≡ range = ap (λ (x : Marked _). x.range.id) same ∙ number in
    let is : (first.range.id == range) ≡ true = grind (arith, nat_tests) in
    rw is (ap Some same)
found_at (first ∷ held) range (suc place) marked apart here number =
    let below : first.range.id < marked.range.id = above_at held place marked first.range.id (AllPairs-head (λ a b. a < b) first.range.id (numbers held) apart) here in
    let other : (first.range.id == range) ≡ false = grind (arith, nat_tests) in
    rw other (found_at held range place marked (AllPairs-tail (λ a b. a < b) first.range.id (numbers held) apart) here number)

-- the range of a number stands at a place
pub placed : {T : Type 0} (held : List (Marked T)) (range : ℕ) (marked : Marked T) → range_of held range ≡ Some marked → (place : ℕ) × StandsAt held range place marked
placed [] range marked found = absurd (none-some marked found)
placed {T} (first ∷ held) range marked found = by_test (λ rest. placed held range marked rest) (first.range.id == range) refl
  where
    by_test : (range_of held range ≡ Some marked → (place : ℕ) × StandsAt held range place marked) → (b : Bool) → (first.range.id == range) ≡ b → (place : ℕ) × StandsAt (first ∷ held) range place marked
    by_test more true e =
        let here : Some first ≡ Some marked = ap (λ b. cond b (Some first) (range_of held range)) (sym e) ∙ found in
        let same : first ≡ marked = cc in
        let is : first.range.id ≡ range = grind (arith, nat_tests) in
        (0, record { here = ap Some same; number = ap (λ (x : Marked T). x.range.id) (sym same) ∙ is })
    by_test more false e =
        let rest = more (ap (λ b. cond b (Some first) (range_of held range)) (sym e) ∙ found) in
        (suc rest.0, record { here = rest.1.here; number = rest.1.number })

-- the range of a number has it
pub has_number : {T : Type 0} (held : List (Marked T)) (range : ℕ) (marked : Marked T) → range_of held range ≡ Some marked → marked.range.id ≡ range
has_number held range marked found = (placed held range marked found).1.number

-- ---- one range changed

-- a range, as a change of the range of a number leaves it
abbrev pub at_one : {T : Type 0} → ℕ → (Marked T → Marked T) → Marked T → Marked T
at_one range change marked = if marked.range.id == range then change marked else marked

none_at : {T : Type 0} (range : ℕ) (change : Marked T → Marked T) (held : List (Marked T)) → All (λ n. range < n) (numbers held) → at_number range change held ≡ held
none_at range change [] above = refl
none_at range change (first ∷ held) above =
    let here : range < first.range.id = All-head (λ n. range < n) first.range.id (numbers held) above in
    let apart : (first.range.id == range) ≡ false = grind (arith, nat_tests) in
    let same : at_one range change first ≡ first = rw apart refl in
    ap (λ (x : Marked _). x ∷ at_number range change held) same ∙ ap (λ (rest : List (Marked _)). first ∷ rest) (none_at range change held (All-tail (λ n. range < n) first.range.id (numbers held) above))

-- what stands at the place of a number is changed, and so is the range of the number
pub set_at : {T : Type 0} (held : List (Marked T)) (range place : ℕ) (change : Marked T → Marked T) (marked : Marked T) → AllPairs (λ a b. a < b) (numbers held) → slice_get held place ≡ Some marked → marked.range.id ≡ range
    → set held place (change marked) ≡ at_number range change held
set_at [] range place change marked apart here number = absurd cc
set_at (first ∷ held) range zero change marked apart here number =
    let same : first ≡ marked = cc in
    let first_is : first.range.id ≡ range = ap (λ (x : Marked _). x.range.id) same ∙ number in
    let at : (first.range.id == range) ≡ true = grind (arith, nat_tests) in
    let changed : at_one range change first ≡ change marked = rw at (ap change same) in
    let above : All (λ m. range < m) (numbers held) = subst (λ (n : ℕ). All (λ m. n < m) (numbers held)) first_is (AllPairs-head (λ a b. a < b) first.range.id (numbers held) apart) in
    ap (λ (rest : List (Marked _)). change marked ∷ rest) (sym (none_at range change held above)) ∙ ap (λ (x : Marked _). x ∷ at_number range change held) (sym changed)
set_at (first ∷ held) range (suc place) change marked apart here number =
    let below : first.range.id < marked.range.id = above_at held place marked first.range.id (AllPairs-head (λ a b. a < b) first.range.id (numbers held) apart) here in
    let other : (first.range.id == range) ≡ false = grind (arith, nat_tests) in
    let same : at_one range change first ≡ first = rw other refl in
    ap (λ (rest : List (Marked _)). first ∷ rest) (set_at held range place change marked (AllPairs-tail (λ a b. a < b) first.range.id (numbers held) apart) here number)
    ∙ ap (λ (x : Marked _). x ∷ at_number range change held) (sym same)

find_map : {X : Type 0} (p : X → Bool) (f : X → X) → ((x : X) → p (f x) ≡ p x) → (xs : List X) → find p (map f xs) ≡ option_map f (find p xs)
find_map p f same [] = refl
find_map {X} p f same (x ∷ xs) = ap (λ b. cond b (Some (f x)) (find p (map f xs))) (same x) ∙ by_test (p x) (find_map p f same xs)
  where
    by_test : (b : Bool) → find p (map f xs) ≡ option_map f (find p xs) → cond b (Some (f x)) (find p (map f xs)) ≡ option_map f (cond b (Some x) (find p xs))
    by_test true rest = refl
    by_test false rest = rest

-- a look-up finds the changed range where it found the range, if the change keeps what it looks for
pub find_at : {T : Type 0} (p : Marked T → Bool) (range : ℕ) (change : Marked T → Marked T) → ((m : Marked T) → p (change m) ≡ p m) → (held : List (Marked T)) → find p (at_number range change held) ≡ option_map (at_one range change) (find p held)
find_at {T} p range change kept held = find_map p (at_one range change) (λ m. by_test m (m.range.id == range)) held
  where
    by_test : (m : Marked T) → (b : Bool) → p (if b then change m else m) ≡ p m
    by_test m true = kept m
    by_test m false = refl

pub at_its_number : {T : Type 0} (range : ℕ) (change : Marked T → Marked T) (marked : Marked T) → marked.range.id ≡ range → at_one range change marked ≡ change marked
at_its_number range change marked number =
    let at : (marked.range.id == range) ≡ true = grind (arith, nat_tests) in
    rw at refl

pub found_roomed : {T : Type 0} (held : List (Marked T)) (range spare : ℕ) (marked : Marked T) → range_of held range ≡ Some marked → range_of (at_number range (with_spare spare) held) range ≡ Some (with_spare spare marked)
found_roomed held range spare marked found =
    find_at (λ (m : Marked _). m.range.id == range) range (with_spare spare) (λ m. refl) held ∙ ap (option_map _) found ∙ ap Some (at_its_number range (with_spare spare) marked (has_number held range marked found))

-- ---- what frames tell

pub told_at : {T : Type 0} (range : ℕ) (change : Marked T → Marked T) → ((m : Marked T) → told_of (change m) ≡ told_of m) → (held : List (Marked T)) → told_ranges (at_number range change held) ≡ told_ranges held
told_at range change kept [] = refl
told_at {T} range change kept (first ∷ held) =
    ap (λ (x : SpelledRange). x ∷ told_ranges (at_number range change held)) (by_test (first.range.id == range)) ∙ ap (λ (rest : List SpelledRange). told_of first ∷ rest) (told_at range change kept held)
  where
    by_test : (b : Bool) → told_of (if b then change first else first) ≡ told_of first
    by_test true = kept first
    by_test false = refl

-- frames that stood for ranges stand for others of which they tell the same
pub still_told : {T : Type 0} (drawn : T → Stroke Told → T → Type 0) (ready : T → ℕ → Type 0) (kin : T → T → Type 0) (old new : List (Marked T)) (doubt : Option RangeChange) → told_ranges new ≡ told_ranges old
    → StandsStill (ranges_sense drawn ready kin) old doubt new
still_told drawn ready kin old new doubt same = record { still = λ frames stand. subst (SpellsEach frames) (sym same) stand; in_doubt = λ frames stand. by_doubt doubt frames stand }
  where
    by_doubt : (d : Option RangeChange) (frames : List Frame) → IfDoubt (ranges_sense drawn ready kin) old d frames → IfDoubt (ranges_sense drawn ready kin) new d frames
    by_doubt None frames stand = stand
    by_doubt (Some step) frames stand = subst (λ (t : List SpelledRange). SpellsEach frames (with_change t step)) (sym same) stand

-- ---- what calls on what is held find

pub no_place : {T : Type 0} (held : List (Marked T)) (range : ℕ) → All (λ m. m.range.id ≢ range) held → range_of held range ≡ None
no_place [] range none = refl
no_place (first ∷ held) range none =
    let here : first.range.id ≢ range = All-head (λ (m : Marked _). m.range.id ≢ range) first held none in
    let other : (first.range.id == range) ≡ false = differs first.range.id range here (first.range.id == range) refl in
    rw other (no_place held range (All-tail (λ (m : Marked _). m.range.id ≢ range) first held none))
  where
    differs : (a b : ℕ) → a ≢ b → (t : Bool) → (a == b) ≡ t → (a == b) ≡ false
    differs a b apart false e = e
    differs a b apart true e = absurd (apart (grind (arith, nat_tests)))

pub placed_within : {T : Type 0} (items held : List (Marked T)) (range place : ℕ) → items ≡ held → ((found : Marked T) × StandsAt held range place found) → place < length items
placed_within items held range place same found = slice_get_within items place found.0 (ap (λ (xs : List (Marked _)). slice_get xs place) same ∙ found.1.here)

-- the range that a call reads at a place
pub read_at : {T : Type 0} (items held : List (Marked T)) (range place : ℕ) (marked : Marked T) → items ≡ held → ((found : Marked T) × StandsAt held range place found) → marked ≡ get_or items place marked → StandsAt items range place marked
read_at items held range place marked same found is =
    let here = ap (λ (xs : List (Marked _)). slice_get xs place) same ∙ found.1.here in
    let found_is : marked ≡ found.0 = is ∙ get_or_from_slice_get items place found.0 marked here in
    record { here = here ∙ ap Some (sym found_is); number = ap (λ (m : Marked _). m.range.id) found_is ∙ found.1.number }

-- a range at a place gets another room or tally
pub one_set : {T : Type 0} (items held : List (Marked T)) (range place : ℕ) (marked : Marked T) (change : Marked T → Marked T) → items ≡ held → IsHolding items → StandsAt items range place marked → (change marked).range.id ≡ marked.range.id
    → IsUncounted (change marked).mark (change marked).range.tally → IsHolding (set items place (change marked)) × (set items place (change marked) ≡ at_number range change held)
one_set items held range place marked change same holding at number uncounted = (
  still_holding items range place marked (change marked) holding at number uncounted,
  set_at items range place change marked holding.apart at.here at.number ∙ ap (at_number range change) same,
)

pub uncounted_at : {T : Type 0} (items : List (Marked T)) (range place : ℕ) (marked : Marked T) → IsHolding items → StandsAt items range place marked → IsUncounted marked.mark marked.range.tally
uncounted_at items range place marked holding at =
    subst (λ (m : Marked _). IsUncounted m.mark m.range.tally) (get_or_from_slice_get items place marked marked at.here)
    (All-get_or (λ (m : Marked _). IsUncounted m.mark m.range.tally) items place marked (slice_get_within items place marked at.here) holding.uncounted)

pub spare_set : {T : Type 0} (items held : List (Marked T)) (range place : ℕ) (marked : Marked T) (new : RangeView T) → items ≡ held → IsHolding items → ((found : Marked T) × StandsAt held range place found) → marked ≡ get_or items place marked
    → new ≡ record marked.range { spare = new.spare }
    → IsHolding (set items place (record marked { range = new })) × (set items place (record marked { range = new }) ≡ at_number range (with_spare new.spare) held) × (range_of (set items place (record marked { range = new })) range ≡ Some (record marked { range = new }))
spare_set items held range place marked new same holding found is kept =
    let at = read_at items held range place marked same found is in
    let changed : with_spare new.spare marked ≡ record marked { range = new } = ap (λ (r : RangeView _). record marked { range = r }) (sym kept) in
    let both = one_set items held range place marked (with_spare new.spare) same holding at refl (uncounted_at items range place marked holding at) in
    let holds : IsHolding (set items place (record marked { range = new })) = subst (λ (m : Marked _). IsHolding (set items place m)) changed both.0 in
    let found_is : range_of items range ≡ Some marked = found_at items range place marked holding.apart at.here at.number in
    let after : set items place (record marked { range = new }) ≡ at_number range (with_spare new.spare) items = ap (set items place) (sym changed) ∙ set_at items range place (with_spare new.spare) marked holding.apart at.here at.number in (
      holds,
      ap (set items place) (sym changed) ∙ both.1,
      ap (λ (xs : List (Marked _)). range_of xs range) after ∙ found_roomed items range new.spare marked found_is ∙ ap Some changed,
    )

pub reserved_room : {T E : Type 0} (after : List (Marked T)) (range : ℕ) (one : Marked T) (more : ℕ) (result : Result ⊤ E) → range_of after range ≡ Some one → OnOk result (more ≤ one.range.spare) → OnOk result (IfSome (range_of after range) (λ m. more ≤ m.range.spare))
reserved_room after range one more (Ok x) found room = subst (λ (o : Option (Marked _)). IfSome o (λ m. more ≤ m.range.spare)) (sym found) room
reserved_room after range one more (Err e) found room = tt

-- a range that takes commands is whole
pub whole_mark : (mark : Mark) → takes_commands mark ≡ true → is_whole mark ≡ true
whole_mark Serving takes = refl
whole_mark Sealed takes = refl
whole_mark (Copy whole) takes = absurd cc
