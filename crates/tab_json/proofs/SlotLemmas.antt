-- A member that is put at the place of its name.
use Rattle.std.proofs.Common.{◌≡◌, ℕ, zero, suc, ◌+◌, ◌-◌, ◌<◌, ◌≤◌, ⊎_elim, List, [], ◌∷◌, ◌++◌, Ok, Err, Some, None, true, true≢false, Result, MatchResult, length, get_or, set, take, drop, Ordering, Less, Equal, Greater, nat_cmp, refl, sym, ap, ◌∙◌, subst, arith}
use Rattle.std.specs.Prelude.{All, AllPairs, insert, slice_get}
use Rattle.std.specs.Cmp.Lexicographic.{slice_cmp}
use Rattle.std.specs.List.{AllWithin, HoldsAt}
use Rattle.std.specs.List.Sorted.{IsSortedBy, IsPartitionPoint, IsBinarySearchResult}
use Rattle.std.specs.Ordering.{is_lt, ordering_reverse}
use Rattle.std.proofs.lemmas.Bool.{cases_eq}
use Rattle.std.proofs.lemmas.Cmp.{nat_list_cmp_total}
use Rattle.std.proofs.lemmas.List.{take-append-drop, set_split, get_or-take, get_or-drop, length-take-le, length-drop, drop_more, get_or_default}
use Rattle.std.proofs.lemmas.List.Elements.{All-head, All-tail, All-cons, All-append, All-weaker}
use Rattle.std.proofs.lemmas.List.Kept.{AllPairs-cons}
use Rattle.std.proofs.lemmas.List.Sorted.{searchable_from_sorted}
use Rattle.std.proofs.lemmas.Option.{get_or_from_slice_get}
use Rattle.serde_json.specs.Data.{Data, Members, member, put}
use Rattle.serde_json.specs.Find.{get_member}
use Rattle.tab_json.specs.declared.slots.Name.{Name}
use Rattle.tab_json.specs.declared.slots.Slot.{Slot}
use Rattle.tab_json.proofs.FlatObjects.{Above, IsSorted}
use Rattle.tab_json.specs.Slots.{name_text, name_cmp, slot_members, AreRising, StandsAt, BelongsAt}

-- ---- names

greater_from_less : (a b : Name) → name_cmp a b ≡ Less → name_cmp b a ≡ Greater
greater_from_less a b h = nat_list_cmp_total.antisymm (name_text b) (name_text a) ∙ ap ordering_reverse h

less_from_greater : (a b : Name) → name_cmp a b ≡ Greater → name_cmp b a ≡ Less
less_from_greater a b h = nat_list_cmp_total.antisymm (name_text b) (name_text a) ∙ ap ordering_reverse h

less_trans : (a b c : Name) → name_cmp a b ≡ Less → name_cmp b c ≡ Less → name_cmp a c ≡ Less
less_trans a b c h k = nat_list_cmp_total.trans (name_text a) (name_text b) (name_text c) h k

-- lesser than a name is lesser than the same name
less_alike : (a b c : Name) → name_cmp a b ≡ Less → name_cmp c b ≡ Equal → name_cmp a c ≡ Less
less_alike a b c h same =
    nat_list_cmp_total.antisymm (name_text a) (name_text c)
    ∙ ap ordering_reverse (nat_list_cmp_total.congr (name_text c) (name_text b) (name_text a) same ∙ greater_from_less a b h)

same_back : (a b : Name) → name_cmp a b ≡ Equal → name_cmp b a ≡ Equal
same_back a b h = nat_list_cmp_total.antisymm (name_text b) (name_text a) ∙ ap ordering_reverse h

pub less_from_is_lt : (o : Ordering) → is_lt o ≡ true → o ≡ Less
less_from_is_lt Less h = refl
less_from_is_lt Equal h = absurd (true≢false (sym h))
less_from_is_lt Greater h = absurd (true≢false (sym h))

-- ---- lists of pairs

module _ {X : Type 0} (R : X → X → Type 0) where
  AllPairs-head : (x : X) (xs : List X) → AllPairs R (x ∷ xs) → All (R x) xs
  AllPairs-head x xs h k d within = h zero (suc k) d (omega arith) (omega arith)

  AllPairs-tail : (x : X) (xs : List X) → AllPairs R (x ∷ xs) → AllPairs R xs
  AllPairs-tail x xs h i j d below within = h (suc i) (suc j) d (omega arith) (omega arith)

  AllPairs-append : (xs ys : List X) → AllPairs R xs → AllPairs R ys → All (λ x. All (R x) ys) xs → AllPairs R (xs ++ ys)
  AllPairs-append [] ys h k across = k
  AllPairs-append (x ∷ xs) ys h k across =
      AllPairs-cons R x (xs ++ ys) (All-append (R x) xs ys (AllPairs-head x xs h) (All-head (λ y. All (R y) ys) x xs across))
      (AllPairs-append xs ys (AllPairs-tail x xs h) k (All-tail (λ y. All (R y) ys) x xs across))

  AllPairs-take : (n : ℕ) (xs : List X) → n ≤ length xs → AllPairs R xs → AllPairs R (take n xs)
  AllPairs-take n xs le h i j d below within =
      let l = length-take-le n xs le in
      let low : i < n = omega arith in
      let high : j < n = omega arith in
      rw get_or-take (rw get_or-take (h i j d below (omega arith)))

  AllPairs-drop : (n : ℕ) (xs : List X) → n ≤ length xs → AllPairs R xs → AllPairs R (drop n xs)
  AllPairs-drop n xs le h i j d below within =
      let l = length-drop n xs in
      rw get_or-drop (rw get_or-drop (h (n + i) (n + j) d (omega arith) (omega arith)))

module _ {X : Type 0} (P : X → Type 0) (xs : List X) (n : ℕ) where
  All-take_within : n ≤ length xs → AllWithin P xs 0 n → All P (take n xs)
  All-take_within le h k d below =
      let l = length-take-le n xs le in
      let lt : k < n = omega arith in
      rw get_or-take (h k d (omega arith) lt)

  All-drop_within : AllWithin P xs n (length xs) → All P (drop n xs)
  All-drop_within h k d below =
      let l = length-drop n xs in
      rw get_or-drop (h (n + k) d (omega arith) (omega arith))

-- ---- slots whose names rise

module _ {V : Type 0} where
  pub no_slots : AreRising {V = V} []
  no_slots = λ i j d below within. absurd (omega (arith, within))

  rising_between : (slot : Slot V) (front back : List (Slot V)) → AreRising front → AreRising back → All (λ (other : Slot V). name_cmp other.name slot.name ≡ Less) front → All (λ (other : Slot V). name_cmp slot.name other.name ≡ Less) back
      → AreRising (front ++ slot ∷ back)
  rising_between slot front back hf hb below above =
      let R = λ (a b : Slot V). name_cmp a.name b.name ≡ Less in
      AllPairs-append R front (slot ∷ back) hf (AllPairs-cons R slot back above hb)
      (All-weaker (λ other. R other slot) (λ other. All (R other) (slot ∷ back))
      (λ other h. All-cons (R other) slot back h (All-weaker (R slot) (R other) (λ later k. less_trans other.name slot.name later.name h k) back above)) front below)

  pub rising_belongs : (slots : List (Slot V)) (slot : Slot V) (place : ℕ) → AreRising slots → BelongsAt slots slot.name place → AreRising (insert slots place slot)
  rising_belongs slots slot place rising h =
      let R = λ (a b : Slot V). name_cmp a.name b.name ≡ Less in
      rising_between slot (take place slots) (drop place slots) (AllPairs-take R place slots h.within rising) (AllPairs-drop R place slots h.within rising) h.below h.above

  -- what stands there is lent a new value
  abbrev pub revalued : Slot V → V → Slot V
  revalued old value = record old { value = value }

  parts : (slots : List (Slot V)) (name : Name) (place : ℕ) (h : StandsAt slots name place) → slots ≡ take place slots ++ h.found ∷ drop (place + 1) slots
  parts slots name place h =
      sym (take-append-drop place slots)
      ∙ ap (λ xs. take place slots ++ xs) (drop_more slots place h.found h.within ∙ ap (λ x. x ∷ drop (place + 1) slots) (h.here h.found))

  set_parts : (slots : List (Slot V)) (place : ℕ) (s : Slot V) → place < length slots → set slots place s ≡ take place slots ++ s ∷ drop (place + 1) slots
  set_parts slots place s within =
      let one_more : suc place ≡ place + 1 = omega arith in
      set_split slots place s within ∙ ap (λ n. take place slots ++ s ∷ drop n slots) one_more

  pub rising_stands : (slots : List (Slot V)) (name : Name) (value : V) (old : Slot V) (place : ℕ) → AreRising slots → (h : StandsAt slots name place) → h.found ≡ old → AreRising (set slots place (revalued old value))
  rising_stands slots name value old place rising h is =
      let R = λ (a b : Slot V). name_cmp a.name b.name ≡ Less in
      let same : name_cmp old.name name ≡ Equal = ap (λ (s : Slot V). name_cmp s.name name) (sym is) ∙ h.same in
      let le : place ≤ length slots = omega (arith, h.within) in
      let le2 : place + 1 ≤ length slots = omega (arith, h.within) in
      subst AreRising (sym (set_parts slots place (revalued old value) h.within))
      (rising_between (revalued old value) (take place slots) (drop (place + 1) slots) (AllPairs-take R place slots le rising) (AllPairs-drop R (place + 1) slots le2 rising)
      (All-weaker (λ (other : Slot V). name_cmp other.name name ≡ Less) (λ (other : Slot V). name_cmp other.name old.name ≡ Less) (λ other k. less_alike other.name name old.name k same) (take place slots) h.below)
      (All-weaker (λ (other : Slot V). name_cmp name other.name ≡ Less) (λ (other : Slot V). name_cmp old.name other.name ≡ Less) (λ other k. nat_list_cmp_total.congr (name_text old.name) (name_text name) (name_text other.name) same ∙ k) (drop (place + 1) slots) h.above))

  -- ---- what a search finds

  belongs : (slots : List (Slot V)) (name : Name) (place : ℕ) → place ≤ length slots
      → IsPartitionPoint (λ other. name_cmp other.name name ≡ Less) (λ other. name_cmp other.name name ≡ Greater) slots place → BelongsAt slots name place
  belongs slots name place inside point = record {
    within = inside;
    below = All-take_within (λ other. name_cmp other.name name ≡ Less) slots place inside point.0;
    above = All-drop_within (λ other. name_cmp name other.name ≡ Less) slots place (λ k d low high. less_from_greater (get_or slots k d).name name (point.1 k d low high));
  }

  stands : (slots : List (Slot V)) (name : Name) (place : ℕ) (some : Slot V) → AreRising slots → place < length slots → HoldsAt (λ other. name_cmp other.name name ≡ Equal) slots place → StandsAt slots name place
  stands slots name place some rising inside holds =
      let found = get_or slots place some in
      let here : HoldsAt (λ other. other ≡ found) slots place = λ d. get_or_default slots place d some inside in
      record {
        within = inside;
        found = found;
        here = here;
        same = holds some;
        below = All-take_within (λ other. name_cmp other.name name ≡ Less) slots place (omega arith)
            (λ k d low high. less_alike (get_or slots k d).name found.name name (subst (λ (s : Slot V). name_cmp (get_or slots k d).name s.name ≡ Less) (here d) (rising k place d high inside)) (same_back found.name name (holds some)));
        above = All-drop_within (λ other. name_cmp name other.name ≡ Less) slots (place + 1)
            (λ k d low high. sym (nat_list_cmp_total.congr (name_text found.name) (name_text name) (name_text (get_or slots k d).name) (holds some)) ∙ subst (λ (s : Slot V). name_cmp s.name (get_or slots k d).name ≡ Less) (here d) (rising place k d (omega arith) high));
      }

  first_of : (slots : List (Slot V)) (place : ℕ) → place < length slots → Slot V
  first_of [] place inside = absurd (omega (arith, inside))
  first_of (s ∷ slots) place inside = s

  sorted : (slots : List (Slot V)) → AreRising slots → IsSortedBy (λ a b. is_lt (name_cmp a.name b.name)) slots
  sorted slots rising k d low high = ap is_lt (greater_from_less (get_or slots k d).name (get_or slots (k + 1) d).name (rising k (k + 1) d (omega arith) high))

  pub place_from_search : (slots : List (Slot V)) (name : Name) (found : Result ℕ ℕ) → AreRising slots
      → MatchResult found (λ i. i < length slots) (λ i. i ≤ length slots)
      → IsBinarySearchResult (λ other. name_cmp other.name name) slots found
      → MatchResult found (StandsAt slots name) (BelongsAt slots name)
  place_from_search slots name (Ok place) rising inside h = stands slots name place (first_of slots place inside) rising inside h
  place_from_search slots name (Err place) rising inside h =
      belongs slots name place inside (h (searchable_from_sorted nat_list_cmp_total (λ (s : Slot V). name_text s.name) slots (name_text name) (sorted slots rising)))

  -- the last name is lesser, so all are
  pub belongs_last : (slots : List (Slot V)) (name : Name) (last : Slot V) → AreRising slots → Some last ≡ slice_get slots (length slots - 1) → name_cmp last.name name ≡ Less → BelongsAt slots name (length slots)
  belongs_last slots name last rising is less = belongs slots name (length slots) (omega arith) (front, λ k d low high. absurd (omega arith))
    where
      front : AllWithin (λ other. name_cmp other.name name ≡ Less) slots 0 (length slots)
      front k d low high =
          let read : get_or slots (length slots - 1) d ≡ last = get_or_from_slice_get slots (length slots - 1) last d (sym is) in
          ⊎_elim
          (λ same. subst (λ (s : Slot V). name_cmp s.name name ≡ Less) (sym (ap (λ (i : ℕ). get_or slots i d) same ∙ read)) less)
          (λ other. less_trans (get_or slots k d).name last.name name (subst (λ (s : Slot V). name_cmp (get_or slots k d).name s.name ≡ Less) read (rising k (length slots - 1) d (omega arith) (omega arith))) less)
          (cases_eq k (length slots - 1))

-- ---- what is put behind members with lesser names

module _ {V : Type 0} (data_of : V → Data) where
  -- the members of the front, and then these
  abbrev onto : List (Slot V) → Members → Members
  onto [] ms = ms
  onto (s ∷ front) ms = member (name_text s.name) (data_of s.value) (onto front ms)

  slot_members-append : (front back : List (Slot V)) → slot_members data_of (front ++ back) ≡ onto front (slot_members data_of back)
  slot_members-append [] back = refl
  slot_members-append (s ∷ front) back = ap (member (name_text s.name) (data_of s.value)) (slot_members-append front back)

  put_behind : (name : Name) (value : V) (front : List (Slot V)) (ms : Members) → All (λ (other : Slot V). name_cmp other.name name ≡ Less) front
      → put (name_text name) (data_of value) (onto front ms) ≡ onto front (put (name_text name) (data_of value) ms)
  put_behind name value [] ms h = refl
  put_behind name value (s ∷ front) ms h =
      let P = λ (other : Slot V). name_cmp other.name name ≡ Less in
      let above : slice_cmp nat_cmp (name_text name) (name_text s.name) ≡ Greater = greater_from_less s.name name (All-head P s front h) in
      rw above (ap (member (name_text s.name) (data_of s.value)) (put_behind name value front ms (All-tail P s front h)))

  -- the others have greater names
  put_before : (slot : Slot V) (back : List (Slot V)) → All (λ (other : Slot V). name_cmp slot.name other.name ≡ Less) back
      → put (name_text slot.name) (data_of slot.value) (slot_members data_of back) ≡ slot_members data_of (slot ∷ back)
  put_before slot [] h = refl
  put_before slot (s ∷ back) h =
      let first : slice_cmp nat_cmp (name_text slot.name) (name_text s.name) ≡ Less = All-head (λ (other : Slot V). name_cmp slot.name other.name ≡ Less) s back h in
      rw first refl

  put_over : (name : Name) (value : V) (s : Slot V) (back : List (Slot V)) → name_cmp s.name name ≡ Equal
      → put (name_text name) (data_of value) (slot_members data_of (s ∷ back)) ≡ slot_members data_of (revalued s value ∷ back)
  put_over name value s back h =
      let same : slice_cmp nat_cmp (name_text name) (name_text s.name) ≡ Equal = same_back s.name name h in
      rw same refl

  pub put_belongs : (slots : List (Slot V)) (slot : Slot V) (place : ℕ) → BelongsAt slots slot.name place
      → slot_members data_of (insert slots place slot) ≡ put (name_text slot.name) (data_of slot.value) (slot_members data_of slots)
  put_belongs slots slot place h =
      sym
      (ap (λ xs. put (name_text slot.name) (data_of slot.value) (slot_members data_of xs)) (sym (take-append-drop place slots))
      ∙ ap (put (name_text slot.name) (data_of slot.value)) (slot_members-append (take place slots) (drop place slots))
      ∙ put_behind slot.name slot.value (take place slots) (slot_members data_of (drop place slots)) h.below
      ∙ ap (onto (take place slots)) (put_before slot (drop place slots) h.above)
      ∙ sym (slot_members-append (take place slots) (slot ∷ drop place slots)))

  pub put_stands : (slots : List (Slot V)) (name : Name) (value : V) (old : Slot V) (place : ℕ) (h : StandsAt slots name place) → h.found ≡ old
      → slot_members data_of (set slots place (revalued old value)) ≡ put (name_text name) (data_of value) (slot_members data_of slots)
  put_stands slots name value old place h is =
      ap (slot_members data_of) (set_parts slots place (revalued old value) h.within)
      ∙ ap (λ (s : Slot V). slot_members data_of (take place slots ++ revalued s value ∷ drop (place + 1) slots)) (sym is)
      ∙ sym
      (ap (λ xs. put (name_text name) (data_of value) (slot_members data_of xs)) (parts slots name place h)
      ∙ ap (put (name_text name) (data_of value)) (slot_members-append (take place slots) (h.found ∷ drop (place + 1) slots))
      ∙ put_behind name value (take place slots) (slot_members data_of (h.found ∷ drop (place + 1) slots)) h.below
      ∙ ap (onto (take place slots)) (put_over name value h.found (drop (place + 1) slots) h.same)
      ∙ sym (slot_members-append (take place slots) (revalued h.found value ∷ drop (place + 1) slots)))

  -- what is found behind members with lesser names
  found_behind : (name : Name) (front : List (Slot V)) (ms : Members) → All (λ (other : Slot V). name_cmp other.name name ≡ Less) front
      → get_member (name_text name) (onto front ms) ≡ get_member (name_text name) ms
  found_behind name [] ms h = refl
  found_behind name (s ∷ front) ms h =
      let P = λ (other : Slot V). name_cmp other.name name ≡ Less in
      let above : slice_cmp nat_cmp (name_text name) (name_text s.name) ≡ Greater = greater_from_less s.name name (All-head P s front h) in
      rw above (found_behind name front ms (All-tail P s front h))

  -- nothing is found before members with greater names
  found_before : (name : Name) (back : List (Slot V)) → All (λ (other : Slot V). name_cmp name other.name ≡ Less) back → get_member (name_text name) (slot_members data_of back) ≡ None
  found_before name [] h = refl
  found_before name (s ∷ back) h =
      let P = λ (other : Slot V). name_cmp name other.name ≡ Less in
      let first : slice_cmp nat_cmp (name_text name) (name_text s.name) ≡ Less = All-head P s back h in
      rw first (found_before name back (All-tail P s back h))

  found_at : (name : Name) (s : Slot V) (back : List (Slot V)) → name_cmp s.name name ≡ Equal → get_member (name_text name) (slot_members data_of (s ∷ back)) ≡ Some (data_of s.value)
  found_at name s back h =
      let same : slice_cmp nat_cmp (name_text name) (name_text s.name) ≡ Equal = same_back s.name name h in
      rw same refl

  pub get_stands : (slots : List (Slot V)) (name : Name) (place : ℕ) (h : StandsAt slots name place) → get_member (name_text name) (slot_members data_of slots) ≡ Some (data_of h.found.value)
  get_stands slots name place h =
      ap (λ xs. get_member (name_text name) (slot_members data_of xs)) (parts slots name place h)
      ∙ ap (get_member (name_text name)) (slot_members-append (take place slots) (h.found ∷ drop (place + 1) slots))
      ∙ found_behind name (take place slots) (slot_members data_of (h.found ∷ drop (place + 1) slots)) h.below
      ∙ found_at name h.found (drop (place + 1) slots) h.same

  pub get_belongs : (slots : List (Slot V)) (name : Name) (place : ℕ) → BelongsAt slots name place → get_member (name_text name) (slot_members data_of slots) ≡ None
  get_belongs slots name place h =
      ap (λ xs. get_member (name_text name) (slot_members data_of xs)) (sym (take-append-drop place slots))
      ∙ ap (get_member (name_text name)) (slot_members-append (take place slots) (drop place slots))
      ∙ found_behind name (take place slots) (slot_members data_of (drop place slots)) h.below
      ∙ found_before name (drop place slots) h.above

  above_slots : (s : Slot V) (slots : List (Slot V)) → All (λ (other : Slot V). name_cmp s.name other.name ≡ Less) slots → Above (name_text s.name) (slot_members data_of slots)
  above_slots s [] h = tt
  above_slots s (other ∷ slots) h =
      let P = λ (other : Slot V). name_cmp s.name other.name ≡ Less in (All-head P other slots h, above_slots s slots (All-tail P other slots h))

  pub sorted_slots : (slots : List (Slot V)) → AreRising slots → IsSorted (slot_members data_of slots)
  sorted_slots [] rising = tt
  sorted_slots (s ∷ slots) rising =
      let R = λ (a b : Slot V). name_cmp a.name b.name ≡ Less in (above_slots s slots (AllPairs-head R s slots rising), sorted_slots slots (AllPairs-tail R s slots rising))
