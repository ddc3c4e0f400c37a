-- What frames spell of a range, frame by frame.
use Rattle.std.proofs.Common.{◌≡◌, ℕ, List, [], ◌∷◌, ◌++◌, Bool, true, false, Some, None, refl, sym, ap, subst, ◌∙◌, append_assoc, arith}
use Rattle.std.specs.Prelude.{map, ◌==◌, ◌<◌, Option, length, All, AllPairs, IsTrue}
use Rattle.std.specs.List.{AllByRecursion}
use Rattle.tab_rows.specs.Rows.{RowView, AreRising, with_row}
use Rattle.tab_codec.specs.declared.frames.Frame.{Frame}
use Rattle.tab_codec.specs.declared.frames.Frame.TheVariants as frames
use Rattle.tab_rows.proofs.RowLaws.{AllBelow, with_row-between}
use Rattle.std.proofs.lemmas.List.{append-nil, length-append, get_or_append_left}
use Rattle.std.proofs.lemmas.List.Elements.{All-nil, All-cons, All-head, All-tail}
use Rattle.tab_rows.proofs.Lists.{AllPairs-head, AllPairs-tail, All-split}
use Rattle.std.proofs.lemmas.List.Concat.{flat_map-cons}
use Rattle.std.proofs.lemmas.Bool.Decides.{nat_tests}
use Rattle.tab_keys.specs.Order.{key_lt}
use Rattle.tab_server.specs.Rewriting.{is_full, last_rows, rows_frames, whole_frames, range_frames, checkpoint_frames, IsHeld}
use Rattle.tab_rows.specs.declared.changes.Change.{Change}
use Rattle.tab_server.specs.Replays.{SpelledRange, with_rows, changed_at, spelled_next, spelled_from, spelled_range, SpellsEach}

-- ---- one list of frames behind another

pub spelled_behind : (number : ℕ) (so_far : Option SpelledRange) (xs ys : List Frame) → spelled_from number so_far (xs ++ ys) ≡ spelled_from number (spelled_from number so_far xs) ys
spelled_behind number so_far [] ys = refl
spelled_behind number so_far (x ∷ xs) ys = spelled_behind number (spelled_next number so_far x) xs ys

-- ---- a change of one range

changed_by : (range : ℕ) (changes : List Change) (next_tick : ℕ) (one : SpelledRange) (b : Bool) → (range == one.range) ≡ b
    → spelled_next one.range (Some one) (frames.Change range next_tick changes) ≡ Some (changed_at range changes next_tick one)
changed_by range changes next_tick one true e = rw e refl
changed_by range changes next_tick one false e = rw e refl

pub spelled_changed : (before : List Frame) (range : ℕ) (changes : List Change) (next_tick : ℕ) (one : SpelledRange) → spelled_range before one.range ≡ Some one
    → spelled_range (before ++ frames.Change range next_tick changes ∷ []) one.range ≡ Some (changed_at range changes next_tick one)
spelled_changed before range changes next_tick one h =
    spelled_behind one.range None before (frames.Change range next_tick changes ∷ [])
    ∙ ap (λ (so_far : Option SpelledRange). spelled_next one.range so_far (frames.Change range next_tick changes)) h
    ∙ changed_by range changes next_tick one (range == one.range) refl

same_number : (range : ℕ) (changes : List Change) (next_tick : ℕ) (one : SpelledRange) → (changed_at range changes next_tick one).range ≡ one.range
same_number range changes next_tick one = by_test (range == one.range) refl
  where
    by_test : (b : Bool) → (range == one.range) ≡ b → (changed_at range changes next_tick one).range ≡ one.range
    by_test true e = rw e refl
    by_test false e = rw e refl

-- frames that spell each range spell each with a change of one of them behind
pub spells_changed : (before : List Frame) (range : ℕ) (changes : List Change) (next_tick : ℕ) (ranges : List SpelledRange) → SpellsEach before ranges
    → SpellsEach (before ++ frames.Change range next_tick changes ∷ []) (map (changed_at range changes next_tick) ranges)
spells_changed before range changes next_tick [] h = tt
spells_changed before range changes next_tick (one ∷ ranges) h = (
  ap (spelled_range (before ++ frames.Change range next_tick changes ∷ [])) (same_number range changes next_tick one) ∙ spelled_changed before range changes next_tick one h.0,
  spells_changed before range changes next_tick ranges h.1,
)

-- ---- rows behind others

all_below : (rows : List RowView) (row : RowView) (others : List RowView) → AreRising (rows ++ row ∷ others) → AllBelow rows row.key
all_below [] row others rising = All-nil (λ other. IsTrue (key_lt other.key row.key))
all_below (first ∷ rows) row others rising =
    All-cons (λ other. IsTrue (key_lt other.key row.key)) first rows
    (All-head (λ other. IsTrue (key_lt first.key other.key)) row others
    (All-split (λ other. IsTrue (key_lt first.key other.key)) rows (row ∷ others) (AllPairs-head (λ a b. IsTrue (key_lt a.key b.key)) first (rows ++ row ∷ others) rising)))
    (all_below rows row others (AllPairs-tail (λ a b. IsTrue (key_lt a.key b.key)) first (rows ++ row ∷ others) rising))

pub row_behind : (rows : List RowView) (row : RowView) → AllBelow rows row.key → with_row rows row ≡ rows ++ row ∷ []
row_behind rows row below =
    subst (λ (xs : List RowView). with_row xs row ≡ rows ++ row ∷ []) (append-nil rows) (with_row-between rows [] row below (All-nil (λ other. IsTrue (key_lt row.key other.key))))

pub rows_behind : (rows others : List RowView) → AreRising (rows ++ others) → with_rows rows others ≡ rows ++ others
rows_behind rows [] rising = sym (append-nil rows)
rows_behind rows (row ∷ others) rising =
    ap (λ (xs : List RowView). with_rows xs others) (row_behind rows row (all_below rows row others rising))
    ∙ rows_behind (rows ++ row ∷ []) others (subst AreRising (sym (append_assoc rows (row ∷ []) others)) rising)
    ∙ append_assoc rows (row ∷ []) others

-- ---- the frames of a checkpoint, of one range

abbrev with_these : SpelledRange → List RowView → SpelledRange
with_these one rows = record one { rows = rows }

module _ (range number : ℕ) where
  joined : (one : SpelledRange) (rows : List RowView) → (range == number) ≡ true → AreRising (one.rows ++ rows)
      → spelled_next number (Some one) (frames.Rows range rows) ≡ Some (with_these one (one.rows ++ rows))
  joined one rows e rising = rw e (ap (λ (xs : List RowView). Some (with_these one xs)) (rows_behind one.rows rows rising))

  last_spelled : (one : SpelledRange) (so_far : List RowView) → (range == number) ≡ true → AreRising (one.rows ++ so_far)
      → spelled_from number (Some one) (last_rows range so_far) ≡ Some (with_these one (one.rows ++ so_far))
  last_spelled one [] e rising = ap (λ (xs : List RowView). Some (with_these one xs)) (sym (append-nil one.rows))
  last_spelled one (row ∷ so_far) e rising = joined one (row ∷ so_far) e rising

  abbrev Reads : (one : SpelledRange) (so_far rows : List RowView) → Type 0
  Reads one so_far rows = AreRising (one.rows ++ (so_far ++ rows)) → spelled_from number (Some one) (rows_frames range so_far rows) ≡ Some (with_these one (one.rows ++ (so_far ++ rows)))

  longer : (so_far : List RowView) (row : RowView) (rows : List RowView) → (so_far ++ row ∷ []) ++ rows ≡ so_far ++ row ∷ rows
  longer so_far row rows = append_assoc so_far (row ∷ []) rows

  parted : (before so_far : List RowView) (row : RowView) (rows : List RowView) → (before ++ (so_far ++ row ∷ [])) ++ rows ≡ before ++ (so_far ++ row ∷ rows)
  parted before so_far row rows = append_assoc before (so_far ++ row ∷ []) rows ∙ ap (λ (xs : List RowView). before ++ xs) (longer so_far row rows)

  front_rises : (xs ys : List RowView) → AreRising (xs ++ ys) → AreRising xs
  front_rises xs ys rising = λ i j d below within.
      let here : i < length xs = omega arith in
      rw (sym (get_or_append_left xs ys d i here), sym (get_or_append_left xs ys d j within))
      (rising i j d below (let whole = length-append xs ys in omega (arith, whole)))

  one_more : (one : SpelledRange) (so_far : List RowView) (row : RowView) (rows : List RowView) (b : Bool) → (range == number) ≡ true → is_full range (so_far ++ row ∷ []) ≡ b
      → Reads (with_these one (one.rows ++ (so_far ++ row ∷ []))) [] rows → Reads one (so_far ++ row ∷ []) rows → Reads one so_far (row ∷ rows)
  one_more one so_far row rows true e full anew further rising =
      let here = joined one (so_far ++ row ∷ []) e (front_rises (one.rows ++ (so_far ++ row ∷ [])) rows (subst AreRising (sym (parted one.rows so_far row rows)) rising)) in
      rw full
      (ap (λ (so_far' : Option SpelledRange). spelled_from number so_far' (rows_frames range [] rows)) here
      ∙ anew (subst AreRising (sym (parted one.rows so_far row rows)) rising)
      ∙ ap (λ (xs : List RowView). Some (with_these one xs)) (parted one.rows so_far row rows))
  one_more one so_far row rows false e room anew further rising =
      rw room
      (further (subst (λ (xs : List RowView). AreRising (one.rows ++ xs)) (sym (longer so_far row rows)) rising)
      ∙ ap (λ (xs : List RowView). Some (with_these one (one.rows ++ xs))) (longer so_far row rows))

  pub rows_spelled : (one : SpelledRange) (so_far rows : List RowView) → (range == number) ≡ true → Reads one so_far rows
  rows_spelled one so_far [] e rising =
      let same : so_far ++ [] ≡ so_far = append-nil so_far in
      last_spelled one so_far e (subst (λ (xs : List RowView). AreRising (one.rows ++ xs)) same rising) ∙ ap (λ (xs : List RowView). Some (with_these one (one.rows ++ xs))) (sym same)
  rows_spelled one so_far (row ∷ rows) e rising =
      one_more one so_far row rows (is_full range (so_far ++ row ∷ [])) e refl
      (rows_spelled (with_these one (one.rows ++ (so_far ++ row ∷ []))) [] rows e) (rows_spelled one (so_far ++ row ∷ []) rows e) rising

  passed_by : (one : Option SpelledRange) (rows : List RowView) → (range == number) ≡ false → spelled_next number one (frames.Rows range rows) ≡ one
  passed_by one rows e = rw e refl

  other_more : (one : Option SpelledRange) (so_far : List RowView) (row : RowView) (rows : List RowView) (b : Bool) → (range == number) ≡ false → is_full range (so_far ++ row ∷ []) ≡ b
      → spelled_from number one (rows_frames range [] rows) ≡ one → spelled_from number one (rows_frames range (so_far ++ row ∷ []) rows) ≡ one → spelled_from number one (rows_frames range so_far (row ∷ rows)) ≡ one
  other_more one so_far row rows true e full anew further =
      rw full (ap (λ (o : Option SpelledRange). spelled_from number o (rows_frames range [] rows)) (passed_by one (so_far ++ row ∷ []) e) ∙ anew)
  other_more one so_far row rows false e room anew further = rw room further

  -- frames of another range leave it as it is
  others_pass : (so_far' : Option SpelledRange) (so_far : List RowView) (rows : List RowView) → (range == number) ≡ false → spelled_from number so_far' (rows_frames range so_far rows) ≡ so_far'
  others_pass one [] [] e = refl
  others_pass one (row ∷ so_far) [] e = passed_by one (row ∷ so_far) e
  others_pass one so_far (row ∷ rows) e = other_more one so_far row rows (is_full range (so_far ++ row ∷ [])) e refl (others_pass one [] rows e) (others_pass one (so_far ++ row ∷ []) rows e)

  whole_spelled : (one : SpelledRange) (so_far : SpelledRange) → (range == number) ≡ true → one.range ≡ range → one.next_tick ≡ so_far.next_tick → so_far.is_whole ≡ false
      → spelled_from number (Some so_far) (whole_frames one) ≡ Some (record so_far { is_whole = one.is_whole })
  whole_spelled one so_far e is tick open_still = by_test one so_far e is tick open_still one.is_whole refl
    where
      by_test : (one : SpelledRange) (so_far : SpelledRange) → (range == number) ≡ true → one.range ≡ range → one.next_tick ≡ so_far.next_tick → so_far.is_whole ≡ false → (b : Bool) → one.is_whole ≡ b
          → spelled_from number (Some so_far) (whole_frames one) ≡ Some (record so_far { is_whole = one.is_whole })
      by_test one so_far e is tick open_still true w = rw w (rw is (rw e (rw tick refl)))
      by_test one so_far e is tick open_still false w = rw w (rw (sym open_still) refl)

  whole_passes : (one : SpelledRange) (so_far : Option SpelledRange) → (range == number) ≡ false → one.range ≡ range → spelled_from number so_far (whole_frames one) ≡ so_far
  whole_passes one so_far e is = by_test one so_far e is one.is_whole refl
    where
      by_test : (one : SpelledRange) (so_far : Option SpelledRange) → (range == number) ≡ false → one.range ≡ range → (b : Bool) → one.is_whole ≡ b → spelled_from number so_far (whole_frames one) ≡ so_far
      by_test one so_far e is true w = rw w (rw is (rw e refl))
      by_test one so_far e is false w = rw w refl

-- a range's frames spell it, whatever stood before
pub range_spelled : (one : SpelledRange) (so_far : Option SpelledRange) → AreRising one.rows → spelled_from one.range so_far (range_frames one) ≡ Some one
range_spelled one so_far rising =
    let same : (one.range == one.range) ≡ true = grind (arith, nat_tests) in
    let begun : SpelledRange = record { range = one.range; span = one.span; rows = []; next_tick = one.next_tick; is_whole = false } in
    let begins : spelled_next one.range so_far (frames.Begin one.range one.span one.next_tick) ≡ Some begun = rw same refl in
    ap (λ (o : Option SpelledRange). spelled_from one.range o (rows_frames one.range [] one.rows ++ whole_frames one)) begins
    ∙ spelled_behind one.range (Some begun) (rows_frames one.range [] one.rows) (whole_frames one)
    ∙ ap (λ (o : Option SpelledRange). spelled_from one.range o (whole_frames one)) (rows_spelled one.range one.range begun [] one.rows same rising)
    ∙ whole_spelled one.range one.range one (record begun { rows = one.rows }) same refl refl refl

-- and they leave each other range as it is
pub range_passed : (one : SpelledRange) (number : ℕ) (so_far : Option SpelledRange) → (one.range == number) ≡ false → spelled_from number so_far (range_frames one) ≡ so_far
range_passed one number so_far e =
    let begins : spelled_next number so_far (frames.Begin one.range one.span one.next_tick) ≡ so_far = rw e refl in
    ap (λ (o : Option SpelledRange). spelled_from number o (rows_frames one.range [] one.rows ++ whole_frames one)) begins
    ∙ spelled_behind number so_far (rows_frames one.range [] one.rows) (whole_frames one)
    ∙ ap (λ (o : Option SpelledRange). spelled_from number o (whole_frames one)) (others_pass one.range number so_far [] one.rows e)
    ∙ whole_passes one.range number one so_far e refl

-- ---- the frames of a checkpoint

absent : (ranges : List SpelledRange) (number : ℕ) (so_far : Option SpelledRange) → All (λ n. number < n) (map (λ one. one.range) ranges) → spelled_from number so_far (checkpoint_frames ranges) ≡ so_far
absent [] number so_far above = refl
absent (one ∷ ranges) number so_far above =
    let here : number < one.range = All-head (λ n. number < n) one.range (map (λ x. x.range) ranges) above in
    let apart : (one.range == number) ≡ false = grind (arith, nat_tests) in
    ap (spelled_from number so_far) (flat_map-cons range_frames one ranges)
    ∙ spelled_behind number so_far (range_frames one) (checkpoint_frames ranges)
    ∙ ap (λ (o : Option SpelledRange). spelled_from number o (checkpoint_frames ranges)) (range_passed one number so_far apart)
    ∙ absent ranges number so_far (All-tail (λ n. number < n) one.range (map (λ x. x.range) ranges) above)

-- frames of ranges above the first one spell them still behind those of the first one
behind_first : (one : SpelledRange) (frames : List Frame) (ranges : List SpelledRange) → All (λ n. one.range < n) (map (λ other. other.range) ranges) → SpellsEach frames ranges → SpellsEach (range_frames one ++ frames) ranges
behind_first one frames [] above h = tt
behind_first one frames (other ∷ ranges) above h =
    let here : one.range < other.range = All-head (λ n. one.range < n) other.range (map (λ x. x.range) ranges) above in
    let apart : (one.range == other.range) ≡ false = grind (arith, nat_tests) in (
      spelled_behind other.range None (range_frames one) frames ∙ ap (λ (o : Option SpelledRange). spelled_from other.range o frames) (range_passed one other.range None apart) ∙ h.0,
      behind_first one frames ranges (All-tail (λ n. one.range < n) other.range (map (λ x. x.range) ranges) above) h.1,
    )

pub checkpoint_spelled : (ranges : List SpelledRange) → AllPairs (λ a b. a < b) (map (λ one. one.range) ranges) → AllByRecursion IsHeld ranges → SpellsEach (checkpoint_frames ranges) ranges
checkpoint_spelled [] apart each = tt
checkpoint_spelled (one ∷ ranges) apart each =
    let above : All (λ n. one.range < n) (map (λ x. x.range) ranges) = AllPairs-head (λ a b. a < b) one.range (map (λ x. x.range) ranges) apart in
    let parts : checkpoint_frames (one ∷ ranges) ≡ range_frames one ++ checkpoint_frames ranges = flat_map-cons range_frames one ranges in
    subst (λ (xs : List Frame). SpellsEach xs (one ∷ ranges)) (sym parts) (
      spelled_behind one.range None (range_frames one) (checkpoint_frames ranges)
          ∙ ap (λ (o : Option SpelledRange). spelled_from one.range o (checkpoint_frames ranges)) (range_spelled one None each.0.rising)
          ∙ absent ranges one.range (Some one) above,
      behind_first one (checkpoint_frames ranges) ranges above
          (checkpoint_spelled ranges (AllPairs-tail (λ a b. a < b) one.range (map (λ x. x.range) ranges) apart) each.1),
    )
