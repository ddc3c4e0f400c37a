-- Rows join a Rows frame until it is full.
use Rattle.std.proofs.Common.{◌≡◌, ◌≢◌, ℕ, ◌+◌, ◌<◌, ◌≤◌, List, [], ◌∷◌, ◌++◌, true, false, length, get_or, drop, refl, sym, ap, subst, ◌∙◌, append_assoc, arith}
use Rattle.std.specs.List.{flat_map}
use Rattle.std.proofs.lemmas.Bool.Decides.{nat_tests}
use Rattle.std.proofs.lemmas.List.{drop_more, append-nil}
use Rattle.tab_page.proofs.RisingLists.{AllPairs-front}
use Rattle.tab_rows.specs.Rows.{RowView, AreRising}
use Rattle.tab_keys.specs.Order.{key_lt}
use Rattle.std.specs.Prelude.{IsTrue}
use Rattle.tab_codec.specs.Spelling.{row_spelling}
use Rattle.tab_codec.specs.declared.frames.Frame.{Frame}
use Rattle.tab_codec.specs.declared.frames.Frame.TheVariants as frames
use Rattle.tab_server.specs.Rewriting.{is_full, last_rows, rows_frames}
use Rattle.std.proofs.Math.ListN.{drop_of_length-le}
use Rattle.tab_server.proofs.RowSizes.{rows_body_long}
use Rattle.tab_server.proofs.Checkpoints.{back_rises}

pub empty_has_room : (range : ℕ) → is_full range [] ≡ false
empty_has_room range = let long = rows_body_long range [] in grind (arith, nat_tests)

pub room_short : (range : ℕ) (rows : List RowView) → is_full range rows ≡ false → length (flat_map row_spelling rows) < 4_194_304
room_short range rows room = let long = rows_body_long range rows in grind (arith, nat_tests)

pub room_few : (range : ℕ) (rows : List RowView) → is_full range rows ≡ false → length rows < 1000
room_few range rows room = grind (arith, nat_tests)

module _ (range : ℕ) (next : List RowView) (row : RowView) (xs : List RowView) (i : ℕ) (within : i < length xs) (is : row ≡ get_or xs i row) where
  left : drop i xs ≡ row ∷ drop (i + 1) xs
  left = drop_more xs i row within ∙ ap (λ (x : RowView). x ∷ drop (i + 1) xs) (sym is)

  when_full : is_full range (next ++ row ∷ []) ≡ true → rows_frames range next (row ∷ drop (i + 1) xs) ≡ frames.Rows range (next ++ row ∷ []) ∷ rows_frames range [] (drop (i + 1) xs)
  when_full full = rw full refl

  when_room : is_full range (next ++ row ∷ []) ≡ false → rows_frames range next (row ∷ drop (i + 1) xs) ≡ rows_frames range (next ++ row ∷ []) (drop (i + 1) xs)
  when_room room = rw room refl

  pub step_full : (pieces all : List Frame) → is_full range (next ++ row ∷ []) ≡ true → pieces ++ rows_frames range next (drop i xs) ≡ all
      → (pieces ++ frames.Rows range (next ++ row ∷ []) ∷ []) ++ rows_frames range [] (drop (i + 1) xs) ≡ all
  step_full pieces all full so_far =
      append_assoc pieces (frames.Rows range (next ++ row ∷ []) ∷ []) (rows_frames range [] (drop (i + 1) xs))
      ∙ ap (λ (ys : List Frame). pieces ++ ys) (sym (ap (rows_frames range next) left ∙ when_full full))
      ∙ so_far

  pub step_room : (pieces all : List Frame) → is_full range (next ++ row ∷ []) ≡ false → pieces ++ rows_frames range next (drop i xs) ≡ all
      → pieces ++ rows_frames range (next ++ row ∷ []) (drop (i + 1) xs) ≡ all
  step_room pieces all room so_far = ap (λ (ys : List Frame). pieces ++ ys) (sym (ap (rows_frames range next) left ∙ when_room room)) ∙ so_far

  pub step_rising : AreRising (next ++ drop i xs) → AreRising ((next ++ row ∷ []) ++ drop (i + 1) xs)
  step_rising rising = subst AreRising (ap (λ (ys : List RowView). next ++ ys) left ∙ sym (append_assoc next (row ∷ []) (drop (i + 1) xs))) rising

  pub back_rising : AreRising (next ++ drop i xs) → AreRising (drop (i + 1) xs)
  back_rising rising = back_rises (next ++ row ∷ []) (drop (i + 1) xs) (step_rising rising)

pub front_rising : (xs ys : List RowView) → AreRising (xs ++ ys) → AreRising xs
front_rising xs ys rising = AllPairs-front (λ a b. IsTrue (key_lt a.key b.key)) xs ys rising

-- With the rows that are left, the frames come to those of all rows; the next frame is not full, and the rows rise.
pub record IsFilling (range : ℕ) (rows : List RowView) (before pieces : List Frame) (next : List RowView) (index : ℕ) : Type 0 where
  pub frames : pieces ++ rows_frames range next (drop index rows) ≡ before ++ rows_frames range [] rows
  pub room : is_full range next ≡ false
  pub rising : AreRising (next ++ drop index rows)

pub fills_first : (range : ℕ) (rows : List RowView) (before : List Frame) (next : List RowView) → next ≡ [] → AreRising rows → IsFilling range rows before before next 0
fills_first range rows before next none rising =
    subst (λ (xs : List RowView). IsFilling range rows before before xs 0) (sym none) (record { frames = refl; room = empty_has_room range; rising = rising })

module _ (range : ℕ) (rows : List RowView) (before pieces : List Frame) (next : List RowView) (index : ℕ) (h : IsFilling range rows before pieces next index) (row : RowView) (longer : List RowView)
    (within : index < length rows) (is : row ≡ get_or rows index row) (joins : longer ≡ next ++ row ∷ []) where
  pub longer_rises : AreRising longer
  longer_rises = subst AreRising (sym joins) (front_rising (next ++ row ∷ []) (drop (index + 1) rows) (step_rising range next row rows index within is h.rising))

  pub fills_full : (after : List Frame) (anew : List RowView) → is_full range longer ≡ true → after ≡ pieces ++ frames.Rows range longer ∷ [] → anew ≡ [] → IsFilling range rows before after anew (index + 1)
  fills_full after anew full closed none =
      let full_here : is_full range (next ++ row ∷ []) ≡ true = subst (λ (xs : List RowView). is_full range xs ≡ true) joins full in
      let closed_here : after ≡ pieces ++ frames.Rows range (next ++ row ∷ []) ∷ [] = subst (λ (xs : List RowView). after ≡ pieces ++ frames.Rows range xs ∷ []) joins closed in
      subst (λ (xs : List RowView). IsFilling range rows before after xs (index + 1)) (sym none)
      (subst (λ (ys : List Frame). IsFilling range rows before ys [] (index + 1)) (sym closed_here)
      (record {
        frames = step_full range next row rows index within is pieces (before ++ rows_frames range [] rows) full_here h.frames;
        room = empty_has_room range;
        rising = back_rising range next row rows index within is h.rising;
      }))

  pub fills_room : (after : List Frame) (anew : List RowView) → is_full range longer ≡ false → after ≡ pieces → anew ≡ longer → IsFilling range rows before after anew (index + 1)
  fills_room after anew room still same =
      let room_here : is_full range (next ++ row ∷ []) ≡ false = subst (λ (xs : List RowView). is_full range xs ≡ false) joins room in
      subst (λ (xs : List RowView). IsFilling range rows before after xs (index + 1)) (sym (same ∙ joins))
      (subst (λ (ys : List Frame). IsFilling range rows before ys (next ++ row ∷ []) (index + 1)) (sym still)
      (record {
        frames = step_room range next row rows index within is pieces (before ++ rows_frames range [] rows) room_here h.frames;
        room = room_here;
        rising = step_rising range next row rows index within is h.rising;
      }))

module _ (range : ℕ) (rows : List RowView) (before pieces : List Frame) (next : List RowView) (index : ℕ) (h : IsFilling range rows before pieces next index) (past : length rows ≤ index) where
  none_left : pieces ++ last_rows range next ≡ before ++ rows_frames range [] rows
  none_left = ap (λ (ys : List RowView). pieces ++ rows_frames range next ys) (sym (drop_of_length-le rows past)) ∙ h.frames

  pub last_rises : AreRising next
  last_rises = front_rising next (drop index rows) h.rising

  pub filled : next ≡ [] → pieces ≡ before ++ rows_frames range [] rows
  filled none = sym (append-nil pieces) ∙ ap (λ (xs : List RowView). pieces ++ last_rows range xs) (sym none) ∙ none_left

  pub filled_last : (after : List Frame) → next ≢ [] → after ≡ pieces ++ frames.Rows range next ∷ [] → after ≡ before ++ rows_frames range [] rows
  filled_last after some closed = closed ∙ ap (λ (ys : List Frame). pieces ++ ys) (sym (some_last next some)) ∙ none_left
    where
      some_last : (xs : List RowView) → xs ≢ [] → last_rows range xs ≡ frames.Rows range xs ∷ []
      some_last [] not_none = absurd (not_none refl)
      some_last (x ∷ xs) not_none = refl
