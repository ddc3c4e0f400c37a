-- Rows of the map take few bytes in a frame.
use Rattle.std.proofs.Common.{◌≡◌, ℕ, ◌+◌, ◌*◌, ◌<◌, ◌≤◌, List, ◌∷◌, ◌++◌, [], length, take, get_or, refl, ap, ◌∙◌, subst, sym, arith, length-append}
use Rattle.std.specs.List.{flat_map}
use Rattle.std.specs.Int.{w32, w64, to_be_bytes}
use Rattle.std.proofs.lemmas.List.{take_more}
use Rattle.std.proofs.lemmas.List.Concat.{flat_map-append}
use Rattle.tab_keys.specs.KeyTexts.{IsKeyText}
use Rattle.tab_keys.specs.declared.bounds.Bound.TheVariants.{At, End}
use Rattle.tab_codec.specs.declared.frames.RangeRow.{RangeRow}
use Rattle.tab_codec.specs.declared.frames.Frame.TheVariants as frames
use Rattle.tab_codec.specs.Spelling.{body, sized, bound_spelling, span_spelling, range_row_spelling}
use Rattle.tab_codec.specs.Frames.{IsShort}
use Rattle.tab_codec.proofs.KeyLaws.{key_text_short}

pub at_short : (table : ℕ) (pk : List ℕ) → IsKeyText pk → length (bound_spelling (At table pk)) ≤ 3085
unfolding bound_spelling sized
at_short table pk is =
    let eight : length (to_be_bytes w64 table) ≡ 8 = refl in
    let four : length (to_be_bytes w32 (length pk)) ≡ 4 = refl in
    let short : length pk ≤ 3072 = key_text_short pk is in
    omega (arith, eight, four, short, length-append (to_be_bytes w64 table) (to_be_bytes w32 (length pk) ++ pk), length-append (to_be_bytes w32 (length pk)) pk)

pub end_short : length (bound_spelling End) ≤ 3085
unfolding bound_spelling
end_short = omega arith

pub row_short : (row : RangeRow) → length (bound_spelling row.span.lo) ≤ 3085 → length (bound_spelling row.span.hi) ≤ 3085 → length (range_row_spelling row) ≤ 6179
unfolding range_row_spelling span_spelling
row_short row lo hi =
    let eight : length (to_be_bytes w64 row.range) ≡ 8 = refl in
    omega (
      arith,
      eight,
      lo,
      hi,
      length-append (to_be_bytes w64 row.range) (row.server ∷ (bound_spelling row.span.lo ++ bound_spelling row.span.hi)),
      length-append (bound_spelling row.span.lo) (bound_spelling row.span.hi),
    )

-- one row more
pub rows_more : (rows : List RangeRow) (i : ℕ) (row : RangeRow) → i < length rows → row ≡ get_or rows i row → length (range_row_spelling row) ≤ 6179 → length (flat_map range_row_spelling (take i rows)) ≤ 6179 * i
    → length (flat_map range_row_spelling (take (i + 1) rows)) ≤ 6179 * (i + 1)
rows_more rows i row less is short so_far =
    let more : flat_map range_row_spelling (take (i + 1) rows) ≡ flat_map range_row_spelling (take i rows) ++ flat_map range_row_spelling (row ∷ []) =
    ap (flat_map range_row_spelling) (take_more rows i row less ∙ ap (λ r. take i rows ++ r ∷ []) (sym is)) ∙ flat_map-append range_row_spelling (take i rows) (row ∷ []) in
    subst (λ (l : List ℕ). length l ≤ 6179 * (i + 1)) (sym more)
    (omega (arith, so_far, short, length-append (flat_map range_row_spelling (take i rows)) (flat_map range_row_spelling (row ∷ [])), length-append (range_row_spelling row) []))

pub map_short : (next_range next_plan : ℕ) (rows : List RangeRow) → length rows ≤ 256 → length (flat_map range_row_spelling rows) ≤ 6179 * length rows → IsShort (body (frames.Map next_range next_plan rows))
unfolding body
map_short next_range next_plan rows few short =
    let eight : length (to_be_bytes w64 next_range) ≡ 8 = refl in
    let again : length (to_be_bytes w64 next_plan) ≡ 8 = refl in
    let four : length (to_be_bytes w32 (length rows)) ≡ 4 = refl in
    omega (
      arith,
      eight,
      again,
      four,
      few,
      short,
      length-append (to_be_bytes w64 next_range) (to_be_bytes w64 next_plan ++ (to_be_bytes w32 (length rows) ++ flat_map range_row_spelling rows)),
      length-append (to_be_bytes w64 next_plan) (to_be_bytes w32 (length rows) ++ flat_map range_row_spelling rows),
      length-append (to_be_bytes w32 (length rows)) (flat_map range_row_spelling rows),
    )

numbers_short : (numbers : List ℕ) → length (flat_map (to_be_bytes w64) numbers) ≡ 8 * length numbers
numbers_short [] = refl
numbers_short (number ∷ numbers) =
    let eight : length (to_be_bytes w64 number) ≡ 8 = refl in
    omega (arith, eight, numbers_short numbers, length-append (to_be_bytes w64 number) (flat_map (to_be_bytes w64) numbers))

pub commit_short : (plan next_range : ℕ) (olds : List ℕ) (news : List RangeRow) → length olds < 256 → length news < 256 → length (flat_map range_row_spelling news) ≤ 6179 * length news → IsShort (body (frames.Commit plan next_range olds news))
unfolding body
commit_short plan next_range olds news few_olds few_news short =
    let eight : length (to_be_bytes w64 plan) ≡ 8 = refl in
    let again : length (to_be_bytes w64 next_range) ≡ 8 = refl in
    omega (
      arith,
      eight,
      again,
      few_olds,
      few_news,
      short,
      numbers_short olds,
      length-append (to_be_bytes w64 plan) (to_be_bytes w64 next_range ++ (length olds ∷ flat_map (to_be_bytes w64) olds ++ length news ∷ flat_map range_row_spelling news)),
      length-append (to_be_bytes w64 next_range) (length olds ∷ flat_map (to_be_bytes w64) olds ++ length news ∷ flat_map range_row_spelling news),
      length-append (flat_map (to_be_bytes w64) olds) (length news ∷ flat_map range_row_spelling news),
    )
