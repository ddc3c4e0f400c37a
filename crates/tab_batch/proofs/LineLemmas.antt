-- Lines, taken apart from the front.
use Rattle.std.proofs.Common.{◌≡◌, ◌≢◌, ℕ, zero, suc, ◌+◌, ◌<◌, ◌≤◌, List, [], ◌∷◌, length, get_or, take, drop, refl, ap, ◌∙◌, cond, true, ◌==◌, arith}
use Rattle.std.proofs.lemmas.Bool.{eq-eqb, ne_eqb}
use Rattle.std.proofs.lemmas.Bool.Decides.{nat_tests}
use Rattle.std.proofs.lemmas.List.{length-take-le, drop-drop}
use Rattle.std.proofs.Math.Seq.{take-length, drop-length}
use Rattle.tab_http.specs.Headers.{cons_first}
use Rattle.tab_batch.specs.Lines.{cut_lines, without_end, placed, lines_at}

-- the first line ends at the first line feed
pub first_line : (xs : List ℕ) (i : ℕ) → i < length xs → get_or xs i 0 ≡ 10 → ((k : ℕ) → k < i → get_or xs k 0 ≢ 10) → cut_lines xs ≡ take (suc i) xs ∷ cut_lines (drop (suc i) xs)
unfolding cut_lines
first_line [] i inside feed before = absurd (omega arith)
first_line (b ∷ bs) zero inside feed before = ap (λ t. cond t ((b ∷ []) ∷ cut_lines bs) (cons_first b (cut_lines bs))) (eq-eqb b 10 feed)
first_line (b ∷ bs) (suc i) inside feed before =
    ap (λ t. cond t ((b ∷ []) ∷ cut_lines bs) (cons_first b (cut_lines bs))) (ne_eqb b 10 (before 0 (omega arith)))
    ∙ ap (cons_first b) (first_line bs i (omega arith) feed (λ k below. before (suc k) (omega arith)))

-- without a line feed there is one line
pub only_line : (b : ℕ) (bs : List ℕ) → ((k : ℕ) → k < length (b ∷ bs) → get_or (b ∷ bs) k 0 ≢ 10) → cut_lines (b ∷ bs) ≡ (b ∷ bs) ∷ []
unfolding cut_lines
only_line b [] none = ap (λ t. cond t ((b ∷ []) ∷ []) (cons_first b [])) (ne_eqb b 10 (none 0 (omega arith)))
only_line b (c ∷ bs) none =
    ap (λ t. cond t ((b ∷ []) ∷ cut_lines (c ∷ bs)) (cons_first b (cut_lines (c ∷ bs)))) (ne_eqb b 10 (none 0 (omega arith)))
    ∙ ap (cons_first b) (only_line c bs (λ k below. none (suc k) (omega arith)))

pub whole_line : (xs : List ℕ) → 0 < length xs → ((k : ℕ) → k < length xs → get_or xs k 0 ≢ 10) → cut_lines xs ≡ take (length xs) xs ∷ cut_lines (drop (length xs) xs)
unfolding cut_lines
whole_line [] some none = absurd (omega arith)
whole_line (b ∷ bs) some none = rw (take-length (b ∷ bs), drop-length (b ∷ bs)) (only_line b bs none)

-- ---- offsets

pub no_lines : (bytes : List ℕ) (at : ℕ) → true ≡ (length (drop at bytes) == 0) → lines_at at (drop at bytes) ≡ []
unfolding lines_at cut_lines
no_lines bytes at none = rw (no_elements (drop at bytes) none) refl
  where
    no_elements : (xs : List ℕ) → true ≡ (length xs == 0) → xs ≡ []
    no_elements [] e = refl
    no_elements (x ∷ xs) e = absurd (grind (arith, nat_tests))

-- the first of the lines from an offset on, and those behind it
pub next_line : (bytes : List ℕ) (at size : ℕ) (text : List ℕ) → cut_lines (drop at bytes) ≡ take size (drop at bytes) ∷ cut_lines (drop size (drop at bytes)) → size ≤ length (drop at bytes)
    → text ≡ without_end (take size (drop at bytes))
    → lines_at at (drop at bytes) ≡ record { start = at; text = text; next = at + size } ∷ lines_at (at + size) (drop (at + size) bytes)
unfolding lines_at
next_line bytes at size text first within is =
    let whole : length (take size (drop at bytes)) ≡ size = length-take-le size (drop at bytes) within in
    ap (placed at) first ∙ rw (whole, is, drop-drop) refl
