-- A list between commas, taken apart from the front.
use Rattle.std.proofs.Common.{◌≡◌, ◌≢◌, ℕ, zero, suc, ◌<◌, ◌||◌, List, [], ◌∷◌, length, get_or, take, drop, refl, ap, ◌∙◌, cond, Bool, true, false, arith}
use Rattle.std.proofs.lemmas.Bool.{eq-eqb, ne_eqb}
use Rattle.tab_http.specs.Headers.{cons_first, split_commas, is_close, says_close}

-- the first piece ends at the first comma
split_at : (xs : List ℕ) (i : ℕ) → i < length xs → get_or xs i 0 ≡ 44 → ((k : ℕ) → k < i → get_or xs k 0 ≢ 44) → split_commas xs ≡ take i xs ∷ split_commas (drop (suc i) xs)
split_at [] i inside comma before = absurd (omega arith)
split_at (b ∷ bs) zero inside comma before = ap (λ t. cond t ([] ∷ split_commas bs) (cons_first b (split_commas bs))) (eq-eqb b 44 comma)
split_at (b ∷ bs) (suc i) inside comma before =
    ap (λ t. cond t ([] ∷ split_commas bs) (cons_first b (split_commas bs))) (ne_eqb b 44 (before 0 (omega arith)))
    ∙ ap (cons_first b) (split_at bs i (omega arith) comma (λ k below. before (suc k) (omega arith)))

-- without a comma there is one piece
split_none : (xs : List ℕ) → ((k : ℕ) → k < length xs → get_or xs k 0 ≢ 44) → split_commas xs ≡ xs ∷ []
split_none [] none = refl
split_none (b ∷ bs) none =
    ap (λ t. cond t ([] ∷ split_commas bs) (cons_first b (split_commas bs))) (ne_eqb b 44 (none 0 (omega arith)))
    ∙ ap (cons_first b) (split_none bs (λ k below. none (suc k) (omega arith)))

pub closes_first : (xs : List ℕ) (i : ℕ) → i < length xs → get_or xs i 0 ≡ 44 → ((k : ℕ) → k < i → get_or xs k 0 ≢ 44) → says_close xs ≡ (is_close (take i xs) || says_close (drop (suc i) xs))
unfolding says_close
closes_first xs i inside comma before = rw (split_at xs i inside comma before) refl

or_none : (b : Bool) → (b || false) ≡ b
or_none true = refl
or_none false = refl

pub closes_whole : (xs : List ℕ) → ((k : ℕ) → k < length xs → get_or xs k 0 ≢ 44) → says_close xs ≡ is_close xs
unfolding says_close
closes_whole xs none = rw (split_none xs none) (or_none (is_close xs))
