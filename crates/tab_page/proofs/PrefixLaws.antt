-- The prefix of a page is the shortest one that is full.
use Rattle.std.proofs.Common.{◌≡◌, ℕ, zero, suc, ◌+◌, ◌-◌, ◌<◌, ◌⊎◌, inl, inr, List, [], ◌∷◌, length, take, filter, Bool, true, false, cond, ◌||◌, ◌==◌, refl, arith}
use Rattle.std.proofs.lemmas.Bool.{or_cases, or_parts, eqb-true, eqb-false}
use Rattle.tab_page.specs.Pages.{prefix_length}
use Rattle.tab_page.specs.Prefixes.{IsFull, IsPrefixLength}

module _ {A : Type 0} (test : A → Bool) where
  count : A → ℕ
  count x = cond (test x) 1 0

  one_more : (x : A) (xs : List A) → length (filter test (x ∷ xs)) ≡ count x + length (filter test xs)
  unfolding count
  one_more x xs = by_test (test x)
    where
      by_test : (t : Bool) → length (cond t (x ∷ filter test xs) (filter test xs)) ≡ cond t 1 0 + length (filter test xs)
      by_test true = omega arith
      by_test false = omega arith

  full_more : (top most : ℕ) (x : A) (xs : List A) → IsFull test (top - count x) (most - 1) xs → IsFull test top most (x ∷ xs)
  full_more top most x xs (inl h) = inl (omega (arith, one_more x xs))
  full_more top most x xs (inr h) = inr (omega arith)

  full_less : (top most : ℕ) (x : A) (xs : List A) → 0 < most → IsFull test top most (x ∷ xs) → IsFull test (top - count x) (most - 1) xs
  full_less top most x xs more (inl h) = inl (omega (arith, one_more x xs))
  full_less top most x xs more (inr h) = inr (omega arith)

  nothing_full : (top most : ℕ) → 0 < top → 0 < most → IsFull test top most [] → ⊥
  nothing_full top most some more (inl h) = omega arith
  nothing_full top most some more (inr h) = omega arith

  none_short : (top most : ℕ) (rows : List A) (k : ℕ) → k < 0 → IsFull test top most (take k rows) → ⊥
  none_short top most rows k h = omega arith

  at_once : (top most : ℕ) (rows : List A) → (top ≡ 0) ⊎ (most ≡ 0) → IsPrefixLength test top most rows 0
  at_once top most rows h = record { within = omega arith; full = λ _. by_case h; shortest = none_short top most rows }
    where
      by_case : (top ≡ 0) ⊎ (most ≡ 0) → IsFull test top most (take 0 rows)
      by_case (inl e) = inl (omega arith)
      by_case (inr e) = inr (omega arith)

  later : (top most : ℕ) (x : A) (xs : List A) (n : ℕ) → 0 < top → 0 < most → IsPrefixLength test (top - count x) (most - 1) xs n → IsPrefixLength test top most (x ∷ xs) (suc n)
  later top most x xs n some more rest = record {
    within = let h = rest.within in omega arith;
    full = λ h. full_more top most x (take n xs) (rest.full (omega arith));
    shortest = short;
  }
    where
      short : (k : ℕ) → k < suc n → IsFull test top most (take k (x ∷ xs)) → ⊥
      short zero h full = nothing_full top most some more full
      short (suc k) h full = rest.shortest k (omega arith) (full_less top most x (take k xs) more full)

  pub prefix_is : (top most : ℕ) (rows : List A) → IsPrefixLength test top most rows (prefix_length test top most rows)
  unfolding count
  prefix_is top most [] = record { within = omega arith; full = λ h. absurd (omega arith); shortest = none_short top most [] }
  prefix_is top most (x ∷ xs) = by_test (prefix_is (top - count x) (most - 1) xs) (top == 0 || most == 0) refl
    where
      ends : (top == 0 || most == 0) ≡ true → (top ≡ 0) ⊎ (most ≡ 0)
      ends e = by_case (or_cases (top == 0) (most == 0) e)
        where
          by_case : ((top == 0) ≡ true) ⊎ ((most == 0) ≡ true) → (top ≡ 0) ⊎ (most ≡ 0)
          by_case (inl h) = inl (eqb-true top 0 h)
          by_case (inr h) = inr (eqb-true most 0 h)

      not_zero : (n : ℕ) → (n == 0) ≡ false → 0 < n
      not_zero n e = let apart = eqb-false n 0 e in omega arith

      by_test : IsPrefixLength test (top - count x) (most - 1) xs (prefix_length test (top - count x) (most - 1) xs) → (t : Bool) → (top == 0 || most == 0) ≡ t → IsPrefixLength test top most (x ∷ xs) (cond t 0 (suc (prefix_length test (top - count x) (most - 1) xs)))
      by_test rest true e = at_once top most (x ∷ xs) (ends e)
      by_test rest false e =
          let parts = or_parts (top == 0) (most == 0) e in
          later top most x xs _ (not_zero top parts.0) (not_zero most parts.1) rest
