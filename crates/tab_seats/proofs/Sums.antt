-- Sums over a list of views after a step, and where each view of the new list comes from.
use Rattle.std.proofs.Common.{◌≡◌, ℕ, zero, suc, ◌+◌, ◌≤◌, ◌≢◌, ◌⊎◌, List, [], ◌∷◌, ◌++◌, set, refl, sym, ap, subst, inl, inr, ⊎_elim, arith}
use Rattle.std.specs.List.{sum_by}
use Rattle.std.proofs.lemmas.List.Sums.{sum_by-cons, sum_by_push}
use mathlib.Core.Option.{some, some-injective, some-ne-none}
use lib.ListN.{get_elem?}
use Rattle.atomic_table.proofs.Lists.{at_set, at_snoc}
use Rattle.tab_seats.specs.Lists.{In}

module _ {A : Type 0} (f : A → ℕ) where
  pub sum_by-set : (vs : List A) (i : ℕ) (v w : A) → get_elem? vs i ≡ some v → sum_by f (set vs i w) + f v ≡ sum_by f vs + f w
  sum_by-set [] i v w e = absurd (some-ne-none v (sym e))
  sum_by-set (x ∷ xs) zero v w e = let s : f x ≡ f v = ap f (some-injective x v e) in omega (arith, sum_by-cons f w xs, sum_by-cons f x xs)
  sum_by-set (x ∷ xs) (suc i) v w e = omega (arith, sum_by-set xs i v w e, sum_by-cons f x (set xs i w), sum_by-cons f x xs)

  pub sum_by-at : (vs : List A) (i : ℕ) (v : A) → get_elem? vs i ≡ some v → f v ≤ sum_by f vs
  sum_by-at [] i v e = absurd (some-ne-none v (sym e))
  sum_by-at (x ∷ xs) zero v e = let s : f x ≡ f v = ap f (some-injective x v e) in omega (arith, sum_by-cons f x xs)
  sum_by-at (x ∷ xs) (suc i) v e = omega (arith, sum_by-at xs i v e, sum_by-cons f x xs)

  pub sum_by-none : (vs : List A) → ((j : ℕ) (u : A) → get_elem? vs j ≡ some u → f u ≡ 0) → sum_by f vs ≡ 0
  sum_by-none [] h = refl
  sum_by-none (x ∷ xs) h = omega (arith, h zero x refl, sum_by-none xs (λ j u e. h (suc j) u e), sum_by-cons f x xs)

  -- two places have at most the whole
  pub sum_by-two : (vs : List A) (i j : ℕ) (v w : A) → j ≢ i → get_elem? vs i ≡ some v → get_elem? vs j ≡ some w → f v + f w ≤ sum_by f vs
  sum_by-two [] i j v w n e d = absurd (some-ne-none v (sym e))
  sum_by-two (x ∷ xs) zero zero v w n e d = absurd (n refl)
  sum_by-two (x ∷ xs) zero (suc j) v w n e d = let s : f x ≡ f v = ap f (some-injective x v e) in omega (arith, sum_by-at xs j w d, sum_by-cons f x xs)
  sum_by-two (x ∷ xs) (suc i) zero v w n e d = let s : f x ≡ f w = ap f (some-injective x w d) in omega (arith, sum_by-at xs i v e, sum_by-cons f x xs)
  sum_by-two (x ∷ xs) (suc i) (suc j) v w n e d = omega (arith, sum_by-two xs i j v w (λ k. n (ap suc k)) e d, sum_by-cons f x xs)

  -- a view is cut in two
  pub sum_by-parted : (vs : List A) (i : ℕ) (v l r : A) → get_elem? vs i ≡ some v → f l + f r ≤ f v → sum_by f (set vs i l ++ r ∷ []) ≤ sum_by f vs
  sum_by-parted vs i v l r e h = omega (arith, sum_by-set vs i v l e, sum_by_push f (set vs i l) r)

  -- two views are made one
  pub sum_by-joined : (vs : List A) (i j : ℕ) (v w b s : A) → get_elem? vs i ≡ some v → get_elem? (set vs i b) j ≡ some w → f b + f s ≤ f v + f w → sum_by f (set (set vs i b) j s) ≤ sum_by f vs
  sum_by-joined vs i j v w b s e d h = omega (arith, sum_by-set vs i v b e, sum_by-set (set vs i b) j w s d)

module _ {A : Type 0} (P : A → Type 0) where
  pub all_set : (vs : List A) (i : ℕ) (w : A) → P w → ((j : ℕ) (u : A) → j ≢ i → get_elem? vs j ≡ some u → P u) → (j : ℕ) (u : A) → get_elem? (set vs i w) j ≡ some u → P u
  all_set vs i w p h j u e = ⊎_elim (λ (t : (j ≡ i) × (w ≡ u)). subst P t.1 p) (λ (t : (j ≢ i) × (get_elem? vs j ≡ some u)). h j u t.0 t.1) (at_set vs i j w u e)

  pub all_snoc : (vs : List A) (w : A) → P w → ((j : ℕ) (u : A) → get_elem? vs j ≡ some u → P u) → (j : ℕ) (u : A) → get_elem? (vs ++ w ∷ []) j ≡ some u → P u
  all_snoc vs w p h j u e = ⊎_elim (λ (t : get_elem? vs j ≡ some u). h j u t) (λ (t : w ≡ u). subst P t p) (at_snoc vs w u j e)

module _ {A : Type 0} (x : A) where
  pub in_append : (xs ys : List A) → In x (xs ++ ys) → In x xs ⊎ In x ys
  in_append [] ys h = inr h
  in_append (y ∷ xs) ys (inl e) = inl (inl e)
  in_append (y ∷ xs) ys (inr h) = ⊎_elim (λ (t : In x xs). inl (inr t)) (λ (t : In x ys). inr t) (in_append xs ys h)

  pub in_left : (xs ys : List A) → In x xs → In x (xs ++ ys)
  in_left [] ys h = elim h [ ]
  in_left (y ∷ xs) ys (inl e) = inl e
  in_left (y ∷ xs) ys (inr h) = inr (in_left xs ys h)

  pub in_right : (xs ys : List A) → In x ys → In x (xs ++ ys)
  in_right [] ys h = h
  in_right (y ∷ xs) ys h = inr (in_right xs ys h)
