-- Filters of filters.
use Rattle.std.proofs.Common.{◌≡◌, List, [], ◌∷◌, Bool, true, false, ◌&&◌, filter, refl, sym, ap, ◌∙◌}
use Rattle.std.proofs.lemmas.List.Elements.{filter_agree}

-- a filter of what a filter leaves is one filter
filter_and : {X : Type 0} (p r : X → Bool) (xs : List X) → filter p (filter r xs) ≡ filter (λ x. r x && p x) xs
filter_and p r [] = refl
filter_and {X} p r (x ∷ xs) = by_test (filter_and p r xs) (r x) (p x) refl refl
  where
    by_test : filter p (filter r xs) ≡ filter (λ y. r y && p y) xs → (b c : Bool) → r x ≡ b → p x ≡ c → filter p (filter r (x ∷ xs)) ≡ filter (λ y. r y && p y) (x ∷ xs)
    by_test rest true true e f = rw (e, f) (ap (λ ys. x ∷ ys) rest)
    by_test rest true false e f = rw (e, f) rest
    by_test rest false c e f = rw e rest

-- two ways to filter twice that agree on each element
pub filters_agree : {X : Type 0} (p r s t : X → Bool) → ((x : X) → (r x && p x) ≡ (t x && s x)) → (xs : List X) → filter p (filter r xs) ≡ filter s (filter t xs)
filters_agree p r s t same xs =
    filter_and p r xs ∙ (filter_agree (λ x. r x && p x) (λ x. t x && s x) same xs ∙ sym (filter_and s t xs))
