-- Lists in the order of their elements, as elements are put into them one after another.
use Rattle.std.specs.Prelude.{List, [], ◌∷◌, if◌then◌else◌}
use Rattle.std.specs.declared.cmp.Ordering.{Ordering}
use Rattle.std.specs.Ordering.{is_lt}

-- a list with one element more, before the first that it is below
unfoldable pub placed : {A : Type 0} → (A → A → Ordering) → List A → A → List A
placed cmp [] x = x ∷ []
placed cmp (first ∷ rest) x = if is_lt (cmp x first) then x ∷ first ∷ rest else first ∷ placed cmp rest x

-- a list with several more, one after another
unfoldable pub placed_all : {A : Type 0} → (A → A → Ordering) → List A → List A → List A
placed_all cmp so_far [] = so_far
placed_all cmp so_far (x ∷ xs) = placed_all cmp (placed cmp so_far x) xs

-- the elements in order
abbrev pub in_order : {A : Type 0} → (A → A → Ordering) → List A → List A
in_order cmp xs = placed_all cmp [] xs
