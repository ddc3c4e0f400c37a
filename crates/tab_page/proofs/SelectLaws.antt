-- Names between commas, without the spaces round them.
use Rattle.std.proofs.Common.{◌≡◌, ◌≢◌, ℕ, ◌+◌, ◌<◌, List, [], ◌∷◌, ◌++◌, map, filter, take, length, reverse, get_or, Bool, true, false, ◌||◌, ◌==◌, cond, refl, sym, ap, ◌∙◌}
use Rattle.std.specs.List.{list_any}
use Rattle.std.proofs.lemmas.Bool.{eqb-true}
use Rattle.std.proofs.lemmas.List.{reverse-reverse, reverse-append, map_more, length-map}
use Rattle.std.proofs.Math.Seq.{take-length}
use Rattle.std.proofs.lemmas.List.Elements.{filter-append}
use Rattle.tab_page.specs.Queries.{without_spaces, trimmed, is_name, is_star, asks_for_all}

-- a text that begins with no space stays as it is
pub no_first_space : (text : List ℕ) → ((rest : List ℕ) → text ≢ 32 ∷ rest) → without_spaces text ≡ text
no_first_space [] h = refl
no_first_space (b ∷ bs) h = by_test (b == 32) refl
  where
    by_test : (t : Bool) → (b == 32) ≡ t → without_spaces (b ∷ bs) ≡ b ∷ bs
    by_test true e = absurd (h bs (ap (λ (x : ℕ). x ∷ bs) (eqb-true b 32 e)))
    by_test false e = ap (λ t. cond t (without_spaces bs) (b ∷ bs)) e

-- and so does one that ends with none
pub no_last_space : (text : List ℕ) → ((front : List ℕ) → text ≢ front ++ 32 ∷ []) → reverse (without_spaces (reverse text)) ≡ text
no_last_space text h =
    ap reverse (no_first_space (reverse text) (λ rest e. h (reverse rest) (sym (reverse-reverse text) ∙ ap reverse e ∙ reverse-append (32 ∷ []) rest)))
    ∙ reverse-reverse text

-- a space is left out
pub one_space : (rest : List ℕ) → without_spaces (32 ∷ rest) ≡ without_spaces rest
one_space rest = refl

pub one_last_space : (front : List ℕ) → without_spaces (reverse (front ++ 32 ∷ [])) ≡ without_spaces (reverse front)
one_last_space front = ap without_spaces (reverse-append front (32 ∷ []))

-- the names in one more piece
names_more : (pieces : List (List ℕ)) (n m : ℕ) (piece : List ℕ) → m ≡ n + 1 → (n < length pieces) × (piece ≡ get_or pieces n piece) → filter is_name (map trimmed (take m pieces)) ≡ filter is_name (map trimmed (take n pieces)) ++ filter is_name (trimmed piece ∷ [])
names_more pieces n m piece e at =
    ap (λ (k : ℕ). filter is_name (map trimmed (take k pieces))) e
    ∙ ap (filter is_name) (map_more trimmed pieces n piece at.0)
    ∙ filter-append is_name (map trimmed (take n pieces)) (trimmed (get_or pieces n piece) ∷ [])
    ∙ ap (λ (p : List ℕ). filter is_name (map trimmed (take n pieces)) ++ filter is_name (trimmed p ∷ [])) (sym at.1)

pub list_any-map : {X Y : Type 0} (p : Y → Bool) (f : X → Y) (xs : List X) → list_any p (map f xs) ≡ list_any (λ x. p (f x)) xs
list_any-map p f [] = refl
list_any-map p f (x ∷ xs) = ap (λ b. p (f x) || b) (list_any-map p f xs)

pub names_kept : (pieces : List (List ℕ)) (n m : ℕ) (piece name : List ℕ) (old new : List (List ℕ)) → m ≡ n + 1 → (n < length pieces) × (piece ≡ get_or pieces n piece) → name ≡ trimmed piece → old ≡ filter is_name (map trimmed (take n pieces)) → new ≡ old ++ filter is_name (name ∷ []) → new ≡ filter is_name (map trimmed (take m pieces))
names_kept pieces n m piece name old new e at is h k =
    k
    ∙ (ap (λ (xs : List (List ℕ)). xs ++ filter is_name (name ∷ [])) h
    ∙ (ap (λ (x : List ℕ). filter is_name (map trimmed (take n pieces)) ++ filter is_name (x ∷ [])) is ∙ sym (names_more pieces n m piece e at)))

-- all pieces
pub all_kept : (pieces : List (List ℕ)) (n : ℕ) (names : List (List ℕ)) → n ≡ length pieces → names ≡ filter is_name (map trimmed (take n pieces)) → names ≡ filter is_name (map trimmed pieces)
all_kept pieces n names e h = h ∙ ap (λ (xs : List (List ℕ)). filter is_name (map trimmed xs)) (ap (λ (k : ℕ). take k pieces) e ∙ take-length pieces)

-- some names ask for all where one of them is `*`
pub some_ask : {X : Type 0} (text_of : X → List ℕ) (names : List X) (star : Bool) → (length names == 0) ≡ false → star ≡ list_any (λ x. is_star (text_of x)) names → star ≡ asks_for_all (map text_of names)
some_ask text_of names star some h =
    h
    ∙ (sym (list_any-map is_star text_of names)
    ∙ sym (ap (λ (b : Bool). b || list_any is_star (map text_of names)) (ap (λ (n : ℕ). n == 0) (length-map names text_of) ∙ some)))
