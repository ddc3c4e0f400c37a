-- Names that are listed: which are taken behind others.
use Rattle.std.proofs.Common.{◌≡◌, ℕ, Bool, true, false, ◌||◌, cond, not, ◌+◌, ◌<◌, ◌≤◌, List, [], ◌∷◌, ◌++◌, length, get_or, take, drop, refl, sym, ap, ◌∙◌, append_assoc}
use Rattle.std.proofs.lemmas.List.{take_more, drop_more, drop_all}
use Rattle.std.specs.Ordering.{is_eq}
use Rattle.tab_keys.specs.Order.{name_cmp}
use Rattle.tab_journal.specs.Told.{is_taken, are_new}

or_none : (t : Bool) → (t || false) ≡ cond t true false
or_none true = refl
or_none false = refl

swap : (h t r : Bool) → (h || cond t true r) ≡ cond t true (h || r)
swap true true r = refl
swap true false r = refl
swap false t r = refl

pub taken_more : (names : List (ℕ × List ℕ)) (name : ℕ × List ℕ) (other : List ℕ) → is_taken (names ++ name ∷ []) other ≡ cond (is_eq (name_cmp name.1 other)) true (is_taken names other)
taken_more [] name other = or_none (is_eq (name_cmp name.1 other))
taken_more (first ∷ names) name other =
    ap (λ (b : Bool). is_eq (name_cmp first.1 other) || b) (taken_more names name other)
    ∙ swap (is_eq (name_cmp first.1 other)) (is_eq (name_cmp name.1 other)) (is_taken names other)

pub new_more : (before names : List (ℕ × List ℕ)) (name : ℕ × List ℕ) → is_taken before name.1 ≡ false → are_new before (name ∷ names) ≡ are_new (before ++ name ∷ []) names
unfolding are_new
new_more before names name absent = rw absent refl

pub new_none : (before names : List (ℕ × List ℕ)) (name : ℕ × List ℕ) → is_taken before name.1 ≡ true → are_new before (name ∷ names) ≡ false
unfolding are_new
new_none before names name taken = rw taken refl

pub added_so : (added held : Bool) → added ≡ not held → added ≡ true → held ≡ false
added_so added false e is = refl
added_so added true e is = absurd cc

pub not_added_so : (added held : Bool) → added ≡ not held → added ≡ false → held ≡ true
not_added_so added true e is = refl
not_added_so added false e is = absurd cc

-- ---- names one after another

abbrev Names : Type 0
Names = List (ℕ × List ℕ)

-- what is left of the names begins with this one
here : (names : Names) (i : ℕ) (name : ℕ × List ℕ) → i < length names → name ≡ get_or names i name → drop i names ≡ name ∷ drop (i + 1) names
here names i name less is = drop_more names i name less ∙ ap (λ (x : ℕ × List ℕ). x ∷ drop (i + 1) names) (sym is)

so_far : (before names : Names) (i : ℕ) (name : ℕ × List ℕ) → i < length names → name ≡ get_or names i name → before ++ take (i + 1) names ≡ (before ++ take i names) ++ name ∷ []
so_far before names i name less is =
    ap (λ (l : Names). before ++ l) (take_more names i name less ∙ ap (λ (x : ℕ × List ℕ). take i names ++ x ∷ []) (sym is)) ∙ sym (append_assoc before (take i names) (name ∷ []))

pub listed_none : (before names : Names) (i : ℕ) (name : ℕ × List ℕ) → i < length names → name ≡ get_or names i name → are_new (before ++ take i names) (drop i names) ≡ are_new before names
    → is_taken (before ++ take i names) name.1 ≡ true → false ≡ are_new before names
listed_none before names i name less is rest taken =
    sym (new_none (before ++ take i names) (drop (i + 1) names) name taken) ∙ ap (are_new (before ++ take i names)) (sym (here names i name less is)) ∙ rest

pub listed_more : (before names : Names) (i : ℕ) (name : ℕ × List ℕ) → i < length names → name ≡ get_or names i name → are_new (before ++ take i names) (drop i names) ≡ are_new before names
    → is_taken (before ++ take i names) name.1 ≡ false → are_new (before ++ take (i + 1) names) (drop (i + 1) names) ≡ are_new before names
listed_more before names i name less is rest absent =
    ap (λ (l : Names). are_new l (drop (i + 1) names)) (so_far before names i name less is)
    ∙ sym (new_more (before ++ take i names) (drop (i + 1) names) name absent)
    ∙ ap (are_new (before ++ take i names)) (sym (here names i name less is))
    ∙ rest

pub listed_all : (before names : Names) (i : ℕ) → length names ≤ i → are_new (before ++ take i names) (drop i names) ≡ are_new before names → true ≡ are_new before names
unfolding are_new
listed_all before names i past rest = ap (are_new (before ++ take i names)) (sym (drop_all i names past)) ∙ rest

-- a set that had the names so far has one more
pub has_more : (before names : Names) (i : ℕ) (name : ℕ × List ℕ) (old new : List ℕ → Bool) → i < length names → name ≡ get_or names i name → ((other : List ℕ) → old other ≡ is_taken (before ++ take i names) other)
    → ((other : List ℕ) → new other ≡ cond (is_eq (name_cmp name.1 other)) true (old other)) → (other : List ℕ) → new other ≡ is_taken (before ++ take (i + 1) names) other
has_more before names i name old new less is had adds other =
    adds other
    ∙ ap (λ (b : Bool). cond (is_eq (name_cmp name.1 other)) true b) (had other)
    ∙ sym (taken_more (before ++ take i names) name other)
    ∙ ap (λ (l : Names). is_taken l other) (sym (so_far before names i name less is))
