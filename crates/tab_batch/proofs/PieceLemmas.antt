-- A value parted at its semicolons, taken apart from the front.
use Rattle.std.proofs.Common.{◌≡◌, ℕ, suc, ◌+◌, ◌<◌, ◌≤◌, ◌&&◌, ◌==◌, Bool, true, false, not, List, [], ◌∷◌, ◌++◌, length, get_or, take, drop, refl, sym, ap, ◌∙◌, cond, arith, append-nil, append_assoc, add-one, drop-cons}
use Rattle.std.specs.List.{list_all}
use Rattle.std.proofs.Math.Seq.{take-suc, take-length, drop-length}
use Rattle.tab_http.specs.Headers.{cons_first}
use Rattle.tab_batch.specs.Boundaries.{turned, pieces}

-- bytes at the front of the first piece
abbrev pub behind_front : List ℕ → List (List ℕ) → List (List ℕ)
behind_front front [] = front ∷ []
behind_front front (piece ∷ pieces) = (front ++ piece) ∷ pieces

one_more : (front : List ℕ) (b : ℕ) (ps : List (List ℕ)) → behind_front front (cons_first b ps) ≡ behind_front (front ++ b ∷ []) ps
one_more front b [] = refl
one_more front b (p ∷ ps) = ap (λ (q : List ℕ). q ∷ ps) (sym (append_assoc front (b ∷ []) p))

pub goes_on : (bytes : List ℕ) (at : ℕ) (quoted : Bool) → at < length bytes → (get_or bytes at 0 == 59 && not quoted) ≡ false
    → behind_front (take at bytes) (pieces quoted (drop at bytes)) ≡ behind_front (take (at + 1) bytes) (pieces (turned quoted (get_or bytes at 0)) (drop (at + 1) bytes))
unfolding pieces
goes_on bytes at quoted inside plain =
    let b = get_or bytes at 0 in
    let rest = drop (suc at) bytes in
    rw (add-one, take-suc bytes at 0 inside, drop-cons bytes at 0 inside)
    (ap (λ v. behind_front (take at bytes) (cond v ([] ∷ pieces quoted rest) (cons_first b (pieces (turned quoted b) rest)))) plain ∙ one_more (take at bytes) b (pieces (turned quoted b) rest))

-- the first piece ends at a semicolon outside of quotes
pub parted : (bytes : List ℕ) (at : ℕ) → at < length bytes → get_or bytes at 0 ≡ 59
    → behind_front (take at bytes) (pieces false (drop at bytes)) ≡ take at bytes ∷ pieces false (drop (at + 1) bytes)
unfolding pieces
parted bytes at inside is =
    let rest = drop (suc at) bytes in
    rw (add-one, drop-cons bytes at 0 inside, is) (ap (λ (front : List ℕ). front ∷ pieces false rest) (append-nil (take at bytes)))

-- where none comes, the bytes are one piece
pub whole : (bytes : List ℕ) (at : ℕ) (quoted : Bool) → length bytes ≤ at → at ≤ length bytes → behind_front (take at bytes) (pieces quoted (drop at bytes)) ≡ bytes ∷ []
unfolding pieces
whole bytes at quoted past within =
    let size : at ≡ length bytes = omega arith in
    rw (size, drop-length bytes, take-length bytes) (ap (λ (front : List ℕ). front ∷ []) (append-nil bytes))

-- the first piece is there
pub begins : (bytes : List ℕ) → pieces false bytes ≡ behind_front [] (pieces false bytes)
unfolding pieces
begins [] = refl
begins (b ∷ bytes) = either (b == 59 && not false) ([] ∷ pieces false bytes) (cons_first b (pieces (turned false b) bytes)) refl (first b (pieces (turned false b) bytes))
  where
    first : (b : ℕ) (ps : List (List ℕ)) → cons_first b ps ≡ behind_front [] (cons_first b ps)
    first b [] = refl
    first b (p ∷ ps) = refl

    either : (v : Bool) (x y : List (List ℕ)) → x ≡ behind_front [] x → y ≡ behind_front [] y → cond v x y ≡ behind_front [] (cond v x y)
    either true x y e f = e
    either false x y e f = f

-- ---- pieces without semicolons and quotes

abbrev pub is_plain : ℕ → Bool
is_plain b = not (b == 59) && not (b == 34)

plain_goes_on : (b : ℕ) (xs ys : List (List ℕ)) (bytes : List ℕ) → is_plain b ≡ true → pieces false bytes ≡ xs → cons_first b xs ≡ ys → pieces false (b ∷ bytes) ≡ ys
unfolding pieces
plain_goes_on b xs ys bytes plain rest is = by_tests (b == 59) (b == 34) plain ∙ ap (cons_first b) rest ∙ is
  where
    by_tests : (v w : Bool) → (not v && not w) ≡ true → cond (v && not false) ([] ∷ pieces false bytes) (cons_first b (pieces (cond w (not false) false) bytes)) ≡ cons_first b (pieces false bytes)
    by_tests true w none = absurd (cc)
    by_tests false true none = absurd (cc)
    by_tests false false none = refl

first_plain : (b : ℕ) (bytes : List ℕ) → list_all is_plain (b ∷ bytes) ≡ true → (is_plain b ≡ true) × (list_all is_plain bytes ≡ true)
first_plain b bytes all = both (is_plain b) (list_all is_plain bytes) all
  where
    both : (v w : Bool) → (v && w) ≡ true → (v ≡ true) × (w ≡ true)
    both true w all = (refl, all)
    both false w all = absurd (cc)

-- a piece with neither ends at the first semicolon
pub first_of_plain : (front rest : List ℕ) → list_all is_plain front ≡ true → pieces false (front ++ 59 ∷ rest) ≡ front ∷ pieces false rest
unfolding pieces
first_of_plain [] rest all = refl
first_of_plain (b ∷ front) rest all =
    let plain = first_plain b front all in
    plain_goes_on b (front ∷ pieces false rest) ((b ∷ front) ∷ pieces false rest) (front ++ 59 ∷ rest) plain.0 (first_of_plain front rest plain.1) refl

-- bytes with neither are one piece
pub only_plain : (bytes : List ℕ) → list_all is_plain bytes ≡ true → pieces false bytes ≡ bytes ∷ []
unfolding pieces
only_plain [] all = refl
only_plain (b ∷ bytes) all =
    let plain = first_plain b bytes all in
    plain_goes_on b (bytes ∷ []) ((b ∷ bytes) ∷ []) bytes plain.0 (only_plain bytes plain.1) refl
