-- Reading items one after the other, as a loop does.
use Rattle.std.proofs.Common.{◌≡◌, ℕ, suc, ◌-◌, ◌+◌, ◌≤◌, ◌<◌, List, [], ◌∷◌, ◌++◌, length, Ok, Err, Option, Some, refl, sym, ap, ◌∙◌, append_assoc, length-append, arith}
use Rattle.std.specs.Prelude.{slice_get}
use Rattle.std.proofs.lemmas.List.{append-nil}
use Rattle.tab_codec.specs.declared.stops.Stop.{Stop}
use Rattle.tab_codec.specs.declared.stops.Stop.TheVariants as stops
use Rattle.tab_codec.specs.Reading.{Read, ◌>>=◌, Stops, items_at}

-- what was read before, and what is still read
abbrev pub with_front : {A : Type 0} → List A → Read (List A) → Read (List A)
with_front front read = read >>= λ x. Ok (front ++ x.0, x.1)

-- the last of a list
abbrev pub last_of : {A : Type 0} → List A → Option A
last_of xs = slice_get xs (length xs - 1)

seam : {A : Type 0} (xs : List A) (x : A) → slice_get (xs ++ x ∷ []) (length xs) ≡ Some x
seam [] x = refl
seam (y ∷ ys) x = seam ys x

pub last_pushed : {A : Type 0} (xs : List A) (x : A) → last_of (xs ++ x ∷ []) ≡ Some x
last_pushed xs x =
    let n : length (xs ++ x ∷ []) - 1 ≡ length xs = omega (arith, length-append xs (x ∷ [])) in
    rw n (seam xs x)

regroup : {A : Type 0} (front : List A) (x : A) (read : Read (List A)) → with_front front (read >>= λ y. Ok (x ∷ y.0, y.1)) ≡ with_front (front ++ x ∷ []) read
regroup front x (Ok y) = ap (λ xs. Ok (xs, y.1)) (simp append_assoc)
regroup front x (Err left) = refl

pub goes_on : {S A : Type 0} (item : S → List ℕ → Read A) (next : S → A → S) (state after_state : S) (front : List A) (count i : ℕ) (bytes : List ℕ) (x : A) (after : List ℕ) (total : Read (List A)) → i < count → item state bytes ≡ Ok (x, after) → after_state ≡ next state x
    → with_front front (items_at item next state (count - i) bytes) ≡ total → with_front (front ++ x ∷ []) (items_at item next after_state (count - (i + 1)) after) ≡ total
unfolding items_at
goes_on item next state after_state front count i bytes x after total lt h s so_far =
    let k : count - i ≡ suc (count - (i + 1)) = omega arith in
    let one : with_front front (items_at item next state (count - i) bytes) ≡ with_front (front ++ x ∷ []) (items_at item next (next state x) (count - (i + 1)) after) = rw (k, h) (regroup front x (items_at item next (next state x) (count - (i + 1)) after)) in
    rw s (sym one ∙ so_far)

pub ends : {S A : Type 0} (item : S → List ℕ → Read A) (next : S → A → S) (state : S) (stop : Stop) (front : List A) (count i : ℕ) (bytes : List ℕ) (total : Read (List A)) → i < count → Stops stop (item state bytes)
    → with_front front (items_at item next state (count - i) bytes) ≡ total → Stops stop total
unfolding items_at
ends item next state stops.Memory front count i bytes total lt h so_far = tt
ends item next state (stops.Broken left) front count i bytes total lt h so_far =
    let k : count - i ≡ suc (count - (i + 1)) = omega arith in
    let one : with_front front (items_at item next state (count - i) bytes) ≡ Err left = rw (k, h) refl in
    sym so_far ∙ one

pub is_done : {S A : Type 0} (item : S → List ℕ → Read A) (next : S → A → S) (state : S) (front : List A) (count i : ℕ) (bytes : List ℕ) (total : Read (List A)) → count ≤ i
    → with_front front (items_at item next state (count - i) bytes) ≡ total → total ≡ Ok (front, bytes)
unfolding items_at
is_done item next state front count i bytes total le so_far =
    let k : count - i ≡ 0 = omega arith in
    let one : with_front front (items_at item next state (count - i) bytes) ≡ Ok (front, bytes) = rw k (ap (λ xs. Ok (xs, bytes)) (append-nil front)) in
    sym so_far ∙ one
