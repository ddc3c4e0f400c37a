-- Logs by number, and rights to numbers.
use Rattle.std.proofs.Common.{◌≡◌, ℕ, zero, suc, ◌+◌, ◌<◌, ◌≤◌, ◌≢◌, ◌⊎◌, Bool, true, false, cond, List, [], ◌∷◌, ◌++◌, length, refl, sym, ap, subst, inl, inr, ⊎_elim, arith}
use Rattle.std.specs.Prelude.{nat_lt, nat_le, ◌==◌}
use Rattle.std.proofs.lemmas.Bool.Decides.{nat_tests}
use Rattle.tab_seats.specs.declared.views.Stroke.{Stroke}
use Rattle.tab_seats.specs.Lists.{In, one_if, times, RisesBy}
use Rattle.tab_seats.specs.Logs.{IsByNumber, AreRising, with_stroke, with_strokes, with_right, with_rights, last_right, other_rights}
use Rattle.tab_seats.proofs.Sums.{in_append}

not_some : (n : ℕ) → ¬ (0 < n) → n ≡ 0
not_some zero h = refl
not_some (suc n) h = absurd (h (omega arith))

pub times_append : (n : ℕ) (xs ys : List ℕ) → times n (xs ++ ys) ≡ times n xs + times n ys
times_append n [] ys = omega arith
times_append n (x ∷ xs) ys = let h = times_append n xs ys in omega arith

times_in_by : (n x : ℕ) (xs : List ℕ) (b : Bool) → (x == n) ≡ b → (0 < times n xs → In n xs) → 0 < one_if b + times n xs → (n ≡ x) ⊎ In n xs
times_in_by n x xs true is rest h = inl (grind (arith, nat_tests, is))
times_in_by n x xs false is rest h = inr (rest (omega arith))

pub times_in : (n : ℕ) (xs : List ℕ) → 0 < times n xs → In n xs
times_in n [] h = absurd (omega arith)
times_in n (x ∷ xs) h = times_in_by n x xs (x == n) refl (times_in n xs) h

pub times_none : (n : ℕ) (xs : List ℕ) → ¬ (In n xs) → times n xs ≡ 0
times_none n [] h = refl
times_none n (x ∷ xs) h = let e : (0 < times n (x ∷ xs)) → ⊥ = λ k. h (times_in n (x ∷ xs) k) in not_some (times n (x ∷ xs)) e

times_last_right_by : (n x : ℕ) (xs ks hs : List ℕ) (b : Bool) → times n ks + times n hs ≡ times n xs → times n (cond b xs (x ∷ ks)) + times n (cond b (x ∷ []) hs) ≡ one_if (x == n) + times n xs
times_last_right_by n x xs ks hs true h = omega arith
times_last_right_by n x xs ks hs false h = omega arith

-- the right to the last number and the others are all
pub times_last_right : (n top : ℕ) (xs : List ℕ) → times n (other_rights top xs) + times n (last_right top xs) ≡ times n xs
times_last_right n top [] = omega arith
times_last_right n top (x ∷ xs) = times_last_right_by n x xs (other_rights top xs) (last_right top xs) (x + 1 == top) (times_last_right n top xs)

last_right_in_by : (n x : ℕ) (xs hs : List ℕ) (b : Bool) → (In n hs → In n xs) → In n (cond b (x ∷ []) hs) → (n ≡ x) ⊎ In n xs
last_right_in_by n x xs hs true rest (inl e) = inl e
last_right_in_by n x xs hs true rest (inr h) = elim h [ ]
last_right_in_by n x xs hs false rest h = inr (rest h)

pub last_right_in : (n top : ℕ) (xs : List ℕ) → In n (last_right top xs) → In n xs
last_right_in n top [] h = h
last_right_in n top (x ∷ xs) h = last_right_in_by n x xs (last_right top xs) (x + 1 == top) (last_right_in n top xs) h

other_in_by : (n x : ℕ) (xs ks : List ℕ) (b : Bool) → (In n ks → In n xs) → In n (cond b xs (x ∷ ks)) → (n ≡ x) ⊎ In n xs
other_in_by n x xs ks true rest h = inr h
other_in_by n x xs ks false rest (inl e) = inl e
other_in_by n x xs ks false rest (inr h) = inr (rest h)

pub other_in : (n top : ℕ) (xs : List ℕ) → In n (other_rights top xs) → In n xs
other_in n top [] h = h
other_in n top (x ∷ xs) h = other_in_by n x xs (other_rights top xs) (x + 1 == top) (other_in n top xs) h

module _ {C : Type 0} where
  in_with_stroke_by : (x z y : Stroke C) (ys ps : List (Stroke C)) (b c : Bool) → (In z ps → (z ≡ x) ⊎ In z ys) → In z (cond b (x ∷ y ∷ ys) (cond c (y ∷ ys) (y ∷ ps))) → (z ≡ x) ⊎ ((z ≡ y) ⊎ In z ys)
  in_with_stroke_by x z y ys ps true c rest h = h
  in_with_stroke_by x z y ys ps false true rest h = inr h
  in_with_stroke_by x z y ys ps false false rest (inl e) = inr (inl e)
  in_with_stroke_by x z y ys ps false false rest (inr h) = ⊎_elim (λ (t : z ≡ x). inl t) (λ (t : In z ys). inr (inr t)) (rest h)

  pub in_with_stroke : (x z : Stroke C) (ys : List (Stroke C)) → In z (with_stroke x ys) → (z ≡ x) ⊎ In z ys
  in_with_stroke x z [] h = h
  in_with_stroke x z (y ∷ ys) h = in_with_stroke_by x z y ys (with_stroke x ys) (nat_lt x.number y.number) (x.number == y.number) (in_with_stroke x z ys) h

  with_stroke_here_by : (x y : Stroke C) (ys ps : List (Stroke C)) (b c : Bool) → (x.number == y.number) ≡ c → (x.number ≡ y.number → x ≡ y) → In x ps → In x (cond b (x ∷ y ∷ ys) (cond c (y ∷ ys) (y ∷ ps)))
  with_stroke_here_by x y ys ps true c is same rest = inl refl
  with_stroke_here_by x y ys ps false true is same rest = inl (same (grind (arith, nat_tests, is)))
  with_stroke_here_by x y ys ps false false is same rest = inr rest

  pub with_stroke_here : (x : Stroke C) (ys : List (Stroke C)) → ((y : Stroke C) → In y ys → x.number ≡ y.number → x ≡ y) → In x (with_stroke x ys)
  with_stroke_here x [] same = inl refl
  with_stroke_here x (y ∷ ys) same = with_stroke_here_by x y ys (with_stroke x ys) (nat_lt x.number y.number) (x.number == y.number) refl (same y (inl refl)) (with_stroke_here x ys (λ u h. same u (inr h)))

  with_stroke_there_by : (x z y : Stroke C) (ys ps : List (Stroke C)) (b c : Bool) → (In z ys → In z ps) → (z ≡ y) ⊎ In z ys → In z (cond b (x ∷ y ∷ ys) (cond c (y ∷ ys) (y ∷ ps)))
  with_stroke_there_by x z y ys ps true c rest h = inr h
  with_stroke_there_by x z y ys ps false true rest h = h
  with_stroke_there_by x z y ys ps false false rest (inl e) = inl e
  with_stroke_there_by x z y ys ps false false rest (inr h) = inr (rest h)

  pub with_stroke_there : (x z : Stroke C) (ys : List (Stroke C)) → In z ys → In z (with_stroke x ys)
  with_stroke_there x z [] h = elim h [ ]
  with_stroke_there x z (y ∷ ys) h = with_stroke_there_by x z y ys (with_stroke x ys) (nat_lt x.number y.number) (x.number == y.number) (with_stroke_there x z ys) h

  pub in_with_strokes : (z : Stroke C) (xs ys : List (Stroke C)) → In z (with_strokes xs ys) → In z xs ⊎ In z ys
  in_with_strokes z xs [] h = inl h
  in_with_strokes z xs (y ∷ ys) h = ⊎_elim (λ (t : z ≡ y). inr (inl t)) (λ (t : In z (with_strokes xs ys)). ⊎_elim (λ (u : In z xs). inl u) (λ (u : In z ys). inr (inr u)) (in_with_strokes z xs ys t)) (in_with_stroke y z (with_strokes xs ys) h)

  pub with_strokes_left : (z : Stroke C) (xs ys : List (Stroke C)) → In z xs → In z (with_strokes xs ys)
  with_strokes_left z xs [] h = h
  with_strokes_left z xs (y ∷ ys) h = with_stroke_there y z (with_strokes xs ys) (with_strokes_left z xs ys h)

  -- where equal numbers are equal strokes
  pub with_strokes_right : (z : Stroke C) (xs ys : List (Stroke C)) → ((x y : Stroke C) → In x xs ⊎ In x ys → In y ys → y.number ≡ x.number → y ≡ x) → In z ys → In z (with_strokes xs ys)
  with_strokes_right z xs [] same h = elim h [ ]
  with_strokes_right z xs (y ∷ ys) same (inl e) = let P : Stroke C → Type 0 = λ u. In u (with_stroke y (with_strokes xs ys)) in subst P (sym e) (with_stroke_here y (with_strokes xs ys)
      (λ x h n. same x y (⊎_elim (λ (t : In x xs). inl t) (λ (t : In x ys). inr (inr t)) (in_with_strokes x xs ys h)) (inl refl) n))
  with_strokes_right z xs (y ∷ ys) same (inr h) = with_stroke_there y z (with_strokes xs ys)
      (with_strokes_right z xs ys (λ u w k l n. same u w (⊎_elim (λ (t : In u xs). inl t) (λ (t : In u ys). inr (inr t)) k) (inr l) n) h)

  rises_with_by : (x y : Stroke C) (ys ps : List (Stroke C)) (b c : Bool) → nat_lt x.number y.number ≡ b → (x.number == y.number) ≡ c
      → ((z : Stroke C) → In z ps → (z ≡ x) ⊎ In z ys) → ((z : Stroke C) → In z ys → y.number < z.number) → IsByNumber ys → IsByNumber ps
      → IsByNumber (cond b (x ∷ y ∷ ys) (cond c (y ∷ ys) (y ∷ ps)))
  rises_with_by x y ys ps true c is its of above rises rises' =
      let low : x.number < y.number = grind (arith, nat_tests, is) in
      ((λ z h. ⊎_elim (λ (e : z ≡ y). let P : Stroke C → Type 0 = λ u. x.number < u.number in subst P (sym e) low) (λ (t : In z ys). let k = above z t in omega arith) h), (above, rises))
  rises_with_by x y ys ps false true is its of above rises rises' = (above, rises)
  rises_with_by x y ys ps false false is its of above rises rises' =
      let high : y.number < x.number = grind (arith, nat_tests, is, its) in
      ((λ z h. ⊎_elim (λ (e : z ≡ x). let P : Stroke C → Type 0 = λ u. y.number < u.number in subst P (sym e) high) (λ (t : In z ys). above z t) (of z h)), rises')

  pub rises_with_stroke : (x : Stroke C) (ys : List (Stroke C)) → IsByNumber ys → IsByNumber (with_stroke x ys)
  rises_with_stroke x [] h = ((λ z k. elim k [ ]), tt)
  rises_with_stroke x (y ∷ ys) h = rises_with_by x y ys (with_stroke x ys) (nat_lt x.number y.number) (x.number == y.number) refl refl (λ z k. in_with_stroke x z ys k) h.0 h.1 (rises_with_stroke x ys h.1)

  pub rises_with_strokes : (xs ys : List (Stroke C)) → IsByNumber xs → IsByNumber (with_strokes xs ys)
  rises_with_strokes xs [] h = h
  rises_with_strokes xs (y ∷ ys) h = rises_with_stroke y (with_strokes xs ys) (rises_with_strokes xs ys h)

module _ {A : Type 0} (number : A → ℕ) where
  -- one more at the end, above all
  pub rises_push : (xs : List A) (x : A) → RisesBy number xs → ((y : A) → In y xs → number y < number x) → RisesBy number (xs ++ x ∷ [])
  rises_push [] x h below = ((λ z k. elim k [ ]), tt)
  rises_push (y ∷ xs) x h below = (
    (λ z k. ⊎_elim (λ (t : In z xs). h.0 z t) (λ (t : In z (x ∷ [])). ⊎_elim (λ (e : z ≡ x). let P : A → Type 0 = λ u. number y < number u in subst P (sym e) (below y (inl refl))) (λ (e : ⊥). absurd e) t) (in_append z xs (x ∷ []) k)),
    rises_push xs x h.1 (λ z k. below z (inr k)),
  )

  pub rises_short : (xs : List A) → length xs ≤ 1 → RisesBy number xs
  rises_short [] h = tt
  rises_short (x ∷ []) h = ((λ z k. elim k [ ]), tt)
  rises_short (x ∷ y ∷ xs) h = absurd (omega arith)

rises_other_by : (n next : ℕ) (ns os : List ℕ) (b : Bool) → ((k : ℕ) → In k ns → n < k) → ((k : ℕ) → In k os → In k ns) → AreRising ns → AreRising os → AreRising (cond b ns (n ∷ os))
rises_other_by n next ns os true above of h k = h
rises_other_by n next ns os false above of h k = ((λ m i. above m (of m i)), k)

pub rises_other : (next : ℕ) (ns : List ℕ) → AreRising ns → AreRising (other_rights next ns)
rises_other next [] h = h
rises_other next (n ∷ ns) h = rises_other_by n next ns (other_rights next ns) (n + 1 == next) h.0 (λ k i. other_in k next ns i) h.1 (rises_other next ns h.1)

times_with_by : (k n m : ℕ) (ms ns : List ℕ) (b : Bool) → times k ns ≡ one_if (n == k) + times k ms → times k (cond b (n ∷ m ∷ ms) (m ∷ ns)) ≡ one_if (n == k) + (one_if (m == k) + times k ms)
times_with_by k n m ms ns true h = refl
times_with_by k n m ms ns false h = omega arith

pub times_with_right : (k n : ℕ) (ms : List ℕ) → times k (with_right n ms) ≡ one_if (n == k) + times k ms
times_with_right k n [] = refl
times_with_right k n (m ∷ ms) = times_with_by k n m ms (with_right n ms) (nat_le n m) (times_with_right k n ms)

pub times_with_rights : (k : ℕ) (ms ns : List ℕ) → times k (with_rights ms ns) ≡ times k ms + times k ns
times_with_rights k ms [] = omega arith
times_with_rights k ms (n ∷ ns) = let h = times_with_right k n (with_rights ms ns) in let t = times_with_rights k ms ns in omega arith

length_with_by : (n m : ℕ) (ms ns : List ℕ) (b : Bool) → length ns ≡ suc (length ms) → length (cond b (n ∷ m ∷ ms) (m ∷ ns)) ≡ suc (suc (length ms))
length_with_by n m ms ns true h = refl
length_with_by n m ms ns false h = ap suc h

length_with_right : (n : ℕ) (ms : List ℕ) → length (with_right n ms) ≡ suc (length ms)
length_with_right n [] = refl
length_with_right n (m ∷ ms) = length_with_by n m ms (with_right n ms) (nat_le n m) (length_with_right n ms)

pub length_with_rights : (ms ns : List ℕ) → length (with_rights ms ns) ≡ length ms + length ns
length_with_rights ms [] = omega arith
length_with_rights ms (n ∷ ns) = let h = length_with_right n (with_rights ms ns) in let t = length_with_rights ms ns in omega arith

in_with_by : (k n m : ℕ) (ms ns : List ℕ) (b : Bool) → (In k ns → (k ≡ n) ⊎ In k ms) → In k (cond b (n ∷ m ∷ ms) (m ∷ ns)) → (k ≡ n) ⊎ ((k ≡ m) ⊎ In k ms)
in_with_by k n m ms ns true rest h = h
in_with_by k n m ms ns false rest (inl e) = inr (inl e)
in_with_by k n m ms ns false rest (inr h) = ⊎_elim (λ (t : k ≡ n). inl t) (λ (t : In k ms). inr (inr t)) (rest h)

pub in_with_right : (k n : ℕ) (ms : List ℕ) → In k (with_right n ms) → (k ≡ n) ⊎ In k ms
in_with_right k n [] h = h
in_with_right k n (m ∷ ms) h = in_with_by k n m ms (with_right n ms) (nat_le n m) (in_with_right k n ms) h

pub in_with_rights : (k : ℕ) (ms ns : List ℕ) → In k (with_rights ms ns) → In k ms ⊎ In k ns
in_with_rights k ms [] h = inl h
in_with_rights k ms (n ∷ ns) h = ⊎_elim (λ (t : k ≡ n). inr (inl t)) (λ (t : In k (with_rights ms ns)). ⊎_elim (λ (u : In k ms). inl u) (λ (u : In k ns). inr (inr u)) (in_with_rights k ms ns t)) (in_with_right k n (with_rights ms ns) h)

times_some_by : (n m : ℕ) (ms : List ℕ) (b : Bool) → (m == n) ≡ b → (n ≡ m) ⊎ (0 < times n ms) → 0 < one_if b + times n ms
times_some_by n m ms true is h = omega arith
times_some_by n m ms false is (inl e) = let d : m ≢ n = grind (arith, nat_tests, is) in absurd (d (sym e))
times_some_by n m ms false is (inr h) = omega arith

pub times_some : (n : ℕ) (ms : List ℕ) → In n ms → 0 < times n ms
times_some n [] h = elim h [ ]
times_some n (m ∷ ms) (inl e) = times_some_by n m ms (m == n) refl (inl e)
times_some n (m ∷ ms) (inr h) = times_some_by n m ms (m == n) refl (inr (times_some n ms h))

-- what stands once with another is not among the others
not_listed : (n : ℕ) (ms : List ℕ) → one_if (n == n) + times n ms ≤ 1 → ¬ (In n ms)
not_listed n ms one h = let s = times_some n ms h in let t : (n == n) ≡ true = grind (arith, nat_tests) in let o : one_if (n == n) ≡ 1 = ap one_if t in omega arith

rises_right_by : (n m : ℕ) (ms ns : List ℕ) (b : Bool) → nat_le n m ≡ b → ((k : ℕ) → In k ns → (k ≡ n) ⊎ In k ms) → ¬ ((n ≡ m) ⊎ In n ms) → ((k : ℕ) → In k ms → m < k) → AreRising ms → AreRising ns → AreRising (cond b (n ∷ m ∷ ms) (m ∷ ns))
rises_right_by n m ms ns true is of new above h k =
    let apart : n ≢ m = λ e. new (inl e) in
    let low : n < m = grind (arith, nat_tests, is, apart) in
    ((λ j i. ⊎_elim (λ (e : j ≡ m). omega arith) (λ (t : In j ms). let a = above j t in omega arith) i), (above, h))
rises_right_by n m ms ns false is of new above h k =
    let high : m < n = grind (arith, nat_tests, is) in
    ((λ j i. ⊎_elim (λ (e : j ≡ n). omega arith) (λ (t : In j ms). above j t) (of j i)), k)

rises_with_right : (n : ℕ) (ms : List ℕ) → ¬ (In n ms) → AreRising ms → AreRising (with_right n ms)
rises_with_right n [] new h = ((λ k i. elim i [ ]), tt)
rises_with_right n (m ∷ ms) new h = rises_right_by n m ms (with_right n ms) (nat_le n m) refl (λ k i. in_with_right k n ms i) new h.0 h.1 (rises_with_right n ms (λ i. new (inr i)) h.1)

-- where no number stands twice
pub rises_with_rights : (ms ns : List ℕ) → ((n : ℕ) → times n (with_rights ms ns) ≤ 1) → AreRising ms → AreRising (with_rights ms ns)
rises_with_rights ms [] single h = h
rises_with_rights ms (n ∷ ns) single h =
    let fewer : (k : ℕ) → times k (with_rights ms ns) ≤ 1 = λ k. let s = single k in let t = times_with_right k n (with_rights ms ns) in omega arith in
    let once : one_if (n == n) + times n (with_rights ms ns) ≤ 1 = let s = single n in let t = times_with_right n n (with_rights ms ns) in omega arith in
    rises_with_right n (with_rights ms ns) (not_listed n (with_rights ms ns) once) (rises_with_rights ms ns fewer h)

with_last_by : (n m : ℕ) (ms ns : List ℕ) (b : Bool) → nat_le n m ≡ b → m < n → ns ≡ ms ++ n ∷ [] → cond b (n ∷ m ∷ ms) (m ∷ ns) ≡ m ∷ (ms ++ n ∷ [])
with_last_by n m ms ns true is low e = let high : n ≤ m = grind (arith, nat_tests, is) in absurd (omega arith)
with_last_by n m ms ns false is low e = ap (λ (ks : List ℕ). m ∷ ks) e

-- a number above the others comes last
pub with_right_last : (n : ℕ) (ms : List ℕ) → ((m : ℕ) → In m ms → m < n) → with_right n ms ≡ ms ++ n ∷ []
with_right_last n [] below = refl
with_right_last n (m ∷ ms) below = with_last_by n m ms (with_right n ms) (nat_le n m) refl (below m (inl refl)) (with_right_last n ms (λ k i. below k (inr i)))
