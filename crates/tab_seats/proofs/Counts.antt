-- Distinct numbers below n are at most n; the next number of a log, and the right to its last one.
use Rattle.std.proofs.Common.{◌≡◌, ℕ, zero, suc, ◌+◌, ◌<◌, ◌≤◌, ◌≢◌, Bool, true, false, cond, List, [], ◌∷◌, ◌++◌, length, max, refl, sym, ap, subst, inl, inr, arith}
use Rattle.std.specs.Prelude.{nat_lt, nat_le, ◌==◌}
use Rattle.std.proofs.lemmas.Bool.Decides.{nat_tests}
use Rattle.tab_seats.specs.declared.views.Stroke.{Stroke}
use Rattle.tab_seats.specs.Lists.{In, one_if, times}
use Rattle.tab_seats.specs.Logs.{next_number, with_stroke, with_strokes, with_right, with_rights, last_right, other_rights}

abbrev others : ℕ → List ℕ → List ℕ
others n [] = []
others n (m ∷ ms) = cond (m == n) (others n ms) (m ∷ others n ms)

others_length_by : (n m : ℕ) (ms : List ℕ) (b : Bool) → (m == n) ≡ b → length ms ≡ times n ms + length (others n ms) → length (m ∷ ms) ≡ (one_if b + times n ms) + length (cond b (others n ms) (m ∷ others n ms))
others_length_by n m ms true is h = omega arith
others_length_by n m ms false is h = omega arith

others_length : (n : ℕ) (ms : List ℕ) → length ms ≡ times n ms + length (others n ms)
others_length n [] = refl
others_length n (m ∷ ms) = others_length_by n m ms (m == n) refl (others_length n ms)

others_times_by : (k n m : ℕ) (ms : List ℕ) (b : Bool) → times k (others n ms) ≤ times k ms → times k (cond b (others n ms) (m ∷ others n ms)) ≤ one_if (m == k) + times k ms
others_times_by k n m ms true h = omega arith
others_times_by k n m ms false h = omega arith

others_times : (k n : ℕ) (ms : List ℕ) → times k (others n ms) ≤ times k ms
others_times k n [] = omega arith
others_times k n (m ∷ ms) = others_times_by k n m ms (m == n) (others_times k n ms)

others_in_by : (k n m : ℕ) (ms : List ℕ) (b : Bool) → (m == n) ≡ b → (In k (others n ms) → In k ms × (k ≢ n)) → In k (cond b (others n ms) (m ∷ others n ms)) → In k (m ∷ ms) × (k ≢ n)
others_in_by k n m ms true is rest h = let r = rest h in (inr r.0, r.1)
others_in_by k n m ms false is rest (inl e) = (inl e, grind (arith, nat_tests, is, e))
others_in_by k n m ms false is rest (inr h) = let r = rest h in (inr r.0, r.1)

others_in : (k n : ℕ) (ms : List ℕ) → In k (others n ms) → In k ms × (k ≢ n)
others_in k n [] h = elim h [ ]
others_in k n (m ∷ ms) h = others_in_by k n m ms (m == n) refl (others_in k n ms) h

no_elements : (ms : List ℕ) → ((m : ℕ) → In m ms → m < 0) → length ms ≡ 0
no_elements [] h = refl
no_elements (m ∷ ms) h = let k = h m (inl refl) in absurd (omega arith)

-- distinct numbers below n
pub distinct_below : (n : ℕ) (ms : List ℕ) → ((m : ℕ) → times m ms ≤ 1) → ((m : ℕ) → In m ms → m < n) → length ms ≤ n
distinct_below zero ms single below = let e = no_elements ms below in omega arith
distinct_below (suc n) ms single below =
    let e = others_length n ms in let o = single n in
    let h = distinct_below n (others n ms) (λ m. let a = others_times m n ms in let b = single m in omega arith) (λ m k. let r = others_in m n ms k in let b = below m r.0 in let d : m ≢ n = r.1 in omega arith) in
    omega arith

module _ {C : Type 0} where
  next_number-with_stroke_by : (x y : Stroke C) (ys ps : List (Stroke C)) (b c : Bool) → (x.number == y.number) ≡ c → next_number ps ≡ max (x.number + 1) (next_number ys) → next_number (cond b (x ∷ y ∷ ys) (cond c (y ∷ ys) (y ∷ ps))) ≡ max (x.number + 1) (max (y.number + 1) (next_number ys))
  next_number-with_stroke_by x y ys ps true c is h = refl
  next_number-with_stroke_by x y ys ps false true is h = let e : x.number ≡ y.number = grind (arith, nat_tests, is) in omega arith
  next_number-with_stroke_by x y ys ps false false is h = omega arith

  next_number-with_stroke : (x : Stroke C) (ys : List (Stroke C)) → next_number (with_stroke x ys) ≡ max (x.number + 1) (next_number ys)
  next_number-with_stroke x [] = refl
  next_number-with_stroke x (y ∷ ys) = next_number-with_stroke_by x y ys (with_stroke x ys) (nat_lt x.number y.number) (x.number == y.number) refl (next_number-with_stroke x ys)

  pub next_number-with_strokes : (xs ys : List (Stroke C)) → next_number (with_strokes xs ys) ≡ max (next_number xs) (next_number ys)
  next_number-with_strokes xs [] = omega arith
  next_number-with_strokes xs (y ∷ ys) = let a = next_number-with_stroke y (with_strokes xs ys) in let b = next_number-with_strokes xs ys in omega arith

  pub next_number_push : (xs : List (Stroke C)) (x : Stroke C) → next_number (xs ++ x ∷ []) ≡ max (next_number xs) (x.number + 1)
  next_number_push [] x = omega arith
  next_number_push (y ∷ xs) x = let h = next_number_push xs x in omega arith

last_right_none_by : (next t n : ℕ) (hs : List ℕ) (b : Bool) → (n + 1 == next) ≡ b → n < t → t < next → hs ≡ [] → cond b (n ∷ []) hs ≡ []
last_right_none_by next t n hs true is low high e = let s : n + 1 ≡ next = grind (arith, nat_tests, is) in absurd (omega arith)
last_right_none_by next t n hs false is low high e = e

pub last_right_none : (next t : ℕ) (ns : List ℕ) → ((n : ℕ) → In n ns → n < t) → t < next → last_right next ns ≡ []
last_right_none next t [] h high = refl
last_right_none next t (n ∷ ns) h high = last_right_none_by next t n (last_right next ns) (n + 1 == next) refl (h n (inl refl)) high (last_right_none next t ns (λ m k. h m (inr k)) high)

last_right_one_by : (n : ℕ) (hs : List ℕ) (b : Bool) → length hs ≤ 1 → length (cond b (n ∷ []) hs) ≤ 1
last_right_one_by n hs true h = omega arith
last_right_one_by n hs false h = h

pub last_right_one : (next : ℕ) (ns : List ℕ) → length (last_right next ns) ≤ 1
last_right_one next [] = omega arith
last_right_one next (n ∷ ns) = last_right_one_by n (last_right next ns) (n + 1 == next) (last_right_one next ns)

front_by : (n : ℕ) (hs : List ℕ) (b : Bool) → length hs ≤ 1 → length (cond b (n ∷ []) hs) ≡ max (length (cond b (n ∷ []) [])) (length hs)
front_by n hs true one = omega arith
front_by n hs false one = omega arith

behind_by : (m : ℕ) (hs gs ks : List ℕ) (b : Bool) → length hs ≡ max (length ks) (length gs) → length ks ≤ 1 → length (cond b (m ∷ []) hs) ≡ max (length ks) (length (cond b (m ∷ []) gs))
behind_by m hs gs ks true h one = omega arith
behind_by m hs gs ks false h one = h

last_right-with_by : (next n m : ℕ) (ms ns : List ℕ) (b : Bool) → length (last_right next ns) ≡ max (length (last_right next (n ∷ []))) (length (last_right next ms))
    → length (last_right next (cond b (n ∷ m ∷ ms) (m ∷ ns))) ≡ max (length (last_right next (n ∷ []))) (length (last_right next (m ∷ ms)))
last_right-with_by next n m ms ns true h = front_by n (last_right next (m ∷ ms)) (n + 1 == next) (last_right_one next (m ∷ ms))
last_right-with_by next n m ms ns false h = behind_by m (last_right next ns) (last_right next ms) (last_right next (n ∷ [])) (m + 1 == next) h (last_right_one next (n ∷ []))

last_right-with_right : (next n : ℕ) (ms : List ℕ) → length (last_right next (with_right n ms)) ≡ max (length (last_right next (n ∷ []))) (length (last_right next ms))
last_right-with_right next n [] = omega arith
last_right-with_right next n (m ∷ ms) = last_right-with_by next n m ms (with_right n ms) (nat_le n m) (last_right-with_right next n ms)

pub last_right-with_rights : (next : ℕ) (ms ns : List ℕ) → length (last_right next (with_rights ms ns)) ≡ max (length (last_right next ms)) (length (last_right next ns))
last_right-with_rights next ms [] = omega arith
last_right-with_rights next ms (n ∷ ns) =
    let a = last_right-with_right next n (with_rights ms ns) in let h = last_right-with_rights next ms ns in let c = front_by n (last_right next ns) (n + 1 == next) (last_right_one next ns) in omega arith

absent_by : (n next m : ℕ) (ns hs : List ℕ) (b c : Bool) → (m + 1 == next) ≡ b → (m == n) ≡ c → n + 1 ≡ next → one_if c + times n ns ≡ 0 → (times n ns ≡ 0 → hs ≡ []) → cond b (m ∷ []) hs ≡ []
absent_by n next m ns hs false c is same e none rest = rest (omega arith)
absent_by n next m ns hs true true is same e none rest = absurd (omega arith)
absent_by n next m ns hs true false is same e none rest = let d : m + 1 ≡ next = grind (arith, nat_tests, is) in let f : m ≢ n = grind (arith, nat_tests, same) in absurd (f (omega arith))

last_right_absent : (n next : ℕ) (ns : List ℕ) → n + 1 ≡ next → times n ns ≡ 0 → last_right next ns ≡ []
last_right_absent n next [] e none = refl
last_right_absent n next (m ∷ ns) e none = absent_by n next m ns (last_right next ns) (m + 1 == next) (m == n) refl refl e none (last_right_absent n next ns e)

last_right_gone_by : (next n : ℕ) (ns : List ℕ) (b : Bool) → (n + 1 == next) ≡ b → ((m : ℕ) → times m (n ∷ ns) ≤ 1) → last_right next (other_rights next ns) ≡ [] → last_right next (cond b ns (n ∷ other_rights next ns)) ≡ []
last_right_gone_by next n ns true is single h = last_right_absent n next ns (grind (arith, nat_tests, is)) (let s = single n in let t : (n == n) ≡ true = grind (arith, nat_tests) in let o : one_if (n == n) ≡ 1 = ap one_if t in omega arith)
last_right_gone_by next n ns false is single h = let P : Bool → Type 0 = λ b. cond b (n ∷ []) (last_right next (other_rights next ns)) ≡ [] in subst P (sym is) h

-- where the right to the last number is gone, it is gone whole
pub last_right_gone : (next : ℕ) (ns : List ℕ) → ((m : ℕ) → times m ns ≤ 1) → last_right next (other_rights next ns) ≡ []
last_right_gone next [] single = refl
last_right_gone next (n ∷ ns) single = last_right_gone_by next n ns (n + 1 == next) refl single (last_right_gone next ns (λ m. let s = single m in omega arith))

last_right_new_by : (n : ℕ) (b : Bool) → b ≡ true → cond b (n ∷ []) [] ≡ n ∷ []
last_right_new_by n true e = refl
last_right_new_by n false e = cc

last_right_past_by : (m next : ℕ) (hs gs : List ℕ) (b : Bool) → (m + 1 == next) ≡ b → m + 1 < next → hs ≡ gs → cond b (m ∷ []) hs ≡ gs
last_right_past_by m next hs gs true is low e = let d : m + 1 ≡ next = grind (arith, nat_tests, is) in absurd (omega arith)
last_right_past_by m next hs gs false is low e = e

-- the right to a number above the others
pub last_right_new : (n : ℕ) (ns : List ℕ) → ((m : ℕ) → In m ns → m < n) → last_right (n + 1) (ns ++ n ∷ []) ≡ n ∷ []
last_right_new n [] h = last_right_new_by n (n + 1 == n + 1) (grind (arith, nat_tests))
last_right_new n (m ∷ ns) h = let l = h m (inl refl) in last_right_past_by m (n + 1) (last_right (n + 1) (ns ++ n ∷ [])) (n ∷ []) (m + 1 == n + 1) refl (omega arith) (last_right_new n ns (λ k i. h k (inr i)))
