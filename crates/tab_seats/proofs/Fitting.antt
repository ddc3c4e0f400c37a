-- Each view that a step makes fits the strokes, as the views fit from which it is made.
use Rattle.std.proofs.Common.{◌≡◌, ℕ, zero, suc, ◌+◌, ◌<◌, ◌≤◌, ◌⊎◌, Bool, true, false, not, ◌&&◌, List, [], ◌∷◌, ◌++◌, length, refl, sym, ◌∙◌, ap, subst, inl, inr, ⊎_elim, arith, Option, Some, None, length-append}
use mathlib.Core.Option.{some, some-injective, some-ne-none}
use lib.ListN.{get_elem?}
use Rattle.atomic_table.proofs.Lists.{at_longer}
use Rattle.tab_keys.specs.declared.keys.Key.{Key}
use Rattle.tab_keys.specs.declared.bounds.Bound.{Bound}
use Rattle.tab_keys.specs.Order.{is_before, bound_lt}
use Rattle.tab_keys.specs.Spans.{Interval, has}
use Rattle.tab_seats.specs.declared.views.Stroke.{Stroke}
use Rattle.tab_seats.specs.declared.views.LogCopy.{LogCopy}
use Rattle.tab_seats.specs.declared.views.View.{View}
use Rattle.tab_seats.specs.Lists.{In, one_if, first_of, rest_of}
use Rattle.tab_seats.specs.Logs.{next_number}
use Rattle.tab_seats.specs.Views.{copy_of, covers, both_spans, from_to, below_cut, above_cut, spent_view, less_permits, new_pass, slip_of, after_draw, with_copy, left_by_note, leaving_note, after_meet, joined_seats, left_half, right_half}
use Rattle.tab_seats.specs.Rule.{FitsCopy, Fits}
use Rattle.std.proofs.lemmas.Bool.{true≢false}
use Rattle.tab_keys.proofs.OrderLaws.{is_before_later}
use Rattle.tab_seats.proofs.Sums.{in_append, in_left, in_right}
use Rattle.tab_seats.proofs.LogLemmas.{last_right_in, other_in, in_with_strokes, with_strokes_left, with_strokes_right, in_with_rights}

pub in_first : {A : Type 0} (x : A) (xs : List A) → In x (first_of xs) → In x xs
in_first x [] h = h
in_first x (y ∷ ys) (inl e) = inl e
in_first x (y ∷ ys) (inr h) = elim h [ ]

pub in_rest : {A : Type 0} (x : A) (xs : List A) → In x (rest_of xs) → In x xs
in_rest x [] h = h
in_rest x (y ∷ ys) h = inr h

pub at_below : {A : Type 0} (xs : List A) (n : ℕ) (x : A) → get_elem? xs n ≡ some x → n < length xs
at_below [] n x e = absurd (some-ne-none x (sym e))
at_below (y ∷ ys) zero x e = omega arith
at_below (y ∷ ys) (suc n) x e = let h = at_below ys n x e in omega arith

at_end : {A : Type 0} (xs : List A) (x : A) (n : ℕ) (y : A) → get_elem? (xs ++ x ∷ []) n ≡ some y → (get_elem? xs n ≡ some y) ⊎ ((n ≡ length xs) × (x ≡ y))
at_end [] x zero y e = inr (refl, some-injective x y e)
at_end [] x (suc n) y e = absurd (some-ne-none y (sym e))
at_end (z ∷ xs) x zero y e = inl e
at_end (z ∷ xs) x (suc n) y e = ⊎_elim (λ (t : get_elem? xs n ≡ some y). inl t) (λ (t : (n ≡ length xs) × (x ≡ y)). inr (ap suc t.0, t.1)) (at_end xs x n y e)

at_last : {A : Type 0} (xs : List A) (x : A) → get_elem? (xs ++ x ∷ []) (length xs) ≡ some x
at_last [] x = refl
at_last (y ∷ xs) x = at_last xs x

-- a span that may be there has the key
abbrev inside_of : Option Interval → Key → Bool
inside_of None k = false
inside_of (Some s) k = has s k

-- a key stands before the lower bound, before the bound of the cut, before the upper bound
cut_by : (low middle high : Bool) → (low ≡ true → middle ≡ true) → (middle ≡ true → high ≡ true) → one_if (not low && middle) + one_if (not middle && high) ≤ one_if (not low && high)
cut_by true true high h k = omega arith
cut_by true false high h k = absurd (true≢false (sym (h refl)))
cut_by false true true h k = omega arith
cut_by false true false h k = absurd (true≢false (sym (k refl)))
cut_by false false high h k = omega arith

pub cut_keys : (s : Interval) (at : Bound) (k : Key) → bound_lt s.lo at ≡ true → bound_lt at s.hi ≡ true → covers k (below_cut at (Some s)) + covers k (above_cut at (Some s)) ≤ covers k (Some s)
cut_keys s at k low high = cut_by (is_before k s.lo) (is_before k at) (is_before k s.hi) (λ h. is_before_later k s.lo at low h) (λ h. is_before_later k at s.hi high h)

below_by : (low middle high : Bool) → (middle ≡ true → high ≡ true) → (not low && middle) ≡ true → (not low && high) ≡ true
below_by true middle high h e = e
below_by false middle high h e = h e

above_by : (low middle high : Bool) → (low ≡ true → middle ≡ true) → (not middle && high) ≡ true → (not low && high) ≡ true
above_by true true high h e = e
above_by true false high h e = absurd (true≢false (sym (h refl)))
above_by false true high h e = absurd (true≢false (sym e))
above_by false false high h e = e

at_most_one : (b : Bool) → one_if b ≤ 1
at_most_one true = omega arith
at_most_one false = omega arith

fuse_by : (low middle high : Bool) → one_if (not low && high) ≤ one_if (not low && middle) + one_if (not middle && high)
fuse_by true middle high = omega arith
fuse_by false true high = let h = at_most_one high in omega arith
fuse_by false false high = omega arith

either_by : (low middle high : Bool) → (not low && high) ≡ true → ((not low && middle) ≡ true) ⊎ ((not middle && high) ≡ true)
either_by true middle high e = absurd (true≢false (sym e))
either_by false true high e = inl refl
either_by false false high e = inr e

pub fuse_keys : (s t : Interval) (k : Key) → s.hi ≡ t.lo → covers k (Some (from_to s t)) ≤ covers k (Some s) + covers k (Some t)
fuse_keys s t k meet = let P : Bound → Type 0 = λ b. covers k (Some (from_to s t)) ≤ one_if (not (is_before k s.lo) && is_before k b) + covers k (Some t) in
    subst P (sym meet) (fuse_by (is_before k s.lo) (is_before k t.lo) (is_before k t.hi))

-- the two spans together have no other keys
in_either : (s t : Interval) (k : Key) → s.hi ≡ t.lo → has (from_to s t) k ≡ true → (has s k ≡ true) ⊎ (has t k ≡ true)
in_either s t k meet h = let P : Bound → Type 0 = λ b. ((not (is_before k s.lo) && is_before k b) ≡ true) ⊎ (has t k ≡ true) in
    subst P (sym meet) (either_by (is_before k s.lo) (is_before k t.lo) (is_before k t.hi) h)

module _ {C : Type 0} where
  pub next_number_le : (n : ℕ) (xs : List (Stroke C)) → ((x : Stroke C) → In x xs → x.number < n) → next_number xs ≤ n
  next_number_le n [] h = omega arith
  next_number_le n (x ∷ xs) h = let a = h x (inl refl) in let b = next_number_le n xs (λ y k. h y (inr k)) in omega arith

module _ {C : Type 0} (key : C → Key) where
  numbers_below : (all : List (Stroke C)) (v : View C) → Fits key all v → (x : Stroke C) → In x v.log → x.number < length all
  numbers_below all v fit x h = at_below all x.number x (fit.strokes x h)

  pub fits_spent : (all : List (Stroke C)) → Fits key all spent_view
  fits_spent all = record {
    strokes = (λ x h. elim h [ ]);
    front = (omega arith);
    rights = (λ n h. elim h [ ]);
    span = (λ s e. cc);
    notes = (λ p h. elim h [ ]);
  }

  pub fits_less : (all : List (Stroke C)) (n : ℕ) (v : View C) → Fits key all v → Fits key all (less_permits n v)
  fits_less all n v fit = record { strokes = fit.strokes; front = fit.front; rights = fit.rights; span = fit.span; notes = fit.notes }

  pub fits_new : (all : List (Stroke C)) (n : ℕ) → Fits key all (new_pass n)
  fits_new all n = record {
    strokes = (λ x h. elim h [ ]);
    front = (omega arith);
    rights = (λ n h. elim h [ ]);
    span = (λ s e. cc);
    notes = (λ p h. elim h [ ]);
  }

  pub fits_slip : (all : List (Stroke C)) (v : View C) → Fits key all v → Fits key all (slip_of v)
  fits_slip all v fit = record {
    strokes = (λ x h. elim h [ ]);
    front = next_number_le (length all) v.log (numbers_below all v fit);
    rights = (λ n h. elim h [ ]);
    span = (λ s e. cc);
    notes = (λ p h. elim h [ ]);
  }

  pub fits_left_by : (all : List (Stroke C)) (v : View C) → Fits key all v → Fits key all (left_by_note v)
  fits_left_by all v fit = record {
    strokes = fit.strokes;
    front = fit.front;
    rights = (λ n h. fit.rights n (other_in n (next_number v.log) v.rights h));
    span = fit.span;
    notes = (λ p h. fit.notes p (in_rest p v.notes h));
  }

  pub fits_leaving : (all : List (Stroke C)) (v : View C) → Fits key all v → Fits key all (leaving_note v)
  fits_leaving all v fit = record {
    strokes = fit.strokes;
    front = (omega arith);
    rights = (λ n h. fit.rights n (last_right_in n (next_number v.log) v.rights h));
    span = (λ s e. cc);
    notes = (λ p h. fit.notes p (in_first p v.notes h));
  }

  pub fits_copy : (all : List (Stroke C)) (s : Interval) (v : View C) → v.span ≡ Some s → Fits key all v → Fits key all (with_copy s v (length all))
  fits_copy all s v is fit = record {
    strokes = fit.strokes;
    front = fit.front;
    rights = fit.rights;
    span = fit.span;
    notes = (λ p h. ⊎_elim (λ (t : p ≡ copy_of s v (length all)). subst (FitsCopy key all) (sym t) record {
      word = omega arith;
      strokes = fit.strokes;
      below = numbers_below all v fit;
      whole = (λ n x at less inside. fit.span s is n x at inside);
    }) (λ (t : In p v.notes). fit.notes p t) h);
  }

  same_strokes : (all : List (Stroke C)) (x y : Stroke C) → get_elem? all x.number ≡ some x → get_elem? all y.number ≡ some y → y.number ≡ x.number → y ≡ x
  same_strokes all x y is its n = some-injective y x (sym its ∙ (ap (get_elem? all) n ∙ is))

  -- what both know, with a span of which the strokes stand in one of the logs
  of_both : (all : List (Stroke C)) (v w : View C) (o : Option Interval) (notes : List (LogCopy C)) → Fits key all v → Fits key all w
      → ((s : Interval) → o ≡ Some s → (n : ℕ) (x : Stroke C) → get_elem? all n ≡ some x → has s (key x.command) ≡ true → In x v.log ⊎ In x w.log)
      → ((p : LogCopy C) → In p notes → In p v.notes ⊎ In p w.notes)
      → Fits key all (record (after_meet v w) { span = o; notes = notes })
  of_both all v w o notes fit gives span of =
      let same : (x y : Stroke C) → In x v.log ⊎ In x w.log → In y w.log → y.number ≡ x.number → y ≡ x = λ x y h k n.
      same_strokes all x y (⊎_elim (λ (t : In x v.log). fit.strokes x t) (λ (t : In x w.log). gives.strokes x t) h) (gives.strokes y k) n in record {
        strokes = (λ x h. ⊎_elim (λ (t : In x v.log). fit.strokes x t) (λ (t : In x w.log). gives.strokes x t) (in_with_strokes x v.log w.log h));
        front = (let a = fit.front in let b = gives.front in omega arith);
        rights = (λ n h. ⊎_elim (λ (t : In n v.rights). fit.rights n t) (λ (t : In n w.rights). gives.rights n t) (in_with_rights n v.rights w.rights h));
        span = (λ s is n x at inside. ⊎_elim (λ (t : In x v.log). with_strokes_left x v.log w.log t) (λ (t : In x w.log). with_strokes_right x v.log w.log same t) (span s is n x at inside));
        notes = (λ p h. ⊎_elim (λ (t : In p v.notes). fit.notes p t) (λ (t : In p w.notes). gives.notes p t) (of p h));
      }

  pub fits_met : (all : List (Stroke C)) (v w : View C) → Fits key all v → Fits key all w → Fits key all (after_meet v w)
  fits_met all v w fit gives = of_both all v w v.span (v.notes ++ w.notes) fit gives (λ s is n x at inside. inl (fit.span s is n x at inside)) (λ p h. in_append p v.notes w.notes h)

  pub fits_joined : (all : List (Stroke C)) (v w : View C) (s t : Interval) → v.span ≡ Some s → w.span ≡ Some t → s.hi ≡ t.lo → Fits key all v → Fits key all w → Fits key all (joined_seats v w)
  fits_joined all v w s t is its meet fit gives = of_both all v w (both_spans v.span w.span) (first_of v.notes ++ first_of w.notes) fit gives
      (λ u e n x at inside. let both : Some (from_to s t) ≡ Some u = (let F : Option Interval → Option Interval = λ o. both_spans o (Some t) in let G : Option Interval → Option Interval = λ o. both_spans v.span o in sym (ap F is) ∙ (sym (ap G its) ∙ e)) in
      ⊎_elim (λ (h : has s (key x.command) ≡ true). inl (fit.span s is n x at h)) (λ (h : has t (key x.command) ≡ true). inr (gives.span t its n x at h))
      (in_either s t (key x.command) meet (subst (λ (o : Option Interval). inside_of o (key x.command) ≡ true) (sym both) inside)))
      (λ p h. ⊎_elim (λ (k : In p (first_of v.notes)). inl (in_first p v.notes k)) (λ (k : In p (first_of w.notes)). inr (in_first p w.notes k)) (in_append p (first_of v.notes) (first_of w.notes) h))

  -- a part of the span
  part_in : (all : List (Stroke C)) (v : View C) (s t : Interval) (o : Option Interval) → v.span ≡ Some s → o ≡ Some t → ((k : Key) → has t k ≡ true → has s k ≡ true) → Fits key all v
      → (u : Interval) → o ≡ Some u → (n : ℕ) (x : Stroke C) → get_elem? all n ≡ some x → has u (key x.command) ≡ true → In x v.log
  part_in all v s t o is it within fit u e n x at inside = fit.span s is n x at (within (key x.command) (subst (λ (o : Option Interval). inside_of o (key x.command) ≡ true) (sym e ∙ it) inside))

  pub fits_left : (all : List (Stroke C)) (cut : Bound) (v : View C) (s : Interval) → v.span ≡ Some s → bound_lt cut s.hi ≡ true → Fits key all v → Fits key all (left_half cut v)
  fits_left all cut v s is high fit = record {
    strokes = fit.strokes;
    front = fit.front;
    rights = fit.rights;
    span = part_in all v s (record { lo = s.lo; hi = cut }) (below_cut cut v.span) is (ap (below_cut cut) is) (λ k h. below_by (is_before k s.lo) (is_before k cut) (is_before k s.hi) (λ j. is_before_later k cut s.hi high j) h) fit;
    notes = fit.notes;
  }

  pub fits_right : (all : List (Stroke C)) (cut : Bound) (v : View C) (s : Interval) → v.span ≡ Some s → bound_lt s.lo cut ≡ true → Fits key all v → Fits key all (right_half cut v)
  fits_right all cut v s is low fit = record {
    strokes = fit.strokes;
    front = fit.front;
    rights = (λ n h. elim h [ ]);
    span = part_in all v s (record { lo = cut; hi = s.hi }) (above_cut cut v.span) is (ap (above_cut cut) is) (λ k h. above_by (is_before k s.lo) (is_before k cut) (is_before k s.hi) (λ j. is_before_later k s.lo cut low j) h) fit;
    notes = (λ p h. elim h [ ]);
  }

  -- a stroke more, by another seat
  grows_note : (all : List (Stroke C)) (x : Stroke C) (p : LogCopy C) → FitsCopy key all p → FitsCopy key (all ++ x ∷ []) p
  grows_note all x p fit = record {
    word = (let h = fit.word in omega (arith, length-append all (x ∷ [])));
    strokes = (λ y h. at_longer all (x ∷ []) y.number y (fit.strokes y h));
    below = fit.below;
    whole = (λ n y at less inside. ⊎_elim (λ (t : get_elem? all n ≡ some y). fit.whole n y t less inside) (λ (t : (n ≡ length all) × (x ≡ y)). let w = fit.word in let e = t.0 in absurd (omega arith)) (at_end all x n y at));
  }

  pub grows : (all : List (Stroke C)) (x : Stroke C) (v : View C) → covers (key x.command) v.span ≡ 0 → Fits key all v → Fits key (all ++ x ∷ []) v
  grows all x v outside fit = record {
    strokes = (λ y h. at_longer all (x ∷ []) y.number y (fit.strokes y h));
    front = (let h = fit.front in omega (arith, length-append all (x ∷ [])));
    rights = (λ n h. let k = fit.rights n h in omega (arith, length-append all (x ∷ [])));
    span = (λ s is n y at inside. ⊎_elim (λ (t : get_elem? all n ≡ some y). fit.span s is n y t inside) (λ (t : (n ≡ length all) × (x ≡ y)).
        let one : has s (key x.command) ≡ true = subst (λ (z : Stroke C). has s (key z.command) ≡ true) (sym t.1) inside in
        let c : covers (key x.command) (Some s) ≡ 0 = subst (λ (o : Option Interval). covers (key x.command) o ≡ 0) is outside in
        let d : one_if true ≡ 0 = subst (λ (b : Bool). one_if b ≡ 0) one c in absurd (omega arith)) (at_end all x n y at));
    notes = (λ p h. grows_note all x p (fit.notes p h));
  }

  -- a stroke more, by this seat
  pub fits_drawn : (all : List (Stroke C)) (v : View C) (c : C) (now : ℕ) → Fits key all v → Fits key (all ++ record { number = length all; command = c; now = now } ∷ []) (after_draw v (length all) c now)
  fits_drawn all v c now fit = let x : Stroke C = record { number = length all; command = c; now = now } in record {
    strokes = (λ y h. ⊎_elim (λ (t : In y v.log). at_longer all (x ∷ []) y.number y (fit.strokes y t)) (λ (t : In y (x ∷ [])). ⊎_elim (λ (e : y ≡ x). subst (λ (z : Stroke C). get_elem? (all ++ x ∷ []) z.number ≡ some z) (sym e) (at_last all x)) (λ (e : ⊥). absurd e) t) (in_append y v.log (x ∷ []) h));
    front = (let h = fit.front in omega (arith, length-append all (x ∷ [])));
    rights = (λ n h. ⊎_elim (λ (t : In n v.rights). let k = fit.rights n t in omega (arith, length-append all (x ∷ []))) (λ (t : In n (length all ∷ [])). ⊎_elim (λ (e : n ≡ length all). omega (arith, length-append all (x ∷ []))) (λ (e : ⊥). absurd e) t) (in_append n v.rights (length all ∷ []) h));
    span = (λ s is n y at inside. ⊎_elim (λ (t : get_elem? all n ≡ some y). in_left y v.log (x ∷ []) (fit.span s is n y t inside)) (λ (t : (n ≡ length all) × (x ≡ y)). in_right y v.log (x ∷ []) (inl (sym t.1))) (at_end all x n y at));
    notes = (λ p h. grows_note all x p (fit.notes p h));
  }
