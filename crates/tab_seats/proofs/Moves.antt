-- Each kind of step keeps the rule, and what each call of the table asks of its step.
use Rattle.std.proofs.Common.{◌≡◌, ℕ, zero, suc, ◌+◌, ◌%◌, ◌^◌, ◌<◌, ◌≤◌, Bool, true, false, List, [], ◌∷◌, ◌++◌, length, set, refl, sym, ◌∙◌, ap, subst, inl, inr, arith, Option, Some, length-append}
use Rattle.std.specs.Prelude.{◌==◌, slice_index, slice_set}
use Rattle.std.specs.List.{sum_by}
use mathlib.Core.Option.{some, some-injective, some-ne-none}
use lib.ListN.{get_elem?}
use Rattle.std.proofs.lemmas.Bool.Decides.{nat_tests}
use Rattle.tab_keys.specs.declared.keys.Key.{Key}
use Rattle.tab_keys.specs.declared.bounds.Bound.{Bound}
use Rattle.tab_keys.specs.Order.{bound_lt}
use Rattle.tab_keys.specs.Spans.{Interval, has}
use Rattle.tab_seats.specs.declared.views.Stroke.{Stroke}
use Rattle.tab_seats.specs.declared.views.View.{View}
use Rattle.tab_seats.specs.Lists.{one_if, times}
use Rattle.tab_seats.specs.Logs.{next_number}
use Rattle.tab_seats.specs.Views.{Knows, covers, both_spans, below_cut, above_cut, spent_view, seat_over, less_permits, new_pass, slip_of, after_draw, with_copy, left_by_note, leaving_note, after_meet, joined_seats, left_half, right_half}
use Rattle.tab_seats.specs.Rule.{Fits, SeatRule, WordTells}
use Rattle.std.proofs.Math.Nat.{mod-eq_of_lt}
use Rattle.atomic_table.specs.Table.{State, Allows, Splits, Joins, keeps, Act, Me, Valid, stepped, carried_after}
use Rattle.tab_seats.specs.Parts.{IsLive, SevenParts}
use Rattle.tab_seats.proofs.Sums.{sum_by-set, sum_by-at, sum_by-none, sum_by-two, all_set}
use Rattle.tab_seats.proofs.LogLemmas.{times_append, times_none, times_some, times_last_right, times_with_rights}
use Rattle.tab_seats.proofs.Turns.{changes, parts, joins}
use Rattle.tab_seats.proofs.Fitting.{fits_spent, fits_less, fits_new, fits_slip, fits_left_by, fits_leaving, fits_copy, fits_met, fits_joined, fits_left, fits_right, fits_drawn, grows, cut_keys, fuse_keys, at_below}

same_word : (words : List ℕ) (n : ℕ) → words ≡ n ∷ [] → slice_set words 0 (slice_index words 0) ≡ words
same_word words n e = let P : List ℕ → Type 0 = λ ws. slice_set ws 0 (slice_index ws 0) ≡ ws in subst P (sym e) refl

one_at_most : (b : Bool) → 0 + one_if b ≤ 1
one_at_most true = omega arith
one_at_most false = omega arith

only : {A : Type 0} (P : A → Type 0) (x : A) → P x → (n : ℕ) (y : A) → get_elem? (x ∷ []) n ≡ some y → P y
only P x p zero y e = subst P (some-injective x y e) p
only P x p (suc n) y e = absurd (some-ne-none y (sym e))

ends_by : (n m old new mine : ℕ) (b : Bool) → (m == n) ≡ b → new ≡ old + one_if (m == n) → old ≤ 1 → (m ≡ n → old ≡ 0) → new ≤ 1
ends_by n m old new mine true is e h zero_there = let z = zero_there (grind (arith, nat_tests, is)) in let o : one_if (m == n) ≡ 1 = ap one_if is in omega arith
ends_by n m old new mine false is e h zero_there = let o : one_if (m == n) ≡ 0 = ap one_if is in omega arith

module _ {C : Type 0} (key : C → Key) (bound : ℕ) where
  pub opens : (s : Interval) → SeatRule key bound (0 ∷ []) (seat_over s bound ∷ [])
  opens s = record {
    all = [];
    word = refl;
    fits = only (Fits key []) (seat_over s bound) record {
      strokes = (λ x h. elim h [ ]);
      front = omega arith;
      rights = (λ n h. elim h [ ]);
      span = (λ t e n x at. absurd (some-ne-none x (sym at)));
      notes = (λ p h. elim h [ ]);
    };
    apart = (λ k. one_at_most (has s k));
    single = (λ n. omega arith);
    within = omega arith;
  }

  pub knows_at : (all : List (Stroke C)) (v : View C) → Fits key all v → (x : Stroke C) → Knows v x → get_elem? all x.number ≡ some x
  knows_at all v fit x (inl h) = fit.strokes x h
  knows_at all v fit x (inr h) = (fit.notes h.0 h.1).strokes x h.2

  pub told : (words : List ℕ) (views : List (View C)) (id : ℕ) (v : View C) (kept : SeatRule key bound words views) → get_elem? views id ≡ some v → WordTells key bound (length kept.all) v
  told words views id v kept at = let fit = kept.fits id v at in let know = knows_at kept.all v fit in record {
    numbers = (λ x h. at_below kept.all x.number x (know x h));
    front = fit.front;
    words = (λ p h. (fit.notes p h).word);
    below = (λ p h. (fit.notes p h).below);
    equal = (λ x y h k e. some-injective x y (sym (know x h) ∙ (ap (get_elem? kept.all) e ∙ know y k)));
    seen = (λ p h x k less inside. (fit.notes p h).whole x.number x (know x k) less inside);
    rights = fit.rights;
    single = (λ n. let h = kept.single n in let t = sum_by-at (λ (u : View C). times n u.rights) views id v at in omega arith);
    permits = (let h = kept.within in let t = sum_by-at (λ (u : View C). u.permits) views id v at in omega arith);
  }

  pub draws_at : (words : List ℕ) (views : List (View C)) (id : ℕ) (v : View C) (s : Interval) (c : C) (now : ℕ) → v.span ≡ Some s → has s (key c) ≡ true → 0 < v.permits
      → (kept : SeatRule key bound words views) → get_elem? views id ≡ some v
      → SeatRule key bound ((length kept.all + 1) ∷ []) (set views id (after_draw v (length kept.all) c now))
  draws_at words views id v s c now is inside some_left kept at =
      let x : Stroke C = record { number = length kept.all; command = c; now = now } in
      let w : View C = after_draw v (length kept.all) c now in
      let here : covers (key c) v.span ≡ 1 = ap (covers (key c)) is ∙ ap one_if inside in
      let none : (u : View C) → Fits key kept.all u → times (length kept.all) u.rights ≡ 0 = λ u f. times_none (length kept.all) u.rights (λ h. let k = f.rights (length kept.all) h in absurd (omega arith)) in
      let ends : (n : ℕ) (b : Bool) → (length kept.all == n) ≡ b → sum_by (λ (u : View C). times n u.rights) (set views id w) ≤ 1 = λ n b is.
      let t = sum_by-set (λ (u : View C). times n u.rights) views id v w at in let h = kept.single n in let a = times_append n v.rights (length kept.all ∷ []) in
      ends_by n (length kept.all) (sum_by (λ (u : View C). times n u.rights) views) (sum_by (λ (u : View C). times n u.rights) (set views id w)) (times n v.rights) b is
      (let z : times n w.rights ≡ times n v.rights + (one_if (length kept.all == n) + 0) = a in omega arith) h
      (λ e. let P : ℕ → Type 0 = λ m. sum_by (λ (u : View C). times m u.rights) views ≡ 0 in subst P e (sum_by-none (λ (u : View C). times (length kept.all) u.rights) views (λ j u d. none u (kept.fits j u d)))) in record {
        all = kept.all ++ x ∷ [];
        word = ap (λ (n : ℕ). n ∷ []) (omega (arith, length-append kept.all (x ∷ [])));
        fits = all_set (Fits key (kept.all ++ x ∷ [])) views id w (fits_drawn key kept.all v c now (kept.fits id v at))
            (λ j u apart e. grows key kept.all x u (let h = kept.apart (key c) in let t = sum_by-two (λ (u : View C). covers (key c) u.span) views id j v u apart at e in omega arith) (kept.fits j u e));
        apart = (λ k. let t = sum_by-set (λ (u : View C). covers k u.span) views id v w at in let h = kept.apart k in omega arith);
        single = (λ n. ends n (length kept.all == n) refl);
        within = (let t = sum_by-set (λ (u : View C). u.permits) views id v w at in let h = kept.within in omega (arith, length-append kept.all (x ∷ [])));
      }

module _ {C S : Type 0} (key : C → Key) (bound : ℕ) where
  abbrev pub Rule : State S (View C) → Type 0
  Rule s = SeatRule key bound s.words s.views

  pub hands_out : (id n : ℕ) (v : View C) → n ≤ v.permits → Splits Rule id v (less_permits n v) (new_pass n)
  hands_out id n v le s kept at = parts key bound s.words s.views id v (less_permits n v) (new_pass n)
      record { keys = (λ k. omega arith); rights = (λ m. omega arith); permits = omega arith } kept at
      (λ fit. (fits_less key kept.all n v fit, fits_new key kept.all n))

  pub slips : (id : ℕ) (v : View C) → 0 < v.permits → Splits Rule id v (less_permits 1 v) (slip_of v)
  slips id v some_left s kept at = parts key bound s.words s.views id v (less_permits 1 v) (slip_of v)
      record { keys = (λ k. omega arith); rights = (λ m. omega arith); permits = omega arith } kept at
      (λ fit. (fits_less key kept.all 1 v fit, fits_slip key kept.all v fit))

  pub notes : (id : ℕ) (v : View C) → Splits Rule id v (left_by_note v) (leaving_note v)
  notes id v s kept at = parts key bound s.words s.views id v (left_by_note v) (leaving_note v)
      record { keys = (λ k. omega arith); rights = (λ m. let h = times_last_right m (next_number v.log) v.rights in omega arith); permits = omega arith } kept at
      (λ fit. (fits_left_by key kept.all v fit, fits_leaving key kept.all v fit))

  pub meets : (id other : ℕ) (v w : View C) → Joins Rule id v other w (after_meet v w) spent_view
  meets id other v w s kept at apart there = joins key bound s.words s.views id other v w (after_meet v w) spent_view
      (record {
        keys = (λ k. omega arith);
        rights = (λ m. let t = times_with_rights m v.rights w.rights in omega arith);
        permits = omega arith;
      }) kept at apart there
      (λ fit gives. (fits_met key kept.all v w fit gives, fits_spent key kept.all))

  pub cuts : (id : ℕ) (cut : Bound) (s : Interval) (v : View C) → v.span ≡ Some s → bound_lt s.lo cut ≡ true → bound_lt cut s.hi ≡ true → Splits Rule id v (left_half cut v) (right_half cut v)
  cuts id cut s v is low high t kept at = parts key bound t.words t.views id v (left_half cut v) (right_half cut v)
      (record {
        keys = (λ k. let P : Option Interval → Type 0 = λ o. covers k (below_cut cut o) + covers k (above_cut cut o) ≤ covers k o in subst P (sym is) (cut_keys s cut k low high));
        rights = (λ m. omega arith);
        permits = omega arith;
      }) kept at
      (λ fit. (fits_left key kept.all cut v s is high fit, fits_right key kept.all cut v s is low fit))

  pub fuses : (id other : ℕ) (s t : Interval) (v w : View C) → v.span ≡ Some s → w.span ≡ Some t → s.hi ≡ t.lo → Joins Rule id v other w (joined_seats v w) spent_view
  fuses id other a b v w is its meet s kept at apart there = joins key bound s.words s.views id other v w (joined_seats v w) spent_view
      (record {
        keys = (λ k. let P : Option Interval → Type 0 = λ o. covers k (both_spans o w.span) + 0 ≤ covers k o + covers k w.span in
            let Q : Option Interval → Type 0 = λ o. covers k (both_spans (Some a) o) + 0 ≤ covers k (Some a) + covers k o in
            subst P (sym is) (subst Q (sym its) (let h = fuse_keys a b k meet in omega arith)));
        rights = (λ m. let t = times_with_rights m v.rights w.rights in omega arith);
        permits = omega arith;
      }) kept at apart there
      (λ fit gives. (fits_joined key kept.all v w a b is its meet fit gives, fits_spent key kept.all))

  steps : (t : State S (View C)) (id : ℕ) (v : View C) (f : ℕ → ℕ) (W : ℕ → View C) (kept : Rule t) → get_elem? t.views id ≡ some v
      → SeatRule key bound (f (length kept.all) ∷ []) (set t.views id (W (length kept.all)))
      → (w : View C) × (a : Act S) × Valid t.homes [] a × Rule (stepped t 0 (f (slice_index t.words 0)) id [] w a) × ((◌≡◌ {A = Me S (View C)} (w, carried_after [] a) (W (slice_index t.words 0), [])) × WordTells key bound (slice_index t.words 0) v)
  steps t id v f W kept at after =
      let len : length kept.all ≡ slice_index t.words 0 = sym (ap (λ (ws : List ℕ). slice_index ws 0) kept.word) in
      let F : ℕ → Type 0 = λ n. (w : View C) × (a : Act S) × Valid t.homes [] a × SeatRule key bound (set t.words 0 (f n)) (set t.views id w) × ((◌≡◌ {A = Me S (View C)} (w, carried_after [] a) (W n, [])) × WordTells key bound n v) in
      let words : f (length kept.all) ∷ [] ≡ set t.words 0 (f (length kept.all)) = sym (ap (λ (ws : List ℕ). set ws 0 (f (length kept.all))) kept.word) in
      let K : List ℕ → Type 0 = λ ws. SeatRule key bound ws (set t.views id (W (length kept.all))) in
      subst F len (W (length kept.all), keeps, tt, subst K words after, (refl, told key bound t.words t.views id v kept at))

  pub draws : (slots id : ℕ) (s : Interval) (v : View C) (c : C) (now : ℕ) → v.span ≡ Some s → has s (key c) ≡ true → 0 < v.permits → bound < 2 ^ 64
      → Allows Rule slots id (v, []) 0 (λ n. (n + 1) % 2 ^ 64) (λ n w. (w ≡ (after_draw v n c now, [])) × WordTells key bound n v)
  draws slots id s v c now is inside some_left small t kept homes at fits =
      let h = kept.within in let m = sum_by-at (λ (u : View C). u.permits) t.views id v at in
      let n : (length kept.all + 1) % 2 ^ 64 ≡ length kept.all + 1 = mod-eq_of_lt (omega arith) in
      steps t id v (λ n. (n + 1) % 2 ^ 64) (λ n. after_draw v n c now) kept at
      (subst (λ (k : ℕ). SeatRule key bound (k ∷ []) (set t.views id (after_draw v (length kept.all) c now))) (sym n) (draws_at key bound t.words t.views id v s c now is inside some_left kept at))

  pub copies : (slots id : ℕ) (s : Interval) (v : View C) → v.span ≡ Some s
      → Allows Rule slots id (v, []) 0 (λ n. n) (λ n w. (w ≡ (with_copy s v n, [])) × WordTells key bound n v)
  copies slots id s v is t kept homes at fits = steps t id v (λ n. n) (λ n. with_copy s v n) kept at
      (subst (λ (ws : List ℕ). SeatRule key bound ws (set t.views id (with_copy s v (length kept.all)))) kept.word
      (changes key bound t.words t.views id v (with_copy s v (length kept.all)) (λ k. omega arith) (λ n. omega arith) (omega arith) kept at (λ fit. fits_copy key kept.all s v is fit)))

  pub checks : (slots id : ℕ) (v : View C) → Allows Rule slots id (v, []) 0 (λ n. n) (λ n w. (w ≡ (v, [])) × WordTells key bound n v)
  checks slots id v t kept homes at fits = steps t id v (λ n. n) (λ n. v) kept at
      (subst (λ (ws : List ℕ). SeatRule key bound ws (set t.views id v)) kept.word
      (changes key bound t.words t.views id v v (λ k. omega arith) (λ n. omega arith) (omega arith) kept at (λ fit. fit)))

-- a step may tell less
module _ {C S : Type 0} (key : C → Key) (bound : ℕ) where
  pub tells : (slots id : ℕ) (v : View C) (f : ℕ → ℕ) (T U : ℕ → Me S (View C) → Type 0) → ((n : ℕ) (w : Me S (View C)) → T n w → U n w)
      → Allows (λ (s : State S (View C)). SeatRule key bound s.words s.views) slots id (v, []) 0 f T → Allows (λ (s : State S (View C)). SeatRule key bound s.words s.views) slots id (v, []) 0 f U
  tells slots id v f T U less allows s kept homes at fits = let r = allows s kept homes at fits in (r.0, r.1, r.2, r.3, less (slice_index s.words 0) (r.0, carried_after [] r.1) r.4)

  pub at_seat : (slots id : ℕ) (me : Me S (View C)) (f : ℕ → ℕ) (T : ℕ → Me S (View C) → Type 0) → me.1 ≡ []
      → Allows (λ (s : State S (View C)). SeatRule key bound s.words s.views) slots id (me.0, []) 0 f T → Allows (λ (s : State S (View C)). SeatRule key bound s.words s.views) slots id me 0 f T
  at_seat slots id me f T e allows = let P : List (ℕ × S) → Type 0 = λ l. Allows (λ (s : State S (View C)). SeatRule key bound s.words s.views) slots id (me.0, l) 0 f T in subst P (sym e) allows

  pub draw_asks : (command : Option C) (jnow jbound slots id : ℕ) (s : Interval) (me : Me S (View C)) (c : C) (now : ℕ) → me.1 ≡ [] → command ≡ Some c → jnow ≡ now → jbound ≡ bound
      → me.0.span ≡ Some s → has s (key c) ≡ true → 0 < me.0.permits → bound < 2 ^ 64
      → Allows (λ (s : State S (View C)). SeatRule key bound s.words s.views) slots id me 0 (λ n. (n + 1) % 2 ^ 64)
      (λ n w. (x : C) × (command ≡ Some x) × (w ≡ (after_draw me.0 n x jnow, [])) × WordTells key jbound n me.0)
  draw_asks command jnow jbound slots id s me c now free is_command is_now is_bound is inside some_left small =
      at_seat slots id me (λ n. (n + 1) % 2 ^ 64) (λ n w. (x : C) × (command ≡ Some x) × (w ≡ (after_draw me.0 n x jnow, [])) × WordTells key jbound n me.0) free
      (tells slots id me.0 (λ n. (n + 1) % 2 ^ 64) (λ n w. (w ≡ (after_draw me.0 n c now, [])) × WordTells key bound n me.0) (λ n w. (x : C) × (command ≡ Some x) × (w ≡ (after_draw me.0 n x jnow, [])) × WordTells key jbound n me.0)
      (λ n w h. (c, is_command, (let P : ℕ → Type 0 = λ m. w ≡ (after_draw me.0 n c m, []) in subst P (sym is_now) h.0), (let P : ℕ → Type 0 = λ b. WordTells key b n me.0 in subst P (sym is_bound) h.1)))
      (draws key bound slots id s me.0 c now is inside some_left small))

  pub copy_asks : (jbound slots id : ℕ) (s : Interval) (me : Me S (View C)) → me.1 ≡ [] → jbound ≡ bound → me.0.span ≡ Some s
      → Allows (λ (s : State S (View C)). SeatRule key bound s.words s.views) slots id me 0 (λ n. n) (λ n w. (s : Interval) × (me.0.span ≡ Some s) × (w ≡ (with_copy s me.0 n, [])) × WordTells key jbound n me.0)
  copy_asks jbound slots id s me free is_bound is =
      at_seat slots id me (λ n. n) (λ n w. (s : Interval) × (me.0.span ≡ Some s) × (w ≡ (with_copy s me.0 n, [])) × WordTells key jbound n me.0) free
      (tells slots id me.0 (λ n. n) (λ n w. (w ≡ (with_copy s me.0 n, [])) × WordTells key bound n me.0) (λ n w. (s : Interval) × (me.0.span ≡ Some s) × (w ≡ (with_copy s me.0 n, [])) × WordTells key jbound n me.0)
      (λ n w h. (s, is, h.0, (let P : ℕ → Type 0 = λ b. WordTells key b n me.0 in subst P (sym is_bound) h.1)))
      (copies key bound slots id s me.0 is))

  pub check_asks : (jbound slots id : ℕ) (me : Me S (View C)) → me.1 ≡ [] → jbound ≡ bound
      → Allows (λ (s : State S (View C)). SeatRule key bound s.words s.views) slots id me 0 (λ n. n) (λ n w. (w ≡ (me.0, [])) × WordTells key jbound n me.0)
  check_asks jbound slots id me free is_bound =
      at_seat slots id me (λ n. n) (λ n w. (w ≡ (me.0, [])) × WordTells key jbound n me.0) free
      (tells slots id me.0 (λ n. n) (λ n w. (w ≡ (me.0, [])) × WordTells key bound n me.0) (λ n w. (w ≡ (me.0, [])) × WordTells key jbound n me.0)
      (λ n w h. (h.0, (let P : ℕ → Type 0 = λ b. WordTells key b n me.0 in subst P (sym is_bound) h.1)))
      (checks key bound slots id me.0))

pub one_word : (a b : ℕ) → a ≡ b → a ≡ 1 → 0 < b
one_word a b e h = omega arith

module _ {C : Type 0} (key : C → Key) (bound : ℕ) where
  pub seven : (words : List ℕ) (views : List (View C)) → SeatRule key bound words views → SevenParts key bound (slice_index words 0) views
  seven words views kept =
      let known : (v : View C) → IsLive views v → (x : Stroke C) → Knows v x → get_elem? kept.all x.number ≡ some x = λ v l x h. knows_at key bound kept.all v (kept.fits l.0 v l.1) x h in
      let P : List ℕ → Type 0 = λ ws. SevenParts key bound (slice_index ws 0) views in subst P (sym kept.word) (record {
        numbers = record {
          strokes = (λ v l x h. at_below kept.all x.number x (known v l x h));
          rights = (λ v l. (kept.fits l.0 v l.1).rights);
          fronts = (λ v l. (kept.fits l.0 v l.1).front);
          words = (λ v l p h. ((kept.fits l.0 v l.1).notes p h).word);
          notes = (λ v l p h. ((kept.fits l.0 v l.1).notes p h).below);
        };
        equal = (λ v w l m x y h k e. some-injective x y (sym (known v l x h) ∙ (ap (get_elem? kept.all) e ∙ known w m y k)));
        disjoint = (λ v w two s t is its k h g. let z = kept.apart k in let y = sum_by-two (λ (u : View C). covers k u.span) views two.0 two.1 v w two.2 two.3 two.4 in
            let c : covers k v.span ≡ 1 = ap (covers k) is ∙ ap one_if h in let d : covers k w.span ≡ 1 = ap (covers k) its ∙ ap one_if g in absurd (omega arith));
        seats = (λ v w l m s is x h inside. (kept.fits l.0 v l.1).span s is x.number x (known w m x h) inside);
        notes = (λ v w l m p h x k less inside. ((kept.fits l.0 v l.1).notes p h).whole x.number x (known w m x k) less inside);
        rights = record {
          apart = (λ v w two n h g. let z = kept.single n in let y = sum_by-two (λ (u : View C). times n u.rights) views two.0 two.1 v w two.2 two.3 two.4 in let c = times_some n v.rights h in let d = times_some n w.rights g in absurd (omega arith));
          once = (λ v l n. let z = kept.single n in let y = sum_by-at (λ (u : View C). times n u.rights) views l.0 v l.1 in omega arith);
        };
        permits = kept.within;
      })
