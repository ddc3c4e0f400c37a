-- What the types keep, after each step.
use Rattle.std.proofs.Common.{◌≡◌, ℕ, ◌+◌, ◌^◌, ◌<◌, ◌≤◌, ◌⊎◌, Bool, true, List, [], ◌∷◌, ◌++◌, length, max, refl, sym, ◌∙◌, ap, subst, inl, inr, ⊎_elim, arith}
use Rattle.tab_keys.specs.declared.keys.Key.{Key}
use Rattle.tab_keys.specs.declared.bounds.Bound.{Bound}
use Rattle.tab_keys.specs.Spans.{Interval, has}
use Rattle.tab_seats.specs.declared.views.Stroke.{Stroke}
use Rattle.tab_seats.specs.declared.views.LogCopy.{LogCopy}
use Rattle.tab_seats.specs.declared.views.View.{View}
use Rattle.tab_seats.specs.Lists.{In, one_if}
use Rattle.tab_seats.specs.Logs.{next_number, with_rights, last_right, other_rights}
use Rattle.tab_seats.specs.Views.{Knows, copy_of, from_to, below_cut, above_cut, seat_over, less_permits, new_pass, after_heed, after_draw, note_of, after_note, after_meet, after_fuse, left_half, right_half}
use Rattle.tab_seats.specs.Rule.{WordTells}
use Rattle.std.proofs.lemmas.Bool.{cases_lt}
use Rattle.std.proofs.lemmas.List.{append-nil}
use Rattle.tab_seats.specs.Offices.{OfficeId, MemberView, IsSeat, IsPass, IsNote, IsSlip}
use Rattle.tab_seats.proofs.Sums.{in_append, in_right}
use Rattle.tab_seats.proofs.LogLemmas.{other_in, last_right_in, in_with_rights, length_with_rights, with_strokes_left, with_strokes_right, with_right_last, rises_with_strokes, rises_with_rights, rises_push, rises_other}
use Rattle.tab_seats.proofs.Fitting.{next_number_le}
use Rattle.tab_seats.proofs.Counts.{distinct_below, next_number-with_strokes, next_number_push, last_right_none, last_right-with_rights, last_right_new, last_right_gone}

module _ {C : Type 0} where
  -- a fact about a member's view, by the equation that a call gives of the member
  pub at_view : {O : Type 0} (P : View C → Type 0) (m : MemberView C O) (o : OfficeId O) (v : View C) → m ≡ record { office = o; view = v } → P v → P m.view
  at_view {O} P m o v e p = subst P (sym (ap (λ (x : MemberView C O). x.view) e)) p

  pub from_view : {O : Type 0} (P : View C → Type 0) (m : MemberView C O) (o : OfficeId O) (v : View C) → m ≡ record { office = o; view = v } → P m.view → P v
  from_view {O} P m o v e p = subst P (ap (λ (x : MemberView C O). x.view) e) p

  pub seat_new : (s : Interval) (n : ℕ) → IsSeat {C = C} (seat_over s n)
  seat_new s n = record { span = (s, refl); log = tt; rights = tt; drawn = (λ m h. elim h [ ]) }

  pub seat_drawn : (key : C → Key) (bound : ℕ) (v : View C) (n : ℕ) (c : C) (now : ℕ) → IsSeat v → WordTells key bound n v → IsSeat (after_draw v n c now)
  seat_drawn key bound v n c now is told = let x : Stroke C = record { number = n; command = c; now = now } in record {
    span = is.span;
    log = rises_push (λ (y : Stroke C). y.number) v.log x is.log (λ y h. told.numbers y (inl h));
    rights = rises_push (λ (m : ℕ). m) v.rights n is.rights (λ m h. told.rights m h);
    drawn = (λ m h. let a = next_number_push v.log x in ⊎_elim (λ (t : In m v.rights). let r = told.rights m t in omega arith) (λ (t : In m (n ∷ [])). ⊎_elim (λ (e : m ≡ n). omega arith) (λ (e : ⊥). absurd e) t) (in_append m v.rights (n ∷ []) h));
  }

  pub next_drawn : (key : C → Key) (bound : ℕ) (v : View C) (n : ℕ) (c : C) (now : ℕ) → WordTells key bound n v → next_number (after_draw v n c now).log ≡ n + 1
  next_drawn key bound v n c now told =
      let low : next_number v.log ≤ n = next_number_le n v.log (λ x h. told.numbers x (inl h)) in
      let a = next_number_push v.log (record { number = n; command = c; now = now }) in omega arith

  pub right_drawn : (key : C → Key) (bound : ℕ) (v : View C) (n : ℕ) (c : C) (now : ℕ) → WordTells key bound n v → last_right (n + 1) (after_draw v n c now).rights ≡ n ∷ []
  right_drawn key bound v n c now told = last_right_new n v.rights (λ m h. told.rights m h)

  pub met_slip : (v w : View C) → IsSlip w → after_meet v w ≡ after_heed v w.front
  met_slip v w slip = let P : View C → Type 0 = λ u. after_meet v u ≡ after_heed v u.front in
      subst P (sym slip.1) (ap (λ ns. record (after_heed v slip.0) { notes = ns }) (append-nil v.notes))

  pub seat_heeded : (v : View C) (front : ℕ) → IsSeat v → IsSeat (after_heed v front)
  seat_heeded v front is = record { span = is.span; log = is.log; rights = is.rights; drawn = is.drawn }

  pub seat_noted : (v : View C) → IsSeat v → IsSeat (after_note v)
  seat_noted v is = record {
    span = is.span;
    log = is.log;
    rights = rises_other (next_number v.log) v.rights is.rights;
    drawn = (λ m h. is.drawn m (other_in m (next_number v.log) v.rights h));
  }

  -- the right to the last number is gone
  pub right_noted : (key : C → Key) (bound n next : ℕ) (v : View C) → next ≡ next_number v.log → WordTells key bound n v → length (last_right next (after_note v).rights) ≡ 0
  right_noted key bound n next v e told = let P : ℕ → Type 0 = λ t. length (last_right next (other_rights t v.rights)) ≡ 0 in subst P e (ap length (last_right_gone next v.rights told.single))

  pub note_taken : (s : Interval) (v : View C) (n : ℕ) → IsSeat v → IsNote (note_of s v n)
  note_taken s v n is = record {
    span = refl;
    permits = refl;
    log = is.log;
    copy = (copy_of s v n, refl, refl);
    last = (λ m h. is.drawn m (last_right_in m (next_number v.log) v.rights h));
  }

  pub seat_left : (at : Bound) (v : View C) → IsSeat v → IsSeat (left_half at v)
  seat_left at v is = record { span = (record { lo = is.span.0.lo; hi = at }, ap (below_cut at) is.span.1); log = is.log; rights = is.rights; drawn = is.drawn }

  pub seat_right : (at : Bound) (v : View C) → IsSeat v → IsSeat (right_half at v)
  seat_right at v is = record { span = (record { lo = at; hi = is.span.0.hi }, ap (above_cut at) is.span.1); log = is.log; rights = tt; drawn = (λ m h. elim h [ ]) }

  pub seat_fused : (key : C → Key) (bound k : ℕ) (s t : Interval) (v w : View C) (m n : ℕ) → IsSeat v → IsSeat w → WordTells key bound k (after_fuse s t v w m n) → IsSeat (after_fuse s t v w m n)
  seat_fused key bound k s t v w m n is its told = let a = next_number-with_strokes v.log w.log in record {
    span = (from_to s t, refl);
    log = rises_with_strokes v.log w.log is.log;
    rights = rises_with_rights v.rights w.rights told.single is.rights;
    drawn = (λ j h. ⊎_elim (λ (u : In j v.rights). let r = is.drawn j u in omega arith) (λ (u : In j w.rights). let r = its.drawn j u in omega arith) (in_with_rights j v.rights w.rights h));
  }

  pub next_fused : (next other : ℕ) (s t : Interval) (v w : View C) (m n : ℕ) → next ≡ next_number v.log → other ≡ next_number w.log → max next other ≡ next_number (after_fuse s t v w m n).log
  next_fused next other s t v w m n e d = let a = next_number-with_strokes v.log w.log in omega arith

  -- the right to the last number of both logs
  pub right_fused : (next other : ℕ) (has also both : Bool) (s t : Interval) (v w : View C) (m n : ℕ) → IsSeat v → IsSeat w → next ≡ next_number v.log → other ≡ next_number w.log
      → length (last_right next v.rights) ≡ one_if has → length (last_right other w.rights) ≡ one_if also
      → (other < next → both ≡ has) → (next < other → both ≡ also) → (next ≡ other → one_if both ≡ max (one_if has) (one_if also))
      → length (last_right (max next other) (after_fuse s t v w m n).rights) ≡ one_if both
  right_fused next other has also both s t v w m n is its e d mine theirs more less level =
      let P : ℕ → Type 0 = λ k. length (last_right k (with_rights v.rights w.rights)) ≡ one_if both in
      ⊎_elim
      (λ (h : other < next). let top : max next other ≡ next = omega arith in
      let z = ap length (last_right_none next other w.rights (λ j i. let r = its.drawn j i in omega arith) h) in
      let f : one_if both ≡ one_if has = ap one_if (more h) in let a = last_right-with_rights next v.rights w.rights in subst P (sym top) (omega arith))
      (λ (h : next ≤ other). let top : max next other ≡ other = omega arith in ⊎_elim
      (λ (k : next < other). let z = ap length (last_right_none other next v.rights (λ j i. let r = is.drawn j i in omega arith) k) in
      let f : one_if both ≡ one_if also = ap one_if (less k) in let a = last_right-with_rights other v.rights w.rights in subst P (sym top) (omega arith))
      (λ (k : other ≤ next). let same : next ≡ other = omega arith in let f = level same in
      let a = last_right-with_rights other v.rights w.rights in
      let b : length (last_right other v.rights) ≡ one_if has = (let Q : ℕ → Type 0 = λ j. length (last_right j v.rights) ≡ one_if has in subst Q same mine) in
      subst P (sym top) (omega arith))
      (cases_lt next other))
      (cases_lt other next)

  pub pass_new : (n : ℕ) → IsPass {C = C} (new_pass n)
  pass_new n = record { span = refl; log = tt; notes = (λ p h. elim h [ ]); mine = tt; known = (λ m h. elim h [ ]) }

  pub pass_less : (n : ℕ) (v : View C) → IsPass v → IsPass (less_permits n v)
  pass_less n v is = record { span = is.span; log = is.log; notes = is.notes; mine = is.mine; known = is.known }

  pub pass_met : (key : C → Key) (bound k : ℕ) (v w : View C) → IsPass v → IsNote w → WordTells key bound k (after_meet v w) → IsPass (after_meet v w)
  pass_met key bound k v w is note told =
      let p : LogCopy C = note.copy.0 in
      let there : In p (v.notes ++ w.notes) = in_right p v.notes w.notes (let P : List (LogCopy C) → Type 0 = λ ps. In p ps in subst P (sym note.copy.1) (inl refl)) in
      let knows : (x : Stroke C) → In x w.log → Knows (after_meet v w) x = λ x h. inr (p, there, (let P : List (Stroke C) → Type 0 = λ l. In x l in subst P (sym note.copy.2) h)) in
      let same : (x y : Stroke C) → In x v.log ⊎ In x w.log → In y w.log → y.number ≡ x.number → y ≡ x = λ x y h i n.
      told.equal y x (knows y i) (⊎_elim (λ (t : In x v.log). inl (with_strokes_left x v.log w.log t)) (λ (t : In x w.log). knows x t) h) n in
      let a = next_number-with_strokes v.log w.log in record {
        span = is.span;
        log = rises_with_strokes v.log w.log is.log;
        notes = (λ q h x i. ⊎_elim
            (λ (t : In q v.notes). with_strokes_left x v.log w.log (is.notes q t x i))
            (λ (t : In q w.notes). with_strokes_right x v.log w.log same (let P : List (LogCopy C) → Type 0 = λ ps. In q ps in
            ⊎_elim (λ (e : q ≡ p). let Q : LogCopy C → Type 0 = λ u. In x u.log in let R : List (Stroke C) → Type 0 = λ l. In x l in subst R note.copy.2 (subst Q e i)) (λ (e : ⊥). absurd e) (subst P note.copy.1 t)))
            (in_append q v.notes w.notes h));
        mine = rises_with_rights v.rights w.rights told.single is.mine;
        known = (λ j h. ⊎_elim (λ (u : In j v.rights). let r = is.known j u in omega arith) (λ (u : In j w.rights). let r = note.last j u in omega arith) (in_with_rights j v.rights w.rights h));
      }

  -- a right to a number above all that the pass knows
  pub mine_last : (v w : View C) (n : ℕ) → IsPass v → w.rights ≡ n ∷ [] → next_number v.log ≤ n → with_rights v.rights w.rights ≡ v.rights ++ n ∷ []
  mine_last v w n is e h = ap (with_rights v.rights) e ∙ with_right_last n v.rights (λ m i. let r = is.known m i in omega arith)

  -- the calls that a pass lists are no more than the word
  pub counted : (key : C → Key) (bound k : ℕ) (v : View C) → WordTells key bound k v → length v.rights ≤ k
  counted key bound k v told = distinct_below k v.rights told.single told.rights

  pub one_more : (key : C → Key) (bound k calls : ℕ) (v w : View C) → calls ≡ length v.rights → length w.rights ≡ 1 → WordTells key bound k (after_meet v w) → k ≤ 2 ^ 56 → calls + 1 ≤ 2 ^ 56
  one_more key bound k calls v w mine one told small = let h = counted key bound k (after_meet v w) told in omega (arith, length_with_rights v.rights w.rights)

  -- what a seat's type keeps
  abbrev pub HoldsSeat : ℕ → Bool → View C → Type 0
  HoldsSeat next has v = IsSeat v × (next ≡ next_number v.log) × (length (last_right next v.rights) ≡ one_if has)

  -- what a pass's type keeps
  abbrev pub HoldsPass : ℕ → ℕ → View C → Type 0
  HoldsPass permits calls v = IsPass v × (permits ≡ v.permits) × (calls ≡ length v.rights)

  pub holds_drawn : (key : C → Key) (bound : ℕ) (v : View C) (n : ℕ) (c : C) (now : ℕ) → IsSeat v → WordTells key bound n v → HoldsSeat (n + 1) true (after_draw v n c now)
  holds_drawn key bound v n c now is told = (seat_drawn key bound v n c now is told, sym (next_drawn key bound v n c now told), ap length (right_drawn key bound v n c now told))

  pub holds_heeded : (next : ℕ) (has : Bool) (v w : View C) → IsSlip w → HoldsSeat next has v → HoldsSeat next has (after_meet v w)
  holds_heeded next has v w slip holds = subst (HoldsSeat next has) (sym (met_slip v w slip)) (seat_heeded v w.front holds.0, holds.1, holds.2)

  pub holds_fused : (key : C → Key) (bound k next other : ℕ) (has also both : Bool) (s t : Interval) (v w : View C) (m n : ℕ) → HoldsSeat next has v → HoldsSeat other also w
      → (other < next → both ≡ has) → (next < other → both ≡ also) → (next ≡ other → one_if both ≡ max (one_if has) (one_if also))
      → WordTells key bound k (after_fuse s t v w m n) → HoldsSeat (max next other) both (after_fuse s t v w m n)
  holds_fused key bound k next other has also both s t v w m n is its more less level told = (
    seat_fused key bound k s t v w m n is.0 its.0 told,
    next_fused next other s t v w m n is.1 its.1,
    right_fused next other has also both s t v w m n is.0 its.0 is.1 its.1 is.2 its.2 more less level,
  )

  pub holds_met : (key : C → Key) (bound k permits calls more : ℕ) (has : Bool) (v w : View C) → more ≡ calls + one_if has → HoldsPass permits calls v → IsNote w → length w.rights ≡ one_if has
      → WordTells key bound k (after_meet v w) → HoldsPass permits more (after_meet v w)
  holds_met key bound k permits calls more has v w sum is note right told = (
    pass_met key bound k v w is.0 note told,
    (let a = is.1 in let b = note.permits in omega arith),
    (let a = is.2 in let l = length_with_rights v.rights w.rights in omega arith),
  )

  pub mine_met : {O : Type 0} (before was after : MemberView C O) (o : OfficeId O) (w : View C) (n : ℕ) → was ≡ before → after ≡ record { office = o; view = after_meet was.view w } → IsPass was.view
      → w.rights ≡ n ∷ [] → next_number before.view.log ≤ n → after.view.rights ≡ before.view.rights ++ n ∷ []
  mine_met {O} before was after o w n same met is right low =
      let P : MemberView C O → Type 0 = λ m. next_number m.view.log ≤ n → after.view.rights ≡ m.view.rights ++ n ∷ [] in
      subst P same (λ h. ap (λ (m : MemberView C O). m.view.rights) met ∙ mine_last was.view w n is right h) low
