-- A range takes its place among those that are held by rising number.
use Rattle.std.proofs.Common.{◌≡◌, ℕ, ◌+◌, ◌<◌, ◌≤◌, List, [], ◌∷◌, ◌++◌, Bool, true, false, cond, length, get_or, take, drop, refl, sym, ap, subst, ◌∙◌, append_assoc, arith}
use Rattle.std.specs.Prelude.{◌==◌, nat_lt, All, AllPairs}
use Rattle.std.specs.List.{insert}
use Rattle.std.proofs.lemmas.Bool.Decides.{nat_tests}
use Rattle.std.proofs.lemmas.List.{take_all, take_more, drop_all, drop_more, take-append-drop}
use Rattle.std.proofs.lemmas.List.Elements.{All-nil, All-cons, All-head, All-tail, All-weaker, All-map}
use Rattle.std.proofs.lemmas.List.Kept.{AllPairs-cons}
use Rattle.tab_rows.proofs.Lists.{AllPairs-head, AllPairs-tail}
use Rattle.tab_page.proofs.RisingLists.{AllPairs-nil}
use Rattle.tab_server.specs.Contents.{numbers, IsHolding, IsUncounted}
use Rattle.tab_server.specs.Recovering.{with_range, GoesTo, StaysWith}
use Rattle.tab_server.specs.declared.ranges.Marked.{Marked}

-- ---- what holds of each range

module _ {T : Type 0} (P : Marked T → Type 0) (marked : Marked T) (here : P marked) where
  with_one : (one : Marked T) (held : List (Marked T)) (b c : Bool) → nat_lt marked.range.id one.range.id ≡ b → (marked.range.id == one.range.id) ≡ c → All P (one ∷ held) → All P (with_range marked held)
      → All P (with_range marked (one ∷ held))
  with_one one held true c e f all rest = rw e (All-cons P marked (one ∷ held) here all)
  with_one one held false true e f all rest = rw (e, f) all
  with_one one held false false e f all rest = rw (e, f) (All-cons P one (with_range marked held) (All-head P one held all) rest)

  pub all_with : (held : List (Marked T)) → All P held → All P (with_range marked held)
  all_with [] all = All-cons P marked [] here (All-nil P)
  all_with (one ∷ held) all = with_one one held (nat_lt marked.range.id one.range.id) (marked.range.id == one.range.id) refl refl all (all_with held (All-tail P one held all))

-- ---- the order stays

each_above : {T : Type 0} (n : ℕ) (held : List (Marked T)) → All (λ m. n < m) (numbers held) → All (λ (marked : Marked T). n < marked.range.id) held
each_above n [] above = All-nil (λ (marked : Marked _). n < marked.range.id)
each_above n (one ∷ held) above =
    All-cons (λ (marked : Marked _). n < marked.range.id) one held (All-head (λ m. n < m) one.range.id (numbers held) above) (each_above n held (All-tail (λ m. n < m) one.range.id (numbers held) above))

module _ {T : Type 0} (marked : Marked T) where
  rising_one : (one : Marked T) (held : List (Marked T)) (b c : Bool) → nat_lt marked.range.id one.range.id ≡ b → (marked.range.id == one.range.id) ≡ c → AllPairs (λ a b. a < b) (numbers (one ∷ held))
      → AllPairs (λ a b. a < b) (numbers (with_range marked held)) → AllPairs (λ a b. a < b) (numbers (with_range marked (one ∷ held)))
  rising_one one held true c e f apart rest =
      let less : marked.range.id < one.range.id = grind (arith, nat_tests) in
      let above : All (λ n. one.range.id < n) (numbers held) = AllPairs-head (λ a b. a < b) one.range.id (numbers held) apart in
      rw e (AllPairs-cons (λ a b. a < b) marked.range.id (numbers (one ∷ held))
      (All-cons (λ n. marked.range.id < n) one.range.id (numbers held) less (All-weaker (λ n. one.range.id < n) (λ n. marked.range.id < n) (λ n h. omega (arith, h, less)) (numbers held) above))
      apart)
  rising_one one held false true e f apart rest = rw (e, f) apart
  rising_one one held false false e f apart rest =
      let less : one.range.id < marked.range.id = grind (arith, nat_tests) in
      let above : All (λ (other : Marked T). one.range.id < other.range.id) held = each_above one.range.id held (AllPairs-head (λ a b. a < b) one.range.id (numbers held) apart) in
      rw (e, f) (AllPairs-cons (λ a b. a < b) one.range.id (numbers (with_range marked held))
      (All-map (λ n. one.range.id < n) (λ (other : Marked T). other.range.id) (with_range marked held) (all_with (λ (other : Marked T). one.range.id < other.range.id) marked less held above))
      rest)

  rising_with : (held : List (Marked T)) → AllPairs (λ a b. a < b) (numbers held) → AllPairs (λ a b. a < b) (numbers (with_range marked held))
  rising_with [] apart = AllPairs-cons (λ a b. a < b) marked.range.id [] (All-nil (λ n. marked.range.id < n)) (AllPairs-nil (λ (a b : ℕ). a < b))
  rising_with (one ∷ held) apart =
      rising_one one held (nat_lt marked.range.id one.range.id) (marked.range.id == one.range.id) refl refl apart (rising_with held (AllPairs-tail (λ a b. a < b) one.range.id (numbers held) apart))

  pub holding_with : (held : List (Marked T)) → IsHolding held → IsUncounted marked.mark marked.range.tally → IsHolding (with_range marked held)
  holding_with held holding uncounted = record {
    apart = rising_with held holding.apart;
    uncounted = all_with (λ (other : Marked T). IsUncounted other.mark other.range.tally) marked uncounted held holding.uncounted;
  }

-- ---- the place of a number

-- a range of this number goes behind those before a place
abbrev pub GoesBehind : {T : Type 0} → List (Marked T) → ℕ → ℕ → Type 0
GoesBehind held number place = (marked : _) → marked.range.id ≡ number → with_range marked held ≡ take place held ++ with_range marked (drop place held)

pub behind_none : {T : Type 0} (held : List (Marked T)) (number : ℕ) → GoesBehind held number 0
behind_none held number = λ marked is. refl

module _ {T : Type 0} (held : List (Marked T)) (number place : ℕ) (so_far : GoesBehind held number place) where
  module _ (one : Marked T) (within : place < length held) (at : one ≡ get_or held place one) where
    left : drop place held ≡ one ∷ drop (place + 1) held
    left = drop_more held place one within ∙ ap (λ (x : Marked T). x ∷ drop (place + 1) held) (sym at)

    first_of : (marked : Marked T) → marked.range.id ≡ number → number < one.range.id → with_range marked (one ∷ drop (place + 1) held) ≡ marked ∷ one ∷ drop (place + 1) held
    first_of marked is less =
        let below : nat_lt marked.range.id one.range.id ≡ true = grind (arith, nat_tests) in
        rw below refl

    same_of : (marked : Marked T) → marked.range.id ≡ number → number ≡ one.range.id → with_range marked (one ∷ drop (place + 1) held) ≡ one ∷ drop (place + 1) held
    same_of marked is same =
        let below : nat_lt marked.range.id one.range.id ≡ false = grind (arith, nat_tests) in
        let here : (marked.range.id == one.range.id) ≡ true = grind (arith, nat_tests) in
        rw (below, here) refl

    later_of : (marked : Marked T) → marked.range.id ≡ number → one.range.id < number → with_range marked (one ∷ drop (place + 1) held) ≡ one ∷ with_range marked (drop (place + 1) held)
    later_of marked is more =
        let below : nat_lt marked.range.id one.range.id ≡ false = grind (arith, nat_tests) in
        let here : (marked.range.id == one.range.id) ≡ false = grind (arith, nat_tests) in
        rw (below, here) refl

    pub goes_here : number < one.range.id → GoesTo held number place
    goes_here less = record {
      within = omega (arith, within);
      is = λ marked is.
          so_far marked is
          ∙ ap (λ (xs : List (Marked T)). take place held ++ with_range marked xs) left
          ∙ ap (λ (xs : List (Marked T)). take place held ++ xs) (first_of marked is less ∙ ap (λ (xs : List (Marked T)). marked ∷ xs) (sym left));
    }

    pub stays_here : number ≡ one.range.id → StaysWith held number
    stays_here same = λ marked is.
        so_far marked is
        ∙ ap (λ (xs : List (Marked T)). take place held ++ with_range marked xs) left
        ∙ ap (λ (xs : List (Marked T)). take place held ++ xs) (same_of marked is same ∙ sym left)
        ∙ take-append-drop place held

    pub behind_more : one.range.id < number → GoesBehind held number (place + 1)
    behind_more more = λ marked is.
        so_far marked is
        ∙ ap (λ (xs : List (Marked T)). take place held ++ with_range marked xs) left
        ∙ ap (λ (xs : List (Marked T)). take place held ++ xs) (later_of marked is more)
        ∙ sym (append_assoc (take place held) (one ∷ []) (with_range marked (drop (place + 1) held)))
        ∙ ap (λ (xs : List (Marked T)). xs ++ with_range marked (drop (place + 1) held)) (sym (take_more held place one within ∙ ap (λ (x : Marked T). take place held ++ x ∷ []) (sym at)))

  pub goes_last : (end : ℕ) → length held ≤ place → end ≡ length held → GoesTo held number end
  goes_last end past is_end = record {
    within = omega (arith, is_end);
    is = λ marked is.
        let over : length held ≤ end = omega (arith, is_end) in
        so_far marked is
        ∙ ap (λ (xs : List (Marked T)). take place held ++ with_range marked xs) (drop_all place held past)
        ∙ ap (λ (xs : List (Marked T)). xs ++ marked ∷ []) (take_all place held past)
        ∙ sym (ap (λ (xs : List (Marked T)). take end held ++ marked ∷ xs) (drop_all end held over) ∙ ap (λ (xs : List (Marked T)). xs ++ marked ∷ []) (take_all end held over));
  }

-- ---- what an insert leaves

module _ {T : Type 0} (items held after : List (Marked T)) (marked : Marked T) (number place : ℕ) (same : items ≡ held) (to : GoesTo held number place) (is : number ≡ marked.range.id) where
  joined_with : after ≡ insert items place marked → after ≡ with_range marked held
  joined_with joins = joins ∙ ap (λ (xs : List (Marked T)). insert xs place marked) same ∙ sym (to.is marked (sym is))

  pub placed_with : (done : Bool) → after ≡ cond done (insert items place marked) items → done ≡ true → after ≡ with_range marked held
  placed_with done joins succeeds = joined_with (joins ∙ ap (λ (d : Bool). cond d (insert items place marked) items) succeeds)

  pub placed_holding : (done : Bool) → after ≡ cond done (insert items place marked) items → IsHolding items → IsUncounted marked.mark marked.range.tally → IsHolding after
  placed_holding true joins holding uncounted = subst IsHolding (sym (joined_with joins)) (holding_with marked held (subst IsHolding same holding) uncounted)
  placed_holding false joins holding uncounted = subst IsHolding (sym joins) holding
