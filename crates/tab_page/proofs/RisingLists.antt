-- Lists of which each element is below the later ones: their elements, their parts, and how many they are.
use Rattle.std.proofs.Common.{◌≡◌, ℕ, zero, suc, ◌<◌, ◌≤◌, List, [], ◌∷◌, ◌++◌, Bool, true, false, cond, length, get_or, take, drop, filter, Contains, All, AllPairs, refl, sym, ap, ◌∙◌, subst, inl, inr, ◌⊎◌, ⊎_elim, arith}
use Rattle.std.proofs.lemmas.Bool.{true≢false}
use Rattle.std.proofs.lemmas.List.{take-append-drop}
use Rattle.std.proofs.lemmas.List.Elements.{All-nil, All-cons, All-head, All-tail, All-contains, filter_passes, Contains-append_left, Contains-append_right, Contains-append_cases}
use Rattle.std.proofs.lemmas.List.Kept.{AllPairs-cons}
use Rattle.tab_rows.proofs.Lists.{AllPairs-head, AllPairs-tail}

-- ---- lists whose elements rise

module _ {X : Type 0} where
  pub Contains-here : (x : X) (xs : List X) → Contains (x ∷ xs) x
  Contains-here x xs = (zero, omega arith, refl)

  pub Contains-there : (x y : X) (xs : List X) → Contains xs y → Contains (x ∷ xs) y
  Contains-there x y xs h = (suc h.0, (let below : h.0 < length xs = h.1 in omega arith), h.2)

  pub Contains-cons_cases : (x y : X) (xs : List X) → Contains (x ∷ xs) y → (x ≡ y) ⊎ Contains xs y
  Contains-cons_cases x y xs h = by_index h.0 h.1 h.2
    where
      by_index : (k : ℕ) → k < length (x ∷ xs) → get_or (x ∷ xs) k y ≡ y → (x ≡ y) ⊎ Contains xs y
      by_index zero within e = inl e
      by_index (suc k) within e = inr (k, omega arith, e)

  pub Contains-nil : (y : X) → Contains [] y → ⊥
  Contains-nil y h = let below : h.0 < 0 = h.1 in omega arith

  pub Contains-filter : (p : X → Bool) (xs : List X) (x : X) → Contains xs x → p x ≡ true → Contains (filter p xs) x
  Contains-filter p [] x h k = h
  Contains-filter p (y ∷ ys) x h k = by_test (λ g. Contains-filter p ys x g k) (p y) refl
    where
      by_test : (Contains ys x → Contains (filter p ys) x) → (b : Bool) → p y ≡ b → Contains (cond b (y ∷ filter p ys) (filter p ys)) x
      by_test later true e = ⊎_elim (λ same. subst (λ z. Contains (y ∷ filter p ys) z) same (Contains-here y (filter p ys))) (λ g. Contains-there y x (filter p ys) (later g)) (Contains-cons_cases y x ys h)
      by_test later false e = ⊎_elim (λ same. absurd (true≢false (sym k ∙ (ap p (sym same) ∙ e)))) later (Contains-cons_cases y x ys h)

  pub Contains-filtered : (p : X → Bool) (xs : List X) (x : X) → Contains (filter p xs) x → Contains xs x × (p x ≡ true)
  Contains-filtered p xs x h = (within xs h, All-contains (λ y. p y ≡ true) (filter p xs) x (filter_passes p xs) h)
    where
      within : (ys : List X) → Contains (filter p ys) x → Contains ys x
      within [] g = g
      within (y ∷ ys) g = by_test (within ys) (p y) g
        where
          by_test : (Contains (filter p ys) x → Contains ys x) → (b : Bool) → Contains (cond b (y ∷ filter p ys) (filter p ys)) x → Contains (y ∷ ys) x
          by_test rest true k = ⊎_elim (λ same. subst (λ z. Contains (y ∷ ys) z) same (Contains-here y ys)) (λ later. Contains-there y x ys (rest later)) (Contains-cons_cases y x (filter p ys) k)
          by_test rest false k = Contains-there y x ys (rest k)

  -- an element stands before an index or behind it
  pub Contains-cut : (n : ℕ) (xs : List X) (x : X) → Contains xs x → Contains (take n xs) x ⊎ Contains (drop n xs) x
  Contains-cut n xs x h = Contains-append_cases (take n xs) (drop n xs) x (subst (λ ys. Contains ys x) (sym (take-append-drop n xs)) h)

  pub Contains-take : (n : ℕ) (xs : List X) (x : X) → Contains (take n xs) x → Contains xs x
  Contains-take n xs x h = subst (λ ys. Contains ys x) (take-append-drop n xs) (Contains-append_left (take n xs) (drop n xs) x h)

  pub Contains-drop : (n : ℕ) (xs : List X) (x : X) → Contains (drop n xs) x → Contains xs x
  Contains-drop n xs x h = subst (λ ys. Contains ys x) (take-append-drop n xs) (Contains-append_right (take n xs) (drop n xs) x h)

  -- what holds of all elements, where the proof names the element
  pub All-from_each : (P : X → Type 0) (xs : List X) → ((x : X) → Contains xs x → P x) → All P xs
  All-from_each P [] h = All-nil P
  All-from_each P (x ∷ xs) h = All-cons P x xs (h x (Contains-here x xs)) (All-from_each P xs (λ y k. h y (Contains-there x y xs k)))

module _ {X : Type 0} (R : X → X → Type 0) where
  pub AllPairs-nil : AllPairs R []
  AllPairs-nil i j d below within = absurd (omega arith)

  pub AllPairs-front : (xs ys : List X) → AllPairs R (xs ++ ys) → AllPairs R xs
  AllPairs-front [] ys h = AllPairs-nil
  AllPairs-front (x ∷ xs) ys h =
      AllPairs-cons R x xs (All-from_each (R x) xs (λ y k. All-contains (R x) (xs ++ ys) y (AllPairs-head R x (xs ++ ys) h) (Contains-append_left xs ys y k)))
      (AllPairs-front xs ys (AllPairs-tail R x (xs ++ ys) h))

  pub AllPairs-back : (xs ys : List X) → AllPairs R (xs ++ ys) → AllPairs R ys
  AllPairs-back [] ys h = h
  AllPairs-back (x ∷ xs) ys h = AllPairs-back xs ys (AllPairs-tail R x (xs ++ ys) h)

  -- each element of the front is below each of the back
  pub AllPairs-across : (xs ys : List X) → AllPairs R (xs ++ ys) → (x y : X) → Contains xs x → Contains ys y → R x y
  AllPairs-across [] ys h x y k l = absurd (Contains-nil x k)
  AllPairs-across (z ∷ xs) ys h x y k l =
      ⊎_elim
      (λ same. subst (λ w. R w y) same (All-contains (R z) (xs ++ ys) y (AllPairs-head R z (xs ++ ys) h) (Contains-append_right xs ys y l)))
      (λ later. AllPairs-across xs ys (AllPairs-tail R z (xs ++ ys) h) x y later l)
      (Contains-cons_cases z x xs k)

  -- pairs of elements of which something holds
  pub AllPairs-weaker : (S : X → X → Type 0) (P : X → Type 0) → ((x y : X) → P x → P y → R x y → S x y) → (xs : List X) → All P xs → AllPairs R xs → AllPairs S xs
  AllPairs-weaker S P f [] h k = λ i j d below within. absurd (omega arith)
  AllPairs-weaker S P f (x ∷ xs) h k =
      AllPairs-cons S x xs
      (All-from_each (S x) xs (λ y l. f x y (All-head P x xs h) (All-contains P xs y (All-tail P x xs h) l) (All-contains (R x) xs y (AllPairs-head R x xs k) l)))
      (AllPairs-weaker S P f xs (All-tail P x xs h) (AllPairs-tail R x xs k))

-- rising elements that all stand in another rising list are no more than it has
pub no_longer : {X : Type 0} (R : X → X → Type 0) → ((x y : X) → R x y → x ≡ y → ⊥) → ((x y : X) → R x y → R y x → ⊥) → (xs ys : List X) → AllPairs R xs → AllPairs R ys → ((x : X) → Contains xs x → Contains ys x) → length xs ≤ length ys
no_longer R apart one_way [] ys h k within = omega arith
no_longer R apart one_way (x ∷ xs) [] h k within = absurd (Contains-nil x (within x (Contains-here x xs)))
no_longer {X} R apart one_way (x ∷ xs) (y ∷ ys) h k within =
    by_first (λ g. no_longer R apart one_way xs ys (AllPairs-tail R x xs h) (AllPairs-tail R y ys k) g) (λ g. no_longer R apart one_way (x ∷ xs) ys h (AllPairs-tail R y ys k) g)
    (Contains-cons_cases y x ys (within x (Contains-here x xs)))
  where
    by_first : (((z : X) → Contains xs z → Contains ys z) → length xs ≤ length ys) → (((z : X) → Contains (x ∷ xs) z → Contains ys z) → length (x ∷ xs) ≤ length ys) → (y ≡ x) ⊎ Contains ys x → length (x ∷ xs) ≤ length (y ∷ ys)
    by_first tails all (inl same) =
        let rest : length xs ≤ length ys = tails
        (λ z l. ⊎_elim (λ first. absurd (apart x z (All-contains (R x) xs z (AllPairs-head R x xs h) l) (sym same ∙ first))) (λ later. later) (Contains-cons_cases y z ys (within z (Contains-there x z xs l)))) in
        omega (arith, rest)
    by_first tails all (inr later) =
        let above : (z : X) → Contains (x ∷ xs) z → Contains ys z = λ z l.
        ⊎_elim
        (λ first. ⊎_elim
        (λ own. absurd (apart y x (All-contains (R y) ys x (AllPairs-head R y ys k) later) (first ∙ sym own)))
        (λ further. absurd (one_way y x (All-contains (R y) ys x (AllPairs-head R y ys k) later) (subst (R x) (sym first) (All-contains (R x) xs z (AllPairs-head R x xs h) further))))
        (Contains-cons_cases x z xs l))
        (λ there. there)
        (Contains-cons_cases y z ys (within z l)) in
        let rest : length (x ∷ xs) ≤ length ys = all above in
        omega (arith, rest)

-- two rising lists with the same elements are one list
pub same_rising : {X : Type 0} (R : X → X → Type 0) → ((x y : X) → R x y → x ≡ y → ⊥) → ((x y : X) → R x y → R y x → ⊥) → (xs ys : List X) → AllPairs R xs → AllPairs R ys
    → ((x : X) → Contains xs x → Contains ys x) → ((x : X) → Contains ys x → Contains xs x) → xs ≡ ys
same_rising R apart one_way [] [] h k there back = refl
same_rising R apart one_way [] (y ∷ ys) h k there back = absurd (Contains-nil y (back y (Contains-here y ys)))
same_rising R apart one_way (x ∷ xs) [] h k there back = absurd (Contains-nil x (there x (Contains-here x xs)))
same_rising {X} R apart one_way (x ∷ xs) (y ∷ ys) h k there back = ap (λ z. z ∷ xs) first ∙ ap (λ zs. y ∷ zs) (same_rising R apart one_way xs ys (AllPairs-tail R x xs h) (AllPairs-tail R y ys k) onwards backwards)
  where
    first : x ≡ y
    first = ⊎_elim
        (λ same. sym same)
        (λ later. ⊎_elim
        (λ same. same)
        (λ other. absurd (one_way x y (All-contains (R x) xs y (AllPairs-head R x xs h) other) (All-contains (R y) ys x (AllPairs-head R y ys k) later)))
        (Contains-cons_cases x y xs (back y (Contains-here y ys))))
        (Contains-cons_cases y x ys (there x (Contains-here x xs)))

    onwards : (z : X) → Contains xs z → Contains ys z
    onwards z l = ⊎_elim (λ same. absurd (apart x z (All-contains (R x) xs z (AllPairs-head R x xs h) l) (first ∙ same))) (λ later. later) (Contains-cons_cases y z ys (there z (Contains-there x z xs l)))

    backwards : (z : X) → Contains ys z → Contains xs z
    backwards z l = ⊎_elim (λ same. absurd (apart y z (All-contains (R y) ys z (AllPairs-head R y ys k) l) (sym first ∙ same))) (λ later. later) (Contains-cons_cases x z xs (back z (Contains-there y z ys l)))
