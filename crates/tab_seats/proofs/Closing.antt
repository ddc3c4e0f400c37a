-- Seats and passes that an office takes in as it closes: what each knows is known in the end, and their calls and permits add up.
use Rattle.std.proofs.Common.{◌≡◌, ℕ, zero, suc, ◌+◌, ◌≤◌, List, [], ◌∷◌, ◌++◌, length, max, refl, ap, arith}
use Rattle.std.specs.List.{sum_by, All}
use Rattle.std.proofs.lemmas.List.Sums.{sum_by_push}
use Rattle.tab_seats.specs.Logs.{next_number}
use Rattle.tab_seats.specs.Views.{after_meet}
use Rattle.tab_seats.specs.Offices.{OfficeId, MemberView}
use Rattle.tab_seats.proofs.LogLemmas.{length_with_rights}
use Rattle.tab_seats.proofs.Counts.{next_number-with_strokes}

-- the greatest number that f gives of an element, or 0
abbrev pub most : {A : Type 0} → (A → ℕ) → List A → ℕ
most f [] = 0
most f (x ∷ xs) = max (f x) (most f xs)

module _ {A : Type 0} (f : A → ℕ) where
  pub most_push : (xs : List A) (x : A) → most f (xs ++ x ∷ []) ≡ max (most f xs) (f x)
  most_push [] x = omega arith
  most_push (y ∷ xs) x = let h = most_push xs x in omega arith

  pub All-most : (xs : List A) (n : ℕ) → most f xs ≤ n → All (λ x. f x ≤ n) xs
  All-most [] n h k d less = absurd (omega arith)
  All-most (x ∷ xs) n h zero d less = omega arith
  All-most (x ∷ xs) n h (suc k) d less = All-most xs n (omega arith) k d (omega arith)

  pub most_none : (xs : List A) → length xs ≡ 0 → most f xs ≡ 0
  most_none [] e = refl
  most_none (x ∷ xs) e = absurd (omega arith)

  pub sum_none : (xs : List A) → length xs ≡ 0 → sum_by f xs ≡ 0
  sum_none [] e = refl
  sum_none (x ∷ xs) e = absurd (omega arith)

module _ {C O : Type 0} where
  abbrev pub known_of : MemberView C O → ℕ
  known_of m = next_number m.view.log

  abbrev pub calls_of : MemberView C O → ℕ
  calls_of m = length m.view.rights

  abbrev pub permits_of : MemberView C O → ℕ
  permits_of m = m.view.permits

  -- one is taken from the end of the list, and met
  pub record OneTaken (before after : MemberView C O) (all rest : List (MemberView C O)) : Type 0 where
    pub known : max (known_of before) (most known_of all) ≡ max (known_of after) (most known_of rest)
    pub grows : known_of before ≤ known_of after
    pub calls : calls_of before + sum_by calls_of all ≡ calls_of after + sum_by calls_of rest
    pub permits : permits_of before + sum_by permits_of all ≡ permits_of after + sum_by permits_of rest

  pub one_taken : (before one after : MemberView C O) (o : OfficeId O) (all rest : List (MemberView C O)) → all ≡ rest ++ one ∷ [] → after ≡ record { office = o; view = after_meet before.view one.view } → OneTaken before after all rest
  one_taken before one after o all rest e met =
      let known : known_of after ≡ next_number (after_meet before.view one.view).log = ap known_of met in
      let calls : calls_of after ≡ length (after_meet before.view one.view).rights = ap calls_of met in
      let permits : permits_of after ≡ before.view.permits + one.view.permits = ap permits_of met in
      let both = next_number-with_strokes before.view.log one.view.log in
      record {
        known = (let a : most known_of all ≡ most known_of (rest ++ one ∷ []) = ap (most known_of) e in let b = most_push known_of rest one in omega arith);
        grows = omega arith;
        calls = (let a : sum_by calls_of all ≡ sum_by calls_of (rest ++ one ∷ []) = ap (sum_by calls_of) e in let b = sum_by_push calls_of rest one in let l = length_with_rights before.view.rights one.view.rights in omega arith);
        permits = (let a : sum_by permits_of all ≡ sum_by permits_of (rest ++ one ∷ []) = ap (sum_by permits_of) e in let b = sum_by_push permits_of rest one in omega arith);
      }
