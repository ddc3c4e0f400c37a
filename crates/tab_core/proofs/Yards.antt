-- A yard of which the last two disks are taken and put back.
use Rattle.std.proofs.Common.{◌≡◌, ℕ, zero, suc, ◌+◌, ◌-◌, ◌*◌, ◌/◌, ◌<◌, ◌≤◌, List, [], ◌∷◌, ◌++◌, length, get_or, sym, ◌∙◌, ap, subst, arith, inl, inr, Option, Some, None, Result, Ok, Err, OnOk, append_assoc, length-append}
use Rattle.std.specs.Prelude.{◌⊎◌}
use Rattle.std.specs.List.{AllZip}
use Rattle.std.specs.Option.{option_to_list}
use Rattle.std.proofs.lemmas.List.{get_or_append_left, get_or-append-add}
use Rattle.tab_outside.specs.Disks.{Watch}
use Rattle.tab_outside.specs.Faults.{Rose}
use Rattle.tab_core.specs.Making.{RoseAt, IsMade, AreMade}
use Rattle.tab_core.proofs.Pairs.{some_is, made_more, made_none}
use Rattle.tab_core.proofs.Zips.{zip_append}

-- two items were taken from the end
pub popped : {A : Type 0} (xs mid rest : List A) (p q : Option A) (b a : A) → xs ≡ mid ++ option_to_list p → p ≡ Some b → mid ≡ rest ++ option_to_list q → q ≡ Some a → xs ≡ rest ++ a ∷ b ∷ []
popped xs mid rest None q b a is p mid_is r = absurd (cc)
popped xs mid rest (Some y) None b a is p mid_is r = absurd (cc)
popped {A = A} xs mid rest (Some y) (Some x) b a is p mid_is r =
    is ∙ ap (λ (m : List A). m ++ y ∷ []) mid_is ∙ append_assoc rest (x ∷ []) (y ∷ [])
    ∙ ap (λ (z : A). rest ++ z ∷ y ∷ []) (sym (some_is x a r)) ∙ ap (λ (z : A). rest ++ a ∷ z ∷ []) (sym (some_is y b p))

pub zip_two : {A : Type 0} (R : A → A → Type 0) (xs ys rest others : List A) (a b c d : A) → xs ≡ rest ++ a ∷ b ∷ [] → ys ≡ others ++ c ∷ d ∷ [] → AllZip R rest others → R a c → R b d → AllZip R xs ys
zip_two {A = A} R xs ys rest others a b c d is are zip first second =
    subst (λ (l : List A). AllZip R l ys) (sym is)
    (subst (λ (l : List A). AllZip R (rest ++ a ∷ b ∷ []) l) (sym are) (zip_append R rest others (a ∷ b ∷ []) (c ∷ d ∷ []) zip (first, (second, tt))))

rose_before : {D : Type 0} (faults : D → ℕ) (old new more others : List D) (disk : ℕ) → length old ≡ length new → RoseAt faults old new disk → RoseAt faults (old ++ more) (new ++ others) disk
rose_before faults old new more others disk same rose = record {
  within = let long = length-append old more in let inside = rose.within in omega (arith, long, inside);
  rose = λ d e.
      subst (λ (x : _). Rose (faults x) (faults (get_or (new ++ others) disk e))) (sym (get_or_append_left old more d disk rose.within))
      (subst (λ (y : _). Rose (faults (get_or old disk d)) (faults y)) (sym (get_or_append_left new others e disk (let inside = rose.within in omega (arith, same, inside)))) (rose.rose d e));
}

-- a disk below those two rose
pub rose_below : {D : Type 0} (faults : D → ℕ) (xs ys rest others : List D) (a b c d : D) (disk : ℕ) → xs ≡ rest ++ a ∷ b ∷ [] → ys ≡ others ++ c ∷ d ∷ [] → length rest ≡ length others
    → RoseAt faults rest others disk → RoseAt faults xs ys disk
rose_below {D = D} faults xs ys rest others a b c d disk is are same rose =
    subst (λ (l : List D). RoseAt faults l ys disk) (sym is)
    (subst (λ (l : List D). RoseAt faults (rest ++ a ∷ b ∷ []) l disk) (sym are) (rose_before faults rest others (a ∷ b ∷ []) (c ∷ d ∷ []) disk same rose))

rose_behind : {D : Type 0} (faults : D → ℕ) (rest more others : List D) (area : ℕ) → area < length more → ((d e : D) → Rose (faults (get_or more area d)) (faults (get_or others area e)))
    → RoseAt faults (rest ++ more) (rest ++ others) (length rest + area)
rose_behind faults rest more others area inside rose = record {
  within = let long = length-append rest more in omega (arith, long, inside);
  rose = λ d e.
      subst (λ (x : _). Rose (faults x) (faults (get_or (rest ++ others) (length rest + area) e))) (sym (get_or-append-add rest more area d))
      (subst (λ (y : _). Rose (faults (get_or more area d)) (faults y)) (sym (get_or-append-add rest others area e)) (rose d e));
}

rose_of : {D : Type 0} (faults : D → ℕ) (rest : List D) (a b c d : D) (area : ℕ) → ((area ≡ 0) × Rose (faults a) (faults c)) ⊎ ((area ≡ 1) × Rose (faults b) (faults d))
    → RoseAt faults (rest ++ a ∷ b ∷ []) (rest ++ c ∷ d ∷ []) (length rest + area)
rose_of faults rest a b c d zero (inl first) = rose_behind faults rest (a ∷ b ∷ []) (c ∷ d ∷ []) 0 (omega arith) (λ x y. first.1)
rose_of faults rest a b c d (suc area) (inl first) = absurd (let is = first.0 in omega (arith, is))
rose_of faults rest a b c d zero (inr second) = absurd (let is = second.0 in omega (arith, is))
rose_of faults rest a b c d (suc zero) (inr second) = rose_behind faults rest (a ∷ b ∷ []) (c ∷ d ∷ []) 1 (omega arith) (λ x y. second.1)
rose_of faults rest a b c d (suc (suc area)) (inr second) = absurd (let is = second.0 in omega (arith, is))

-- one of the two rose
pub rose_last : {D : Type 0} (faults : D → ℕ) (xs ys rest : List D) (a b c d : D) (area first disk : ℕ) → xs ≡ rest ++ a ∷ b ∷ [] → ys ≡ rest ++ c ∷ d ∷ [] → first ≡ length rest → disk ≡ first + area
    → ((area ≡ 0) × Rose (faults a) (faults c)) ⊎ ((area ≡ 1) × Rose (faults b) (faults d)) → RoseAt faults xs ys disk
rose_last {D = D} faults xs ys rest a b c d area first disk is are from place rose =
    subst (λ (l : List D). RoseAt faults l ys disk) (sym is)
    (subst (λ (l : List D). RoseAt faults (rest ++ a ∷ b ∷ []) l disk) (sym are)
    (subst (λ (n : ℕ). RoseAt faults (rest ++ a ∷ b ∷ []) (rest ++ c ∷ d ∷ []) n) (sym (place ∙ ap (λ (n : ℕ). n + area) from)) (rose_of faults rest a b c d area rose)))

-- the two were made, and those below them
pub made_two : {D T E : Type 0} (w : Watch D) (result : Result T E) (ys rest : List D) (a b : D) (store count : ℕ) → ys ≡ rest ++ a ∷ b ∷ [] → length rest ≡ 2 * count → store ≡ count
    → OnOk result (AreMade w rest) → IsMade w store a b → OnOk result (AreMade w ys)
made_two {D = D} w (Ok x) ys rest a b store count are long same made here =
    subst (λ (l : List D). AreMade w l) (sym are) (made_more w rest a b count long made (subst (λ (k : ℕ). IsMade w k a b) same here))
made_two w (Err e) ys rest a b store count are long same made here = tt

pub made_short : {D : Type 0} (w : Watch D) (xs : List D) (count : ℕ) → length xs ≡ 2 * count → length xs < 2 → AreMade w xs
made_short w [] count even few = made_none w
made_short w (x ∷ []) count even few = absurd (omega (arith, even))
made_short w (x ∷ y ∷ xs) count even few = absurd (omega (arith, few))

below_two : (n : ℕ) → (2 ≤ n → ⊥) → n < 2
below_two zero none = omega arith
below_two (suc zero) none = omega arith
below_two (suc (suc n)) none = absurd (none (omega arith))

pub short_is : (n m k : ℕ) → n ≡ m → m ≡ k → (2 ≤ n → ⊥) → k < 2
short_is n m k same size none = let few = below_two n none in omega (arith, same, size, few)

half : (k : ℕ) → 2 * k / 2 ≡ k
half k = omega arith

-- the number of the store whose first disk stands at a place
pub half_is : (first n count : ℕ) → first + 2 ≡ n → n ≡ 2 * count → (first ≡ 2 * (count - 1)) × (first / 2 ≡ count - 1)
half_is first n count all even =
    let twice : first ≡ 2 * (count - 1) = omega (arith, all, even) in
    (twice, ap (λ (m : ℕ). m / 2) twice ∙ half (count - 1))
