-- The stores of a yard, two disks each.
use Rattle.std.proofs.Common.{◌≡◌, ℕ, zero, suc, ◌*◌, List, [], ◌∷◌, ◌++◌, length, refl, sym, subst, arith, inl, inr, Option, Some, unwrap_or, ap}
use Rattle.std.specs.Prelude.{◌⊎◌, slice_get}
use Rattle.tab_outside.specs.Disks.{Watch}
use Rattle.tab_core.specs.Points.{pairs_of}
use Rattle.tab_core.specs.Making.{IsMade, AreMade}

pub some_is : {A : Type 0} (x y : A) → Some x ≡ Some y → y ≡ x
some_is x y same = sym (ap (λ (it : Option _). unwrap_or it x) same)

raised : {D : Type 0} (disks : List D) (a b : D) (count store : ℕ) (pair : D × D) → (slice_get (pairs_of disks) store ≡ Some pair) ⊎ ((store ≡ count) × (pair ≡ (a, b)))
    → (slice_get (pairs_of disks) store ≡ Some pair) ⊎ ((suc store ≡ suc count) × (pair ≡ (a, b)))
raised disks a b count store pair (inl was) = inl was
raised disks a b count store pair (inr new) = inr (ap suc new.0, new.1)

-- a store of a yard with two disks more is one that was there, or that of the two
pub one_more : {D : Type 0} (disks : List D) (a b : D) (count store : ℕ) (pair : D × D) → length disks ≡ 2 * count → slice_get (pairs_of (disks ++ a ∷ b ∷ [])) store ≡ Some pair
    → (slice_get (pairs_of disks) store ≡ Some pair) ⊎ ((store ≡ count) × (pair ≡ (a, b)))
unfolding pairs_of
one_more [] a b zero zero pair even is = inr (refl, some_is (a, b) pair is)
one_more [] a b zero (suc store) pair even is = inl is
one_more [] a b (suc count) store pair even is = absurd (omega (arith, even))
one_more (x ∷ []) a b count store pair even is = absurd (omega (arith, even))
one_more (x ∷ y ∷ disks) a b zero store pair even is = absurd (omega (arith, even))
one_more (x ∷ y ∷ disks) a b (suc count) zero pair even is = inl is
one_more (x ∷ y ∷ disks) a b (suc count) (suc store) pair even is = raised disks a b count store pair (one_more disks a b count store pair (omega (arith, even)) is)

made_here : {D : Type 0} (w : Watch D) (disks : List D) (a b : D) (count store : ℕ) (pair : D × D) → AreMade w disks → IsMade w count a b
    → (slice_get (pairs_of disks) store ≡ Some pair) ⊎ ((store ≡ count) × (pair ≡ (a, b))) → IsMade w store pair.0 pair.1
made_here w disks a b count store pair made here (inl was) = made store pair was
made_here {D = D} w disks a b count store pair made here (inr new) =
    subst (λ (k : ℕ). IsMade w k pair.0 pair.1) (sym new.0) (subst (λ (p : D × D). IsMade w count p.0 p.1) (sym new.1) here)

-- two disks more were made
pub made_more : {D : Type 0} (w : Watch D) (disks : List D) (a b : D) (count : ℕ) → length disks ≡ 2 * count → AreMade w disks → IsMade w count a b → AreMade w (disks ++ a ∷ b ∷ [])
made_more w disks a b count even made here store pair is = made_here w disks a b count store pair made here (one_more disks a b count store pair even is)

pub made_none : {D : Type 0} (w : Watch D) → AreMade {D = D} w []
unfolding pairs_of
made_none w store pair is = absurd (cc)
