-- What the images of a crash on two disks that are read together spell, now and since earlier moments. What bytes spell is
-- any relation, from values to the bytes of the one disk and of the other.
use Rattle.std.specs.Prelude.{ℕ, ◌≤◌, ◌⊎◌, List}
use Rattle.tab_outside.specs.Disks.{Watch}

-- bytes of two disks spell a value of which P holds
pub record Tells {S : Type 0} (spells : S → List ℕ → List ℕ → Type 0) (P : S → Type 0) (c d : List ℕ) : Type 0 where
  pub value : S
  pub spelled : spells value c d
  pub holds : P value

-- each image of the one disk now, with each of the other
abbrev pub Now : {D S : Type 0} → Watch D → (S → List ℕ → List ℕ → Type 0) → (S → Type 0) → D → D → Type 0
Now w spells P a b = (c d : List ℕ) → w.may_leave a c → w.may_leave b d → Tells spells P c d

-- each image of the one disk since the moment ta, with each of the other since tb
abbrev pub Since : {D S : Type 0} → Watch D → (S → List ℕ → List ℕ → Type 0) → (S → Type 0) → ℕ → ℕ → D → D → Type 0
Since w spells P ta tb a b = (c d : List ℕ) → w.left_since a ta c → w.left_since b tb d → Tells spells P c d

-- a pair of images that there was before: what it spells the pair c, d spells too, or a value of which P holds
pub record Was {D S : Type 0} (w : Watch D) (spells : S → List ℕ → List ℕ → Type 0) (P : S → Type 0) (ta tb : ℕ) (a b : D) (c d : List ℕ) : Type 0 where
  pub c_before : List ℕ
  pub d_before : List ℕ
  pub c_was : w.left_since a ta c_before
  pub d_was : w.left_since b tb d_before
  pub as_before : (value : S) → spells value c_before d_before → spells value c d ⊎ Tells spells P c d

-- the images of a call: since whatever earlier moments, each pair spells what some pair since then spelled before the call,
-- or a value of which P holds
pub record Extends {D S : Type 0} (w : Watch D) (spells : S → List ℕ → List ℕ → Type 0) (P : S → Type 0) (a b a_new b_new : D) : Type 0 where
  pub later_a : w.moment a ≤ w.moment a_new
  pub later_b : w.moment b ≤ w.moment b_new
  pub each : (ta tb : ℕ) → ta ≤ w.moment a → tb ≤ w.moment b → (c d : List ℕ) → w.left_since a_new ta c → w.left_since b_new tb d → Was w spells P ta tb a b c d

-- no image is added to one disk
pub record AddsNone {D : Type 0} (w : Watch D) (old new : D) : Type 0 where
  pub later : w.moment old ≤ w.moment new
  pub each : (t : ℕ) → t ≤ w.moment old → (c : List ℕ) → w.left_since new t c → w.left_since old t c
