-- What an append does to the pairs of images of both areas.
use Rattle.std.proofs.Common.{◌≡◌, ℕ, ◌<◌, ◌≤◌, ◌^◌, Bool, true, false, cond, List, refl, sym, subst, inl, inr}
use Rattle.std.specs.Prelude.{◌⊎◌}
use Rattle.tab_outside.specs.Disks.{Watch, CountsNow}
use Rattle.tab_outside.specs.Pairs.{Tells, Was, Extends, AddsNone}
use Rattle.tab_codec.specs.declared.frames.Frame.{Frame}
use Rattle.tab_journal.specs.Areas.{IsOpen, IsUnder, Spells}
use Rattle.tab_journal.specs.Steps.{Adds}
use Rattle.tab_journal.proofs.Fronts.{ReadsBack, one_epoch, one_list, older_epoch, not_closed, has_header}

module _ (reads : ReadsBack) (kind number : ℕ) where
  -- an area that does not count beside another still does not when it is open with other frames in the same epoch
  under_too : (epoch over : ℕ) (list gs : List Frame) (before c : List ℕ) → over < 2 ^ 64 → IsOpen kind number epoch list before → IsOpen kind number epoch gs c
      → IsUnder kind number over before → IsUnder kind number over c
  under_too epoch over list gs before c within was now (inl closed) = absurd (not_closed kind number epoch list before was closed)
  under_too epoch over list gs before c within was now (inr older) =
      let head = has_header kind number epoch gs c now in
      let lower : epoch < over = subst (λ (e : ℕ). e < over) (older_epoch kind number epoch over list before within was older) older.lower in
      inr (record { older = epoch; lower = lower; rest = head.0; is = head.1 })

  -- what a pair spelled, spelled with a new image of the area that was written, or the new frames are
  spells_on : (epoch : ℕ) (list gs fs : List Frame) (before c d : List ℕ) → IsOpen kind number epoch list before → IsOpen kind number epoch gs c
      → Spells kind number fs before d → Spells kind number fs c d ⊎ Spells kind number gs c d
  spells_on epoch list gs fs before c d was now (inl keeps) =
      let same = one_epoch kind number keeps.epoch epoch fs list before keeps.current_is was in
      inr (inl (record { epoch = epoch; current_is = now; other_is = subst (λ (e : ℕ). IsUnder kind number e d) same keeps.other_is }))
  spells_on epoch list gs fs before c d was now (inr keeps) =
      inl (inr (record { epoch = keeps.epoch; current_is = keeps.current_is; other_is = under_too epoch keeps.epoch list gs before c keeps.current_is.within was now keeps.other_is }))

  -- and where the new image has the same frames, it spells what the old one did
  spells_still : (epoch : ℕ) (list fs : List Frame) (before c d : List ℕ) → IsOpen kind number epoch list before → IsOpen kind number epoch list c
      → Spells kind number fs before d → Spells kind number fs c d
  spells_still epoch list fs before c d was now (inl keeps) =
      let same = one_epoch kind number keeps.epoch epoch fs list before keeps.current_is was in
      let one = one_list reads kind number keeps.epoch epoch fs list before keeps.current_is was in
      inl (record {
        epoch = epoch;
        current_is = subst (λ (gs : List Frame). IsOpen kind number epoch gs c) (sym one) now;
        other_is = subst (λ (e : ℕ). IsUnder kind number e d) same keeps.other_is;
      })
  spells_still epoch list fs before c d was now (inr keeps) =
      inr (record { epoch = keeps.epoch; current_is = keeps.current_is; other_is = under_too epoch keeps.epoch list list before c keeps.current_is.within was now keeps.other_is })

  pub swap_pair : (fs : List Frame) (c d : List ℕ) → Spells kind number fs c d → Spells kind number fs d c
  swap_pair fs c d (inl keeps) = inr keeps
  swap_pair fs c d (inr keeps) = inl keeps

  module _ {D : Type 0} (w : Watch D) where
    told_new : (gs fs : List Frame) (c d : List ℕ) → Spells kind number fs c d ⊎ Spells kind number gs c d → Spells kind number fs c d ⊎ Tells (Spells kind number) (λ others. others ≡ gs) c d
    told_new gs fs c d (inl same) = inl same
    told_new gs fs c d (inr new) = inr (record { value = gs; spelled = new; holds = refl })

    -- a pair with an image of the area that was written
    pair_was : (epoch : ℕ) (list gs : List Frame) (a b : D) (ta tb : ℕ) (c d image : List ℕ) → CountsNow w → ta ≤ w.moment a → w.may_leave a image → IsOpen kind number epoch list image
        → w.left_since b tb d → w.left_since a ta c ⊎ (IsOpen kind number epoch list c ⊎ IsOpen kind number epoch gs c)
        → Was w (Spells kind number) (λ others. others ≡ gs) ta tb a b c d
    pair_was epoch list gs a b ta tb c d image counts earlier now is d_was (inl old) =
        record { c_before = c; d_before = d; c_was = old; d_was = d_was; as_before = λ fs spelled. inl spelled }
    pair_was epoch list gs a b ta tb c d image counts earlier now is d_was (inr (inl same)) = record {
      c_before = image;
      d_before = d;
      c_was = counts a ta image earlier now;
      d_was = d_was;
      as_before = λ fs spelled. inl (spells_still epoch list fs image c d is same spelled);
    }
    pair_was epoch list gs a b ta tb c d image counts earlier now is d_was (inr (inr new)) = record {
      c_before = image;
      d_before = d;
      c_was = counts a ta image earlier now;
      d_was = d_was;
      as_before = λ fs spelled. told_new gs fs c d (spells_on epoch list gs fs image c d is new spelled);
    }

    -- one area was written, and the other was left alone
    pub extends_current : (epoch : ℕ) (list gs : List Frame) (a a_new b b_new : D) (image : List ℕ) → CountsNow w → w.may_leave a image → IsOpen kind number epoch list image
        → Adds w (λ c. IsOpen kind number epoch list c ⊎ IsOpen kind number epoch gs c) a a_new → AddsNone w b b_new
        → Extends w (Spells kind number) (λ others. others ≡ gs) a b a_new b_new
    extends_current epoch list gs a a_new b b_new image counts now is adds none = record {
      later_a = adds.later;
      later_b = none.later;
      each = λ ta tb in_a in_b c d c_left d_left. pair_was epoch list gs a b ta tb c d image counts in_a now is (none.each tb in_b d d_left) (adds.each ta in_a c c_left);
    }

    swapped : (P : List Frame → Type 0) (fs : List Frame) (c d : List ℕ) → Spells kind number fs c d ⊎ Tells (Spells kind number) P c d → Spells kind number fs d c ⊎ Tells (Spells kind number) P d c
    swapped P fs c d (inl same) = inl (swap_pair fs c d same)
    swapped P fs c d (inr tells) = inr (record { value = tells.value; spelled = swap_pair tells.value c d tells.spelled; holds = tells.holds })

    pub extends_swapped : (P : List Frame → Type 0) (a b a_new b_new : D) → Extends w (Spells kind number) P a b a_new b_new → Extends w (Spells kind number) P b a b_new a_new
    extends_swapped P a b a_new b_new extends = record {
      later_a = extends.later_b;
      later_b = extends.later_a;
      each = λ tb ta in_b in_a d c d_left c_left.
          let pair = extends.each ta tb in_a in_b c d c_left d_left in
          record {
            c_before = pair.d_before;
            d_before = pair.c_before;
            c_was = pair.d_was;
            d_was = pair.c_was;
            as_before = λ fs spelled. swapped P fs c d (pair.as_before fs (swap_pair fs pair.d_before pair.c_before spelled));
          };
    }

    -- the same of areas 0 and 1, whichever of them is the current one
    pub extends_in_order : (P : List Frame → Type 0) (second : Bool) (a b a_new b_new : D) → Extends w (Spells kind number) P a b a_new b_new
        → Extends w (Spells kind number) P (cond second b a) (cond second a b) (cond second b_new a_new) (cond second a_new b_new)
    extends_in_order P false a b a_new b_new extends = extends
    extends_in_order P true a b a_new b_new extends = extends_swapped P a b a_new b_new extends
