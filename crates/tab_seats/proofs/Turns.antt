-- A step that changes one view, cuts one in two or makes one of two keeps the rule where the views that it makes fit,
-- and have no more keys, rights and permits than those that it took.
use Rattle.std.proofs.Common.{◌≡◌, ℕ, ◌+◌, ◌≤◌, ◌≢◌, List, [], ◌∷◌, ◌++◌, set, ⊎_elim, arith}
use mathlib.Core.Option.{some}
use lib.ListN.{get_elem?}
use Rattle.atomic_table.proofs.Lists.{at_set}
use Rattle.tab_keys.specs.declared.keys.Key.{Key}
use Rattle.tab_seats.specs.declared.views.View.{View}
use Rattle.tab_seats.specs.Lists.{times}
use Rattle.tab_seats.specs.Views.{covers}
use Rattle.tab_seats.specs.Rule.{Fits, SeatRule}
use Rattle.tab_seats.proofs.Sums.{sum_by-set, sum_by-parted, sum_by-joined, all_set, all_snoc}

module _ {C : Type 0} (key : C → Key) (bound : ℕ) where
  -- l and r have no more than v
  pub record Shared (v l r : View C) : Type 0 where
    pub keys : (k : Key) → covers k l.span + covers k r.span ≤ covers k v.span
    pub rights : (n : ℕ) → times n l.rights + times n r.rights ≤ times n v.rights
    pub permits : l.permits + r.permits ≤ v.permits

  -- b and s have no more than v and w
  pub record Merged (v w b s : View C) : Type 0 where
    pub keys : (k : Key) → covers k b.span + covers k s.span ≤ covers k v.span + covers k w.span
    pub rights : (n : ℕ) → times n b.rights + times n s.rights ≤ times n v.rights + times n w.rights
    pub permits : b.permits + s.permits ≤ v.permits + w.permits

  pub changes : (words : List ℕ) (views : List (View C)) (id : ℕ) (v w : View C) → ((k : Key) → covers k w.span ≤ covers k v.span) → ((n : ℕ) → times n w.rights ≤ times n v.rights) → w.permits ≤ v.permits
      → (kept : SeatRule key bound words views) → get_elem? views id ≡ some v → (Fits key kept.all v → Fits key kept.all w) → SeatRule key bound words (set views id w)
  changes words views id v w keys rights permits kept at fit = record {
    all = kept.all;
    word = kept.word;
    fits = all_set (Fits key kept.all) views id w (fit (kept.fits id v at)) (λ j u n e. kept.fits j u e);
    apart = (λ k. let t = sum_by-set (λ (u : View C). covers k u.span) views id v w at in let h = kept.apart k in let m = keys k in omega arith);
    single = (λ n. let t = sum_by-set (λ (u : View C). times n u.rights) views id v w at in let h = kept.single n in let m = rights n in omega arith);
    within = (let t = sum_by-set (λ (u : View C). u.permits) views id v w at in let h = kept.within in omega arith);
  }

  pub parts : (words : List ℕ) (views : List (View C)) (id : ℕ) (v l r : View C) → Shared v l r
      → (kept : SeatRule key bound words views) → get_elem? views id ≡ some v → (Fits key kept.all v → Fits key kept.all l × Fits key kept.all r) → SeatRule key bound words (set views id l ++ r ∷ [])
  parts words views id v l r shared kept at fit = let both = fit (kept.fits id v at) in record {
    all = kept.all;
    word = kept.word;
    fits = all_snoc (Fits key kept.all) (set views id l) r both.1 (all_set (Fits key kept.all) views id l both.0 (λ j u n e. kept.fits j u e));
    apart = (λ k. let t = sum_by-parted (λ (u : View C). covers k u.span) views id v l r at (shared.keys k) in let h = kept.apart k in omega arith);
    single = (λ n. let t = sum_by-parted (λ (u : View C). times n u.rights) views id v l r at (shared.rights n) in let h = kept.single n in omega arith);
    within = (let t = sum_by-parted (λ (u : View C). u.permits) views id v l r at shared.permits in let h = kept.within in omega arith);
  }

  pub joins : (words : List ℕ) (views : List (View C)) (id other : ℕ) (v w b s : View C) → Merged v w b s
      → (kept : SeatRule key bound words views) → get_elem? views id ≡ some v → ¬ (other ≡ id) → get_elem? (set views id b) other ≡ some w
      → (Fits key kept.all v → Fits key kept.all w → Fits key kept.all b × Fits key kept.all s) → SeatRule key bound words (set (set views id b) other s)
  joins words views id other v w b s merged kept at apart there fit =
      let there' : get_elem? views other ≡ some w = ⊎_elim (λ (t : (other ≡ id) × (b ≡ w)). absurd (apart t.0)) (λ (t : (other ≢ id) × (get_elem? views other ≡ some w)). t.1) (at_set views id other b w there) in
      let both = fit (kept.fits id v at) (kept.fits other w there') in record {
        all = kept.all;
        word = kept.word;
        fits = all_set (Fits key kept.all) (set views id b) other s both.1 (λ j u n e. all_set (Fits key kept.all) views id b both.0 (λ j u n e. kept.fits j u e) j u e);
        apart = (λ k. let t = sum_by-joined (λ (u : View C). covers k u.span) views id other v w b s at there (merged.keys k) in let h = kept.apart k in omega arith);
        single = (λ n. let t = sum_by-joined (λ (u : View C). times n u.rights) views id other v w b s at there (merged.rights n) in let h = kept.single n in omega arith);
        within = (let t = sum_by-joined (λ (u : View C). u.permits) views id other v w b s at there merged.permits in let h = kept.within in omega arith);
      }
