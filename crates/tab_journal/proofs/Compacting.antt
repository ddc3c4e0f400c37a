-- What the calls of a compaction leave of a store.
use Rattle.std.proofs.Common.{◌≡◌, ℕ, ◌+◌, ◌<◌, ◌≤◌, ◌^◌, Bool, true, false, not, cond, Option, Some, None, List, [], ◌∷◌, ◌++◌, length, refl, sym, ap, subst, ◌∙◌, inl, inr, arith, append_assoc, length-append}
use Rattle.std.specs.Prelude.{◌⊎◌}
use Rattle.std.proofs.lemmas.List.{append-nil}
use Rattle.tab_outside.specs.Disks.{Watch, OnlyNow, ReadsImage}
use Rattle.tab_outside.specs.Pairs.{Tells, Since}
use Rattle.tab_codec.specs.declared.frames.Frame.{Frame}
use Rattle.tab_codec.specs.Spelling.{spelling}
use Rattle.tab_journal.specs.Areas.{header, front, opened, ShutAt, AreFrames, IsOpen, IsClosed, IsOlder, IsUnder, Spells}
use Rattle.tab_journal.specs.Steps.{EachNow, Adds, IsShutOn, IsEitherShut, IsBuilt, IsClosedOr}
use Rattle.tab_journal.specs.Stores.{StoreView, area_a, area_b, IsSpare, HasFrames, HasPieces, KeptSince, SpellsEither}
use Rattle.tab_journal.proofs.Images.{adds_weaker}
use Rattle.tab_journal.proofs.Fronts.{opened_more, front_more, has_header}

-- ---- closing the other area

closed_or_older : (kind number epoch : ℕ) (bytes c : List ℕ) → IsOlder kind number epoch bytes → IsClosedOr bytes c → IsUnder kind number epoch c
closed_or_older kind number epoch bytes c older (inl closed) = inl closed
closed_or_older kind number epoch bytes c older (inr same) = inr (subst (IsOlder kind number epoch) (sym same) older)

-- what stands behind the gate of an area that is open with a lower epoch
abbrev pub behind_gate : (kind number epoch : ℕ) (area : List ℕ) → IsOlder kind number epoch area → List ℕ
behind_gate kind number epoch area older = header kind number older.older ++ older.rest

pub closing_under : {D : Type 0} (w : Watch D) (kind number epoch : ℕ) (old new : D) (older : IsOlder kind number epoch (w.seen old))
    → Adds w (IsClosedOr (1 ∷ behind_gate kind number epoch (w.seen old) older)) old new → Adds w (IsUnder kind number epoch) old new
closing_under w kind number epoch old new older adds =
    adds_weaker w _ (IsUnder kind number epoch) old new
    (λ c either. closed_or_older kind number epoch (1 ∷ behind_gate kind number epoch (w.seen old) older) c (record { older = older.older; lower = older.lower; rest = older.rest; is = refl }) either)
    adds

-- ---- images since the beginning

pub under_spare : {D : Type 0} (w : Watch D) (kind number epoch : ℕ) (is_open : Bool) (disk : D) (d : List ℕ) → IsSpare w kind number epoch is_open disk → w.may_leave disk d → IsUnder kind number epoch d
under_spare w kind number epoch false disk d spare left = inl (spare.shut refl d left)
under_spare w kind number epoch true disk d spare left =
    let older = spare.older refl in
    inr (subst (IsOlder kind number epoch) (sym (older.1 d left)) older.0)

moment_of : {D : Type 0} (w : Watch D) (second : Bool) (x y : D) → cond second (w.moment (cond second x y)) (w.moment (cond second y x)) ≡ w.moment x
moment_of w false x y = refl
moment_of w true x y = refl

pub kept_now : {D : Type 0} (w : Watch D) (store : StoreView D) (list : List Frame) → OnlyNow w → HasFrames w store list
    → KeptSince w store list (w.moment (area_a store)) (w.moment (area_b store))
kept_now w store list only has = record {
  earlier_a = omega arith;
  earlier_b = omega arith;
  current = λ c left.
      let at : cond store.second (w.moment (area_b store)) (w.moment (area_a store)) ≡ w.moment store.current = moment_of w store.second store.current store.other in
      let now = only store.current c (subst (λ (t : ℕ). w.left_since store.current t c) at left) in
      record { within = has.within; are = has.are; shut = subst (ShutAt _) (sym (has.current.durable c now)) has.current.shut };
  other = λ d left.
      let at : cond store.second (w.moment (area_a store)) (w.moment (area_b store)) ≡ w.moment store.other = moment_of w store.second store.other store.current in
      under_spare w store.kind store.number store.epoch store.other_open store.other d has.other (only store.other d (subst (λ (t : ℕ). w.left_since store.other t d) at left));
}

later_of : {D : Type 0} (w : Watch D) (second : Bool) (x y : D) (ta tb : ℕ) → ta ≤ w.moment (cond second y x) → tb ≤ w.moment (cond second x y) → cond second ta tb ≤ w.moment y
later_of w false x y ta tb in_a in_b = in_b
later_of w true x y ta tb in_a in_b = in_a

on_a : {D : Type 0} (w : Watch D) (second : Bool) (x y d : D) (t : ℕ) → w.moment y ≤ w.moment d → t ≤ w.moment (cond second y x) → t ≤ w.moment (cond second d x)
on_a w false x y d t later earlier = earlier
on_a w true x y d t later earlier = omega (arith, later, earlier)

on_b : {D : Type 0} (w : Watch D) (second : Bool) (x y d : D) (t : ℕ) → w.moment y ≤ w.moment d → t ≤ w.moment (cond second x y) → t ≤ w.moment (cond second x d)
on_b w false x y d t later earlier = omega (arith, later, earlier)
on_b w true x y d t later earlier = earlier

either_under : {A : Type 0} {B : Type 0} → (A → B) → A ⊎ B → B
either_under to (inl a) = to a
either_under to (inr b) = b

-- a call that changes the other area alone, and leaves it one that does not count
pub kept_on : {D : Type 0} (w : Watch D) (store : StoreView D) (list : List Frame) (ta tb : ℕ) (d : D) (other_open : Bool) (building : Option ℕ) (failed : Bool)
    → Adds w (IsUnder store.kind store.number store.epoch) store.other d → KeptSince w store list ta tb
    → KeptSince w (record store { other = d; other_open = other_open; building = building; failed = failed }) list ta tb
kept_on w store list ta tb d other_open building failed adds kept = record {
  earlier_a = on_a w store.second store.current store.other d ta adds.later kept.earlier_a;
  earlier_b = on_b w store.second store.current store.other d tb adds.later kept.earlier_b;
  current = kept.current;
  other = λ c left.
      either_under (kept.other c)
      (adds.each (cond store.second ta tb) (later_of w store.second store.current store.other ta tb kept.earlier_a kept.earlier_b) c left);
}

-- ---- what was built

seen_closed : {D : Type 0} (w : Watch D) (disk : D) (shut : IsClosed (w.seen disk)) → EachNow w IsClosed disk → IsBuilt w [] disk
seen_closed w disk shut each = record { closed = each; gate = shut.gate; rest = shut.rest; is = shut.is }

pub begun : {D : Type 0} (w : Watch D) (disk : D) → ReadsImage w → EachNow w IsClosed disk → IsBuilt w [] disk
begun w disk reads each = seen_closed w disk (each (w.seen disk) (reads disk)) each

pub no_pieces : (kind number epoch : ℕ) → header kind number epoch ≡ header kind number epoch ++ opened []
unfolding opened
no_pieces kind number epoch = sym (append-nil (header kind number epoch))

pub front_size : (kind number epoch : ℕ) (list : List Frame) → length (front kind number epoch list) ≡ 1 + length (header kind number epoch ++ opened list)
unfolding front
front_size kind number epoch list = omega arith

pub first_size : (kind number epoch : ℕ) → length (front kind number epoch []) ≡ 20
unfolding front header opened
first_size kind number epoch = refl

pub spare_closed : {D : Type 0} (w : Watch D) (kind number epoch : ℕ) (is_open : Bool) (disk : D) → is_open ≡ false → EachNow w IsClosed disk → IsSpare w kind number epoch is_open disk
spare_closed w kind number epoch false disk is each = record { shut = λ e. each; older = λ e. absurd (let none : ⊥ = cc in none) }
spare_closed w kind number epoch true disk is each = absurd (let none : ⊥ = cc in none)

pub begin_frames : {D : Type 0} (w : Watch D) (store : StoreView D) (list : List Frame) (d : D) (is_open : Bool) (building : Option ℕ) → is_open ≡ false → EachNow w IsClosed d
    → HasFrames w store list → HasFrames w (record store { other = d; other_open = is_open; building = building }) list
begin_frames w store list d is_open building is each has = record {
  running = has.running;
  within = has.within;
  are = has.are;
  current = has.current;
  end = has.end;
  short = has.short;
  other = spare_closed w store.kind store.number store.epoch is_open d is each;
  places = has.places;
}

pub begin_pieces : {D : Type 0} (w : Watch D) (store : StoreView D) (list : List Frame) (d : D) (is_open : Bool) → HasFrames w store list → is_open ≡ false → store.epoch + 1 < 2 ^ 64
    → IsBuilt w (header store.kind store.number (store.epoch + 1)) d → HasPieces w (record store { other = d; other_open = is_open; building = Some 20 }) []
begin_pieces w store list d is_open has is below built = record {
  built = subst (λ (l : List ℕ). IsBuilt w l d) (no_pieces store.kind store.number (store.epoch + 1)) built;
  end = ap (λ (n : ℕ). Some n) (sym (first_size store.kind store.number (store.epoch + 1)));
  short = omega (arith, first_size store.kind store.number (store.epoch + 1));
  below = below;
  shut = is;
}

pub more_pieces : {D : Type 0} (w : Watch D) (store : StoreView D) (pieces : List Frame) (frame : Frame) (d : D) (end : ℕ) → HasPieces w store pieces
    → IsBuilt w ((header store.kind store.number (store.epoch + 1) ++ opened pieces) ++ 1 ∷ spelling frame) d
    → end ≡ length (front store.kind store.number (store.epoch + 1) pieces) + 1 + length (spelling frame) → end ≤ 2 ^ 62
    → HasPieces w (record store { other = d; building = Some end }) (pieces ++ frame ∷ [])
more_pieces w store pieces frame d end has built is within =
    let k = store.kind in
    let n = store.number in
    let e = store.epoch + 1 in
    let more : (header k n e ++ opened pieces) ++ 1 ∷ spelling frame ≡ header k n e ++ opened (pieces ++ frame ∷ []) =
    append_assoc (header k n e) (opened pieces) (1 ∷ spelling frame) ∙ ap (λ (l : List ℕ). header k n e ++ l) (sym (opened_more pieces frame)) in
    let size : end ≡ length (front k n e (pieces ++ frame ∷ [])) =
    omega (arith, is, ap length (front_more k n e pieces frame), length-append (front k n e pieces) (1 ∷ spelling frame)) in
    record {
      built = subst (λ (l : List ℕ). IsBuilt w l d) more built;
      end = ap (λ (m : ℕ). Some m) size;
      short = omega (arith, size, within);
      below = has.below;
      shut = has.shut;
    }

-- ---- opening what was built

pub ended : {D : Type 0} (w : Watch D) (store : StoreView D) (list pieces : List Frame) (d : D) → HasFrames w store list → HasPieces w store pieces → AreFrames store.kind pieces
    → IsShutOn w (1 ∷ (header store.kind store.number (store.epoch + 1) ++ opened pieces)) d
    → HasFrames w (record store { current = d; other = store.current; second = not store.second; epoch = store.epoch + 1; end = length (front store.kind store.number (store.epoch + 1) pieces); other_open = true; building = None; places = [] }) pieces
unfolding front
ended w store list pieces d has built are shut =
    let k = store.kind in
    let n = store.number in
    record {
      running = has.running;
      within = built.below;
      are = are;
      current = shut;
      end = refl;
      short = built.short;
      other = record {
        shut = λ e. absurd (let none : ⊥ = cc in none);
        older = λ e. (
          let head = has_header k n store.epoch list (w.seen store.current) (record { within = has.within; are = has.are; shut = has.current.shut }) in
              record { older = store.epoch; lower = omega arith; rest = head.0; is = head.1 },
          has.current.durable,
        );
      };
      places = refl;
    }

module _ (kind number epoch : ℕ) (list pieces : List Frame) where
  -- a pair of images at the end of a compaction
  pair_tells : (c d : List ℕ) → epoch + 1 < 2 ^ 64 → AreFrames kind pieces → IsOpen kind number epoch list c
      → IsUnder kind number epoch d ⊎ IsEitherShut [] (header kind number (epoch + 1) ++ opened pieces) d
      → Tells (Spells kind number) (λ others. (others ≡ list) ⊎ (others ≡ pieces)) c d
  unfolding front
  pair_tells c d below are is_open (inl under) = record { value = list; spelled = inl (record { epoch = epoch; current_is = is_open; other_is = under }); holds = inl refl }
  pair_tells c d below are is_open (inr (inl closed)) = record { value = list; spelled = inl (record { epoch = epoch; current_is = is_open; other_is = inl closed }); holds = inl refl }
  pair_tells c d below are is_open (inr (inr shut)) =
      let head = has_header kind number epoch list c is_open in
      record {
        value = pieces;
        spelled = inr (record { epoch = epoch + 1; current_is = record { within = below; are = are; shut = shut }; other_is = inr (record { older = epoch; lower = omega arith; rest = head.0; is = head.1 }) });
        holds = inr refl;
      }

other_way : (kind number : ℕ) (fs : List Frame) (c d : List ℕ) → Spells kind number fs c d → Spells kind number fs d c
other_way kind number fs c d (inl keeps) = inr keeps
other_way kind number fs c d (inr keeps) = inl keeps

pub flipped : (kind number : ℕ) (P : List Frame → Type 0) (c d : List ℕ) → Tells (Spells kind number) P c d → Tells (Spells kind number) P d c
flipped kind number P c d tells = record { value = tells.value; spelled = other_way kind number tells.value c d tells.spelled; holds = tells.holds }

pub since_ordered : {D : Type 0} (w : Watch D) (kind number : ℕ) (P : List Frame → Type 0) (second : Bool) (x y : D) (ta tb : ℕ)
    → ((c d : List ℕ) → w.left_since x (cond second tb ta) c → w.left_since y (cond second ta tb) d → Tells (Spells kind number) P c d)
    → Since w (Spells kind number) P ta tb (cond second y x) (cond second x y)
since_ordered w kind number P false x y ta tb each c d c_left d_left = each c d c_left d_left
since_ordered w kind number P true x y ta tb each d c d_left c_left = flipped kind number P c d (each c d c_left d_left)

since_swapped : {D : Type 0} (w : Watch D) (kind number : ℕ) (P : List Frame → Type 0) (second : Bool) (x y : D) (ta tb : ℕ)
    → ((c d : List ℕ) → w.left_since x (cond second tb ta) c → w.left_since y (cond second ta tb) d → Tells (Spells kind number) P c d)
    → Since w (Spells kind number) P ta tb (cond (not second) x y) (cond (not second) y x)
since_swapped w kind number P false x y ta tb each c d c_left d_left = each c d c_left d_left
since_swapped w kind number P true x y ta tb each d c d_left c_left = flipped kind number P c d (each c d c_left d_left)

left_first : {A B C : Type 0} → (A → B) → A ⊎ C → B ⊎ C
left_first to (inl a) = inl (to a)
left_first to (inr c) = inr c

-- the pairs of images at the end of a compaction, of the area that was current and of the other one
pub end_pairs : {D : Type 0} (w : Watch D) (store : StoreView D) (list pieces : List Frame) (ta tb : ℕ) (new : D) → store.epoch + 1 < 2 ^ 64 → AreFrames store.kind pieces → KeptSince w store list ta tb
    → Adds w (IsEitherShut [] (header store.kind store.number (store.epoch + 1) ++ opened pieces)) store.other new
    → (c d : List ℕ) → w.left_since store.current (cond store.second tb ta) c → w.left_since new (cond store.second ta tb) d
    → Tells (Spells store.kind store.number) (λ others. (others ≡ list) ⊎ (others ≡ pieces)) c d
end_pairs w store list pieces ta tb new below are kept adds c d c_left d_left =
    pair_tells store.kind store.number store.epoch list pieces c d below are (kept.current c c_left)
    (left_first (kept.other d) (adds.each (cond store.second ta tb) (later_of w store.second store.current store.other ta tb kept.earlier_a kept.earlier_b) d d_left))

on_a_swapped : {D : Type 0} (w : Watch D) (second : Bool) (x y d : D) (t : ℕ) → w.moment y ≤ w.moment d → t ≤ w.moment (cond second y x) → t ≤ w.moment (cond (not second) x d)
on_a_swapped w false x y d t later earlier = earlier
on_a_swapped w true x y d t later earlier = omega (arith, later, earlier)

on_b_swapped : {D : Type 0} (w : Watch D) (second : Bool) (x y d : D) (t : ℕ) → w.moment y ≤ w.moment d → t ≤ w.moment (cond second x y) → t ≤ w.moment (cond (not second) d x)
on_b_swapped w false x y d t later earlier = omega (arith, later, earlier)
on_b_swapped w true x y d t later earlier = earlier

-- where the areas keep their places
pub end_images : {D : Type 0} (w : Watch D) (store : StoreView D) (list pieces : List Frame) (ta tb : ℕ) (new : D) → store.epoch + 1 < 2 ^ 64 → AreFrames store.kind pieces → KeptSince w store list ta tb
    → Adds w (IsEitherShut [] (header store.kind store.number (store.epoch + 1) ++ opened pieces)) store.other new
    → SpellsEither w store.kind store.number list pieces ta tb (cond store.second new store.current) (cond store.second store.current new)
end_images w store list pieces ta tb new below are kept adds = record {
  earlier_a = on_a w store.second store.current store.other new ta adds.later kept.earlier_a;
  earlier_b = on_b w store.second store.current store.other new tb adds.later kept.earlier_b;
  each = since_ordered w store.kind store.number (λ others. (others ≡ list) ⊎ (others ≡ pieces)) store.second store.current new ta tb (end_pairs w store list pieces ta tb new below are kept adds);
}

-- and where they change them
pub end_images_swapped : {D : Type 0} (w : Watch D) (store : StoreView D) (list pieces : List Frame) (ta tb : ℕ) (new : D) → store.epoch + 1 < 2 ^ 64 → AreFrames store.kind pieces → KeptSince w store list ta tb
    → Adds w (IsEitherShut [] (header store.kind store.number (store.epoch + 1) ++ opened pieces)) store.other new
    → SpellsEither w store.kind store.number list pieces ta tb (cond (not store.second) store.current new) (cond (not store.second) new store.current)
end_images_swapped w store list pieces ta tb new below are kept adds = record {
  earlier_a = on_a_swapped w store.second store.current store.other new ta adds.later kept.earlier_a;
  earlier_b = on_b_swapped w store.second store.current store.other new tb adds.later kept.earlier_b;
  each = since_swapped w store.kind store.number (λ others. (others ≡ list) ⊎ (others ≡ pieces)) store.second store.current new ta tb (end_pairs w store list pieces ta tb new below are kept adds);
}

-- ---- the beginning, once the other area is closed

pub begin_kept : {D : Type 0} (w : Watch D) (v0 v1 : StoreView D) (list : List Frame) → OnlyNow w → v1 ≡ record v0 { other = v1.other; other_open = v1.other_open } → HasFrames w v0 list
    → Adds w (IsUnder v0.kind v0.number v0.epoch) v0.other v1.other → KeptSince w v1 list (w.moment (area_a v0)) (w.moment (area_b v0))
begin_kept {D = D} w v0 v1 list only is has adds =
    subst (λ (s : StoreView D). KeptSince w s list (w.moment (area_a v0)) (w.moment (area_b v0))) (sym is)
    (kept_on w v0 list (w.moment (area_a v0)) (w.moment (area_b v0)) v1.other v1.other_open v0.building v0.failed adds (kept_now w v0 list only has))

pub begin_has : {D : Type 0} (w : Watch D) (v0 v1 : StoreView D) (list : List Frame) → v1 ≡ record v0 { other = v1.other; other_open = v1.other_open } → v1.other_open ≡ false
    → EachNow w IsClosed v1.other → HasFrames w v0 list → HasFrames w v1 list
begin_has {D = D} w v0 v1 list is shut each has =
    subst (λ (s : StoreView D). HasFrames w s list) (sym is) (begin_frames w v0 list v1.other v1.other_open v0.building shut each has)

pub closed_under : {D : Type 0} (w : Watch D) (kind number epoch : ℕ) (old new : D) → Adds w IsClosed old new → Adds w (IsUnder kind number epoch) old new
closed_under w kind number epoch old new adds = adds_weaker w IsClosed (IsUnder kind number epoch) old new (λ c closed. inl closed) adds

-- the same of a store whose parts are known to be these
pub ended_as : {D : Type 0} (w : Watch D) (store : StoreView D) (list pieces : List Frame) (d x y : D) (e n : ℕ) (places : List ℕ) → HasFrames w store list → HasPieces w store pieces → AreFrames store.kind pieces
    → IsShutOn w (1 ∷ (header store.kind store.number (store.epoch + 1) ++ opened pieces)) d
    → x ≡ d → y ≡ store.current → e ≡ store.epoch + 1 → n ≡ length (front store.kind store.number (store.epoch + 1) pieces) → places ≡ []
    → HasFrames w (record store { current = x; other = y; second = not store.second; epoch = e; end = n; other_open = true; building = None; places = places }) pieces
ended_as {D = D} w store list pieces d x y e n places has built are shut is_x is_y is_e is_n is_places =
    let end = length (front store.kind store.number (store.epoch + 1) pieces) in
    subst (λ (x : D). HasFrames w (record store { current = x; other = y; second = not store.second; epoch = e; end = n; other_open = true; building = None; places = places }) pieces) (sym is_x)
    (subst (λ (y : D). HasFrames w (record store { current = d; other = y; second = not store.second; epoch = e; end = n; other_open = true; building = None; places = places }) pieces) (sym is_y)
    (subst (λ (e : ℕ). HasFrames w (record store { current = d; other = store.current; second = not store.second; epoch = e; end = n; other_open = true; building = None; places = places }) pieces) (sym is_e)
    (subst (λ (n : ℕ). HasFrames w (record store { current = d; other = store.current; second = not store.second; epoch = store.epoch + 1; end = n; other_open = true; building = None; places = places }) pieces) (sym is_n)
    (subst (λ (l : List ℕ). HasFrames w (record store { current = d; other = store.current; second = not store.second; epoch = store.epoch + 1; end = end; other_open = true; building = None; places = l }) pieces) (sym is_places)
    (ended w store list pieces d has built are shut)))))
