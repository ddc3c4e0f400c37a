-- What holds while the pieces of a compaction are written, one after another.
use Rattle.std.proofs.Common.{◌≡◌, ℕ, ◌+◌, ◌<◌, List, [], ◌∷◌, ◌++◌, length, take, get_or, refl, sym, ap, subst, ◌∙◌, inl}
use Rattle.std.specs.Prelude.{◌⊎◌}
use Rattle.std.proofs.lemmas.List.{take_more}
use Rattle.tab_outside.specs.Disks.{Watch}
use Rattle.tab_codec.specs.declared.frames.Frame.{Frame}
use Rattle.tab_journal.specs.Stores.{StoreView, area_a, area_b, IsUnmoved, HasFrames, HasPieces, KeptSince, SpellsEither}
use Rattle.tab_journal.proofs.Compacting.{since_ordered}

-- of a store with these frames and no pieces yet, that has so many pieces now
abbrev pub GoesTo : {D : Type 0} → Watch D → StoreView D → StoreView D → List Frame → Type 0
GoesTo w first now pieces = (frames : List Frame) → HasFrames w first frames → HasPieces w first [] → HasFrames w now frames × HasPieces w now pieces

abbrev pub KeepsOn : {D : Type 0} → Watch D → StoreView D → StoreView D → Type 0
KeepsOn w first now = (frames : List Frame) (ta tb : ℕ) → HasFrames w first frames → HasPieces w first [] → KeptSince w first frames ta tb → KeptSince w now frames ta tb

-- the images since some moments are those of the frames, whatever is built
pub kept_since : {D : Type 0} (w : Watch D) (store : StoreView D) (list pieces : List Frame) (ta tb : ℕ) → KeptSince w store list ta tb
    → SpellsEither w store.kind store.number list pieces ta tb (area_a store) (area_b store)
kept_since w store list pieces ta tb kept = record {
  earlier_a = kept.earlier_a;
  earlier_b = kept.earlier_b;
  each = since_ordered w store.kind store.number (λ others. (others ≡ list) ⊎ (others ≡ pieces)) store.second store.current store.other ta tb
      (λ c d c_left d_left. record {
        value = list;
        spelled = inl (record { epoch = store.epoch; current_is = kept.current c c_left; other_is = kept.other d d_left });
        holds = inl refl;
      });
}

-- one piece more
pub one_more : {D : Type 0} (w : Watch D) (first now next : StoreView D) (pieces taken : List Frame) (piece : Frame) → taken ≡ pieces ++ piece ∷ [] → GoesTo w first now pieces
    → ((frames written : List Frame) → HasFrames w now frames → HasPieces w now written → HasFrames w next frames × HasPieces w next (written ++ piece ∷ [])) → GoesTo w first next taken
one_more w first now next pieces taken piece is goes more frames has built =
    let so = goes frames has built in
    subst (λ (l : List Frame). HasFrames w next frames × HasPieces w next l) (sym is) (more frames pieces so.0 so.1)

pub keeps_more : {D : Type 0} (w : Watch D) (first now next : StoreView D) (pieces : List Frame) → GoesTo w first now pieces → KeepsOn w first now
    → ((frames written : List Frame) (ta tb : ℕ) → HasFrames w now frames → HasPieces w now written → KeptSince w now frames ta tb → KeptSince w next frames ta tb) → KeepsOn w first next
keeps_more w first now next pieces goes keeps on frames ta tb has built kept =
    let so = goes frames has built in
    on frames pieces ta tb so.0 so.1 (keeps frames ta tb has built kept)

-- a piece that is taken from a list
pub piece_more : (list : List Frame) (i : ℕ) (piece d : Frame) → i < length list → piece ≡ get_or list i d → take (i + 1) list ≡ take i list ++ piece ∷ []
piece_more list i piece d within is = take_more list i d within ∙ ap (λ (f : Frame). take i list ++ f ∷ []) (sym is)

pub unmoved_then : {D : Type 0} (old mid new : StoreView D) → IsUnmoved old mid → IsUnmoved mid new → IsUnmoved old new
unmoved_then old mid new first second = record {
  same = record { kind = second.same.kind ∙ first.same.kind; number = second.same.number ∙ first.same.number };
  second = second.second ∙ first.second;
  epoch = second.epoch ∙ first.epoch;
  end = second.end ∙ first.end;
  other_open = second.other_open ∙ first.other_open;
  places = second.places ∙ first.places;
}

pub unmoved_still : {D : Type 0} (store : StoreView D) → IsUnmoved store store
unmoved_still store = record { same = record { kind = refl; number = refl }; second = refl; epoch = refl; end = refl; other_open = refl; places = refl }

-- the same by the names that the store had before
pub either_named : {D : Type 0} (w : Watch D) (list pieces : List Frame) (k n kind number ta tb : ℕ) (a b : D) → k ≡ kind → n ≡ number → SpellsEither w k n list pieces ta tb a b
    → SpellsEither w kind number list pieces ta tb a b
either_named w list pieces k n kind number ta tb a b is_k is_n either =
    subst (λ (m : ℕ). SpellsEither w kind m list pieces ta tb a b) is_n (subst (λ (m : ℕ). SpellsEither w m n list pieces ta tb a b) is_k either)
