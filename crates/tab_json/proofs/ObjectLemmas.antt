-- Members that are put in parts.
use Rattle.std.proofs.Common.{◌≡◌, ℕ, ◌+◌, ◌<◌, List, ◌∷◌, [], ◌++◌, length, take, get_or, flat_map, refl, ap, sym, ◌∙◌, append-nil}
use Rattle.std.proofs.lemmas.List.{take_more}
use Rattle.std.proofs.lemmas.Grind.{flat_map-append}
use Rattle.serde_json.specs.Data.{Data, Members, put}
use Rattle.tab_json.specs.Objects.{Member, with_members}

pub with_members-nil : (ms : Members) → with_members ms [] ≡ ms
unfolding with_members
with_members-nil ms = refl

pub with_members-one : (ms : Members) (name : List ℕ) (value : Data) → with_members ms ((name, value) ∷ []) ≡ put name value ms
unfolding with_members
with_members-one ms name value = refl

-- what is put later is put over what was put before
pub with_members-append : (ms : Members) (a b : List Member) → with_members ms (a ++ b) ≡ with_members (with_members ms a) b
unfolding with_members
with_members-append ms [] b = refl
with_members-append ms (m ∷ a) b = with_members-append (put m.0 m.1 ms) a b

-- two parts put in turn
pub put_both : (ms ms1 ms2 : Members) (a b : List Member) → ms1 ≡ with_members ms a → ms2 ≡ with_members ms1 b → ms2 ≡ with_members ms (a ++ b)
put_both ms ms1 ms2 a b first second = second ∙ ap (λ m. with_members m b) first ∙ sym (with_members-append ms a b)

-- what one more element gives comes last
pub flat_map-take-more : {X A : Type 0} (f : X → List A) (xs : List X) (i : ℕ) (x : X)
    → i < length xs → x ≡ get_or xs i x → flat_map f (take (i + 1) xs) ≡ flat_map f (take i xs) ++ f x
flat_map-take-more f xs i x below is =
    ap (flat_map f) (take_more xs i x below)
    ∙ flat_map-append f (take i xs) (get_or xs i x ∷ [])
    ∙ ap (λ rest. flat_map f (take i xs) ++ rest) (append-nil (f (get_or xs i x)) ∙ ap f (sym is))

-- the members of one more element are put
pub put_more : {X : Type 0} (f : X → List Member) (xs : List X) (i : ℕ) (x : X) (ms ms1 ms2 : Members)
    → i < length xs → x ≡ get_or xs i x → ms1 ≡ with_members ms (flat_map f (take i xs)) → ms2 ≡ with_members ms1 (f x)
    → ms2 ≡ with_members ms (flat_map f (take (i + 1) xs))
put_more f xs i x ms ms1 ms2 below is before one =
    put_both ms ms1 ms2 (flat_map f (take i xs)) (f x) before one ∙ ap (with_members ms) (sym (flat_map-take-more f xs i x below is))
