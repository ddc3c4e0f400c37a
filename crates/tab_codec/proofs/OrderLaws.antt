-- Items in rising order, as they are read one after another and as a list.
use Rattle.std.proofs.Common.{suc, List, [], ◌∷◌, Option, Some, None, arith}
use Rattle.std.specs.Prelude.{AllPairs}
use Rattle.std.specs.List.{AllByRecursion}
use Rattle.std.proofs.lemmas.List.Elements.{All-from_recursion}
use Rattle.std.proofs.lemmas.List.Kept.{AllPairs-cons}
use Rattle.tab_codec.specs.Reading.{last_read}
use Rattle.tab_codec.proofs.FieldLaws.{FitsAll}
use Rattle.tab_codec.proofs.EntityFacts.{all_map}

-- an item that may come next is one on its own that stands behind the one before, where there is one
pub record IsOrder {A : Type 0} (Behind : A → A → Type 0) (IsNext : Option A → A → Type 0) (IsOwn : A → Type 0) : Type 0 where
  pub trans : (a b c : A) → Behind a b → Behind b c → Behind a c
  pub own : (before : Option A) (x : A) → IsNext before x → IsOwn x
  pub behind : (a x : A) → IsNext (Some a) x → Behind a x
  pub start : (x : A) → IsOwn x → IsNext None x
  pub step : (a x : A) → IsOwn x → Behind a x → IsNext (Some a) x

pub owns : {A : Type 0} {Behind : A → A → Type 0} {IsNext : Option A → A → Type 0} {IsOwn : A → Type 0} → IsOrder Behind IsNext IsOwn → (before : Option A) (xs : List A) → FitsAll last_read IsNext before xs → AllByRecursion IsOwn xs
owns o before [] h = tt
owns o before (x ∷ xs) h = (o.own before x h.0, owns o (Some x) xs h.1)

behind_all : {A : Type 0} {Behind : A → A → Type 0} {IsNext : Option A → A → Type 0} {IsOwn : A → Type 0} → IsOrder Behind IsNext IsOwn → (a : A) (xs : List A) → FitsAll last_read IsNext (Some a) xs → AllByRecursion (Behind a) xs
behind_all o a [] h = tt
behind_all {A} {Behind} o a (x ∷ xs) h =
    let here = o.behind a x h.0 in
    (here, all_map (Behind x) (Behind a) xs (λ y k. o.trans a x y here k) (behind_all o x xs h.1))

pub pairs : {A : Type 0} {Behind : A → A → Type 0} {IsNext : Option A → A → Type 0} {IsOwn : A → Type 0} → IsOrder Behind IsNext IsOwn → (before : Option A) (xs : List A) → FitsAll last_read IsNext before xs → AllPairs Behind xs
pairs o before [] h = λ i j d low lt. absurd (omega arith)
pairs {A} {Behind} o before (x ∷ xs) h = AllPairs-cons Behind x xs (All-from_recursion (Behind x) xs (behind_all o x xs h.1)) (pairs o (Some x) xs h.1)

tail_pairs : {A : Type 0} (Behind : A → A → Type 0) (x : A) (xs : List A) → AllPairs Behind (x ∷ xs) → AllPairs Behind xs
tail_pairs Behind x xs h = λ i j d low lt. h (suc i) (suc j) d (omega arith) (omega arith)

next_after : {A : Type 0} {Behind : A → A → Type 0} {IsNext : Option A → A → Type 0} {IsOwn : A → Type 0} → IsOrder Behind IsNext IsOwn → (a : A) (xs : List A) → AllByRecursion IsOwn xs → AllPairs Behind (a ∷ xs) → FitsAll last_read IsNext (Some a) xs
next_after o a [] own h = tt
next_after {A} {Behind} o a (x ∷ xs) own h = (o.step a x own.0 (h 0 1 x (omega arith) (omega arith)), next_after o x xs own.1 (tail_pairs Behind a (x ∷ xs) h))

pub next_all : {A : Type 0} {Behind : A → A → Type 0} {IsNext : Option A → A → Type 0} {IsOwn : A → Type 0} → IsOrder Behind IsNext IsOwn → (xs : List A) → AllByRecursion IsOwn xs → AllPairs Behind xs → FitsAll last_read IsNext None xs
next_all o [] own h = tt
next_all o (x ∷ xs) own h = (o.start x own.0, next_after o x xs own.1 h)
