-- Where a filter is refused: by the limits, and by the grammar.
use Rattle.std.proofs.Common.{◌≤◌, ◌≡◌, inl, inr, ℕ, ◌+◌, List, [], ◌∷◌, ◌++◌, Ok, Err, Result, refl, ap, subst, ◌∙◌, arith, lit≤}
use Rattle.std.specs.Prelude.{IsUtf8, chars}
use Rattle.tab_filter.specs.declared.filter_text.FilterRefused.{FilterRefused}
use Rattle.tab_filter.specs.declared.filter_text.FilterRefused.TheVariants as refusals
use Rattle.tab_filter.specs.Trees.{Tree}
use Rattle.tab_filter.specs.Lexer.{Read, ParseFault, Syntax, BadLiteral, Deep, TooMany, after_spaces}
use Rattle.tab_filter.specs.Parser.{AnyView, part_at, inner_at, any_at, whole_of, whole_at, filter_at}
use Rattle.tab_filter.specs.Grammar.{blank, text_of, disjunction}
use Rattle.tab_filter.specs.Offsets.{offset_of, ErrIs, Answers}
use Rattle.tab_filter.specs.Limits.{Unfinished, Due, InGroup, InNegation, InJoined, InParted, begun, comparisons_before, OpensTooMany, ComparesTooMany, IsPlaced}
use Rattle.tab_filter.proofs.Phrases.{blank_append, text_append}
use Rattle.tab_filter.proofs.Sound.{spaces}
use Rattle.tab_filter.proofs.Same.{halted}
use Rattle.tab_filter.proofs.FilterLaws.{offset_is, answers_refused}
use Rattle.tab_filter.proofs.LimitParts.{DeepPlace, ManyPlace, Placed, parts_placed}

abbrev parts_at : List ℕ → Read AnyView
parts_at t = any_at (part_at 15 (inner_at 15 16 64)) 16 16 0 t

abbrev faulted : ParseFault → Result Tree ParseFault
faulted fault = Err fault

begun_append : (c : Unfinished) (x y : List ℕ) → begun c (x ++ y) ≡ begun c x ++ y
begun_append Due x y = refl
begun_append (InGroup a inner) x y =
    ap (λ (l : List ℕ). 40 ∷ blank a l) (begun_append inner x y) ∙ ap (λ (l : List ℕ). 40 ∷ l) (blank_append a (begun inner x) y)
begun_append (InNegation a inner) x y =
    ap (λ (l : List ℕ). 110 ∷ 111 ∷ 116 ∷ blank a l) (begun_append inner x y) ∙ ap (λ (l : List ℕ). 110 ∷ 111 ∷ 116 ∷ l) (blank_append a (begun inner x) y)
begun_append (InJoined first a b second) x y =
    ap (λ (l : List ℕ). text_of first (blank a (97 ∷ 110 ∷ 100 ∷ blank b l))) (begun_append second x y)
    ∙ ap (λ (l : List ℕ). text_of first (blank a (97 ∷ 110 ∷ 100 ∷ l))) (blank_append b (begun second x) y)
    ∙ ap (text_of first) (blank_append a (97 ∷ 110 ∷ 100 ∷ blank b (begun second x)) y)
    ∙ text_append first (blank a (97 ∷ 110 ∷ 100 ∷ blank b (begun second x))) y
begun_append (InParted first a b second) x y =
    ap (λ (l : List ℕ). text_of first (blank a (111 ∷ 114 ∷ blank b l))) (begun_append second x y)
    ∙ ap (λ (l : List ℕ). text_of first (blank a (111 ∷ 114 ∷ l))) (blank_append b (begun second x) y)
    ∙ ap (text_of first) (blank_append a (111 ∷ 114 ∷ blank b (begun second x)) y)
    ∙ text_append first (blank a (111 ∷ 114 ∷ blank b (begun second x))) y

front_text : (t u left : List ℕ) (n : ℕ) (c : Unfinished) → t ≡ blank n u → u ≡ begun c left → t ≡ blank n (begun c []) ++ left
front_text t u left n c is e = is ∙ ap (blank n) (e ∙ begun_append c [] left) ∙ blank_append n (begun c []) left

fault_same : {a b : ParseFault} → faulted a ≡ faulted b → a ≡ b
fault_same e = cc

abbrev treed : Tree → Result Tree ParseFault
treed tree = Ok tree

tree_no_fault : {a : Tree} {b : ParseFault} → treed a ≡ faulted b → ⊥
tree_no_fault e = cc

whole_stopped : (r : Read AnyView) (fault : ParseFault) → ((left : List ℕ) → Syntax left ≡ fault → ⊥) → whole_at r ≡ faulted fault → r ≡ halted AnyView fault
whole_stopped (Err e) fault other h = ap (halted AnyView) (fault_same h)
whole_stopped (Ok x) fault other h = absurd (by_left x.1 h)
  where
    by_left : (rest : List ℕ) → whole_of x.0 rest ≡ faulted fault → ⊥
    by_left [] h = tree_no_fault h
    by_left (b ∷ bs) h = other (b ∷ bs) (fault_same h)

no_deep : {l left : List ℕ} → Syntax l ≡ Deep left → ⊥
no_deep e = cc

no_many : {l : List ℕ} → Syntax l ≡ TooMany → ⊥
no_many e = cc

text_placed : (t : List ℕ) → Placed disjunction 15 64 0 t (parts_at t)
text_placed t = parts_placed 15 16 64 0 t (lit≤ tt) (lit≤ tt)

few_none : (n : ℕ) → 0 + n ≤ 15 → n ≤ 15
few_none n h = omega arith

few_all : (n : ℕ) → 0 + n ≡ 15 → n ≤ 15
few_all n h = omega arith

filter_deep : (t left : List ℕ) → filter_at t ≡ faulted (Deep left) → (front : List ℕ) × (t ≡ front ++ left) × OpensTooMany front left
unfolding filter_at
filter_deep t left h =
    let n = spaces t in
    let u = after_spaces t in
    let place : DeepPlace disjunction 15 64 0 u left = subst (Placed disjunction 15 64 0 u) (whole_stopped (parts_at u) (Deep left) (λ l e. no_deep e) h) (text_placed u) in (
      blank n.0 (begun place.phrase []),
      front_text t u left n.0 place.phrase n.1 place.is,
      (place.phrase, record { fits = place.fits; nests = place.nests; few = few_none (comparisons_before place.phrase) place.few; before = n.0; is = refl }, place.open_is, place.opens),
    )

from_none : (n : ℕ) → 0 + n ≡ 15 → n ≡ 15
from_none n h = omega arith

filter_many : (t : List ℕ) → filter_at t ≡ faulted TooMany → (front : List ℕ) × (left : List ℕ) × (t ≡ front ++ left) × ComparesTooMany front left
unfolding filter_at
filter_many t h =
    let n = spaces t in
    let u = after_spaces t in
    let place : ManyPlace disjunction 15 64 0 u = subst (Placed disjunction 15 64 0 u) (whole_stopped (parts_at u) TooMany (λ l e. no_many e) h) (text_placed u) in (
      blank n.0 (begun place.phrase []),
      place.left,
      front_text t u place.left n.0 place.phrase n.1 place.is,
      (place.phrase, record { fits = place.fits; nests = place.nests; few = few_all (comparisons_before place.phrase) place.many; before = n.0; is = refl }, from_none (comparisons_before place.phrase) place.many, place.begins),
    )

at_same : {a b : ℕ} → refusals.Syntax a ≡ refusals.Syntax b → a ≡ b
at_same e = cc

many_is : (text : List ℕ) (r : Result Tree ParseFault) → ErrIs text refusals.TooManyComparisons r → r ≡ faulted TooMany
many_is text (Ok tree) h = absurd h
many_is text (Err TooMany) h = refl
many_is text (Err (Syntax left)) h = absurd (other h)
  where
    other : {a : ℕ} → refusals.TooManyComparisons ≡ refusals.Syntax a → ⊥
    other e = cc
many_is text (Err (Deep left)) h = absurd (other h)
  where
    other : {a : ℕ} → refusals.TooManyComparisons ≡ refusals.Syntax a → ⊥
    other e = cc
many_is text (Err (BadLiteral left)) h = absurd (other h)
  where
    other : {a : ℕ} → refusals.TooManyComparisons ≡ refusals.BadLiteral a → ⊥
    other e = cc

pub placed : (text : List ℕ) (refused : FilterRefused) → IsUtf8 text → Answers text (Err refused) (filter_at (chars text)) → IsPlaced (chars text) refused
placed text refusals.Memory utf8 h = tt
placed text (refusals.BadLiteral at) utf8 h = tt
placed text refusals.TooManyComparisons utf8 h = filter_many (chars text) (many_is text (filter_at (chars text)) h)
placed text (refusals.Syntax at) utf8 h =
    elim (answers_refused text (Err (refusals.Syntax at)) utf8 h) [
      | inl here ↦ inl here
      | inr deep ↦ let left = deep.0.0 in
          let same : at ≡ offset_of text left = at_same (subst (ErrIs text (refusals.Syntax at)) deep.0.1 h) in
          let f = filter_deep (chars text) left deep.0.1 in
          inr (f.0, left, f.1, same ∙ offset_is text f.0 left utf8 f.1, f.2)
    ]
