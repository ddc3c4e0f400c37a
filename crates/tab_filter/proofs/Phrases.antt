-- The texts of phrases.
use Rattle.std.proofs.Common.{◌≡◌, ℕ, zero, suc, ◌≤◌, List, ◌∷◌, ◌++◌, false, refl, ap, sym, ◌∙◌, arith, append_assoc}
use Rattle.tab_filter.specs.Lexer.{starts}
use Rattle.tab_filter.specs.declared.trees.Operator.{Operator}
use Rattle.tab_filter.specs.declared.trees.Operator.TheVariants.{Equal, NotEqual, Greater, GreaterOrEqual, Less, LessOrEqual}
use Rattle.tab_filter.specs.Grammar.{Phrase, Comparing, Group, Negated, Joined, Parted, blank, operator_text, text_of, opens, comparisons, Level, unary, conjunction, disjunction, Fits}
use Rattle.tab_filter.proofs.LexerLaws.{name_no_space, name_no_opening}

pub blank_append : (n : ℕ) (x y : List ℕ) → blank n (x ++ y) ≡ blank n x ++ y
blank_append zero x y = refl
blank_append (suc n) x y = ap (λ (l : List ℕ). 32 ∷ l) (blank_append n x y)

pub operator_append : (o : Operator) (x y : List ℕ) → operator_text o (x ++ y) ≡ operator_text o x ++ y
operator_append Equal x y = refl
operator_append NotEqual x y = refl
operator_append Greater x y = refl
operator_append GreaterOrEqual x y = refl
operator_append Less x y = refl
operator_append LessOrEqual x y = refl

-- what follows a phrase stands behind its text
pub text_append : (c : Phrase) (x y : List ℕ) → text_of c (x ++ y) ≡ text_of c x ++ y
text_append (Comparing name a o b value literal) x y =
    ap (λ (l : List ℕ). name ++ blank a (operator_text o (blank b l))) (sym (append_assoc literal x y))
    ∙ ap (λ (l : List ℕ). name ++ blank a (operator_text o l)) (blank_append b (literal ++ x) y)
    ∙ ap (λ (l : List ℕ). name ++ blank a l) (operator_append o (blank b (literal ++ x)) y)
    ∙ ap (λ (l : List ℕ). name ++ l) (blank_append a (operator_text o (blank b (literal ++ x))) y)
    ∙ sym (append_assoc name (blank a (operator_text o (blank b (literal ++ x)))) y)
text_append (Group a inner b) x y =
    ap (λ (l : List ℕ). 40 ∷ blank a (text_of inner l)) (blank_append b (41 ∷ x) y)
    ∙ ap (λ (l : List ℕ). 40 ∷ blank a l) (text_append inner (blank b (41 ∷ x)) y)
    ∙ ap (λ (l : List ℕ). 40 ∷ l) (blank_append a (text_of inner (blank b (41 ∷ x))) y)
text_append (Negated a inner) x y =
    ap (λ (l : List ℕ). 110 ∷ 111 ∷ 116 ∷ blank a l) (text_append inner x y)
    ∙ ap (λ (l : List ℕ). 110 ∷ 111 ∷ 116 ∷ l) (blank_append a (text_of inner x) y)
text_append (Joined first a b second) x y =
    ap (λ (l : List ℕ). text_of first (blank a (97 ∷ 110 ∷ 100 ∷ blank b l))) (text_append second x y)
    ∙ ap (λ (l : List ℕ). text_of first (blank a (97 ∷ 110 ∷ 100 ∷ l))) (blank_append b (text_of second x) y)
    ∙ ap (text_of first) (blank_append a (97 ∷ 110 ∷ 100 ∷ blank b (text_of second x)) y)
    ∙ text_append first (blank a (97 ∷ 110 ∷ 100 ∷ blank b (text_of second x))) y
text_append (Parted first a b second) x y =
    ap (λ (l : List ℕ). text_of first (blank a (111 ∷ 114 ∷ blank b l))) (text_append second x y)
    ∙ ap (λ (l : List ℕ). text_of first (blank a (111 ∷ 114 ∷ l))) (blank_append b (text_of second x) y)
    ∙ ap (text_of first) (blank_append a (111 ∷ 114 ∷ blank b (text_of second x)) y)
    ∙ text_append first (blank a (111 ∷ 114 ∷ blank b (text_of second x))) y

-- a phrase's text begins with a `(` or not, and never with a space
pub record Begins (c : Phrase) (r : List ℕ) : Type 0 where
  pub opening : starts 40 (text_of c r) ≡ opens c
  pub no_space : starts 32 (text_of c r) ≡ false

pub text_begins : (level : Level) (c : Phrase) (r : List ℕ) → Fits level c → Begins c r
text_begins level (Comparing name a o b value literal) r f = record {
  opening = name_no_opening name (blank a (operator_text o (blank b (literal ++ r)))) f.0;
  no_space = name_no_space name (blank a (operator_text o (blank b (literal ++ r)))) f.0;
}
text_begins level (Group a inner b) r f = record { opening = refl; no_space = refl }
text_begins level (Negated a inner) r f = record { opening = refl; no_space = refl }
text_begins unary (Joined first a b second) r f = absurd f
text_begins conjunction (Joined first a b second) r f =
    let i = text_begins unary first (blank a (97 ∷ 110 ∷ 100 ∷ blank b (text_of second r))) f.2 in record { opening = i.opening; no_space = i.no_space }
text_begins disjunction (Joined first a b second) r f =
    let i = text_begins unary first (blank a (97 ∷ 110 ∷ 100 ∷ blank b (text_of second r))) f.2 in record { opening = i.opening; no_space = i.no_space }
text_begins unary (Parted first a b second) r f = absurd f
text_begins conjunction (Parted first a b second) r f = absurd f
text_begins disjunction (Parted first a b second) r f =
    let i = text_begins conjunction first (blank a (111 ∷ 114 ∷ blank b (text_of second r))) f.2 in record { opening = i.opening; no_space = i.no_space }

pub some_comparison : (c : Phrase) → 1 ≤ comparisons c
some_comparison (Comparing name a o b value literal) = omega arith
some_comparison (Group a inner b) = some_comparison inner
some_comparison (Negated a inner) = some_comparison inner
some_comparison (Joined first a b second) = let h = some_comparison first in omega arith
some_comparison (Parted first a b second) = let h = some_comparison first in omega arith
