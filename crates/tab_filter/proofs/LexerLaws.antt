-- What the grammar's words are read as.
use Rattle.std.proofs.Common.{◌≡◌, ℕ, zero, suc, ◌<◌, ◌≤◌, List, [], ◌∷◌, ◌++◌, length, Bool, true, false, cond, not, ◌||◌, ◌==◌, Some, Ok, refl, ap, sym, ◌∙◌, arith, lit≤}
use Rattle.std.specs.Prelude.{codes}
use Rattle.std.specs.List.{list_all}
use Rattle.std.proofs.lemmas.Bool.{and_parts, and_from, not-true, true≢false}
use Rattle.std.proofs.lemmas.Bool.Decides.{Decides-eqb}
use Rattle.std.proofs.lemmas.Slice.Eq.{bytes_eq-Decides}
use Rattle.tab_filter.specs.declared.trees.Operator.{Operator}
use Rattle.tab_filter.specs.declared.trees.Operator.TheVariants.{Equal, NotEqual, Greater, GreaterOrEqual, Less, LessOrEqual}
use Rattle.tab_filter.specs.declared.lexer.Joint.{Joint}
use Rattle.tab_filter.specs.declared.lexer.Joint.TheVariants.{And, Or, Neither}
use Rattle.tab_filter.specs.Lexer.{starts, past_first, behind, after_spaces, gap_at, edge_at, operator_at, begins, continues, name_front, name_behind, starts_name, whole_name, behind_name, name_at, is_not, operator_named, joint_at, and_at, or_at, Read}
use Rattle.tab_filter.specs.Parser.{begins_literal}
use Rattle.tab_filter.specs.Grammar.{IsName, operator_text, blank, IsGap}
use Rattle.tab_filter.proofs.Chars.{begins-space, begins-opening, continues-space, continues-opening, begins-e, begins-g, begins-l, begins-n, continues-e, continues-o, continues-q, continues-t}

-- ---- spaces
pub after_spaces-here : (r : List ℕ) → starts 32 r ≡ false → after_spaces r ≡ r
unfolding behind
after_spaces-here [] h = refl
after_spaces-here (b ∷ bs) h = rw h refl

pub after_blank : (n : ℕ) (r : List ℕ) → starts 32 r ≡ false → after_spaces (blank n r) ≡ r
unfolding behind
after_blank zero r h = after_spaces-here r h
after_blank (suc n) r h = after_blank n r h

pub starts-blank : (n : ℕ) (r : List ℕ) → 0 < n → starts 32 (blank n r) ≡ true
starts-blank zero r h = absurd (omega arith)
starts-blank (suc n) r h = refl

pub gap_complete : (n : ℕ) (r : List ℕ) → 0 < n → starts 32 r ≡ false → gap_at (blank n r) ≡ Ok (tt, r)
gap_complete n r h s = rw (starts-blank n r h, after_blank n r s) refl

pub edge_complete : (opening : Bool) (n : ℕ) (r : List ℕ) → IsGap opening n → starts 40 r ≡ opening → starts 32 r ≡ false → edge_at (blank n r) ≡ Ok (tt, r)
edge_complete true n r h o s = rw (after_blank n r s, o) refl
edge_complete false n r h o s = rw (after_blank n r s, o, starts-blank n r h) refl

-- ---- names
-- the text goes on with no character of a name
abbrev pub ends_name : List ℕ → Bool
ends_name [] = true
ends_name (b ∷ bs) = not (continues b)

fronts : (n : ℕ) (w r : List ℕ) → list_all continues w ≡ true → length w ≤ n → ends_name r ≡ true → (name_front n (w ++ r) ≡ w) × (name_behind n (w ++ r) ≡ r)
unfolding name_front name_behind
fronts zero [] r h short e = (refl, refl)
fronts zero (c ∷ cs) r h short e = absurd (omega arith)
fronts (suc n) [] [] h short e = (refl, refl)
fronts (suc n) [] (b ∷ bs) h short e = rw (not-true (continues b) e) (refl, refl)
fronts (suc n) (c ∷ cs) r h short e =
    let parts = and_parts (continues c) (list_all continues cs) h in
    let rest = fronts n cs r parts.1 (omega arith) e in
    rw parts.0 (ap (λ (l : List ℕ). c ∷ l) rest.0, rest.1)

pub record NameRead (w r : List ℕ) : Type 0 where
  pub starts : starts_name (w ++ r) ≡ true
  pub whole : whole_name (w ++ r) ≡ w
  pub behind : behind_name (w ++ r) ≡ r

pub name_read : (w r : List ℕ) → IsName w → ends_name r ≡ true → NameRead w r
unfolding whole_name
name_read [] r h e = absurd h
name_read (c ∷ cs) r h e =
    let f = fronts 254 cs r h.1 h.2 e in
    record { starts = h.0; whole = ap (λ (l : List ℕ). c ∷ l) f.0; behind = f.1 }

pub name_complete : (w r : List ℕ) → IsName w → ends_name r ≡ true → name_at (w ++ r) ≡ Ok (w, r)
unfolding name_at
name_complete w r h e = let n = name_read w r h e in rw (n.starts, n.whole, n.behind) refl

pub ends_name-blank : (n : ℕ) (r : List ℕ) → 0 < n → ends_name (blank n r) ≡ true
ends_name-blank zero r h = absurd (omega arith)
ends_name-blank (suc n) r h = rw continues-space refl

pub ends_name-gap : (opening : Bool) (n : ℕ) (r : List ℕ) → IsGap opening n → starts 40 r ≡ opening → ends_name (blank n r) ≡ true
ends_name-gap true zero [] h o = refl
ends_name-gap true zero (b ∷ bs) h o = rw ((Decides-eqb b 40).0 o, continues-opening) refl
ends_name-gap true (suc n) r h o = rw continues-space refl
ends_name-gap false n r h o = ends_name-blank n r h

-- what begins a name is no space and no parenthesis
begins_other : (b c : ℕ) → begins b ≡ true → begins c ≡ false → (b == c) ≡ false
begins_other b c h no_name =
    elim (b == c) as (λ v. (b == c) ≡ v → v ≡ false) [
      | true ↦ λ e. absurd (true≢false (sym h ∙ ap begins ((Decides-eqb b c).0 e) ∙ no_name))
      | false ↦ λ e. refl
    ] refl

pub name_no_space : (w r : List ℕ) → IsName w → starts 32 (w ++ r) ≡ false
name_no_space [] r h = absurd h
name_no_space (c ∷ cs) r h = begins_other c 32 h.0 begins-space

pub name_no_opening : (w r : List ℕ) → IsName w → starts 40 (w ++ r) ≡ false
name_no_opening [] r h = absurd h
name_no_opening (c ∷ cs) r h = begins_other c 40 h.0 begins-opening

-- ---- the word `not`, as a name
pub not_is_name : IsName (codes "not")
not_is_name = (begins-n, and_from _ _ continues-o (and_from _ true continues-t refl), lit≤ tt)

pub is_not-not : is_not (codes "not") ≡ true
unfolding is_not
is_not-not = refl

pub is_not-is : (w : List ℕ) → is_not w ≡ true → w ≡ codes "not"
unfolding is_not
is_not-is w h = (bytes_eq-Decides w (codes "not")).0 h

-- ---- operators
abbrev pub letters : Operator → List ℕ
letters Equal = codes "eq"
letters NotEqual = codes "ne"
letters Greater = codes "gt"
letters GreaterOrEqual = codes "ge"
letters Less = codes "lt"
letters LessOrEqual = codes "le"

pub letters-text : (o : Operator) (r : List ℕ) → operator_text o r ≡ letters o ++ r
letters-text Equal r = refl
letters-text NotEqual r = refl
letters-text Greater r = refl
letters-text GreaterOrEqual r = refl
letters-text Less r = refl
letters-text LessOrEqual r = refl

pub letters_are_name : (o : Operator) → IsName (letters o)
letters_are_name Equal = (begins-e, and_from _ true continues-q refl, lit≤ tt)
letters_are_name NotEqual = (begins-n, and_from _ true continues-e refl, lit≤ tt)
letters_are_name Greater = (begins-g, and_from _ true continues-t refl, lit≤ tt)
letters_are_name GreaterOrEqual = (begins-g, and_from _ true continues-e refl, lit≤ tt)
letters_are_name Less = (begins-l, and_from _ true continues-t refl, lit≤ tt)
letters_are_name LessOrEqual = (begins-l, and_from _ true continues-e refl, lit≤ tt)

pub operator_named-letters : (o : Operator) → operator_named (letters o) ≡ Some o
unfolding operator_named
operator_named-letters Equal = refl
operator_named-letters NotEqual = refl
operator_named-letters Greater = refl
operator_named-letters GreaterOrEqual = refl
operator_named-letters Less = refl
operator_named-letters LessOrEqual = refl

pub is_not-letters : (o : Operator) → is_not (letters o) ≡ false
unfolding is_not
is_not-letters Equal = refl
is_not-letters NotEqual = refl
is_not-letters Greater = refl
is_not-letters GreaterOrEqual = refl
is_not-letters Less = refl
is_not-letters LessOrEqual = refl

pub operator_complete : (o : Operator) (r : List ℕ) → operator_at (operator_text o r) ≡ Ok (o, r)
unfolding operator_at
operator_complete Equal r = refl
operator_complete NotEqual r = refl
operator_complete Greater r = refl
operator_complete GreaterOrEqual r = refl
operator_complete Less r = refl
operator_complete LessOrEqual r = refl

pub operator_no_space : (o : Operator) (r : List ℕ) → starts 32 (operator_text o r) ≡ false
operator_no_space Equal r = refl
operator_no_space NotEqual r = refl
operator_no_space Greater r = refl
operator_no_space GreaterOrEqual r = refl
operator_no_space Less r = refl
operator_no_space LessOrEqual r = refl

pub operator_no_opening : (o : Operator) (r : List ℕ) → starts 40 (operator_text o r) ≡ false
operator_no_opening Equal r = refl
operator_no_opening NotEqual r = refl
operator_no_opening Greater r = refl
operator_no_opening GreaterOrEqual r = refl
operator_no_opening Less r = refl
operator_no_opening LessOrEqual r = refl

pub operator_no_literal : (o : Operator) (r : List ℕ) → begins_literal (operator_text o r) ≡ false
unfolding begins_literal
operator_no_literal Equal r = refl
operator_no_literal NotEqual r = refl
operator_no_literal Greater r = refl
operator_no_literal GreaterOrEqual r = refl
operator_no_literal Less r = refl
operator_no_literal LessOrEqual r = refl

-- ---- joints
-- behind a part that ends with a `)` or else before a space
pub and_complete : (closed : Bool) (n : ℕ) (r : List ℕ) → IsGap closed n → joint_at closed (blank n (97 ∷ 110 ∷ 100 ∷ r)) ≡ Ok (And, r)
unfolding joint_at
and_complete true n r h = rw (after_blank n (97 ∷ 110 ∷ 100 ∷ r) refl) refl
and_complete false n r h = rw (starts-blank n (97 ∷ 110 ∷ 100 ∷ r) h, after_blank n (97 ∷ 110 ∷ 100 ∷ r) refl) refl

pub or_complete : (closed : Bool) (n : ℕ) (r : List ℕ) → IsGap closed n → joint_at closed (blank n (111 ∷ 114 ∷ r)) ≡ Ok (Or, r)
unfolding joint_at
or_complete true n r h = rw (after_blank n (111 ∷ 114 ∷ r) refl) refl
or_complete false n r h = rw (starts-blank n (111 ∷ 114 ∷ r) h, after_blank n (111 ∷ 114 ∷ r) refl) refl

-- the end of a text or of a group
abbrev pub ends_group : List ℕ → Bool
ends_group [] = true
ends_group (b ∷ bs) = b == 41

abbrev joined : Bool → List ℕ → Read Joint
joined b text =
    cond (not b) (Ok (Neither, text)) (cond (starts 97 text) (and_at (past_first text)) (cond (starts 111 text) (or_at (past_first text)) (Ok (Neither, text))))

joined_neither : (b : Bool) (r : List ℕ) → ends_group r ≡ true → joined b r ≡ Ok (Neither, r)
joined_neither true [] e = refl
joined_neither false [] e = refl
joined_neither true (c ∷ cs) e = rw ((Decides-eqb c 41).0 e) refl
joined_neither false (c ∷ cs) e = refl

ends_no_space : (r : List ℕ) → ends_group r ≡ true → starts 32 r ≡ false
ends_no_space [] e = refl
ends_no_space (c ∷ cs) e = rw ((Decides-eqb c 41).0 e) refl

pub neither_complete : (closed : Bool) (n : ℕ) (r : List ℕ) → ends_group r ≡ true → joint_at closed (blank n r) ≡ Ok (Neither, r)
unfolding joint_at
neither_complete closed n r e =
    ap (joined (closed || starts 32 (blank n r))) (after_blank n r (ends_no_space r e)) ∙ joined_neither (closed || starts 32 (blank n r)) r e
