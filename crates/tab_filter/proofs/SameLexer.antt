-- The readers of words do not look behind the character at which they stop.
use Rattle.std.proofs.Common.{◌≡◌, ℕ, zero, suc, List, [], ◌∷◌, ◌++◌, Bool, true, false, cond, not, ◌||◌, ◌==◌, Option, Some, None, Ok, Err, refl, ap, sym, ◌∙◌}
use Rattle.std.specs.Prelude.{encode_utf8}
use Rattle.tab_edm.specs.declared.values.Value.{Value}
use Rattle.tab_edm.specs.declared.values.Value.TheVariants.{Text}
use Rattle.tab_filter.specs.declared.trees.Operator.{Operator}
use Rattle.tab_filter.specs.declared.trees.Operator.TheVariants.{Equal, NotEqual, Greater, GreaterOrEqual, Less, LessOrEqual}
use Rattle.tab_filter.specs.declared.lexer.Joint.{Joint}
use Rattle.tab_filter.specs.declared.lexer.Joint.TheVariants.{And, Or, Neither}
use Rattle.tab_keys.specs.Results.{◌>>=◌}
use Rattle.tab_filter.specs.Lexer.{Read, Syntax, BadLiteral, starts, past_first, front_of, behind, is_space, is_plain, is_unquoted, after_spaces, expect, gap_at, edge_at, letter_at, either_letter_at, operator_at, continues, name_front, name_behind, starts_name, whole_name, behind_name, name_at, joint_at, and_at, or_at}
use Rattle.tab_filter.specs.Literals.{with_front, inside_at, plain_value, prefixed_value, given, quoted, token_at, closed_at, quote_at, word_at, literal_at}
use Rattle.tab_filter.specs.Grammar.{doubled}
use Rattle.tab_filter.proofs.Splits.{split_behind, whole_name_split, name_split}
use Rattle.tab_filter.proofs.LiteralLaws.{doubled_append, inside_complete}
use Rattle.tab_filter.proofs.LiteralSound.{no_pair, some_pair, none_pair, pair_same, front_some, inside_found}
use Rattle.tab_filter.proofs.Same.{Ended, found, done, halted, done_is, stop_is, ok_no_stop, err_no_ok, bad_no_stop, Same, no_end, no_front, cancel, same_bind, same_map, same_stay, same_here, same_fault, same_choice, same_starts}

-- ---- the longest front of some characters
behind_no_more : (t : ℕ → Bool) (r : List ℕ) (b : ℕ) → behind t r ≡ b ∷ r → ⊥
behind_no_more t r b e = no_end r (front_of t r) b (split_behind t r ∙ ap (λ (l : List ℕ). front_of t r ++ l) e)

fronts_same : (t : ℕ → Bool) (p : List ℕ) (b : ℕ) (r q : List ℕ) → behind t (p ++ b ∷ r) ≡ b ∷ r → (front_of t (p ++ b ∷ r) ≡ front_of t (p ++ b ∷ q)) × (behind t (p ++ b ∷ q) ≡ b ∷ q)
unfolding front_of behind
fronts_same t [] b r q e =
    elim (t b) as (λ v. cond v (behind t r) (b ∷ r) ≡ b ∷ r → (cond v (b ∷ front_of t r) [] ≡ cond v (b ∷ front_of t q) []) × (cond v (behind t q) (b ∷ q) ≡ b ∷ q)) [
      | true ↦ λ e. absurd (behind_no_more t r b e)
      | false ↦ λ e. (refl, refl)
    ] e
fronts_same t (c ∷ cs) b r q e =
    elim (t c) as (λ v. cond v (behind t (cs ++ b ∷ r)) (c ∷ (cs ++ b ∷ r)) ≡ b ∷ r → (cond v (c ∷ front_of t (cs ++ b ∷ r)) [] ≡ cond v (c ∷ front_of t (cs ++ b ∷ q)) []) × (cond v (behind t (cs ++ b ∷ q)) (c ∷ (cs ++ b ∷ q)) ≡ b ∷ q)) [
      | true ↦ λ e. let rest = fronts_same t cs b r q e in (ap (λ (l : List ℕ). c ∷ l) rest.0, rest.1)
      | false ↦ λ e. absurd (no_front c cs (b ∷ r) e)
    ] e

abbrev pub split_at : (ℕ → Bool) → List ℕ → Read (List ℕ)
split_at t text = Ok (front_of t text, behind t text)

pub same_split : (t : ℕ → Bool) → Same (split_at t) (split_at t)
same_split t = record {
  ends = λ u. (front_of t u, split_behind t u);
  ok = λ p b r q v e.
      let x = done_is e in
      let same = fronts_same t p b r q (ap (λ (y : List ℕ × List ℕ). y.1) x) in
      (λ i. done (sym same.0 i, same.1 i)) ∙ ap (λ (l : List ℕ). found l (b ∷ q)) (ap (λ (y : List ℕ × List ℕ). y.0) x);
  bad = λ p b r q e. absurd (ok_no_stop e);
}

-- ---- single characters
pub same_expect : (c : ℕ) → Same (expect c) (expect c)
same_expect c =
    same_starts c (λ _ u. Ok (tt, u)) (λ _ u. Ok (tt, u)) (λ _ u. Err (Syntax u)) (λ _ u. Err (Syntax u)) (λ t u. same_stay tt) (λ t u. same_here (Unit {0}))

-- ---- spaces
-- whether a space stands here, and what is behind the spaces
abbrev pub spaces_at : Bool → List ℕ → Read Bool
spaces_at closed text = Ok (closed || starts 32 text, after_spaces text)

starts_same : (c : ℕ) (p : List ℕ) (b : ℕ) (r q : List ℕ) → starts c (p ++ b ∷ r) ≡ starts c (p ++ b ∷ q)
starts_same c [] b r q = refl
starts_same c (d ∷ ds) b r q = refl

pub same_spaces : (closed : Bool) → Same (spaces_at closed) (spaces_at closed)
same_spaces closed = record {
  ends = λ u. (front_of is_space u, split_behind is_space u);
  ok = λ p b r q v e.
      let x = done_is e in
      let same = fronts_same is_space p b r q (ap (λ (y : Bool × List ℕ). y.1) x) in
      (λ i. done (closed || starts_same 32 p b q r i, same.1 i)) ∙ ap (λ (l : Bool). found l (b ∷ q)) (ap (λ (y : Bool × List ℕ). y.0) x);
  bad = λ p b r q e. absurd (ok_no_stop e);
}

pub same_gap : Same gap_at gap_at
same_gap = record {
  ends = λ u. elim (starts 32 u) as (λ v. Ended u (cond {A = Read (Unit {0})} v (Ok (tt, after_spaces u)) (Err (Syntax u)))) [ true ↦ (front_of is_space u, split_behind is_space u) | false ↦ ([], refl) ];
  ok = λ p b r q v e. gap_ok p b r q v e;
  bad = λ p b r q e. gap_bad p b r q e;
}
  where
    gap_ok : (p : List ℕ) (b : ℕ) (r q : List ℕ) (v : Unit {0}) → gap_at (p ++ b ∷ r) ≡ found v (b ∷ r) → gap_at (p ++ b ∷ q) ≡ found v (b ∷ q)
    gap_ok p b r q v e =
        elim (starts 32 (p ++ b ∷ r)) as (λ z. starts 32 (p ++ b ∷ r) ≡ z → cond {A = Read (Unit {0})} z (Ok (tt, after_spaces (p ++ b ∷ r))) (Err (Syntax (p ++ b ∷ r))) ≡ found v (b ∷ r) → gap_at (p ++ b ∷ q) ≡ found v (b ∷ q)) [
          | true ↦ λ h e. let same = fronts_same is_space p b r q (ap (λ (y : Unit {0} × List ℕ). y.1) (done_is e)) in rw (starts_same 32 p b q r, h, same.1) refl
          | false ↦ λ h e. absurd (err_no_ok e)
        ] refl e

    gap_bad : (p : List ℕ) (b : ℕ) (r q : List ℕ) → gap_at (p ++ b ∷ r) ≡ halted (Unit {0}) (Syntax (b ∷ r)) → gap_at (p ++ b ∷ q) ≡ halted (Unit {0}) (Syntax (b ∷ q))
    gap_bad p b r q e =
        elim (starts 32 (p ++ b ∷ r)) as (λ z. starts 32 (p ++ b ∷ r) ≡ z → cond {A = Read (Unit {0})} z (Ok (tt, after_spaces (p ++ b ∷ r))) (Err (Syntax (p ++ b ∷ r))) ≡ halted (Unit {0}) (Syntax (b ∷ r)) → gap_at (p ++ b ∷ q) ≡ halted (Unit {0}) (Syntax (b ∷ q))) [
          | true ↦ λ h e. absurd (ok_no_stop e)
          | false ↦ λ h e. rw (starts_same 32 p b q r, h) (ap (λ (l : List ℕ). halted (Unit {0}) (Syntax l)) (stays p b r q (stop_is (Unit {0}) e)))
        ] refl e
      where
        stays : (p : List ℕ) (b : ℕ) (r q : List ℕ) → p ++ b ∷ r ≡ b ∷ r → p ++ b ∷ q ≡ b ∷ q
        stays [] b r q e = refl
        stays (c ∷ cs) b r q e = absurd (no_front c cs (b ∷ r) e)

-- spaces that stop before a `(` or not
opening_same : (p : List ℕ) (b : ℕ) (r q : List ℕ) → (after_spaces (p ++ b ∷ r) ≡ b ∷ r) → starts 40 (after_spaces (p ++ b ∷ r)) ≡ starts 40 (after_spaces (p ++ b ∷ q))
opening_same p b r q e =
    let same = fronts_same is_space p b r q e in ap (starts 40) e ∙ sym (ap (starts 40) same.1)

-- a text that begins with no space
pub spaces_here : (p : List ℕ) (b : ℕ) (r : List ℕ) → p ++ b ∷ r ≡ b ∷ r → starts 32 (p ++ b ∷ r) ≡ false → after_spaces (p ++ b ∷ r) ≡ b ∷ r
unfolding behind
spaces_here [] b r is h = rw h refl
spaces_here (c ∷ cs) b r is h = absurd (no_front c cs (b ∷ r) is)

pub same_edge : Same edge_at edge_at
same_edge = record {
  ends = λ u. elim (starts 40 (after_spaces u)) as (λ v. Ended u (cond {A = Read (Unit {0})} v (Ok (tt, after_spaces u)) (gap_at u))) [ true ↦ (front_of is_space u, split_behind is_space u) | false ↦ same_gap.ends u ];
  ok = λ p b r q v e. edge_ok p b r q v e;
  bad = λ p b r q e. edge_bad p b r q e;
}
  where
    edge_ok : (p : List ℕ) (b : ℕ) (r q : List ℕ) (v : Unit {0}) → edge_at (p ++ b ∷ r) ≡ found v (b ∷ r) → edge_at (p ++ b ∷ q) ≡ found v (b ∷ q)
    edge_ok p b r q v e =
        elim (starts 40 (after_spaces (p ++ b ∷ r))) as (λ z. starts 40 (after_spaces (p ++ b ∷ r)) ≡ z → cond {A = Read (Unit {0})} z (Ok (tt, after_spaces (p ++ b ∷ r))) (gap_at (p ++ b ∷ r)) ≡ found v (b ∷ r) → edge_at (p ++ b ∷ q) ≡ found v (b ∷ q)) [
          | true ↦ λ h e. let at = ap (λ (y : Unit {0} × List ℕ). y.1) (done_is e) in
              rw (sym (opening_same p b r q at) ∙ h) (ap (λ (l : List ℕ). found tt l) (fronts_same is_space p b r q at).1)
          | false ↦ λ h e. let at = gap_rest (p ++ b ∷ r) (b ∷ r) v e in rw (sym (opening_same p b r q at) ∙ h) (same_gap.ok p b r q v e)
        ] refl e
      where
        gap_rest : (t left : List ℕ) (v : Unit {0}) → gap_at t ≡ found v left → after_spaces t ≡ left
        gap_rest t left v e =
            elim (starts 32 t) as (λ z. cond {A = Read (Unit {0})} z (Ok (tt, after_spaces t)) (Err (Syntax t)) ≡ found v left → after_spaces t ≡ left) [
              | true ↦ λ e. ap (λ (y : Unit {0} × List ℕ). y.1) (done_is e)
              | false ↦ λ e. absurd (err_no_ok e)
            ] e

    edge_bad : (p : List ℕ) (b : ℕ) (r q : List ℕ) → edge_at (p ++ b ∷ r) ≡ halted (Unit {0}) (Syntax (b ∷ r)) → edge_at (p ++ b ∷ q) ≡ halted (Unit {0}) (Syntax (b ∷ q))
    edge_bad p b r q e =
        elim (starts 40 (after_spaces (p ++ b ∷ r))) as (λ z. starts 40 (after_spaces (p ++ b ∷ r)) ≡ z → cond {A = Read (Unit {0})} z (Ok (tt, after_spaces (p ++ b ∷ r))) (gap_at (p ++ b ∷ r)) ≡ halted (Unit {0}) (Syntax (b ∷ r)) → edge_at (p ++ b ∷ q) ≡ halted (Unit {0}) (Syntax (b ∷ q))) [
          | true ↦ λ h e. absurd (ok_no_stop e)
          | false ↦ λ h e. let at = gap_stops (p ++ b ∷ r) (b ∷ r) e in rw (sym (opening_same p b r q (spaces_here p b r at.0 at.1)) ∙ h) (same_gap.bad p b r q e)
        ] refl e
      where
        gap_stops : (t left : List ℕ) → gap_at t ≡ halted (Unit {0}) (Syntax left) → (t ≡ left) × (starts 32 t ≡ false)
        gap_stops t left e =
            elim (starts 32 t) as (λ z. starts 32 t ≡ z → cond {A = Read (Unit {0})} z (Ok (tt, after_spaces t)) (Err (Syntax t)) ≡ halted (Unit {0}) (Syntax left) → (t ≡ left) × (starts 32 t ≡ false)) [
              | true ↦ λ h e. absurd (ok_no_stop e)
              | false ↦ λ h e. (stop_is (Unit {0}) e, h)
            ] refl e

-- ---- operators
same_letter : (c : ℕ) (o : Operator) → Same (letter_at c o) (letter_at c o)
same_letter c o =
    same_starts c (λ _ u. Ok (o, u)) (λ _ u. Ok (o, u)) (λ _ u. Err (Syntax u)) (λ _ u. Err (Syntax u)) (λ t u. same_stay o) (λ t u. same_here Operator)

pub same_either_letter : (first : Operator) (c : ℕ) (o : Operator) → Same (either_letter_at first c o) (either_letter_at first c o)
same_either_letter first c o =
    same_starts 101 (λ _ u. Ok (first, u)) (λ _ u. Ok (first, u)) (λ _ u. letter_at c o u) (λ _ u. letter_at c o u) (λ t u. same_stay first) (λ t u. same_letter c o)

abbrev fourth : List ℕ → Read Operator
fourth t = cond (starts 108 t) (either_letter_at LessOrEqual 116 Less (past_first t)) (Err (Syntax t))

abbrev third : List ℕ → Read Operator
third t = cond (starts 103 t) (either_letter_at GreaterOrEqual 116 Greater (past_first t)) (fourth t)

abbrev second : List ℕ → Read Operator
second t = cond (starts 110 t) (letter_at 101 NotEqual (past_first t)) (third t)

pub same_operator : Same operator_at operator_at
unfolding operator_at
same_operator =
    same_starts 101 (λ _ u. letter_at 113 Equal u) (λ _ u. letter_at 113 Equal u) (λ _ u. second u) (λ _ u. second u) (λ t u. same_letter 113 Equal)
    (λ t u. same_starts 110 (λ _ u. letter_at 101 NotEqual u) (λ _ u. letter_at 101 NotEqual u) (λ _ u. third u) (λ _ u. third u) (λ t u. same_letter 101 NotEqual)
    (λ t u. same_starts 103 (λ _ u. either_letter_at GreaterOrEqual 116 Greater u) (λ _ u. either_letter_at GreaterOrEqual 116 Greater u) (λ _ u. fourth u) (λ _ u. fourth u) (λ t u. same_either_letter GreaterOrEqual 116 Greater)
    (λ t u. same_starts 108 (λ _ u. either_letter_at LessOrEqual 116 Less u) (λ _ u. either_letter_at LessOrEqual 116 Less u) (λ _ u. Err (Syntax u)) (λ _ u. Err (Syntax u)) (λ t u. same_either_letter LessOrEqual 116 Less) (λ t u. same_here Operator))))

-- ---- joints
abbrev or_after : List ℕ → Read Joint
or_after t = cond (starts 111 t) (or_at (past_first t)) (Ok (Neither, t))

abbrev joint_after : Bool → List ℕ → Read Joint
joint_after b t = cond (not b) (Ok (Neither, t)) (cond (starts 97 t) (and_at (past_first t)) (or_after t))

same_and : Same and_at and_at
same_and =
    same_bind (expect 110) (expect 110) (λ _ _ u. expect 100 u >>= λ d. Ok (And, d.1)) (λ _ _ u. expect 100 u >>= λ d. Ok (And, d.1)) (same_expect 110)
    (λ t u v. same_map (expect 100) (expect 100) (λ _. And) (same_expect 100))

same_or : Same or_at or_at
same_or = same_map (expect 114) (expect 114) (λ _. Or) (same_expect 114)

same_joint_after : (b : Bool) → Same (joint_after b) (joint_after b)
same_joint_after b =
    same_choice (not b) (λ u. Ok (Neither, u)) (λ u. Ok (Neither, u)) (λ t. cond (starts 97 t) (and_at (past_first t)) (or_after t)) (λ t. cond (starts 97 t) (and_at (past_first t)) (or_after t)) (λ h. same_stay Neither)
    (λ h. same_starts 97 (λ _ u. and_at u) (λ _ u. and_at u) (λ _ u. or_after u) (λ _ u. or_after u) (λ t u. same_and)
    (λ t u. same_starts 111 (λ _ u. or_at u) (λ _ u. or_at u) (λ _ u. Ok (Neither, u)) (λ _ u. Ok (Neither, u)) (λ t u. same_or) (λ t u. same_stay Neither)))

pub same_joint : (closed : Bool) → Same (joint_at closed) (joint_at closed)
unfolding joint_at
same_joint closed =
    same_bind (spaces_at closed) (spaces_at closed) (λ _ b u. joint_after b u) (λ _ b u. joint_after b u) (same_spaces closed) (λ t u v. same_joint_after v)

-- ---- names
name_no_more : (n : ℕ) (r : List ℕ) (b : ℕ) → name_behind n r ≡ b ∷ r → ⊥
name_no_more n r b e = no_end r (name_front n r) b (name_split n r ∙ ap (λ (l : List ℕ). name_front n r ++ l) e)

names_same : (n : ℕ) (p : List ℕ) (b : ℕ) (r q : List ℕ) → name_behind n (p ++ b ∷ r) ≡ b ∷ r → (name_front n (p ++ b ∷ r) ≡ name_front n (p ++ b ∷ q)) × (name_behind n (p ++ b ∷ q) ≡ b ∷ q)
unfolding name_front name_behind
names_same zero [] b r q e = (refl, refl)
names_same zero (c ∷ cs) b r q e = absurd (no_front c cs (b ∷ r) e)
names_same (suc n) [] b r q e =
    elim (continues b) as (λ v. cond v (name_behind n r) (b ∷ r) ≡ b ∷ r → (cond v (b ∷ name_front n r) [] ≡ cond v (b ∷ name_front n q) []) × (cond v (name_behind n q) (b ∷ q) ≡ b ∷ q)) [
      | true ↦ λ e. absurd (name_no_more n r b e)
      | false ↦ λ e. (refl, refl)
    ] e
names_same (suc n) (c ∷ cs) b r q e =
    elim (continues c) as (λ v. cond v (name_behind n (cs ++ b ∷ r)) (c ∷ (cs ++ b ∷ r)) ≡ b ∷ r → (cond v (c ∷ name_front n (cs ++ b ∷ r)) [] ≡ cond v (c ∷ name_front n (cs ++ b ∷ q)) []) × (cond v (name_behind n (cs ++ b ∷ q)) (c ∷ (cs ++ b ∷ q)) ≡ b ∷ q)) [
      | true ↦ λ e. let rest = names_same n cs b r q e in (ap (λ (l : List ℕ). c ∷ l) rest.0, rest.1)
      | false ↦ λ e. absurd (no_front c cs (b ∷ r) e)
    ] e

whole_same : (p : List ℕ) (b : ℕ) (r q : List ℕ) → behind_name (p ++ b ∷ r) ≡ b ∷ r → (whole_name (p ++ b ∷ r) ≡ whole_name (p ++ b ∷ q)) × (behind_name (p ++ b ∷ q) ≡ b ∷ q)
unfolding whole_name
whole_same [] b r q e = absurd (name_no_more 254 r b e)
whole_same (c ∷ cs) b r q e = let same = names_same 254 cs b r q e in (ap (λ (l : List ℕ). c ∷ l) same.0, same.1)

starts_name_same : (p : List ℕ) (b : ℕ) (r q : List ℕ) → starts_name (p ++ b ∷ r) ≡ starts_name (p ++ b ∷ q)
starts_name_same [] b r q = refl
starts_name_same (c ∷ cs) b r q = refl

abbrev named : Bool → List ℕ → Read (List ℕ)
named v t = cond v (Ok (whole_name t, behind_name t)) (Err (Syntax t))

pub same_name : Same name_at name_at
unfolding name_at
same_name = record {
  ends = λ u. elim (starts_name u) as (λ v. Ended u (named v u)) [ true ↦ (whole_name u, whole_name_split u) | false ↦ ([], refl) ];
  ok = λ p b r q v e. name_ok p b r q v e;
  bad = λ p b r q e. name_bad p b r q e;
}
  where
    name_ok : (p : List ℕ) (b : ℕ) (r q : List ℕ) (w : List ℕ) → named (starts_name (p ++ b ∷ r)) (p ++ b ∷ r) ≡ found w (b ∷ r) → named (starts_name (p ++ b ∷ q)) (p ++ b ∷ q) ≡ found w (b ∷ q)
    name_ok p b r q w e =
        elim (starts_name (p ++ b ∷ r)) as (λ z. starts_name (p ++ b ∷ r) ≡ z → named z (p ++ b ∷ r) ≡ found w (b ∷ r) → named (starts_name (p ++ b ∷ q)) (p ++ b ∷ q) ≡ found w (b ∷ q)) [
          | true ↦ λ h e. let x = done_is e in
              let same = whole_same p b r q (ap (λ (y : List ℕ × List ℕ). y.1) x) in
              rw (starts_name_same p b q r, h) ((λ i. done (sym same.0 i, same.1 i)) ∙ ap (λ (l : List ℕ). found l (b ∷ q)) (ap (λ (y : List ℕ × List ℕ). y.0) x))
          | false ↦ λ h e. absurd (err_no_ok e)
        ] refl e

    name_bad : (p : List ℕ) (b : ℕ) (r q : List ℕ) → named (starts_name (p ++ b ∷ r)) (p ++ b ∷ r) ≡ halted (List ℕ) (Syntax (b ∷ r)) → named (starts_name (p ++ b ∷ q)) (p ++ b ∷ q) ≡ halted (List ℕ) (Syntax (b ∷ q))
    name_bad p b r q e =
        elim (starts_name (p ++ b ∷ r)) as (λ z. starts_name (p ++ b ∷ r) ≡ z → named z (p ++ b ∷ r) ≡ halted (List ℕ) (Syntax (b ∷ r)) → named (starts_name (p ++ b ∷ q)) (p ++ b ∷ q) ≡ halted (List ℕ) (Syntax (b ∷ q))) [
          | true ↦ λ h e. absurd (ok_no_stop e)
          | false ↦ λ h e. rw (starts_name_same p b q r, h) ((same_here (List ℕ)).bad p b r q e)
        ] refl e

-- ---- literals
-- a quoted text ends before no quote
inside_stops : (t bytes left : List ℕ) → inside_at t ≡ Some (bytes, left) → starts 39 left ≡ false
unfolding inside_at
inside_stops [] bytes left e = absurd (none_pair e)
inside_stops (b ∷ []) bytes left e =
    elim (b == 39) as (λ v. cond v (some_pair ([], [])) no_pair ≡ some_pair (bytes, left) → starts 39 left ≡ false) [
      | true ↦ λ e. sym (ap (λ (x : List ℕ × List ℕ). starts 39 x.1) (pair_same e))
      | false ↦ λ e. absurd (none_pair e)
    ] e
inside_stops (b ∷ c ∷ cs) bytes left e =
    elim (b == 39) as (λ v. cond v (cond (c == 39) (with_front (encode_utf8 39) (inside_at cs)) (some_pair ([], c ∷ cs))) (with_front (encode_utf8 b) (inside_at (c ∷ cs))) ≡ some_pair (bytes, left) → starts 39 left ≡ false) [
      | true ↦ λ e. elim (c == 39) as (λ v. (c == 39) ≡ v → cond v (with_front (encode_utf8 39) (inside_at cs)) (some_pair ([], c ∷ cs)) ≡ some_pair (bytes, left) → starts 39 left ≡ false) [
        | true ↦ λ _ e. let f = front_some (encode_utf8 39) (inside_at cs) bytes left e in inside_stops cs f.0 left f.1
        | false ↦ λ h e. sym (ap (λ (x : List ℕ × List ℕ). starts 39 x.1) (pair_same e)) ∙ h
      ] refl e
      | false ↦ λ e. let f = front_some (encode_utf8 b) (inside_at (c ∷ cs)) bytes left e in inside_stops (c ∷ cs) f.0 left f.1
    ] e

quoted_ends : (t l : List ℕ) (o : Option (List ℕ × List ℕ)) → inside_at l ≡ o → Ended l (quoted t o)
quoted_ends t l None e = tt
quoted_ends t l (Some x) e =
    let i = inside_found l x.0 x.1 e in (doubled i.inside (39 ∷ []), i.is ∙ sym (doubled_append i.inside (39 ∷ []) x.1))

quoted_ok : (t u p : List ℕ) (b : ℕ) (r q : List ℕ) (v : Value) (o : Option (List ℕ × List ℕ)) → inside_at (p ++ b ∷ r) ≡ o → quoted t o ≡ found v (b ∷ r) → quoted u (inside_at (p ++ b ∷ q)) ≡ found v (b ∷ q)
quoted_ok t u p b r q v None is e = absurd (err_no_ok e)
quoted_ok t u p b r q v (Some x) is e =
    let y = done_is e in
    let left : x.1 ≡ b ∷ r = ap (λ (y : Value × List ℕ). y.1) y in
    let value : Text x.0 ≡ v = ap (λ (y : Value × List ℕ). y.0) y in
    let i = inside_found (p ++ b ∷ r) x.0 x.1 is in
    let here : p ≡ doubled i.inside (39 ∷ []) = cancel p (doubled i.inside (39 ∷ [])) (b ∷ r) (i.is ∙ ap (λ (l : List ℕ). doubled i.inside (39 ∷ l)) left ∙ sym (doubled_append i.inside (39 ∷ []) (b ∷ r))) in
    let stops : starts 39 (b ∷ q) ≡ false = sym (ap (starts 39) left) ∙ inside_stops (p ++ b ∷ r) x.0 x.1 is in
    let there : p ++ b ∷ q ≡ doubled i.inside (39 ∷ b ∷ q) = ap (λ (l : List ℕ). l ++ b ∷ q) here ∙ doubled_append i.inside (39 ∷ []) (b ∷ q) in
    ap (λ (l : List ℕ). quoted u (inside_at l)) there ∙ ap (quoted u) (inside_complete i.inside (b ∷ q) stops) ∙ ap (λ (w : List ℕ). found (Text w) (b ∷ q)) (sym i.bytes_are) ∙ ap (λ (w : Value). found w (b ∷ q)) value

quoted_no_stop : (t left : List ℕ) (o : Option (List ℕ × List ℕ)) → quoted t o ≡ halted Value (Syntax left) → ⊥
quoted_no_stop t left None e = bad_no_stop Value e
quoted_no_stop t left (Some x) e = ok_no_stop e

same_quoted : (t u : List ℕ) → Same (λ l. quoted t (inside_at l)) (λ l. quoted u (inside_at l))
same_quoted t u = record {
  ends = λ l. quoted_ends t l (inside_at l) refl;
  ok = λ p b r q v e. quoted_ok t u p b r q v (inside_at (p ++ b ∷ r)) refl e;
  bad = λ p b r q e. absurd (quoted_no_stop t (b ∷ r) (inside_at (p ++ b ∷ r)) e);
}

same_given : (t u : List ℕ) (o : Option Value) → Same (λ l. given t o l) (λ l. given u o l)
same_given t u None =
    same_fault Value (λ l. given t None l) (λ l. given u None l) (λ l. tt) (λ l x e. err_no_ok e) (λ l m e. bad_no_stop Value e)
same_given t u (Some value) = same_stay value

same_token : (t u w : List ℕ) → Same (λ l. token_at t w l) (λ l. token_at u w l)
same_token t u [] = same_here Value
same_token t u (c ∷ cs) = same_given t u (plain_value (c ∷ cs))

same_bad : (t u : List ℕ) → Same (λ l. halted Value (BadLiteral t)) (λ l. halted Value (BadLiteral u))
same_bad t u =
    same_fault Value (λ l. halted Value (BadLiteral t)) (λ l. halted Value (BadLiteral u)) (λ l. tt) (λ l x e. err_no_ok e) (λ l m e. bad_no_stop Value e)

same_quote : (t u w : List ℕ) → Same (λ l. quote_at t w l) (λ l. quote_at u w l)
same_quote t u [] = same_quoted t u
same_quote t u (c ∷ cs) =
    same_bind (split_at is_unquoted) (split_at is_unquoted) (λ _ inside l. closed_at t (c ∷ cs) inside l) (λ _ inside l. closed_at u (c ∷ cs) inside l) (same_split is_unquoted)
    (λ _ _ inside. same_starts 39 (λ _ l. given t (prefixed_value (c ∷ cs) inside) l) (λ _ l. given u (prefixed_value (c ∷ cs) inside) l) (λ _ l. Err (BadLiteral t)) (λ _ l. Err (BadLiteral u)) (λ _ _. same_given t u (prefixed_value (c ∷ cs) inside)) (λ _ _. same_bad t u))

pub same_word : (t u w : List ℕ) → Same (λ l. word_at t w l) (λ l. word_at u w l)
same_word t u w =
    same_starts 39 (λ _ l. quote_at t w l) (λ _ l. quote_at u w l) (λ _ l. token_at t w l) (λ _ l. token_at u w l) (λ _ _. same_quote t u w) (λ _ _. same_token t u w)

pub same_literal : Same literal_at literal_at
unfolding literal_at
same_literal =
    same_bind (split_at is_plain) (split_at is_plain) (λ t w l. word_at t w l) (λ t w l. word_at t w l) (same_split is_plain) (λ t u w. same_word t u w)
