-- The readers of parts do not look behind the character at which they stop, and larger limits change nothing of it.
use Rattle.std.proofs.Common.{◌≡◌, ℕ, zero, suc, ◌<◌, ◌≤◌, List, [], ◌∷◌, ◌++◌, Bool, true, false, cond, not, ◌||◌, ◌==◌, Option, Some, None, Ok, Err, refl, ap, sym, subst, ◌∙◌, arith, append_assoc}
use Rattle.std.specs.Prelude.{nat_le}
use Rattle.std.proofs.lemmas.Bool.{leb-false, leb-true}
use Rattle.std.proofs.lemmas.Bool.Decides.{Decides-eqb}
use Rattle.tab_filter.specs.declared.trees.Operator.{Operator}
use Rattle.tab_filter.specs.declared.trees.Operator.TheVariants.{Greater, GreaterOrEqual}
use Rattle.tab_filter.specs.declared.lexer.Joint.{Joint}
use Rattle.tab_filter.specs.declared.lexer.Joint.TheVariants.{And, Or, Neither}
use Rattle.tab_filter.specs.Trees.{Both, Either}
use Rattle.tab_keys.specs.Results.{◌>>=◌}
use Rattle.tab_filter.specs.Lexer.{Read, Syntax, Deep, TooMany, starts, front_of, behind, is_plain, expect, gap_at, edge_at, either_letter_at, operator_at, name_at, is_not, operator_named, joint_at}
use Rattle.tab_filter.specs.Literals.{literal_at, word_at}
use Rattle.tab_filter.specs.Parser.{PartView, AllView, AnyView, compared, room_at, compared_at, operation_at, operand_at, begins_literal, negated, not_name, Inner, part_at, named_at, either_at, ambiguous_at, second_named_at, second_at, sole_operator, unless_sole, all_more, all_at, any_more, any_at, closed_group, inner_at}
use Rattle.tab_filter.specs.Grammar.{blank}
use Rattle.tab_filter.proofs.Splits.{split_behind}
use Rattle.tab_filter.proofs.Phrases.{blank_append}
use Rattle.tab_filter.proofs.LexerLaws.{starts-blank, after_blank, gap_complete, edge_complete, ends_name-blank, name_complete, name_no_space, name_no_opening, letters, letters_are_name, operator_named-letters, is_not-letters}
use Rattle.tab_filter.proofs.Complete.{letters_read}
use Rattle.tab_filter.proofs.SoundParser.{negation_of, Sole, sole_found, sole_into}
use Rattle.tab_filter.proofs.SoundPhrases.{group_of}
use Rattle.tab_filter.proofs.Same.{ended_after, Ended, found, halted, err_no_ok, deep_no_stop, many_no_stop, Same, no_end, cancel, ended_bind, same_bind, same_map, same_stay, same_fault, same_choice, same_starts}
use Rattle.tab_filter.proofs.SameLexer.{spaces_at, same_spaces, same_either_letter, same_word, same_expect, same_gap, same_edge, same_operator, same_joint, same_name, same_literal}

-- ---- room
le_more : (a b u : ℕ) → a ≤ b → nat_le a u ≡ false → nat_le b u ≡ false
le_more a b u h e =
    elim (nat_le b u) as (λ v. nat_le b u ≡ v → v ≡ false) [
      | true ↦ λ i. absurd (let low = leb-false a u e in let high = leb-true b u i in omega arith)
      | false ↦ λ i. refl
    ] refl

many : (A : Type 0) (g : List ℕ → Read A) → Same (λ t. halted A TooMany) g
many A g = same_fault A (λ t. halted A TooMany) g (λ t. tt) (λ t x e. err_no_ok e) (λ t left e. many_no_stop A e)

deep : (A : Type 0) (t : List ℕ) (g : List ℕ → Read A) → Same (λ u. halted A (Deep t)) g
deep A t g = same_fault A (λ u. halted A (Deep t)) g (λ u. tt) (λ u x e. err_no_ok e) (λ u left e. deep_no_stop A e)

same_room : {A : Type 0} (most more used : ℕ) (f g : List ℕ → Read A) → most ≤ more → Same f g → Same (λ t. room_at most used t >>= λ r. f r.1) (λ t. room_at more used t >>= λ r. g r.1)
same_room {A} most more used f g h same =
    elim (nat_le most used) as (λ v. nat_le most used ≡ v → Same (λ t. cond {A = Read (Unit {0})} v (Err TooMany) (Ok (tt, t)) >>= λ r. f r.1) (λ t. room_at more used t >>= λ r. g r.1)) [
      | true ↦ λ e. many A (λ t. room_at more used t >>= λ r. g r.1)
      | false ↦ λ e. rw (le_more most more used h e) same
    ] refl

-- ---- comparisons
same_compared : (used : ℕ) (name : List ℕ) (o : Operator) → Same (compared_at used name o) (compared_at used name o)
same_compared used name o = same_map literal_at literal_at (λ v. compared name o v used) same_literal

same_operand : (most more used : ℕ) (name : List ℕ) (o : Operator) → most ≤ more → Same (operand_at most used name o) (operand_at more used name o)
unfolding operand_at
same_operand most more used name o h =
    same_room most more used (compared_at used name o) (compared_at used name o) h (same_compared used name o)

same_operation : (most more used : ℕ) (name : List ℕ) → most ≤ more → Same (operation_at most used name) (operation_at more used name)
unfolding operation_at
same_operation most more used name h =
    same_bind operator_at operator_at (λ _ o t. room_at most used t >>= λ r. (gap_at r.1 >>= λ g. compared_at used name o g.1)) (λ _ o t. room_at more used t >>= λ r. (gap_at r.1 >>= λ g. compared_at used name o g.1)) same_operator
    (λ t u o. same_room most more used (λ t. gap_at t >>= λ g. compared_at used name o g.1) (λ t. gap_at t >>= λ g. compared_at used name o g.1) h
    (same_bind gap_at gap_at (λ _ _ t. compared_at used name o t) (λ _ _ t. compared_at used name o t) same_gap (λ t u v. same_compared used name o)))

same_negated : (f g : List ℕ → Read PartView) → Same f g → Same (λ t. negated (f t)) (λ t. negated (g t))
same_negated f g same = same_map f g negation_of same

-- ---- by whether a literal may begin here
-- readers that stop past a `g` that they begin with
record Passes (f : List ℕ → Read PartView) : Type 0 where
  passes : (r : List ℕ) → Ended r (f (103 ∷ r))

begins_same : (p : List ℕ) (b : ℕ) (r q : List ℕ) → (p ≡ [] → b ≡ 103 → ⊥) → begins_literal (p ++ b ∷ r) ≡ begins_literal (p ++ b ∷ q)
unfolding begins_literal
begins_same [] b r q h =
    elim (b == 103) as (λ v. (b == 103) ≡ v → cond v (starts 117 r) other ≡ cond v (starts 117 q) other) [
      | true ↦ λ e. absurd (h refl ((Decides-eqb b 103).0 e))
      | false ↦ λ e. refl
    ] refl
  where
    other : Bool
    other = not (b == 101 || b == 110 || b == 108 || b == 40 || b == 41)
begins_same (c ∷ []) b r q h = refl
begins_same (c ∷ d ∷ ds) b r q h = refl

same_begins : (f g h k : List ℕ → Read PartView) → Same f g → Same h k → Passes f → Passes h → Same (λ t. cond (begins_literal t) (f t) (h t)) (λ t. cond (begins_literal t) (g t) (k t))
same_begins f g h k first other past over = record {
  ends = λ t. ended (begins_literal t) t;
  ok = λ p b r q v e. by_ok (begins_literal (p ++ b ∷ r)) p b r q v refl e;
  bad = λ p b r q e. by_bad (begins_literal (p ++ b ∷ r)) p b r q refl e;
}
  where
    ended : (z : Bool) (t : List ℕ) → Ended t (cond z (f t) (h t))
    ended true t = first.ends t
    ended false t = other.ends t

    -- nothing stops at a `g` that it begins with
    no_g : (z : Bool) (p : List ℕ) (b : ℕ) (r : List ℕ) (y : Read PartView) → cond z (f (p ++ b ∷ r)) (h (p ++ b ∷ r)) ≡ y → ((u : List ℕ) → Ended u y → (s : List ℕ) × (u ≡ s ++ b ∷ r)) → p ≡ [] → b ≡ 103 → ⊥
    no_g true p b r y e ends none is =
        let at : f (103 ∷ r) ≡ y = ap (λ (n : ℕ). f (n ∷ r)) (sym is) ∙ ap (λ (l : List ℕ). f (l ++ b ∷ r)) (sym none) ∙ e in
        let left = ends r (subst (Ended r) at (past.passes r)) in
        no_end r left.0 b left.1
    no_g false p b r y e ends none is =
        let at : h (103 ∷ r) ≡ y = ap (λ (n : ℕ). h (n ∷ r)) (sym is) ∙ ap (λ (l : List ℕ). h (l ++ b ∷ r)) (sym none) ∙ e in
        let left = ends r (subst (Ended r) at (over.passes r)) in
        no_end r left.0 b left.1

    by_ok : (z : Bool) (p : List ℕ) (b : ℕ) (r q : List ℕ) (v : PartView) → begins_literal (p ++ b ∷ r) ≡ z → cond z (f (p ++ b ∷ r)) (h (p ++ b ∷ r)) ≡ found v (b ∷ r) → cond (begins_literal (p ++ b ∷ q)) (g (p ++ b ∷ q)) (k (p ++ b ∷ q)) ≡ found v (b ∷ q)
    by_ok true p b r q v is e =
        rw (sym (begins_same p b r q (no_g true p b r (found v (b ∷ r)) e (λ u w. w))) ∙ is) (first.ok p b r q v e)
    by_ok false p b r q v is e =
        rw (sym (begins_same p b r q (no_g false p b r (found v (b ∷ r)) e (λ u w. w))) ∙ is) (other.ok p b r q v e)

    by_bad : (z : Bool) (p : List ℕ) (b : ℕ) (r q : List ℕ) → begins_literal (p ++ b ∷ r) ≡ z → cond z (f (p ++ b ∷ r)) (h (p ++ b ∷ r)) ≡ halted PartView (Syntax (b ∷ r)) → cond (begins_literal (p ++ b ∷ q)) (g (p ++ b ∷ q)) (k (p ++ b ∷ q)) ≡ halted PartView (Syntax (b ∷ q))
    by_bad true p b r q is e =
        rw (sym (begins_same p b r q (no_g true p b r (halted PartView (Syntax (b ∷ r))) e (λ u w. w))) ∙ is) (first.bad p b r q e)
    by_bad false p b r q is e =
        rw (sym (begins_same p b r q (no_g false p b r (halted PartView (Syntax (b ∷ r))) e (λ u w. w))) ∙ is) (other.bad p b r q e)

-- a literal that begins with `g` ends past it
literal_passes : (r : List ℕ) → Ended r (literal_at (103 ∷ r))
unfolding literal_at front_of behind
literal_passes r =
    let w : List ℕ = 103 ∷ front_of is_plain r in
    let u = behind is_plain r in
    ended_after r (front_of is_plain r) u (word_at (103 ∷ r) w u) (split_behind is_plain r) ((same_word (103 ∷ r) (103 ∷ r) w).ends u)

operand_passes : (most used : ℕ) (name : List ℕ) (o : Operator) → Passes (operand_at most used name o)
unfolding operand_at
operand_passes most used name o = record {
  passes = λ r. elim (nat_le most used) as (λ v. Ended r (cond {A = Read (Unit {0})} v (Err TooMany) (Ok (tt, 103 ∷ r)) >>= λ x. compared_at used name o x.1)) [
    | true ↦ tt
    | false ↦ ended_bind r (literal_at (103 ∷ r)) (λ v. Ok (compared name o v.0 used, v.1)) (literal_passes r) (λ x. ([], refl))
  ];
}

operation_passes : (most used : ℕ) (name : List ℕ) → Passes (λ t. negated (operation_at most used name t))
unfolding operation_at operator_at
operation_passes most used name = record {
  passes = λ r. ended_bind r (either_letter_at GreaterOrEqual 116 Greater r >>= λ o. (room_at most used o.1 >>= λ r. (gap_at r.1 >>= λ g. compared_at used name o.0 g.1))) (λ m. Ok (negation_of m.0, m.1))
      (ended_bind r (either_letter_at GreaterOrEqual 116 Greater r) (λ o. room_at most used o.1 >>= λ r. (gap_at r.1 >>= λ g. compared_at used name o.0 g.1)) ((same_either_letter GreaterOrEqual 116 Greater).ends r) (λ x. (after_operator x.0).ends x.1))
      (λ x. ([], refl));
}
  where
    after_operator : (o : Operator) → Same (λ t. room_at most used t >>= λ r. (gap_at r.1 >>= λ g. compared_at used name o g.1)) (λ t. room_at most used t >>= λ r. (gap_at r.1 >>= λ g. compared_at used name o g.1))
    after_operator o =
        same_room most most used (λ t. gap_at t >>= λ g. compared_at used name o g.1) (λ t. gap_at t >>= λ g. compared_at used name o g.1) (omega arith)
        (same_bind gap_at gap_at (λ _ _ t. compared_at used name o t) (λ _ _ t. compared_at used name o t) same_gap (λ t u v. same_compared used name o))

-- ---- parts
pub record InnerSame (inner other : Inner) : Type 0 where
  pub group : (used : ℕ) (t u : List ℕ) → Same (inner false used t) (other false used u)
  pub negation : (used : ℕ) (t u : List ℕ) → Same (inner true used t) (other true used u)

same_gap_operation : (most more used : ℕ) (name : List ℕ) → most ≤ more → Same (λ l. gap_at l >>= λ g. operation_at most used name g.1) (λ l. gap_at l >>= λ g. operation_at more used name g.1)
same_gap_operation most more used name h =
    same_bind gap_at gap_at (λ _ _ l. operation_at most used name l) (λ _ _ l. operation_at more used name l) same_gap (λ _ _ _. same_operation most more used name h)

same_named : (most more used : ℕ) (inner other : Inner) (t u name : List ℕ) → most ≤ more → InnerSame inner other → Same (λ l. named_at most inner used t name l) (λ l. named_at more other used u name l)
same_named most more used inner other t u name h same =
    same_choice (is_not name) (inner true used t) (other true used u) (λ l. gap_at l >>= λ g. operation_at most used name g.1) (λ l. gap_at l >>= λ g. operation_at more used name g.1) (λ _. same.negation used t u) (λ _. same_gap_operation most more used name h)

pub same_part : (most more used : ℕ) (inner other : Inner) → most ≤ more → InnerSame inner other → Same (part_at most inner used) (part_at more other used)
unfolding part_at
same_part most more used inner other h same =
    same_starts 40 (λ t l. inner false used t l) (λ u l. other false used u l) (λ t l. name_at l >>= λ w. named_at most inner used t w.0 w.1) (λ u l. name_at l >>= λ w. named_at more other used u w.0 w.1)
    (λ t u. same.group used t u)
    (λ t u. same_bind name_at name_at (λ _ w l. named_at most inner used t w l) (λ _ w l. named_at more other used u w l) same_name (λ _ _ w. same_named most more used inner other t u w h same))

same_either : (most more used : ℕ) (name : List ℕ) (o : Operator) → most ≤ more → Same (λ l. either_at most (begins_literal l) o used name l) (λ l. either_at more (begins_literal l) o used name l)
same_either most more used name o h =
    same_begins (operand_at most used not_name o) (operand_at more used not_name o) (λ l. negated (operation_at most used name l)) (λ l. negated (operation_at more used name l))
    (same_operand most more used not_name o h) (same_negated (operation_at most used name) (operation_at more used name) (same_operation most more used name h)) (operand_passes most used not_name o) (operation_passes most used name)

same_ambiguous : (most more used : ℕ) (name : List ℕ) (o : Option Operator) → most ≤ more → Same (λ l. ambiguous_at most o used name l) (λ l. ambiguous_at more o used name l)
same_ambiguous most more used name None h =
    same_negated (operation_at most used name) (operation_at more used name) (same_operation most more used name h)
same_ambiguous most more used name (Some o) h = same_either most more used name o h

same_second_named : (most more used : ℕ) (inner other : Inner) (t u name : List ℕ) → most ≤ more → InnerSame inner other → Same (λ l. second_named_at most inner used t name l) (λ l. second_named_at more other used u name l)
same_second_named most more used inner other t u name h same =
    same_choice (is_not name) (λ l. negated (inner true used t l)) (λ l. negated (other true used u l)) (λ l. gap_at l >>= λ g. ambiguous_at most (operator_named name) used name g.1) (λ l. gap_at l >>= λ g. ambiguous_at more (operator_named name) used name g.1)
    (λ _. same_negated (inner true used t) (other true used u) (same.negation used t u))
    (λ _. same_bind gap_at gap_at (λ _ _ l. ambiguous_at most (operator_named name) used name l) (λ _ _ l. ambiguous_at more (operator_named name) used name l) same_gap (λ _ _ _. same_ambiguous most more used name (operator_named name) h))

same_second : (most more used : ℕ) (inner other : Inner) → most ≤ more → InnerSame inner other → Same (second_at most inner used) (second_at more other used)
unfolding second_at
same_second most more used inner other h same =
    same_starts 40 (λ t l. negated (inner false used t l)) (λ u l. negated (other false used u l)) (λ t l. name_at l >>= λ w. second_named_at most inner used t w.0 w.1) (λ u l. name_at l >>= λ w. second_named_at more other used u w.0 w.1)
    (λ t u. same_negated (inner false used t) (other false used u) (same.group used t u))
    (λ t u. same_bind name_at name_at (λ _ w l. second_named_at most inner used t w l) (λ _ w l. second_named_at more other used u w l) same_name (λ _ _ w. same_second_named most more used inner other t u w h same))

-- ---- joined parts
same_all_more : (rest next : ℕ → List ℕ → Read AllView) (a : PartView) (joint : Joint) → ((used : ℕ) → Same (rest used) (next used)) → Same (λ l. all_more rest a joint l) (λ l. all_more next a joint l)
same_all_more rest next a And same =
    same_map (λ l. edge_at l >>= λ e. rest a.used e.1) (λ l. edge_at l >>= λ e. next a.used e.1) (λ m. record { tree = Both a.tree m.tree; joint = m.joint; used = m.used })
    (same_bind edge_at edge_at (λ _ _ l. rest a.used l) (λ _ _ l. next a.used l) same_edge (λ _ _ _. same a.used))
same_all_more rest next a Or same = same_stay (record { tree = a.tree; joint = Or; used = a.used })
same_all_more rest next a Neither same = same_stay (record { tree = a.tree; joint = Neither; used = a.used })

pub same_all : (part other : ℕ → List ℕ → Read PartView) → ((used : ℕ) → Same (part used) (other used)) → (n m used : ℕ) → n ≤ m → Same (all_at part n used) (all_at other m used)
unfolding all_at
same_all part other same zero m used h = many AllView (all_at other m used)
same_all part other same (suc n) zero used h = absurd (omega arith)
same_all part other same (suc n) (suc m) used h =
    same_bind (part used) (other used) (λ _ a l. joint_at a.closed l >>= λ k. all_more (all_at part n) a k.0 k.1) (λ _ a l. joint_at a.closed l >>= λ k. all_more (all_at other m) a k.0 k.1) (same used)
    (λ _ _ a. same_bind (joint_at a.closed) (joint_at a.closed) (λ _ k l. all_more (all_at part n) a k l) (λ _ k l. all_more (all_at other m) a k l) (same_joint a.closed)
    (λ _ _ k. same_all_more (all_at part n) (all_at other m) a k (λ used. same_all part other same n m used (omega arith))))

same_any_more : (rest next : ℕ → List ℕ → Read AnyView) (a : AllView) (joint : Joint) → ((used : ℕ) → Same (rest used) (next used)) → Same (λ l. any_more rest a joint l) (λ l. any_more next a joint l)
same_any_more rest next a Or same =
    same_map (λ l. edge_at l >>= λ e. rest a.used e.1) (λ l. edge_at l >>= λ e. next a.used e.1) (λ m. record { tree = Either a.tree m.tree; used = m.used })
    (same_bind edge_at edge_at (λ _ _ l. rest a.used l) (λ _ _ l. next a.used l) same_edge (λ _ _ _. same a.used))
same_any_more rest next a And same = same_stay (record { tree = a.tree; used = a.used })
same_any_more rest next a Neither same = same_stay (record { tree = a.tree; used = a.used })

pub same_any : (part other : ℕ → List ℕ → Read PartView) → ((used : ℕ) → Same (part used) (other used)) → (parts pieces n m used : ℕ) → parts ≤ pieces → n ≤ m → Same (any_at part parts n used) (any_at other pieces m used)
unfolding any_at
same_any part other same parts pieces zero m used h i = many AnyView (any_at other pieces m used)
same_any part other same parts pieces (suc n) zero used h i = absurd (omega arith)
same_any part other same parts pieces (suc n) (suc m) used h i =
    same_bind (all_at part parts used) (all_at other pieces used) (λ _ a l. any_more (any_at part parts n) a a.joint l) (λ _ a l. any_more (any_at other pieces m) a a.joint l) (same_all part other same parts pieces used h)
    (λ _ _ a. same_any_more (any_at part parts n) (any_at other pieces m) a a.joint (λ used. same_any part other same parts pieces n m used h (omega arith)))

same_closed : (f g : List ℕ → Read AnyView) → Same f g → Same (λ l. closed_group (f l)) (λ l. closed_group (g l))
same_closed f g same =
    same_bind f g (λ _ a l. expect 41 l >>= λ e. Ok (group_of a, e.1)) (λ _ a l. expect 41 l >>= λ e. Ok (group_of a, e.1)) same
    (λ _ _ a. same_map (expect 41) (expect 41) (λ _. group_of a) (same_expect 41))

-- ---- a `not` that may not be opened
sole_reads : (a : ℕ) (o : Operator) (b : ℕ) (x : List ℕ) → 0 < a → 0 < b → starts 32 x ≡ false → begins_literal x ≡ true → sole_operator (blank a (letters o ++ blank b x)) ≡ Some (o, x)
unfolding sole_operator
sole_reads a o b x ha hb no_space literal =
    let n = letters_read o b x hb in
    rw (starts-blank a (letters o ++ blank b x) ha, after_blank a (letters o ++ blank b x) (name_no_space (letters o) (blank b x) (letters_are_name o)), n.starts, n.behind, starts-blank b x hb, n.whole, operator_named-letters o, after_blank b x no_space, literal)
    refl

second_reads : (most : ℕ) (inner : Inner) (used : ℕ) (o : Operator) (b : ℕ) (x : List ℕ) → 0 < b → starts 32 x ≡ false → begins_literal x ≡ true → second_at most inner used (letters o ++ blank b x) ≡ operand_at most used not_name o x
unfolding second_at
second_reads most inner used o b x hb no_space literal =
    rw (name_no_opening (letters o) (blank b x) (letters_are_name o), name_complete (letters o) (blank b x) (letters_are_name o) (ends_name-blank b x hb), is_not-letters o, gap_complete b x hb no_space, operator_named-letters o, literal)
    refl

inner_reads : (most n d used : ℕ) (text : List ℕ) (a : ℕ) (o : Operator) (b : ℕ) (x : List ℕ) → 0 < a → 0 < b → starts 32 x ≡ false → begins_literal x ≡ true → inner_at most n d true used text (blank a (letters o ++ blank b x)) ≡ operand_at most used not_name o x
unfolding inner_at
inner_reads most n zero used text a o b x ha hb no_space literal = rw (sole_reads a o b x ha hb no_space literal) refl
inner_reads most n (suc d) used text a o b x ha hb no_space literal =
    rw (edge_complete false a (letters o ++ blank b x) ha (name_no_opening (letters o) (blank b x) (letters_are_name o)) (name_no_space (letters o) (blank b x) (letters_are_name o)))
    (second_reads most (inner_at most n d) used o b x hb no_space literal)

sole_append : (a : ℕ) (w : List ℕ) (b : ℕ) (s y : List ℕ) → blank a (w ++ blank b (s ++ y)) ≡ blank a (w ++ blank b s) ++ y
sole_append a w b s y =
    ap (λ (l : List ℕ). blank a (w ++ l)) (blank_append b s y) ∙ ap (blank a) (sym (append_assoc w (blank b s) y)) ∙ blank_append a (w ++ blank b s) y

starts_end : (s : List ℕ) (b : ℕ) (r q : List ℕ) → starts 32 (s ++ b ∷ r) ≡ starts 32 (s ++ b ∷ q)
starts_end [] b r q = refl
starts_end (c ∷ cs) b r q = refl

abbrev unless : ℕ → ℕ → List ℕ → Option (Operator × List ℕ) → Read PartView
unless most used t o = unless_sole most used t o

unless_ends : (most used : ℕ) (t l : List ℕ) (o : Option (Operator × List ℕ)) → sole_operator l ≡ o → Ended l (unless most used t o)
unless_ends most used t l None e = tt
unless_ends most used t l (Some x) e =
    let f = sole_found l x e in
    ended_after l (blank f.before (letters x.0 ++ blank f.behind [])) x.1 (operand_at most used not_name x.0 x.1) (f.is ∙ sym (sole_into f.before (letters x.0) f.behind x.1))
    ((same_operand most most used not_name x.0 (omega arith)).ends x.1)

-- what the larger reader makes of the same front
unless_more : (most more n d used : ℕ) (u p : List ℕ) (b : ℕ) (r q : List ℕ) (x : Operator × List ℕ) (s : List ℕ) → Sole (p ++ b ∷ r) x.0 x.1 → x.1 ≡ s ++ b ∷ r → (s ≡ [] → b ≡ 103 → ⊥) → inner_at more n d true used u (p ++ b ∷ q) ≡ operand_at more used not_name x.0 (s ++ b ∷ q)
unless_more most more n d used u p b r q x s f split no_g =
    let front = blank f.before (letters x.0 ++ blank f.behind s) in
    let here : p ≡ front = cancel p front (b ∷ r) (f.is ∙ ap (λ (l : List ℕ). blank f.before (letters x.0 ++ blank f.behind l)) split ∙ sole_append f.before (letters x.0) f.behind s (b ∷ r)) in
    let there : p ++ b ∷ q ≡ blank f.before (letters x.0 ++ blank f.behind (s ++ b ∷ q)) = ap (λ (l : List ℕ). l ++ b ∷ q) here ∙ sym (sole_append f.before (letters x.0) f.behind s (b ∷ q)) in
    ap (λ (l : List ℕ). inner_at more n d true used u l) there
    ∙ inner_reads more n d used u f.before x.0 f.behind (s ++ b ∷ q) f.some f.more (sym (starts_end s b r q) ∙ sym (ap (starts 32) split) ∙ f.no_space) (sym (begins_same s b r q no_g) ∙ sym (ap begins_literal split) ∙ f.literal)

-- an operand does not stop at a `g` that it begins with
stops_past : (most used : ℕ) (o : Operator) (y : Read PartView) (x s : List ℕ) (b : ℕ) (r : List ℕ) → operand_at most used not_name o x ≡ y → x ≡ s ++ b ∷ r → ((u : List ℕ) → Ended u y → (t : List ℕ) × (u ≡ t ++ b ∷ r)) → s ≡ [] → b ≡ 103 → ⊥
stops_past most used o y x s b r e split ends none is =
    let at : operand_at most used not_name o (103 ∷ r) ≡ y = ap (λ (n : ℕ). operand_at most used not_name o (n ∷ r)) (sym is) ∙ ap (λ (l : List ℕ). operand_at most used not_name o (l ++ b ∷ r)) (sym none) ∙ ap (operand_at most used not_name o) (sym split) ∙ e in
    let left = ends r (subst (Ended r) at ((operand_passes most used not_name o).passes r)) in
    no_end r left.0 b left.1

unless_ok : (most more n d used : ℕ) → most ≤ more → (t u p : List ℕ) (b : ℕ) (r q : List ℕ) (v : PartView) (o : Option (Operator × List ℕ)) → sole_operator (p ++ b ∷ r) ≡ o → unless most used t o ≡ found v (b ∷ r) → inner_at more n d true used u (p ++ b ∷ q) ≡ found v (b ∷ q)
unless_ok most more n d used h t u p b r q v None is e = absurd (err_no_ok e)
unless_ok most more n d used h t u p b r q v (Some x) is e =
    let f = sole_found (p ++ b ∷ r) x is in
    let same = same_operand most more used not_name x.0 h in
    let ended : Ended x.1 (found v (b ∷ r)) = subst (Ended x.1) e (same.ends x.1) in
    unless_more most more n d used u p b r q x ended.0 f ended.1 (stops_past most used x.0 (found v (b ∷ r)) x.1 ended.0 b r e ended.1 (λ u w. w))
    ∙ same.ok ended.0 b r q v (ap (operand_at most used not_name x.0) (sym ended.1) ∙ e)

unless_bad : (most more n d used : ℕ) → most ≤ more → (t u p : List ℕ) (b : ℕ) (r q : List ℕ) (o : Option (Operator × List ℕ)) → sole_operator (p ++ b ∷ r) ≡ o → unless most used t o ≡ halted PartView (Syntax (b ∷ r)) → inner_at more n d true used u (p ++ b ∷ q) ≡ halted PartView (Syntax (b ∷ q))
unless_bad most more n d used h t u p b r q None is e = absurd (deep_no_stop PartView e)
unless_bad most more n d used h t u p b r q (Some x) is e =
    let f = sole_found (p ++ b ∷ r) x is in
    let same = same_operand most more used not_name x.0 h in
    let ended : Ended x.1 (halted PartView (Syntax (b ∷ r))) = subst (Ended x.1) e (same.ends x.1) in
    unless_more most more n d used u p b r q x ended.0 f ended.1 (stops_past most used x.0 (halted PartView (Syntax (b ∷ r))) x.1 ended.0 b r e ended.1 (λ u w. w))
    ∙ same.bad ended.0 b r q (ap (operand_at most used not_name x.0) (sym ended.1) ∙ e)

same_unless : (most more n d used : ℕ) → most ≤ more → (t u : List ℕ) → Same (λ l. unless_sole most used t (sole_operator l)) (inner_at more n d true used u)
same_unless most more n d used h t u = record {
  ends = λ l. unless_ends most used t l (sole_operator l) refl;
  ok = λ p b r q v e. unless_ok most more n d used h t u p b r q v (sole_operator (p ++ b ∷ r)) refl e;
  bad = λ p b r q e. unless_bad most more n d used h t u p b r q (sole_operator (p ++ b ∷ r)) refl e;
}

-- ---- all of them
pub inner_same : (most more parts pieces d e : ℕ) → most ≤ more → parts ≤ pieces → d ≤ e → InnerSame (inner_at most parts d) (inner_at more pieces e)
unfolding inner_at
inner_same most more parts pieces zero e h i j = record {
  group = λ used t u. deep PartView t (inner_at more pieces e false used u);
  negation = λ used t u. same_unless most more pieces e used h t u;
}
inner_same most more parts pieces (suc d) zero h i j = absurd (omega arith)
inner_same most more parts pieces (suc d) (suc e) h i j =
    let same = inner_same most more parts pieces d e h i (omega arith) in
    let part = part_at most (inner_at most parts d) in
    let other = part_at more (inner_at more pieces e) in
    record {
      group = λ used t u. same_bind (spaces_at true) (spaces_at true) (λ _ _ l. closed_group (any_at part parts parts used l)) (λ _ _ l. closed_group (any_at other pieces pieces used l)) (same_spaces true)
          (λ _ _ _. same_closed (any_at part parts parts used) (any_at other pieces pieces used) (same_any part other (λ used. same_part most more used (inner_at most parts d) (inner_at more pieces e) h same) parts pieces parts pieces used i i));
      negation = λ used t u. same_bind edge_at edge_at (λ _ _ l. second_at most (inner_at most parts d) used l) (λ _ _ l. second_at more (inner_at more pieces e) used l) same_edge (λ _ _ _. same_second most more used (inner_at most parts d) (inner_at more pieces e) h same);
    }
