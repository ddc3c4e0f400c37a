-- What is spelled by the grammar is read, within any limits that it keeps to.
use Rattle.std.proofs.Common.{◌≡◌, ℕ, zero, suc, ◌+◌, ◌≤◌, ◌<◌, List, ◌∷◌, ◌++◌, Bool, true, false, cond, ◌||◌, Some, None, Ok, Err, refl, ap, sym, ◌∙◌, arith}
use Rattle.std.specs.Prelude.{codes, nat_le}
use Rattle.std.proofs.lemmas.Bool.{leb-true}
use Rattle.tab_edm.specs.declared.values.Value.{Value}
use Rattle.tab_filter.specs.declared.trees.Operator.{Operator}
use Rattle.tab_filter.specs.declared.lexer.Joint.{Joint}
use Rattle.tab_filter.specs.declared.lexer.Joint.TheVariants.{And, Or, Neither}
use Rattle.tab_filter.specs.Trees.{Negation, Both, Either}
use Rattle.tab_keys.specs.Results.{◌>>=◌}
use Rattle.tab_filter.specs.Lexer.{Read, TooMany, gap_at, is_not, operator_named, joint_at}
use Rattle.tab_filter.specs.Parser.{PartView, AllView, AnyView, compared, room_at, operation_at, operand_at, negated, not_name, Inner, part_at, ambiguous_at, second_at, sole_operator, all_at, any_at, inner_at}
use Rattle.tab_filter.specs.Grammar.{ends_token, IsLiteral, IsName, Phrase, Comparing, Group, Negated, Joined, Parted, blank, operator_text, text_of, tree_at, opens, closes, comparisons, unary, conjunction, disjunction, Fits, Nests, IsGap}
use Rattle.tab_filter.proofs.LiteralLaws.{literal_complete, literal_no_space, literal_begins}
use Rattle.tab_filter.proofs.LexerLaws.{starts-blank, after_blank, gap_complete, edge_complete, ends_name-blank, ends_name-gap, NameRead, name_read, name_complete, name_no_opening, not_is_name, is_not-not, is_not-is, letters, letters-text, letters_are_name, operator_named-letters, is_not-letters, operator_complete, operator_no_space, operator_no_opening, operator_no_literal, and_complete, or_complete, neither_complete}
use Rattle.tab_filter.proofs.Phrases.{text_begins, some_comparison}

-- what may follow a part: anything behind a `)`, and else the end of a token
abbrev pub Follows : Bool → List ℕ → Type 0
Follows closed r = (closed || ends_token r) ≡ true

abbrev done : PartView × List ℕ → Read PartView
done x = Ok x

abbrev all_done : AllView × List ℕ → Read AllView
all_done x = Ok x

abbrev any_done : AnyView × List ℕ → Read AnyView
any_done x = Ok x

-- ---- comparisons
room_complete : (most used : ℕ) (text : List ℕ) → suc used ≤ most → room_at most used text ≡ Ok (tt, text)
room_complete most used text h =
    elim (nat_le most used) as (λ v. nat_le most used ≡ v → cond {A = Read (Unit {0})} v (Err TooMany) (Ok (tt, text)) ≡ Ok (tt, text)) [
      | true ↦ λ e. absurd (let low = leb-true most used e in omega arith)
      | false ↦ λ e. refl
    ] refl

operand_complete : (most used : ℕ) (name : List ℕ) (o : Operator) (value : Value) (s r : List ℕ) → IsLiteral value s → ends_token r ≡ true → suc used ≤ most → operand_at most used name o (s ++ r) ≡ Ok (compared name o value used, r)
unfolding operand_at
operand_complete most used name o value s r l e h =
    rw (room_complete most used (s ++ r) h, literal_complete value s r l e) refl

operation_complete : (most used : ℕ) (name : List ℕ) (o : Operator) (b : ℕ) (value : Value) (s r : List ℕ) → 0 < b → IsLiteral value s → ends_token r ≡ true → suc used ≤ most → operation_at most used name (operator_text o (blank b (s ++ r))) ≡ Ok (compared name o value used, r)
unfolding operation_at
operation_complete most used name o b value s r gap l e h =
    rw (operator_complete o (blank b (s ++ r)), room_complete most used (blank b (s ++ r)) h, gap_complete b (s ++ r) gap (literal_no_space value s r l), literal_complete value s r l e) refl

-- one of a property named `not`, behind that name
pub letters_read : (o : Operator) (b : ℕ) (r : List ℕ) → 0 < b → NameRead (letters o) (blank b r)
letters_read o b r h = name_read (letters o) (blank b r) (letters_are_name o) (ends_name-blank b r h)

sole_complete : (a : ℕ) (o : Operator) (b : ℕ) (value : Value) (s r : List ℕ) → 0 < a → 0 < b → IsLiteral value s → sole_operator (blank a (operator_text o (blank b (s ++ r)))) ≡ Some (o, s ++ r)
unfolding sole_operator
sole_complete a o b value s r ha hb l =
    let n = letters_read o b (s ++ r) hb in
    rw (starts-blank a (operator_text o (blank b (s ++ r))) ha, after_blank a (operator_text o (blank b (s ++ r))) (operator_no_space o (blank b (s ++ r))), letters-text o (blank b (s ++ r)), n.starts, n.behind, starts-blank b (s ++ r) hb, n.whole, operator_named-letters o, after_blank b (s ++ r) (literal_no_space value s r l), literal_begins value s r l)
    refl

-- behind `not` and the spaces after it
second_operand : (most : ℕ) (inner : Inner) (used : ℕ) (o : Operator) (b : ℕ) (value : Value) (s r : List ℕ) → 0 < b → IsLiteral value s → ends_token r ≡ true → suc used ≤ most → second_at most inner used (operator_text o (blank b (s ++ r))) ≡ Ok (compared not_name o value used, r)
unfolding second_at
second_operand most inner used o b value s r hb l e h =
    rw (operator_no_opening o (blank b (s ++ r)), letters-text o (blank b (s ++ r)), name_complete (letters o) (blank b (s ++ r)) (letters_are_name o) (ends_name-blank b (s ++ r) hb), is_not-letters o, gap_complete b (s ++ r) hb (literal_no_space value s r l), operator_named-letters o, literal_begins value s r l, operand_complete most used not_name o value s r l e h)
    refl

not_complete : (most n d used : ℕ) (text : List ℕ) (a : ℕ) (o : Operator) (b : ℕ) (value : Value) (s r : List ℕ) → 0 < a → 0 < b → IsLiteral value s → ends_token r ≡ true → suc used ≤ most → inner_at most n d true used text (blank a (operator_text o (blank b (s ++ r)))) ≡ Ok (compared not_name o value used, r)
unfolding inner_at
not_complete most n zero used text a o b value s r ha hb l e h =
    rw (sole_complete a o b value s r ha hb l) (operand_complete most used not_name o value s r l e h)
not_complete most n (suc d) used text a o b value s r ha hb l e h =
    rw (edge_complete false a (operator_text o (blank b (s ++ r))) ha (operator_no_opening o (blank b (s ++ r))) (operator_no_space o (blank b (s ++ r))))
    (second_operand most (inner_at most n d) used o b value s r hb l e h)

-- a comparison, by its name
comparing_complete : (most n d used : ℕ) (name : List ℕ) (a : ℕ) (o : Operator) (b : ℕ) (value : Value) (s r : List ℕ) → IsName name → 0 < a → 0 < b → IsLiteral value s → ends_token r ≡ true → suc used ≤ most → part_at most (inner_at most n d) used (name ++ blank a (operator_text o (blank b (s ++ r)))) ≡ Ok (compared name o value used, r)
unfolding part_at
comparing_complete most n d used name a o b value s r hn ha hb l e h =
    let rest = operator_text o (blank b (s ++ r)) in
    let text = name ++ blank a rest in
    rw (name_no_opening name (blank a rest) hn, name_complete name (blank a rest) hn (ends_name-blank a rest ha))
    (elim (is_not name) as (λ v. is_not name ≡ v → cond {A = Read PartView} v (inner_at most n d true used text (blank a rest)) (gap_at (blank a rest) >>= λ g. operation_at most used name g.1) ≡ Ok (compared name o value used, r)) [
      | true ↦ λ is. not_complete most n d used text a o b value s r ha hb l e h ∙ ap (λ (w : List ℕ). done (compared w o value used, r)) (sym (is_not-is name is))
      | false ↦ λ is. rw (gap_complete a rest ha (operator_no_space o (blank b (s ++ r)))) (operation_complete most used name o b value s r hb l e h)
    ] refl)

-- ---- phrases
abbrev part_of : Phrase → ℕ → PartView
part_of c used = record { tree = tree_at c; closed = closes c; used = used + comparisons c }

abbrev negated_of : Phrase → ℕ → PartView
negated_of c used = record { tree = Negation (tree_at c); closed = closes c; used = used + comparisons c }

abbrev all_of : Phrase → Joint → ℕ → AllView
all_of c joint used = record { tree = tree_at c; joint = joint; used = used + comparisons c }

abbrev pub any_of : Phrase → ℕ → AnyView
any_of c used = record { tree = tree_at c; used = used + comparisons c }

pub record Complete (c : Phrase) : Type 0 where
  pub part : (most n d used : ℕ) (r : List ℕ) → Fits unary c → Nests c d → used + comparisons c ≤ most → most ≤ n → Follows (closes c) r → part_at most (inner_at most n d) used (text_of c r) ≡ Ok (part_of c used, r)
  pub second : (most n d used : ℕ) (r : List ℕ) → Fits unary c → Nests c d → used + comparisons c ≤ most → most ≤ n → Follows (closes c) r → second_at most (inner_at most n d) used (text_of c r) ≡ Ok (negated_of c used, r)
  pub all : (most n d m used : ℕ) (r left : List ℕ) (joint : Joint) → Fits conjunction c → Nests c d → used + comparisons c ≤ most → most ≤ n → comparisons c ≤ m → Follows (closes c) r → joint_at (closes c) r ≡ Ok (joint, left) → (joint ≡ And → ⊥) → all_at (part_at most (inner_at most n d)) m used (text_of c r) ≡ Ok (all_of c joint used, left)
  pub any : (most n d m used : ℕ) (r left : List ℕ) → Fits disjunction c → Nests c d → used + comparisons c ≤ most → most ≤ n → comparisons c ≤ m → Follows (closes c) r → joint_at (closes c) r ≡ Ok (Neither, left) → any_at (part_at most (inner_at most n d)) n m used (text_of c r) ≡ Ok (any_of c used, left)

-- ---- what the laws of a part give for parts that stand alone
one_all : (c : Phrase) (most n d m used : ℕ) (r left : List ℕ) (joint : Joint) → comparisons c ≤ m → part_at most (inner_at most n d) used (text_of c r) ≡ Ok (part_of c used, r) → joint_at (closes c) r ≡ Ok (joint, left) → (joint ≡ And → ⊥) → all_at (part_at most (inner_at most n d)) m used (text_of c r) ≡ Ok (all_of c joint used, left)
unfolding all_at
one_all c most n d zero used r left joint few p j other = absurd (let h = some_comparison c in omega arith)
one_all c most n d (suc m) used r left And few p j other = absurd (other refl)
one_all c most n d (suc m) used r left Or few p j other = rw (p, j) refl
one_all c most n d (suc m) used r left Neither few p j other = rw (p, j) refl

one_any : (c : Phrase) (most n d m used : ℕ) (r left : List ℕ) → comparisons c ≤ m → all_at (part_at most (inner_at most n d)) n used (text_of c r) ≡ Ok (all_of c Neither used, left) → any_at (part_at most (inner_at most n d)) n m used (text_of c r) ≡ Ok (any_of c used, left)
unfolding any_at
one_any c most n d zero used r left few p = absurd (let h = some_comparison c in omega arith)
one_any c most n d (suc m) used r left few p = rw p refl

pub neither_no_and : Neither ≡ And → ⊥
neither_no_and e = cc

pub or_no_and : Or ≡ And → ⊥
or_no_and e = cc

-- ---- comparisons
comparing_second : (most n d used : ℕ) (name : List ℕ) (a : ℕ) (o : Operator) (b : ℕ) (value : Value) (s r : List ℕ) → IsName name → 0 < a → 0 < b → IsLiteral value s → ends_token r ≡ true → suc used ≤ most → second_at most (inner_at most n d) used (name ++ blank a (operator_text o (blank b (s ++ r)))) ≡ negated (Ok (compared name o value used, r))
unfolding second_at
comparing_second most n d used name a o b value s r hn ha hb l e h =
    let rest = operator_text o (blank b (s ++ r)) in
    let text = name ++ blank a rest in
    rw (name_no_opening name (blank a rest) hn, name_complete name (blank a rest) hn (ends_name-blank a rest ha))
    (elim (is_not name) as (λ v. is_not name ≡ v → cond {A = Read PartView} v (negated (inner_at most n d true used text (blank a rest))) (gap_at (blank a rest) >>= λ g. ambiguous_at most (operator_named name) used name g.1) ≡ negated (Ok (compared name o value used, r))) [
      | true ↦ λ is. ap negated (not_complete most n d used text a o b value s r ha hb l e h ∙ ap (λ (w : List ℕ). done (compared w o value used, r)) (sym (is_not-is name is)))
      | false ↦ λ is. rw (gap_complete a rest ha (operator_no_space o (blank b (s ++ r))))
          (elim (operator_named name) as (λ v. ambiguous_at most v used name rest ≡ negated (Ok (compared name o value used, r))) [
            | None ↦ ap negated (operation_complete most used name o b value s r hb l e h)
            | Some o2 ↦ rw (operator_no_literal o (blank b (s ++ r))) (ap negated (operation_complete most used name o b value s r hb l e h))
          ])
    ] refl)

-- ---- groups
follows_blank : (closed : Bool) (b : ℕ) (r : List ℕ) → Follows closed (blank b (41 ∷ r))
follows_blank true b r = refl
follows_blank false zero r = refl
follows_blank false (suc b) r = refl

follows_gap : (closed : Bool) (a : ℕ) (r : List ℕ) → IsGap closed a → Follows closed (blank a r)
follows_gap true a r h = refl
follows_gap false zero r h = absurd (omega arith)
follows_gap false (suc a) r h = refl

group_complete : (most n d used : ℕ) (text : List ℕ) (a : ℕ) (inner : Phrase) (b : ℕ) (r : List ℕ) → Complete inner → Fits disjunction inner → Nests (Group a inner b) d → used + comparisons inner ≤ most → most ≤ n → inner_at most n d false used text (blank a (text_of inner (blank b (41 ∷ r)))) ≡ Ok (part_of (Group a inner b) used, r)
unfolding inner_at
group_complete most n zero used text a inner b r law f nests few room = absurd nests
group_complete most n (suc d) used text a inner b r law f nests few room =
    let rest = blank b (41 ∷ r) in
    rw (after_blank a (text_of inner rest) (text_begins disjunction inner rest f).no_space, law.any most n d n used rest (41 ∷ r) f nests few room (omega arith) (follows_blank (closes inner) b r) (neither_complete (closes inner) b (41 ∷ r) refl))
    refl

group_part : (most n d used : ℕ) (a : ℕ) (inner : Phrase) (b : ℕ) (r : List ℕ) → Complete inner → Fits disjunction inner → Nests (Group a inner b) d → used + comparisons inner ≤ most → most ≤ n → part_at most (inner_at most n d) used (text_of (Group a inner b) r) ≡ Ok (part_of (Group a inner b) used, r)
unfolding part_at
group_part most n d used a inner b r law f nests few room =
    group_complete most n d used (text_of (Group a inner b) r) a inner b r law f nests few room

group_second : (most n d used : ℕ) (a : ℕ) (inner : Phrase) (b : ℕ) (r : List ℕ) → Complete inner → Fits disjunction inner → Nests (Group a inner b) d → used + comparisons inner ≤ most → most ≤ n → second_at most (inner_at most n d) used (text_of (Group a inner b) r) ≡ Ok (negated_of (Group a inner b) used, r)
unfolding second_at
group_second most n d used a inner b r law f nests few room =
    ap negated (group_complete most n d used (text_of (Group a inner b) r) a inner b r law f nests few room)

-- ---- negations
negated_complete : (most n d used : ℕ) (text : List ℕ) (a : ℕ) (inner : Phrase) (r : List ℕ) → Complete inner → IsGap (opens inner) a → Fits unary inner → Nests (Negated a inner) d → used + comparisons inner ≤ most → most ≤ n → Follows (closes inner) r → inner_at most n d true used text (blank a (text_of inner r)) ≡ Ok (negated_of inner used, r)
unfolding inner_at
negated_complete most n zero used text a inner r law gap f nests few room follows = absurd nests
negated_complete most n (suc d) used text a inner r law gap f nests few room follows =
    let begins = text_begins unary inner r f in
    rw (edge_complete (opens inner) a (text_of inner r) gap begins.opening begins.no_space)
    (law.second most n d used r f nests few room follows)

negated_part : (most n d used : ℕ) (a : ℕ) (inner : Phrase) (r : List ℕ) → Complete inner → IsGap (opens inner) a → Fits unary inner → Nests (Negated a inner) d → used + comparisons inner ≤ most → most ≤ n → Follows (closes inner) r → part_at most (inner_at most n d) used (codes "not" ++ blank a (text_of inner r)) ≡ Ok (negated_of inner used, r)
unfolding part_at
negated_part most n d used a inner r law gap f nests few room follows =
    let begins = text_begins unary inner r f in
    rw (name_complete (codes "not") (blank a (text_of inner r)) not_is_name (ends_name-gap (opens inner) a (text_of inner r) gap begins.opening), is_not-not)
    (negated_complete most n d used (codes "not" ++ blank a (text_of inner r)) a inner r law gap f nests few room follows)

negated_second : (most n d used : ℕ) (a : ℕ) (inner : Phrase) (r : List ℕ) → Complete inner → IsGap (opens inner) a → Fits unary inner → Nests (Negated a inner) d → used + comparisons inner ≤ most → most ≤ n → Follows (closes inner) r → second_at most (inner_at most n d) used (codes "not" ++ blank a (text_of inner r)) ≡ Ok (negated_of (Negated a inner) used, r)
unfolding second_at
negated_second most n d used a inner r law gap f nests few room follows =
    let begins = text_begins unary inner r f in
    rw (name_complete (codes "not") (blank a (text_of inner r)) not_is_name (ends_name-gap (opens inner) a (text_of inner r) gap begins.opening), is_not-not)
    (ap negated (negated_complete most n d used (codes "not" ++ blank a (text_of inner r)) a inner r law gap f nests few room follows))

-- ---- joined parts
joined_all : (first : Phrase) (a b : ℕ) (second : Phrase) (most n d m used : ℕ) (r left : List ℕ) (joint : Joint) → Complete first → Complete second → Fits conjunction (Joined first a b second) → Nests (Joined first a b second) d → used + comparisons (Joined first a b second) ≤ most → most ≤ n → comparisons (Joined first a b second) ≤ m → Follows (closes second) r → joint_at (closes second) r ≡ Ok (joint, left) → (joint ≡ And → ⊥) → all_at (part_at most (inner_at most n d)) m used (text_of (Joined first a b second) r) ≡ Ok (all_of (Joined first a b second) joint used, left)
unfolding all_at
joined_all first a b second most n d zero used r left joint law next f nests few room short follows j other = absurd (let h = some_comparison first in omega arith)
joined_all first a b second most n d (suc m) used r left joint law next f nests few room short follows j other =
    let h = some_comparison first in
    let rest = text_of second r in
    let tail = blank a (97 ∷ 110 ∷ 100 ∷ blank b rest) in
    let begins = text_begins conjunction second r f.3 in
    let sum : used + comparisons first + comparisons second ≡ used + (comparisons first + comparisons second) = omega arith in
    rw (law.part most n d used tail f.2 nests.0 (omega arith) room (follows_gap (closes first) a (97 ∷ 110 ∷ 100 ∷ blank b rest) f.0), and_complete (closes first) a (blank b rest) f.0, edge_complete (opens second) b rest f.1 begins.opening begins.no_space, next.all most n d m (used + comparisons first) r left joint f.3 nests.1 (omega arith) room (omega arith) follows j other)
    (ap (λ (k : ℕ). all_done (record { tree = Both (tree_at first) (tree_at second); joint = joint; used = k }, left)) sum)

parted_any : (first : Phrase) (a b : ℕ) (second : Phrase) (most n d m used : ℕ) (r left : List ℕ) → Complete first → Complete second → Fits disjunction (Parted first a b second) → Nests (Parted first a b second) d → used + comparisons (Parted first a b second) ≤ most → most ≤ n → comparisons (Parted first a b second) ≤ m → Follows (closes second) r → joint_at (closes second) r ≡ Ok (Neither, left) → any_at (part_at most (inner_at most n d)) n m used (text_of (Parted first a b second) r) ≡ Ok (any_of (Parted first a b second) used, left)
unfolding any_at
parted_any first a b second most n d zero used r left law next f nests few room short follows j = absurd (let h = some_comparison first in omega arith)
parted_any first a b second most n d (suc m) used r left law next f nests few room short follows j =
    let h = some_comparison first in
    let rest = text_of second r in
    let tail = blank a (111 ∷ 114 ∷ blank b rest) in
    let begins = text_begins disjunction second r f.3 in
    let sum : used + comparisons first + comparisons second ≡ used + (comparisons first + comparisons second) = omega arith in
    rw (law.all most n d n used tail (blank b rest) Or f.2 nests.0 (omega arith) room (omega arith) (follows_gap (closes first) a (111 ∷ 114 ∷ blank b rest) f.0) (or_complete (closes first) a (blank b rest) f.0) or_no_and, edge_complete (opens second) b rest f.1 begins.opening begins.no_space, next.any most n d m (used + comparisons first) r left f.3 nests.1 (omega arith) room (omega arith) follows j)
    (ap (λ (k : ℕ). any_done (record { tree = Either (tree_at first) (tree_at second); used = k }, left)) sum)

-- ---- all phrases
-- the laws of those that are read as one part
unary_laws : (c : Phrase)
    → ((most n d used : ℕ) (r : List ℕ) → Fits unary c → Nests c d → used + comparisons c ≤ most → most ≤ n → Follows (closes c) r → part_at most (inner_at most n d) used (text_of c r) ≡ Ok (part_of c used, r))
    → ((most n d used : ℕ) (r : List ℕ) → Fits unary c → Nests c d → used + comparisons c ≤ most → most ≤ n → Follows (closes c) r → second_at most (inner_at most n d) used (text_of c r) ≡ Ok (negated_of c used, r))
    → (Fits conjunction c → Fits unary c) → (Fits disjunction c → Fits unary c) → Complete c
unary_laws c part second from_all from_any = record {
  part = part;
  second = second;
  all = λ most n d m used r left joint f nests few room short follows j other.
      one_all c most n d m used r left joint short (part most n d used r (from_all f) nests few room follows) j other;
  any = λ most n d m used r left f nests few room short follows j.
      one_any c most n d m used r left short (one_all c most n d n used r left Neither (omega arith) (part most n d used r (from_any f) nests few room follows) j neither_no_and);
}

one_more : (used : ℕ) → suc used ≡ used + 1
one_more used = omega arith

pub complete : (c : Phrase) → Complete c
complete (Comparing name a o b value s) =
    unary_laws (Comparing name a o b value s)
    (λ most n d used r f nests few room follows. comparing_complete most n d used name a o b value s r f.0 f.1 f.2 f.3 follows (omega arith) ∙ ap (λ (k : ℕ). done (record { tree = tree_at (Comparing name a o b value s); closed = false; used = k }, r)) (one_more used))
    (λ most n d used r f nests few room follows. comparing_second most n d used name a o b value s r f.0 f.1 f.2 f.3 follows (omega arith) ∙ ap (λ (k : ℕ). done (record { tree = Negation (tree_at (Comparing name a o b value s)); closed = false; used = k }, r)) (one_more used))
    (λ f. f) (λ f. f)
complete (Group a inner b) =
    let law = complete inner in
    unary_laws (Group a inner b)
    (λ most n d used r f nests few room follows. group_part most n d used a inner b r law f nests few room)
    (λ most n d used r f nests few room follows. group_second most n d used a inner b r law f nests few room)
    (λ f. f) (λ f. f)
complete (Negated a inner) =
    let law = complete inner in
    unary_laws (Negated a inner)
    (λ most n d used r f nests few room follows. negated_part most n d used a inner r law f.0 f.1 nests few room follows)
    (λ most n d used r f nests few room follows. negated_second most n d used a inner r law f.0 f.1 nests few room follows)
    (λ f. f) (λ f. f)
complete (Joined first a b second) =
    let law = complete first in
    let next = complete second in
    record {
      part = λ most n d used r f. absurd f;
      second = λ most n d used r f. absurd f;
      all = λ most n d m used r left joint f nests few room short follows j other. joined_all first a b second most n d m used r left joint law next f nests few room short follows j other;
      any = λ most n d m used r left f nests few room short follows j.
          one_any (Joined first a b second) most n d m used r left short (joined_all first a b second most n d n used r left Neither law next f nests few room (omega arith) follows j neither_no_and);
    }
complete (Parted first a b second) =
    let law = complete first in
    let next = complete second in
    record {
      part = λ most n d used r f. absurd f;
      second = λ most n d used r f. absurd f;
      all = λ most n d m used r left joint f. absurd f;
      any = λ most n d m used r left f nests few room short follows j. parted_any first a b second most n d m used r left law next f nests few room short follows j;
    }
