-- What the readers of parts say of the text that they read.
use Rattle.std.proofs.Common.{◌≡◌, inl, inr, ℕ, suc, ◌+◌, ◌<◌, ◌≤◌, List, [], ◌∷◌, ◌++◌, Bool, true, false, cond, ◌&&◌, ◌==◌, Option, Some, None, Ok, Err, refl, ap, sym, subst, ◌∙◌, arith, append_assoc, append-nil, pos}
use Rattle.std.specs.Prelude.{codes, nat_le}
use Rattle.std.proofs.lemmas.Bool.Decides.{Decides-eqb}
use Rattle.std.proofs.lemmas.Bool.{and_parts, true≢false, leb-false}
use Rattle.tab_edm.specs.declared.values.Value.{Value}
use Rattle.tab_edm.specs.declared.values.Value.TheVariants.{Int32}
use Rattle.tab_filter.specs.declared.trees.Operator.{Operator}
use Rattle.tab_filter.specs.declared.trees.Operator.TheVariants.{Equal, NotEqual, Greater, GreaterOrEqual, Less, LessOrEqual}
use Rattle.tab_filter.specs.Trees.{Negation}
use Rattle.tab_keys.specs.Results.{◌>>=◌}
use Rattle.tab_filter.specs.Lexer.{Read, TooMany, starts, past_first, behind, after_spaces, gap_at, edge_at, operator_at, starts_name, whole_name, behind_name, name_at, is_not, operator_named}
use Rattle.tab_filter.specs.Literals.{literal_at}
use Rattle.tab_filter.specs.Parser.{PartView, compared, room_at, compared_at, operation_at, operand_at, begins_literal, negated, not_name, Inner, part_at, named_at, either_at, ambiguous_at, second_named_at, second_at, sole, sole_name, sole_operator, unless_sole}
use Rattle.tab_filter.specs.Grammar.{IsLiteral, IsName, Phrase, Comparing, Group, Negated, Joined, Parted, blank, operator_text, text_of, tree_at, opens, closes, comparisons, Level, unary, conjunction, disjunction, Fits, Nests, IsGap}
use Rattle.tab_filter.proofs.LexerLaws.{operator_no_opening, is_not-is, letters, letters-text, not_is_name}
use Rattle.tab_filter.proofs.Splits.{whole_name_split}
use Rattle.tab_filter.proofs.Phrases.{blank_append, operator_append, text_begins}
use Rattle.tab_filter.proofs.Sound.{Meaning, Sound, sound_after, sound_bind, sound_map, sound_weaker, sound_if, starts_is, some_spaces, Gap, gap_sound, blank_into, IsEdge, sound_edge}
use Rattle.tab_filter.proofs.SoundLexer.{Operated, operator_sound, Named, name_sound, some_name}
use Rattle.tab_filter.proofs.LiteralSound.{Literally, some_literal, literal_sound}

-- where the limits count, at most so many comparisons were read
abbrev pub Few : Bool → ℕ → ℕ → Type 0
Few true most used = used ≤ most
Few false most used = Unit {0}

few_loose : (k : Bool) (most used : ℕ) → Few true most used → Few k most used
few_loose true most used h = h
few_loose false most used h = tt

-- and at most so many are open
abbrev pub Deeply : Bool → Phrase → ℕ → Type 0
Deeply true phrase depth = Nests phrase depth
Deeply false phrase depth = Unit {0}

-- ---- comparisons
-- a literal, as the end of a comparison
record OperandText (most used : ℕ) (name : List ℕ) (o : Operator) (k : Bool) (v : PartView) (s : List ℕ) : Type 0 where
  value : Value
  good : IsLiteral value s
  v_is : v ≡ compared name o value used
  few : Few k most (suc used)

abbrev Operand : ℕ → ℕ → List ℕ → Operator → Meaning PartView
Operand most used name o k v s = OperandText most used name o k v s

-- the spaces before it
record GapText (most used : ℕ) (name : List ℕ) (o : Operator) (k : Bool) (v : PartView) (s : List ℕ) : Type 0 where
  count : ℕ
  some : 0 < count
  literal : List ℕ
  operand : OperandText most used name o k v literal
  is : s ≡ blank count literal

-- the operator
record OperationText (most used : ℕ) (name : List ℕ) (k : Bool) (v : PartView) (s : List ℕ) : Type 0 where
  operator : Operator
  rest : List ℕ
  gap : GapText most used name operator k v rest
  is : s ≡ operator_text operator rest

abbrev Roomy : ℕ → ℕ → Meaning (Unit {0})
Roomy most used k v s = Few k most (suc used) × (s ≡ [])

not_le : (a b : ℕ) → nat_le a b ≡ false → suc b ≤ a
not_le a b h = leb-false a b h

room_sound : (most used : ℕ) (t : List ℕ) → Sound (Roomy most used) t (room_at most used t)
room_sound most used t =
    sound_if (Roomy most used) t (nat_le most used) (Err TooMany) (Ok (tt, t)) (λ h. tt) (λ h. ([], (not_le most used h, refl), refl))

-- behind the room, nothing of the text is taken
after_room : {A : Type 0} (G : Bool → Meaning A) (most used : ℕ) (t : List ℕ) (f : Unit {0} × List ℕ → Read A) → (K : Meaning A) → ((few : Few true most (suc used)) → Sound K t (f (tt, t))) → Sound K t (room_at most used t >>= f)
after_room G most used t f K rest =
    elim (nat_le most used) as (λ v. nat_le most used ≡ v → Sound K t (cond {A = Read (Unit {0})} v (Err TooMany) (Ok (tt, t)) >>= f)) [
      | true ↦ λ h. tt
      | false ↦ λ h. rest (not_le most used h)
    ] refl

compared_sound : (most used : ℕ) (name : List ℕ) (o : Operator) (t : List ℕ) → Few true most (suc used) → Sound (Operand most used name o) t (compared_at used name o t)
compared_sound most used name o t few =
    sound_map Literally (Operand most used name o) (λ value. compared name o value used) t (literal_at t) (literal_sound t)
    (λ k value s l. record { value = value; good = l; v_is = refl; few = few_loose k most (suc used) few })

operand_sound : (most used : ℕ) (name : List ℕ) (o : Operator) (t : List ℕ) → Sound (Operand most used name o) t (operand_at most used name o t)
unfolding operand_at
operand_sound most used name o t =
    after_room (λ _. Operand most used name o) most used t (λ r. compared_at used name o r.1) (Operand most used name o) (λ few. compared_sound most used name o t few)

some_operand : (most used : ℕ) (name : List ℕ) (o : Operator) → OperandText most used name o false (compared name o (Int32 (pos 0)) used) (codes "0")
some_operand most used name o = record { value = Int32 (pos 0); good = some_literal; v_is = refl; few = tt }

some_gap : (most used : ℕ) (name : List ℕ) (o : Operator) → GapText most used name o false (compared name o (Int32 (pos 0)) used) (32 ∷ codes "0")
some_gap most used name o = record { count = 1; some = omega arith; literal = codes "0"; operand = some_operand most used name o; is = refl }

gapped_sound : (most used : ℕ) (name : List ℕ) (o : Operator) (t : List ℕ) → Few true most (suc used) → Sound (GapText most used name o) t (gap_at t >>= λ g. compared_at used name o g.1)
gapped_sound most used name o t few =
    sound_bind Gap (λ _. Operand most used name o) (GapText most used name o) t (gap_at t) (λ g. compared_at used name o g.1) (gap_sound t)
    (λ x s g. compared_sound most used name o x.1 few)
    (λ a s g. (compared name o (Int32 (pos 0)) used, codes "0", some_operand most used name o))
    (λ a s g. record { count = g.count; some = g.some; is = g.is })
    (λ k a v s w g h. record { count = g.count; some = g.some; literal = w; operand = h; is = ap (λ (l : List ℕ). l ++ w) g.is ∙ blank_into g.count w })

operation_sound : (most used : ℕ) (name t : List ℕ) → Sound (OperationText most used name) t (operation_at most used name t)
unfolding operation_at
operation_sound most used name t =
    sound_bind Operated (λ o. GapText most used name o) (OperationText most used name) t (operator_at t) (λ o. room_at most used o.1 >>= λ r. (gap_at r.1 >>= λ g. compared_at used name o.0 g.1)) (operator_sound t)
    (λ x s g. after_room (λ _. GapText most used name x.0) most used x.1 (λ r. gap_at r.1 >>= λ g. compared_at used name x.0 g.1) (GapText most used name x.0) (λ few. gapped_sound most used name x.0 x.1 few))
    (λ o s g. (compared name o (Int32 (pos 0)) used, 32 ∷ codes "0", some_gap most used name o))
    (λ a s g. g)
    (λ k o v s w g h. record { operator = o; rest = w; gap = h; is = ap (λ (l : List ℕ). l ++ w) g ∙ sym (operator_append o [] w) })

some_operation : (most used : ℕ) (name : List ℕ) → OperationText most used name false (compared name Equal (Int32 (pos 0)) used) (101 ∷ 113 ∷ 32 ∷ codes "0")
some_operation most used name = record { operator = Equal; rest = 32 ∷ codes "0"; gap = some_gap most used name Equal; is = refl }

-- ---- parts
pub record PartText (most depth used : ℕ) (k : Bool) (v : PartView) (s : List ℕ) : Type 0 where
  pub phrase : Phrase
  pub fits : Fits unary phrase
  pub tree_is : v.tree ≡ tree_at phrase
  pub closed_is : v.closed ≡ closes phrase
  pub used_is : v.used ≡ used + comparisons phrase
  pub few : Few k most v.used
  pub nests : Deeply k phrase depth
  pub is : s ≡ text_of phrase []

abbrev pub Behind : List ℕ → Meaning PartView → Meaning PartView
Behind front G k v s = G k v (front ++ s)

deep_comparison : (k : Bool) (depth : ℕ) (name : List ℕ) (a : ℕ) (o : Operator) (b : ℕ) (value : Value) (s : List ℕ) → Deeply k (Comparing name a o b value s) depth
deep_comparison true depth name a o b value s = tt
deep_comparison false depth name a o b value s = tt

used_one : (used : ℕ) → suc used ≡ used + 1
used_one used = omega arith

-- a name, spaces, and an operation
comparison_part : (most depth used : ℕ) (name : List ℕ) (n : ℕ) (k : Bool) (v : PartView) (w : List ℕ) → IsName name → 0 < n → OperationText most used name k v w → PartText most depth used k v (name ++ blank n w)
comparison_part most depth used name n k v w named some o =
    let operand = o.gap.operand in
    let phrase : Phrase = Comparing name n o.operator o.gap.count operand.value o.gap.literal in
    record {
      phrase = phrase;
      fits = (named, some, o.gap.some, operand.good);
      tree_is = ap (λ (p : PartView). p.tree) operand.v_is;
      closed_is = ap (λ (p : PartView). p.closed) operand.v_is;
      used_is = ap (λ (p : PartView). p.used) operand.v_is ∙ used_one used;
      few = subst (Few k most) (sym (ap (λ (p : PartView). p.used) operand.v_is)) operand.few;
      nests = deep_comparison k depth name n o.operator o.gap.count operand.value o.gap.literal;
      is = ap (λ (l : List ℕ). name ++ blank n l) (o.is ∙ ap (operator_text o.operator) (o.gap.is ∙ ap (blank o.gap.count) (sym (append-nil o.gap.literal))));
    }

-- the readers that go behind a `(` or a `not`
pub record InnerSound (most depth : ℕ) (inner : Inner) : Type 0 where
  pub group : (used : ℕ) (text left : List ℕ) → Sound (Behind (40 ∷ []) (PartText most depth used)) left (inner false used text left)
  pub negation : (used : ℕ) (text left : List ℕ) → Sound (Behind (codes "not") (PartText most depth used)) left (inner true used text left)

some_value : ℕ → List ℕ → PartView
some_value used name = compared name Equal (Int32 (pos 0)) used

named_sound : (most depth used : ℕ) (inner : Inner) (text name left : List ℕ) → InnerSound most depth inner → IsName name → Sound (Behind name (PartText most depth used)) left (named_at most inner used text name left)
named_sound most depth used inner text name left law named =
    sound_if (Behind name (PartText most depth used)) left (is_not name) (inner true used text left) (gap_at left >>= λ g. operation_at most used name g.1)
    (λ h. sound_weaker (Behind (codes "not") (PartText most depth used)) (Behind name (PartText most depth used)) left (inner true used text left) (λ k v w p. subst (λ (l : List ℕ). PartText most depth used k v (l ++ w)) (sym (is_not-is name h)) p) (law.negation used text left))
    (λ h. sound_bind Gap (λ _. OperationText most used name) (Behind name (PartText most depth used)) left (gap_at left) (λ g. operation_at most used name g.1) (gap_sound left)
    (λ x s g. operation_sound most used name x.1)
    (λ a s g. (compared name Equal (Int32 (pos 0)) used, 101 ∷ 113 ∷ 32 ∷ codes "0", some_operation most used name))
    (λ a s g. record { count = g.count; some = g.some; is = g.is })
    (λ k a v s w g o. subst (λ (l : List ℕ). PartText most depth used k v (name ++ l)) (sym (blank_into g.count w) ∙ ap (λ (l : List ℕ). l ++ w) (sym g.is)) (comparison_part most depth used name g.count k v w named g.some o)))

pub some_part : (most depth used : ℕ) (name : List ℕ) → IsName name → PartText most depth used false (compared name Equal (Int32 (pos 0)) used) (name ++ (32 ∷ 101 ∷ 113 ∷ 32 ∷ codes "0"))
some_part most depth used name named =
    comparison_part most depth used name 1 false (compared name Equal (Int32 (pos 0)) used) (101 ∷ 113 ∷ 32 ∷ codes "0") named (omega arith) (some_operation most used name)

pub part_sound : (most depth : ℕ) (inner : Inner) → InnerSound most depth inner → (used : ℕ) (t : List ℕ) → Sound (PartText most depth used) t (part_at most inner used t)
unfolding part_at
part_sound most depth inner law used t =
    sound_if (PartText most depth used) t (starts 40 t) (inner false used t (past_first t)) (name_at t >>= λ w. named_at most inner used t w.0 w.1)
    (λ h. sound_after (Behind (40 ∷ []) (PartText most depth used)) (PartText most depth used) t (40 ∷ []) (past_first t) (inner false used t (past_first t)) (starts_is 40 t h) (λ k v w p. p) (law.group used t (past_first t)))
    (λ h. sound_bind Named (λ name. Behind name (PartText most depth used)) (PartText most depth used) t (name_at t) (λ w. named_at most inner used t w.0 w.1) (name_sound t)
    (λ x s g. named_sound most depth used inner t x.0 x.1 law g.1)
    (λ name s g. (compared name Equal (Int32 (pos 0)) used, 32 ∷ 101 ∷ 113 ∷ 32 ∷ codes "0", some_part most depth used name g.1))
    (λ a s g. g)
    (λ k name v s w g p. subst (λ (l : List ℕ). PartText most depth used k v (l ++ w)) (sym g.0) p))

-- ---- behind `not`
-- a text of some characters
abbrev IsSome : List ℕ → Type 0
IsSome s = s ≡ [] → ⊥

record SecondText (most depth used : ℕ) (k : Bool) (v : PartView) (s : List ℕ) : Type 0 where
  some : IsSome s
  completes : (n : ℕ) → IsEdge n s → PartText most depth used k v (codes "not" ++ blank n s)

cons_some : (c : ℕ) (cs : List ℕ) → IsSome (c ∷ cs)
cons_some c cs e = cc

name_some : (name w : List ℕ) → IsName name → IsSome (name ++ w)
name_some [] w h e = h
name_some (c ∷ cs) w h e = cc

pub text_some : (level : Level) (c : Phrase) (r : List ℕ) → Fits level c → IsSome (text_of c r)
text_some level (Comparing name a o b value literal) r f = name_some name (blank a (operator_text o (blank b (literal ++ r)))) f.0
text_some level (Group a inner b) r f = cons_some 40 (blank a (text_of inner (blank b (41 ∷ r))))
text_some level (Negated a inner) r f = cons_some 110 (111 ∷ 116 ∷ blank a (text_of inner r))
text_some unary (Joined first a b second) r f = absurd f
text_some conjunction (Joined first a b second) r f = text_some unary first (blank a (97 ∷ 110 ∷ 100 ∷ blank b (text_of second r))) f.2
text_some disjunction (Joined first a b second) r f = text_some unary first (blank a (97 ∷ 110 ∷ 100 ∷ blank b (text_of second r))) f.2
text_some unary (Parted first a b second) r f = absurd f
text_some conjunction (Parted first a b second) r f = absurd f
text_some disjunction (Parted first a b second) r f = text_some conjunction first (blank a (111 ∷ 114 ∷ blank b (text_of second r))) f.2

deep_negated : (k : Bool) (a : ℕ) (inner : Phrase) (depth : ℕ) → Deeply k inner depth → Deeply k (Negated a inner) (suc depth)
deep_negated true a inner depth h = h
deep_negated false a inner depth h = tt

-- a gap, as the next phrase begins
pub gap_for : (opening : Bool) (n : ℕ) (s : List ℕ) → starts 40 s ≡ opening → IsEdge n s → IsGap opening n
gap_for true n s o h = tt
gap_for false n s o (inl h) = h
gap_for false n s o (inr h) = absurd (true≢false (sym h ∙ o))

abbrev pub negation_of : PartView → PartView
negation_of p = record { tree = Negation p.tree; closed = p.closed; used = p.used }

negated_second : (most depth used : ℕ) (k : Bool) (p : PartView) (s : List ℕ) → PartText most depth used k p s → SecondText most (suc depth) used k (negation_of p) s
negated_second most depth used k p s h =
    let begins = text_begins unary h.phrase [] h.fits in
    record {
      some = λ e. text_some unary h.phrase [] h.fits (sym h.is ∙ e);
      completes = λ n edge. record {
        phrase = Negated n h.phrase;
        fits = (gap_for (opens h.phrase) n s (ap (starts 40) h.is ∙ begins.opening) edge, h.fits);
        tree_is = ap Negation h.tree_is;
        closed_is = h.closed_is;
        used_is = h.used_is;
        few = h.few;
        nests = deep_negated k n h.phrase depth h.nests;
        is = ap (λ (l : List ℕ). codes "not" ++ blank n l) h.is;
      };
    }

operator_some : (o : Operator) (r : List ℕ) → IsSome (operator_text o r)
operator_some Equal r = cons_some 101 (113 ∷ r)
operator_some NotEqual r = cons_some 110 (101 ∷ r)
operator_some Greater r = cons_some 103 (116 ∷ r)
operator_some GreaterOrEqual r = cons_some 103 (101 ∷ r)
operator_some Less r = cons_some 108 (116 ∷ r)
operator_some LessOrEqual r = cons_some 108 (101 ∷ r)

abbrev BehindSecond : List ℕ → ℕ → ℕ → ℕ → Meaning PartView
BehindSecond front most depth used k v s = SecondText most depth used k v (front ++ s)

-- the literal of a comparison of `not`, behind its operator and spaces
operand_second : (most depth used : ℕ) (o : Operator) (n : ℕ) (k : Bool) (v : PartView) (s : List ℕ) → 0 < n → OperandText most used not_name o k v s → SecondText most depth used k v (letters o ++ blank n s)
operand_second most depth used o n k v s some operand =
    let operation : OperationText most used not_name k v (operator_text o (blank n s)) = record {
      operator = o;
      rest = blank n s;
      gap = record { count = n; some = some; literal = s; operand = operand; is = refl };
      is = refl;
    } in
    let is = letters-text o (blank n s) in
    record {
      some = λ e. operator_some o (blank n s) (is ∙ e);
      completes = λ m edge. subst (λ (l : List ℕ). PartText most depth used k v (codes "not" ++ blank m l)) is
          (comparison_part most depth used not_name m k v (operator_text o (blank n s)) not_is_name (gap_for false m (letters o ++ blank n s) (ap (starts 40) (sym is) ∙ operator_no_opening o (blank n s)) edge) operation);
    }

-- a name that spells an operator has its letters
two_are : (a b c d : ℕ) → (a == c && b == d) ≡ true → a ∷ b ∷ [] ≡ c ∷ d ∷ []
two_are a b c d h =
    let parts = and_parts (a == c) (b == d) h in
    ap (λ (n : ℕ). n ∷ b ∷ []) ((Decides-eqb a c).0 parts.0) ∙ ap (λ (n : ℕ). c ∷ n ∷ []) ((Decides-eqb b d).0 parts.1)

pick : (name : List ℕ) (b : Bool) (x o : Operator) (rest : Option Operator) → cond b (Some x) rest ≡ Some o → (b ≡ true → name ≡ letters x) → (rest ≡ Some o → name ≡ letters o) → name ≡ letters o
pick name true x o rest e here there = here refl ∙ ap letters (some_same e)
  where
    some_same : Some x ≡ Some o → x ≡ o
    some_same e = cc
pick name false x o rest e here there = there e

none_operator : {o : Operator} → None ≡ Some o → ⊥
none_operator e = cc

pub operator_letters : (name : List ℕ) (o : Operator) → operator_named name ≡ Some o → name ≡ letters o
unfolding operator_named
operator_letters [] o h = absurd (none_operator h)
operator_letters (a ∷ []) o h = absurd (none_operator h)
operator_letters (a ∷ b ∷ []) o h =
    let name : List ℕ = a ∷ b ∷ [] in
    pick name _ Equal o _ h (two_are a b 101 113)
    (λ h. pick name _ NotEqual o _ h (two_are a b 110 101)
    (λ h. pick name _ GreaterOrEqual o _ h (two_are a b 103 101)
    (λ h. pick name _ Greater o _ h (two_are a b 103 116)
    (λ h. pick name _ LessOrEqual o _ h (two_are a b 108 101)
    (λ h. pick name _ Less o _ h (two_are a b 108 116) (λ h. absurd (none_operator h)))))))
operator_letters (a ∷ b ∷ c ∷ cs) o h = absurd (none_operator h)

-- behind a name and the spaces after it
abbrev Spaced : List ℕ → ℕ → ℕ → ℕ → Meaning PartView
Spaced name most depth used k v w = (n : ℕ) → 0 < n → SecondText most depth used k v (name ++ blank n w)

negated_operation : (most depth used : ℕ) (name t : List ℕ) → IsName name → Sound (Spaced name most (suc depth) used) t (negated (operation_at most used name t))
negated_operation most depth used name t named =
    sound_map (OperationText most used name) (Spaced name most (suc depth) used) negation_of t (operation_at most used name t) (operation_sound most used name t)
    (λ k v w o n some. negated_second most depth used k v (name ++ blank n w) (comparison_part most depth used name n k v w named some o))

either_sound : (most depth used : ℕ) (name t : List ℕ) (o : Operator) (b : Bool) → IsName name → name ≡ letters o → Sound (Spaced name most (suc depth) used) t (either_at most b o used name t)
either_sound most depth used name t o true named is =
    sound_weaker (Operand most used not_name o) (Spaced name most (suc depth) used) t (operand_at most used not_name o t)
    (λ k v w operand n some. subst (λ (l : List ℕ). SecondText most (suc depth) used k v (l ++ blank n w)) (sym is) (operand_second most (suc depth) used o n k v w some operand))
    (operand_sound most used not_name o t)
either_sound most depth used name t o false named is = negated_operation most depth used name t named

ambiguous_sound : (most depth used : ℕ) (name t : List ℕ) → IsName name → Sound (Spaced name most (suc depth) used) t (ambiguous_at most (operator_named name) used name t)
ambiguous_sound most depth used name t named =
    elim (operator_named name) as (λ v. operator_named name ≡ v → Sound (Spaced name most (suc depth) used) t (ambiguous_at most v used name t)) [
      | None ↦ λ h. negated_operation most depth used name t named
      | Some o ↦ λ h. either_sound most depth used name t o (begins_literal t) named (operator_letters name o h)
    ] refl

-- something that may stand behind a name and spaces
some_spaced : (most depth used : ℕ) (name : List ℕ) → IsName name → Spaced name most (suc depth) used false (negation_of (compared name Equal (Int32 (pos 0)) used)) (101 ∷ 113 ∷ 32 ∷ codes "0")
some_spaced most depth used name named n some =
    negated_second most depth used false (compared name Equal (Int32 (pos 0)) used) (name ++ blank n (101 ∷ 113 ∷ 32 ∷ codes "0"))
    (comparison_part most depth used name n false (compared name Equal (Int32 (pos 0)) used) (101 ∷ 113 ∷ 32 ∷ codes "0") named some (some_operation most used name))

second_named_sound : (most depth used : ℕ) (inner : Inner) (text name left : List ℕ) → InnerSound most depth inner → IsName name → Sound (BehindSecond name most (suc depth) used) left (second_named_at most inner used text name left)
second_named_sound most depth used inner text name left law named =
    sound_if (BehindSecond name most (suc depth) used) left (is_not name) (negated (inner true used text left)) (gap_at left >>= λ g. ambiguous_at most (operator_named name) used name g.1)
    (λ h. sound_map (Behind (codes "not") (PartText most depth used)) (BehindSecond name most (suc depth) used) negation_of left (inner true used text left) (law.negation used text left)
    (λ k v w p. subst (λ (l : List ℕ). SecondText most (suc depth) used k (negation_of v) (l ++ w)) (sym (is_not-is name h)) (negated_second most depth used k v (codes "not" ++ w) p)))
    (λ h. sound_bind Gap (λ _. Spaced name most (suc depth) used) (BehindSecond name most (suc depth) used) left (gap_at left) (λ g. ambiguous_at most (operator_named name) used name g.1) (gap_sound left)
    (λ x s g. ambiguous_sound most depth used name x.1 named)
    (λ a s g. (negation_of (compared name Equal (Int32 (pos 0)) used), 101 ∷ 113 ∷ 32 ∷ codes "0", some_spaced most depth used name named))
    (λ a s g. record { count = g.count; some = g.some; is = g.is })
    (λ k a v s w g spaced. subst (λ (l : List ℕ). SecondText most (suc depth) used k v (name ++ l)) (sym (blank_into g.count w) ∙ ap (λ (l : List ℕ). l ++ w) (sym g.is)) (spaced g.count g.some)))

some_second : (most depth used : ℕ) (name : List ℕ) → IsName name → SecondText most (suc depth) used false (negation_of (compared name Equal (Int32 (pos 0)) used)) (name ++ (32 ∷ 101 ∷ 113 ∷ 32 ∷ codes "0"))
some_second most depth used name named = some_spaced most depth used name named 1 (omega arith)

second_sound : (most depth : ℕ) (inner : Inner) → InnerSound most depth inner → (used : ℕ) (t : List ℕ) → Sound (SecondText most (suc depth) used) t (second_at most inner used t)
unfolding second_at
second_sound most depth inner law used t =
    sound_if (SecondText most (suc depth) used) t (starts 40 t) (negated (inner false used t (past_first t))) (name_at t >>= λ w. second_named_at most inner used t w.0 w.1)
    (λ h. sound_after (BehindSecond (40 ∷ []) most (suc depth) used) (SecondText most (suc depth) used) t (40 ∷ []) (past_first t) (negated (inner false used t (past_first t))) (starts_is 40 t h) (λ k v w p. p)
    (sound_map (Behind (40 ∷ []) (PartText most depth used)) (BehindSecond (40 ∷ []) most (suc depth) used) negation_of (past_first t) (inner false used t (past_first t)) (law.group used t (past_first t)) (λ k v w p. negated_second most depth used k v (40 ∷ w) p)))
    (λ h. sound_bind Named (λ name. BehindSecond name most (suc depth) used) (SecondText most (suc depth) used) t (name_at t) (λ w. second_named_at most inner used t w.0 w.1) (name_sound t)
    (λ x s g. second_named_sound most depth used inner t x.0 x.1 law g.1)
    (λ name s g. (negation_of (compared name Equal (Int32 (pos 0)) used), 32 ∷ 101 ∷ 113 ∷ 32 ∷ codes "0", some_second most depth used name g.1))
    (λ a s g. g)
    (λ k name v s w g p. subst (λ (l : List ℕ). SecondText most (suc depth) used k v (l ++ w)) (sym g.0) p))

pub negation_sound : (most depth : ℕ) (inner : Inner) → InnerSound most depth inner → (used : ℕ) (t : List ℕ) → Sound (Behind (codes "not") (PartText most (suc depth) used)) t (edge_at t >>= λ e. second_at most inner used e.1)
negation_sound most depth inner law used t =
    sound_edge (SecondText most (suc depth) used) (Behind (codes "not") (PartText most (suc depth) used)) t (λ u. second_at most inner used u) (λ u. second_sound most depth inner law used u) (λ k b h. h.some refl)
    (negation_of (compared (101 ∷ []) Equal (Int32 (pos 0)) used)) (101 ∷ 32 ∷ 101 ∷ 113 ∷ 32 ∷ codes "0") (some_second most depth used (101 ∷ []) some_name)
    (λ k n b s h edge. h.completes n edge)

-- ---- a `not` that may not be opened
-- no space is left behind spaces
spaces_end : (t : List ℕ) → starts 32 (after_spaces t) ≡ false
unfolding behind
spaces_end [] = refl
spaces_end (b ∷ bs) =
    elim (b == 32) as (λ v. (b == 32) ≡ v → starts 32 (cond v (after_spaces bs) (b ∷ bs)) ≡ false) [ true ↦ λ _. spaces_end bs | false ↦ λ h. h ] refl

pub record Sole (left : List ℕ) (o : Operator) (rest : List ℕ) : Type 0 where
  pub before : ℕ
  pub some : 0 < before
  pub behind : ℕ
  pub more : 0 < behind
  pub literal : begins_literal rest ≡ true
  pub no_space : starts 32 rest ≡ false
  pub is : left ≡ blank before (letters o ++ blank behind rest)

sole_some : (o : Option Operator) (text : List ℕ) (x : Operator × List ℕ) → sole o text ≡ Some x → (o ≡ Some x.0) × (text ≡ x.1) × (begins_literal text ≡ true)
sole_some None text x e = absurd (none_pair e)
  where
    none_pair : None ≡ Some x → ⊥
    none_pair e = cc
sole_some (Some o) text x e =
    elim (begins_literal text) as (λ v. begins_literal text ≡ v → cond v (one (o, text)) None ≡ Some x → (Some o ≡ Some x.0) × (text ≡ x.1) × (begins_literal text ≡ true)) [
      | true ↦ λ h e. let s = pair_same e in (ap (λ (p : Operator × List ℕ). Some p.0) s, ap (λ (p : Operator × List ℕ). p.1) s, h)
      | false ↦ λ h e. absurd (none_pair e)
    ] refl e
  where
    one : Operator × List ℕ → Option (Operator × List ℕ)
    one p = Some p

    pair_same : {y : Operator × List ℕ} → Some y ≡ Some x → y ≡ x
    pair_same e = cc

    none_pair : None ≡ Some x → ⊥
    none_pair e = cc

abbrev no_sole : Option (Operator × List ℕ)
no_sole = None

none_sole : {x : Operator × List ℕ} → no_sole ≡ Some x → ⊥
none_sole e = cc

pub sole_found : (left : List ℕ) (x : Operator × List ℕ) → sole_operator left ≡ Some x → Sole left x.0 x.1
unfolding sole_operator
sole_found left x e =
    elim (starts 32 left) as (λ v. starts 32 left ≡ v → cond v (sole_name (after_spaces left)) no_sole ≡ Some x → Sole left x.0 x.1) [
      | true ↦ λ h e. named (after_spaces left) (some_spaces left h) e
      | false ↦ λ h e. absurd (none_sole e)
    ] refl e
  where
    named : (u : List ℕ) → (n : ℕ) × (0 < n) × (left ≡ blank n u) → sole_name u ≡ Some x → Sole left x.0 x.1
    named u n e =
        elim (starts_name u && starts 32 (behind_name u)) as (λ v. (starts_name u && starts 32 (behind_name u)) ≡ v → cond v (sole (operator_named (whole_name u)) (after_spaces (behind_name u))) no_sole ≡ Some x → Sole left x.0 x.1) [
          | true ↦ λ h e. let parts = and_parts (starts_name u) (starts 32 (behind_name u)) h in
              let m = some_spaces (behind_name u) parts.1 in
              let found = sole_some (operator_named (whole_name u)) (after_spaces (behind_name u)) x e in
              let name = operator_letters (whole_name u) x.0 found.0 in
              record { before = n.0; some = n.1; behind = m.0; more = m.1; literal = sym (ap begins_literal found.1) ∙ found.2; no_space = sym (ap (starts 32) found.1) ∙ spaces_end (behind_name u); is = n.2 ∙ ap (blank n.0) (whole_name_split u ∙ ap (λ (l : List ℕ). l ++ behind_name u) name ∙ ap (λ (l : List ℕ). letters x.0 ++ l) (m.2 ∙ ap (blank m.0) found.1)) }
          | false ↦ λ h e. absurd (none_sole e)
        ] refl e

pub sole_into : (a : ℕ) (w : List ℕ) (b : ℕ) (s : List ℕ) → blank a (w ++ blank b []) ++ s ≡ blank a (w ++ blank b s)
sole_into a w b s =
    sym (blank_append a (w ++ blank b []) s) ∙ ap (blank a) (append_assoc w (blank b []) s ∙ ap (λ (l : List ℕ). w ++ l) (blank_into b s))

unless_sound : (most depth used : ℕ) (text left : List ℕ) → Sound (Behind (codes "not") (PartText most depth used)) left (unless_sole most used text (sole_operator left))
unless_sound most depth used text left =
    elim (sole_operator left) as (λ v. sole_operator left ≡ v → Sound (Behind (codes "not") (PartText most depth used)) left (unless_sole most used text v)) [
      | None ↦ λ h. tt
      | Some x ↦ λ h. let f = sole_found left x h in
          sound_after (Operand most used not_name x.0) (Behind (codes "not") (PartText most depth used)) left (blank f.before (letters x.0 ++ blank f.behind [])) x.1 (operand_at most used not_name x.0 x.1)
          (f.is ∙ sym (sole_into f.before (letters x.0) f.behind x.1))
          (λ k v w operand. subst (λ (l : List ℕ). PartText most depth used k v (codes "not" ++ l)) (sym (sole_into f.before (letters x.0) f.behind w)) ((operand_second most depth used x.0 f.behind k v w f.more operand).completes f.before (inl f.some)))
          (operand_sound most used not_name x.0 x.1)
    ] refl

pub closed_sound : (most : ℕ) (inner : Inner) → ((used : ℕ) (text left : List ℕ) → Sound (Behind (40 ∷ []) (PartText most 0 used)) left (inner false used text left)) → ((used : ℕ) (text left : List ℕ) → inner true used text left ≡ unless_sole most used text (sole_operator left)) → InnerSound most 0 inner
closed_sound most inner group is = record {
  group = group;
  negation = λ used text left. subst (Sound (Behind (codes "not") (PartText most 0 used)) left) (sym (is used text left)) (unless_sound most 0 used text left);
}
