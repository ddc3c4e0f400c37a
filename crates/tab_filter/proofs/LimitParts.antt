-- Before where a reader of parts exceeds a limit stands an unfinished phrase.
use Rattle.std.proofs.Common.{◌≡◌, inl, inr, ℕ, zero, suc, ◌+◌, ◌<◌, ◌≤◌, List, [], ◌∷◌, ◌++◌, Bool, true, false, cond, Some, None, Ok, Err, refl, ap, sym, subst, ◌∙◌, arith}
use Rattle.std.specs.Prelude.{codes, nat_le}
use Rattle.std.proofs.lemmas.Bool.{leb-true}
use Rattle.tab_filter.specs.declared.trees.Operator.{Operator}
use Rattle.tab_filter.specs.declared.lexer.Joint.{Joint}
use Rattle.tab_filter.specs.declared.lexer.Joint.TheVariants.{And, Or, Neither}
use Rattle.tab_keys.specs.Results.{◌>>=◌}
use Rattle.tab_filter.specs.Lexer.{Read, Syntax, BadLiteral, Deep, TooMany, starts, past_first, after_spaces, expect, gap_at, edge_at, operator_at, starts_name, whole_name, behind_name, name_at, is_not, operator_named, joint_at}
use Rattle.tab_filter.specs.Literals.{literal_at}
use Rattle.tab_filter.specs.Parser.{PartView, AllView, AnyView, room_at, compared_at, operation_at, operand_at, begins_literal, negated, not_name, Inner, part_at, named_at, either_at, ambiguous_at, second_named_at, second_at, sole_operator, unless_sole, all_more, all_at, any_more, any_at, closed_group, inner_at}
use Rattle.tab_filter.specs.Grammar.{IsName, Phrase, blank, text_of, closes, comparisons, Level, unary, conjunction, disjunction, IsGap}
use Rattle.tab_filter.specs.Limits.{Unfinished, Due, InGroup, InNegation, InJoined, InParted, begun, begun_opens, BegunFits, BegunNests, open_before, comparisons_before, BeginsOpening, BeginsComparison}
use Rattle.tab_filter.proofs.LexerLaws.{is_not-is, letters, letters-text, not_is_name, name_no_opening}
use Rattle.tab_filter.proofs.Splits.{whole_name_split}
use Rattle.tab_filter.proofs.Phrases.{blank_append, operator_append, text_append, text_begins, some_comparison}
use Rattle.tab_filter.proofs.Sound.{Meaning, Sound, starts_is, spaces, blank_into, Gap, gap_sound, IsEdge}
use Rattle.tab_filter.proofs.SoundLexer.{Operated, operator_sound, whole_name_is, TailText, Tail, joint_sound}
use Rattle.tab_filter.proofs.SoundParser.{PartText, gap_for, operator_letters, sole_found, part_sound}
use Rattle.tab_filter.proofs.SoundPhrases.{AllText, PartsSound, all_sound, or_tail, inner_sound}
use Rattle.tab_filter.proofs.Quiet.{Quiet, quiet_bind, expect_quiet, gap_quiet, operator_quiet, joint_quiet, literal_quiet}

pub record DeepPlace (level : Level) (most depth used : ℕ) (t left : List ℕ) : Type 0 where
  pub phrase : Unfinished
  pub fits : BegunFits level phrase (starts 40 left)
  pub nests : BegunNests phrase depth
  pub few : used + comparisons_before phrase ≤ most
  pub open_is : open_before phrase ≡ depth
  pub opens : BeginsOpening left
  pub is : t ≡ begun phrase left

pub record ManyPlace (level : Level) (most depth used : ℕ) (t : List ℕ) : Type 0 where
  pub phrase : Unfinished
  pub left : List ℕ
  pub fits : BegunFits level phrase (starts 40 left)
  pub nests : BegunNests phrase depth
  pub many : used + comparisons_before phrase ≡ most
  pub begins : BeginsComparison left
  pub is : t ≡ begun phrase left

-- where a reader exceeds a limit, if it does, with so many comparisons read before the text, and so many more that may
-- be opened
abbrev pub Placed : {A : Type 0} → Level → ℕ → ℕ → ℕ → List ℕ → Read A → Type 0
Placed level most depth used t (Ok x) = Unit {0}
Placed level most depth used t (Err (Syntax left)) = Unit {0}
Placed level most depth used t (Err (BadLiteral left)) = Unit {0}
Placed level most depth used t (Err (Deep left)) = DeepPlace level most depth used t left
Placed level most depth used t (Err TooMany) = ManyPlace level most depth used t

placed_quiet : {A : Type 0} (level : Level) (most depth used : ℕ) (t : List ℕ) (r : Read A) → Quiet r → Placed level most depth used t r
placed_quiet level most depth used t (Ok x) h = tt
placed_quiet level most depth used t (Err (Syntax left)) h = tt
placed_quiet level most depth used t (Err (BadLiteral left)) h = tt
placed_quiet level most depth used t (Err (Deep left)) h = absurd h
placed_quiet level most depth used t (Err TooMany) h = absurd h

placed_bind : {A B : Type 0} (level : Level) (most depth used : ℕ) (t : List ℕ) (r : Read A) (f : A × List ℕ → Read B) → Placed level most depth used t r → ((x : A × List ℕ) → Placed level most depth used t (f x)) → Placed level most depth used t (r >>= f)
placed_bind level most depth used t (Ok x) f h next = next x
placed_bind level most depth used t (Err (Syntax left)) f h next = tt
placed_bind level most depth used t (Err (BadLiteral left)) f h next = tt
placed_bind level most depth used t (Err (Deep left)) f h next = h
placed_bind level most depth used t (Err TooMany) f h next = h

-- one reader behind another, with what the first says of its text
placed_after : {A B : Type 0} (G : Meaning A) (level : Level) (most depth used : ℕ) (t u : List ℕ) (r : Read A) (f : A × List ℕ → Read B) → Sound G u r → Placed level most depth used t r → ((x : A × List ℕ) (s : List ℕ) → G true x.0 s → u ≡ s ++ x.1 → Placed level most depth used t (f x)) → Placed level most depth used t (r >>= f)
placed_after G level most depth used t u (Ok x) f g h next = next x g.0 g.1 g.2
placed_after G level most depth used t u (Err (Syntax left)) f g h next = tt
placed_after G level most depth used t u (Err (BadLiteral left)) f g h next = tt
placed_after G level most depth used t u (Err (Deep left)) f g h next = h
placed_after G level most depth used t u (Err TooMany) f g h next = h

placed_if : {A : Type 0} (level : Level) (most depth used : ℕ) (t : List ℕ) (b : Bool) (x y : Read A) → (b ≡ true → Placed level most depth used t x) → (b ≡ false → Placed level most depth used t y) → Placed level most depth used t (cond b x y)
placed_if level most depth used t true x y f g = f refl
placed_if level most depth used t false x y f g = g refl

-- an unfinished phrase within a longer one
record Wrapped (to : Level) (d1 d2 used1 used2 : ℕ) (t : List ℕ) (phrase : Unfinished) (left : List ℕ) : Type 0 where
  whole : Unfinished
  fits : BegunFits to whole (starts 40 left)
  nests : BegunNests phrase d1 → BegunNests whole d2
  open_is : open_before whole + d1 ≡ d2 + open_before phrase
  many : used2 + comparisons_before whole ≡ used1 + comparisons_before phrase
  is : t ≡ begun whole left

fewer : (a b most : ℕ) → a ≡ b → b ≤ most → a ≤ most
fewer a b most h i = omega arith

equal_open : (w d1 d2 o : ℕ) → w + d1 ≡ d2 + o → o ≡ d1 → w ≡ d2
equal_open w d1 d2 o h e = omega arith

placed_wrap : {A : Type 0} (from to : Level) (most d1 d2 used1 used2 : ℕ) (u t : List ℕ) (r : Read A) → ((phrase : Unfinished) (left : List ℕ) → BegunFits from phrase (starts 40 left) → u ≡ begun phrase left → Wrapped to d1 d2 used1 used2 t phrase left) → Placed from most d1 used1 u r → Placed to most d2 used2 t r
placed_wrap from to most d1 d2 used1 used2 u t (Ok x) wrap h = tt
placed_wrap from to most d1 d2 used1 used2 u t (Err (Syntax left)) wrap h = tt
placed_wrap from to most d1 d2 used1 used2 u t (Err (BadLiteral left)) wrap h = tt
placed_wrap from to most d1 d2 used1 used2 u t (Err (Deep left)) wrap h =
    let w = wrap h.phrase left h.fits h.is in
    record { phrase = w.whole; fits = w.fits; nests = w.nests h.nests; few = fewer (used2 + comparisons_before w.whole) (used1 + comparisons_before h.phrase) most w.many h.few; open_is = equal_open (open_before w.whole) d1 d2 (open_before h.phrase) w.open_is h.open_is; opens = h.opens; is = w.is }
placed_wrap from to most d1 d2 used1 used2 u t (Err TooMany) wrap h =
    let w = wrap h.phrase h.left h.fits h.is in
    record { phrase = w.whole; left = h.left; fits = w.fits; nests = w.nests h.nests; many = w.many ∙ h.many; begins = h.begins; is = w.is }

-- ---- spaces
edge_placed : {A : Type 0} (level : Level) (most depth used : ℕ) (t u : List ℕ) (f : List ℕ → Read A) → ((n : ℕ) (w : List ℕ) → u ≡ blank n w → IsEdge n w → Placed level most depth used t (f w)) → Placed level most depth used t (edge_at u >>= λ e. f e.1)
edge_placed level most depth used t u f next =
    elim (starts 40 (after_spaces u)) as (λ v. starts 40 (after_spaces u) ≡ v → Placed level most depth used t (cond {A = Read (Unit {0})} v (Ok (tt, after_spaces u)) (gap_at u) >>= λ e. f e.1)) [
      | true ↦ λ h. let n = spaces u in next n.0 (after_spaces u) n.1 (inr h)
      | false ↦ λ h. placed_after Gap level most depth used t u (gap_at u) (λ e. f e.1) (gap_sound u) (placed_quiet level most depth used t (gap_at u) (gap_quiet u))
          (λ x s g is. next g.count x.1 (is ∙ ap (λ (l : List ℕ). l ++ x.1) g.is ∙ blank_into g.count x.1) (inl g.some))
    ] refl

gap_placed : {A : Type 0} (level : Level) (most depth used : ℕ) (t u : List ℕ) (f : List ℕ → Read A) → ((n : ℕ) (w : List ℕ) → u ≡ blank n w → 0 < n → Placed level most depth used t (f w)) → Placed level most depth used t (gap_at u >>= λ e. f e.1)
gap_placed level most depth used t u f next =
    placed_after Gap level most depth used t u (gap_at u) (λ e. f e.1) (gap_sound u) (placed_quiet level most depth used t (gap_at u) (gap_quiet u))
    (λ x s g is. next g.count x.1 (is ∙ ap (λ (l : List ℕ). l ++ x.1) g.is ∙ blank_into g.count x.1) g.some)

-- ---- comparisons
none_more : (used most : ℕ) → used ≤ most → used + 0 ≤ most
none_more used most h = omega arith

filled : (used most : ℕ) → used ≤ most → most ≤ used → used + 0 ≡ most
filled used most h i = omega arith

room_placed : {A : Type 0} (most depth used : ℕ) (t u : List ℕ) (f : Unit {0} × List ℕ → Read A) → used ≤ most → BeginsComparison t → Quiet (f (tt, u)) → Placed unary most depth used t (room_at most used u >>= f)
room_placed {A} most depth used t u f few begins quiet =
    elim (nat_le most used) as (λ v. nat_le most used ≡ v → Placed unary most depth used t (cond {A = Read (Unit {0})} v (Err TooMany) (Ok (tt, u)) >>= f)) [
      | true ↦ λ h. record { phrase = Due; left = t; fits = tt; nests = tt; many = filled used most few (leb-true most used h); begins = begins; is = refl }
      | false ↦ λ h. placed_quiet unary most depth used t (f (tt, u)) quiet
    ] refl

compared_quiet : (used : ℕ) (name : List ℕ) (o : Operator) (t : List ℕ) → Quiet (compared_at used name o t)
compared_quiet used name o t = quiet_bind (literal_at t) _ (literal_quiet t) (λ x. tt)

operand_placed : (most depth used : ℕ) (t name : List ℕ) (o : Operator) (u : List ℕ) → used ≤ most → BeginsComparison t → Placed unary most depth used t (operand_at most used name o u)
unfolding operand_at
operand_placed most depth used t name o u few begins =
    room_placed most depth used t u (λ r. compared_at used name o r.1) few begins (compared_quiet used name o u)

operation_placed : (most depth used : ℕ) (t name : List ℕ) (n : ℕ) (u : List ℕ) → used ≤ most → IsName name → 0 < n → t ≡ name ++ blank n u → Placed unary most depth used t (operation_at most used name u)
unfolding operation_at
operation_placed most depth used t name n u few named some is =
    placed_after Operated unary most depth used t u (operator_at u) (λ o. room_at most used o.1 >>= λ r. (gap_at r.1 >>= λ g. compared_at used name o.0 g.1)) (operator_sound u) (placed_quiet unary most depth used t (operator_at u) (operator_quiet u))
    (λ x s g split. room_placed most depth used t x.1 (λ r. gap_at r.1 >>= λ g. compared_at used name x.0 g.1) few
    (record { name = name; named = named; spaces = n; some = some; operator = x.0; rest = x.1; is = is ∙ ap (λ (l : List ℕ). name ++ blank n l) (split ∙ ap (λ (l : List ℕ). l ++ x.1) g ∙ sym (operator_append x.0 [] x.1)) })
    (quiet_bind (gap_at x.1) _ (gap_quiet x.1) (λ g. compared_quiet used name x.0 g.1)))

-- ---- parts
pub record InnerPlaced (most depth : ℕ) (inner : Inner) : Type 0 where
  pub group : (used : ℕ) (text left : List ℕ) → used ≤ most → text ≡ 40 ∷ left → Placed unary most depth used text (inner false used text left)
  pub negation : (used : ℕ) (text left : List ℕ) → used ≤ most → whole_name text ≡ codes "not" → text ≡ codes "not" ++ left → Placed unary most depth used text (inner true used text left)

name_placed : {A : Type 0} (level : Level) (most depth used : ℕ) (t u : List ℕ) (f : List ℕ × List ℕ → Read A) → (IsName (whole_name u) → u ≡ whole_name u ++ behind_name u → Placed level most depth used t (f (whole_name u, behind_name u))) → Placed level most depth used t (name_at u >>= f)
unfolding name_at
name_placed level most depth used t u f next =
    elim (starts_name u) as (λ v. starts_name u ≡ v → Placed level most depth used t (cond {A = Read (List ℕ)} v (Ok (whole_name u, behind_name u)) (Err (Syntax u)) >>= f)) [
      | true ↦ λ h. next (whole_name_is u h) (whole_name_split u)
      | false ↦ λ h. tt
    ] refl

not_split : (t left : List ℕ) → t ≡ whole_name t ++ left → whole_name t ≡ codes "not" → t ≡ codes "not" ++ left
not_split t left is e = is ∙ ap (λ (l : List ℕ). l ++ left) e

pub part_placed : (most depth : ℕ) (inner : Inner) → InnerPlaced most depth inner → (used : ℕ) (t : List ℕ) → used ≤ most → Placed unary most depth used t (part_at most inner used t)
unfolding part_at
part_placed most depth inner law used t few =
    placed_if unary most depth used t (starts 40 t) (inner false used t (past_first t)) (name_at t >>= λ w. named_at most inner used t w.0 w.1)
    (λ h. law.group used t (past_first t) few (starts_is 40 t h))
    (λ h. name_placed unary most depth used t t (λ w. named_at most inner used t w.0 w.1)
    (λ named split. placed_if unary most depth used t (is_not (whole_name t)) (inner true used t (behind_name t)) (gap_at (behind_name t) >>= λ g. operation_at most used (whole_name t) g.1)
    (λ e. law.negation used t (behind_name t) few (is_not-is (whole_name t) e) (not_split t (behind_name t) split (is_not-is (whole_name t) e)))
    (λ e. gap_placed unary most depth used t (behind_name t) (λ u. operation_at most used (whole_name t) u)
    (λ n u is some. operation_placed most depth used t (whole_name t) n u few named some (split ∙ ap (λ (l : List ℕ). whole_name t ++ l) is)))))

-- ---- behind `not`
begun_starts : (level : Level) (c : Unfinished) (left : List ℕ) → BegunFits level c (starts 40 left) → starts 40 (begun c left) ≡ begun_opens c (starts 40 left)
begun_starts level Due left f = refl
begun_starts level (InGroup a inner) left f = refl
begun_starts level (InNegation a inner) left f = refl
begun_starts unary (InJoined first a b second) left f = absurd f
begun_starts conjunction (InJoined first a b second) left f = (text_begins unary first (blank a (97 ∷ 110 ∷ 100 ∷ blank b (begun second left))) f.2).opening
begun_starts disjunction (InJoined first a b second) left f = (text_begins unary first (blank a (97 ∷ 110 ∷ 100 ∷ blank b (begun second left))) f.2).opening
begun_starts unary (InParted first a b second) left f = absurd f
begun_starts conjunction (InParted first a b second) left f = absurd f
begun_starts disjunction (InParted first a b second) left f = (text_begins conjunction first (blank a (111 ∷ 114 ∷ blank b (begun second left))) f.2).opening

begun_gap : (level : Level) (c : Unfinished) (left u : List ℕ) (n : ℕ) → BegunFits level c (starts 40 left) → u ≡ begun c left → IsEdge n u → IsGap (begun_opens c (starts 40 left)) n
begun_gap level c left u n f is edge =
    gap_for (begun_opens c (starts 40 left)) n u (ap (starts 40) is ∙ begun_starts level c left f) edge

same_many : (used m : ℕ) → used + m ≡ used + m
same_many used m = refl

one_open : (o d : ℕ) → suc o + d ≡ suc d + o
one_open o d = omega arith

in_negation : {A : Type 0} (most depth used n : ℕ) (t u : List ℕ) (r : Read A) → t ≡ codes "not" ++ blank n u → IsEdge n u → Placed unary most depth used u r → Placed unary most (suc depth) used t r
in_negation most depth used n t u r is edge h =
    placed_wrap unary unary most depth (suc depth) used used u t r
    (λ c left f e. record { whole = InNegation n c; fits = (begun_gap unary c left u n f e edge, f); nests = λ m. m; open_is = one_open (open_before c) depth; many = refl; is = is ∙ ap (λ (l : List ℕ). codes "not" ++ blank n l) e })
    h

negated_placed : (level : Level) (most depth used : ℕ) (t : List ℕ) (r : Read PartView) → Placed level most depth used t r → Placed level most depth used t (negated r)
negated_placed level most depth used t r h = placed_bind level most depth used t r _ h (λ x. tt)

-- a comparison of `not`
compares_not : (t : List ℕ) (n : ℕ) (o : Operator) (rest : List ℕ) → 0 < n → t ≡ codes "not" ++ blank n (letters o ++ rest) → BeginsComparison t
compares_not t n o rest some is = record {
  name = not_name;
  named = not_is_name;
  spaces = n;
  some = some;
  operator = o;
  rest = rest;
  is = is ∙ ap (λ (l : List ℕ). codes "not" ++ blank n l) (sym (letters-text o rest));
}

ambiguous_placed : (most depth used n : ℕ) (t u name : List ℕ) (m : ℕ) (w : List ℕ) → used ≤ most → t ≡ codes "not" ++ blank n u → IsEdge n u → IsName name → 0 < m → u ≡ name ++ blank m w → Placed unary most (suc depth) used t (ambiguous_at most (operator_named name) used name w)
ambiguous_placed most depth used n t u name m w few is edge named some split =
    elim (operator_named name) as (λ v. operator_named name ≡ v → Placed unary most (suc depth) used t (ambiguous_at most v used name w)) [
      | None ↦ λ h. negation
      | Some o ↦ λ h. either o (begins_literal w) (operator_letters name o h)
    ] refl
  where
    negation : Placed unary most (suc depth) used t (negated (operation_at most used name w))
    negation =
        negated_placed unary most (suc depth) used t (operation_at most used name w)
        (in_negation most depth used n t u (operation_at most used name w) is edge (operation_placed most depth used u name m w few named some split))

    either : (o : Operator) (b : Bool) → name ≡ letters o → Placed unary most (suc depth) used t (either_at most b o used name w)
    either o false e = negation
    either o true e =
        operand_placed most (suc depth) used t not_name o w few
        (compares_not t n o (blank m w) (gap_for false n u (ap (starts 40) split ∙ name_no_opening name (blank m w) named) edge) (is ∙ ap (λ (l : List ℕ). codes "not" ++ blank n l) (split ∙ ap (λ (l : List ℕ). l ++ blank m w) e)))

second_placed : (most depth : ℕ) (inner : Inner) → InnerPlaced most depth inner → (used n : ℕ) (t u : List ℕ) → used ≤ most → t ≡ codes "not" ++ blank n u → IsEdge n u → Placed unary most (suc depth) used t (second_at most inner used u)
unfolding second_at
second_placed most depth inner law used n t u few is edge =
    placed_if unary most (suc depth) used t (starts 40 u) (negated (inner false used u (past_first u))) (name_at u >>= λ w. second_named_at most inner used u w.0 w.1)
    (λ h. negated_placed unary most (suc depth) used t (inner false used u (past_first u)) (in_negation most depth used n t u (inner false used u (past_first u)) is edge (law.group used u (past_first u) few (starts_is 40 u h))))
    (λ h. name_placed unary most (suc depth) used t u (λ w. second_named_at most inner used u w.0 w.1)
    (λ named split. placed_if unary most (suc depth) used t (is_not (whole_name u)) (negated (inner true used u (behind_name u))) (gap_at (behind_name u) >>= λ g. ambiguous_at most (operator_named (whole_name u)) used (whole_name u) g.1)
    (λ e. negated_placed unary most (suc depth) used t (inner true used u (behind_name u)) (in_negation most depth used n t u (inner true used u (behind_name u)) is edge
    (law.negation used u (behind_name u) few (is_not-is (whole_name u) e) (not_split u (behind_name u) split (is_not-is (whole_name u) e)))))
    (λ e. gap_placed unary most (suc depth) used t (behind_name u) (λ w. ambiguous_at most (operator_named (whole_name u)) used (whole_name u) w)
    (λ m w gap some. ambiguous_placed most depth used n t u (whole_name u) m w few is edge named some (split ∙ ap (λ (l : List ℕ). whole_name u ++ l) gap)))))

-- ---- a `not` that may not be opened
closed_not : (most used : ℕ) (text left : List ℕ) → used ≤ most → whole_name text ≡ codes "not" → text ≡ codes "not" ++ left → Placed unary most 0 used text (unless_sole most used text (sole_operator left))
closed_not most used text left few named is =
    elim (sole_operator left) as (λ v. sole_operator left ≡ v → Placed unary most 0 used text (unless_sole most used text v)) [
      | None ↦ λ h. record { phrase = Due; fits = tt; nests = tt; few = none_more used most few; open_is = refl; opens = inr named; is = refl }
      | Some x ↦ λ h. let f = sole_found left x h in
          operand_placed most 0 used text not_name x.0 x.1 few (compares_not text f.before x.0 (blank f.behind x.1) f.some (is ∙ ap (λ (l : List ℕ). codes "not" ++ l) f.is))
    ] refl

-- ---- parts joined by `and`
abbrev PartsPlaced : ℕ → ℕ → (ℕ → List ℕ → Read PartView) → Type 0
PartsPlaced most depth part = (used : ℕ) (t : List ℕ) → used ≤ most → Placed unary most depth used t (part used t)

unary_begun : (c : Unfinished) (next : Bool) → BegunFits unary c next → BegunFits conjunction c next
unary_begun Due next f = f
unary_begun (InGroup a inner) next f = f
unary_begun (InNegation a inner) next f = f
unary_begun (InJoined first a b second) next f = absurd f
unary_begun (InParted first a b second) next f = absurd f

all_begun : (c : Unfinished) (next : Bool) → BegunFits conjunction c next → BegunFits disjunction c next
all_begun Due next f = f
all_begun (InGroup a inner) next f = f
all_begun (InNegation a inner) next f = f
all_begun (InJoined first a b second) next f = f
all_begun (InParted first a b second) next f = absurd f

swap_open : (o d : ℕ) → o + d ≡ d + o
swap_open o d = omega arith

more_many : (used first c used1 : ℕ) → used1 ≡ used + first → used + (first + c) ≡ used1 + c
more_many used first c used1 h = omega arith

-- the texts of a phrase and of a word behind it
joint_text : (phrase : Phrase) (n : ℕ) (word s t rest : List ℕ) → s ≡ text_of phrase [] → t ≡ blank n word → s ++ (t ++ rest) ≡ text_of phrase (blank n (word ++ rest))
joint_text phrase n word s t rest e f =
    ap (λ (l : List ℕ). l ++ (t ++ rest)) e ∙ sym (text_append phrase [] (t ++ rest)) ∙ ap (λ (l : List ℕ). text_of phrase (l ++ rest)) f ∙ ap (text_of phrase) (sym (blank_append n word rest))

in_joined : {A : Type 0} (most depth used : ℕ) (a : PartView) (s u t b w : List ℕ) (n : ℕ) (r : Read A) → PartText most depth used true a s → TailText a.closed And u → b ≡ blank n w → IsEdge n w → t ≡ s ++ (u ++ b) → Placed conjunction most depth a.used w r → Placed conjunction most depth used t r
in_joined most depth used a s u t b w n r p tail gap edge is h =
    placed_wrap conjunction conjunction most depth depth a.used used w t r
    (λ c left f e. record {
      whole = InJoined p.phrase tail.0 n c;
      fits = (subst (λ (b : Bool). IsGap b tail.0) p.closed_is tail.1, begun_gap conjunction c left w n f e edge, p.fits, f);
      nests = λ m. (p.nests, m);
      open_is = swap_open (open_before c) depth;
      many = more_many used (comparisons p.phrase) (comparisons_before c) a.used p.used_is;
      is = is ∙ joint_text p.phrase tail.0 (97 ∷ 110 ∷ 100 ∷ []) s u b p.is tail.2 ∙ ap (λ (l : List ℕ). text_of p.phrase (blank tail.0 (97 ∷ 110 ∷ 100 ∷ l))) (gap ∙ ap (blank n) e);
    })
    h

more_placed : (most depth used : ℕ) (rest : ℕ → List ℕ → Read AllView) (a : PartView) (joint : Joint) (s u t b : List ℕ) → PartText most depth used true a s → TailText a.closed joint u → t ≡ s ++ (u ++ b) → ((w : List ℕ) → Placed conjunction most depth a.used w (rest a.used w)) → Placed conjunction most depth used t (all_more rest a joint b)
more_placed most depth used rest a And s u t b p tail is law =
    placed_bind conjunction most depth used t (edge_at b >>= λ e. rest a.used e.1) _
    (edge_placed conjunction most depth used t b (λ w. rest a.used w) (λ n w gap edge. in_joined most depth used a s u t b w n (rest a.used w) p tail gap edge is (law w)))
    (λ x. tt)
more_placed most depth used rest a Or s u t b p tail is law = tt
more_placed most depth used rest a Neither s u t b p tail is law = tt

no_room : (most used : ℕ) → used ≤ most → most < used + 0 → ⊥
no_room most used h i = absurd (omega arith)

less_room : (most used n c used1 : ℕ) → most < used + suc n → used1 ≡ used + c → 1 ≤ c → most < used1 + n
less_room most used n c used1 h e i = omega arith

all_placed : (most depth : ℕ) (part : ℕ → List ℕ → Read PartView) → PartsSound most depth part → PartsPlaced most depth part → (n used : ℕ) (t : List ℕ) → used ≤ most → most < used + n → Placed conjunction most depth used t (all_at part n used t)
unfolding all_at
all_placed most depth part sound law zero used t few room = absurd (no_room most used few room)
all_placed most depth part sound law (suc n) used t few room =
    placed_after (PartText most depth used) conjunction most depth used t t (part used t) (λ a. joint_at a.0.closed a.1 >>= λ k. all_more (all_at part n) a.0 k.0 k.1) (sound used t)
    (placed_wrap unary conjunction most depth depth used used t t (part used t) (λ c left f e. record { whole = c; fits = unary_begun c (starts 40 left) f; nests = λ m. m; open_is = swap_open (open_before c) depth; many = refl; is = e }) (law used t few))
    (λ x s g is. placed_after (Tail x.0.closed) conjunction most depth used t x.1 (joint_at x.0.closed x.1) (λ k. all_more (all_at part n) x.0 k.0 k.1) (joint_sound x.0.closed x.1)
    (placed_quiet conjunction most depth used t (joint_at x.0.closed x.1) (joint_quiet x.0.closed x.1))
    (λ y u h split. more_placed most depth used (all_at part n) x.0 y.0 s u t y.1 g h (is ∙ ap (λ (l : List ℕ). s ++ l) split)
    (λ w. all_placed most depth part sound law n x.0.used w g.few (less_room most used n (comparisons g.phrase) x.0.used room g.used_is (some_comparison g.phrase)))))

-- ---- parts joined by `or`
in_parted : {A : Type 0} (most depth used : ℕ) (a : AllView) (s t b w : List ℕ) (n : ℕ) (r : Read A) → AllText most depth used true a s → a.joint ≡ Or → b ≡ blank n w → IsEdge n w → t ≡ s ++ b → Placed disjunction most depth a.used w r → Placed disjunction most depth used t r
in_parted most depth used a s t b w n r g joint gap edge is h =
    let tail = or_tail (closes g.phrase) a.joint g.tail joint g.tail_is in
    placed_wrap disjunction disjunction most depth depth a.used used w t r
    (λ c left f e. record {
      whole = InParted g.phrase tail.0 n c;
      fits = (tail.1, begun_gap disjunction c left w n f e edge, g.fits, f);
      nests = λ m. (g.nests, m);
      open_is = swap_open (open_before c) depth;
      many = more_many used (comparisons g.phrase) (comparisons_before c) a.used g.used_is;
      is = is ∙ ap (λ (l : List ℕ). l ++ b) g.is ∙ sym (text_append g.phrase g.tail b) ∙ ap (λ (l : List ℕ). text_of g.phrase (l ++ b)) tail.2 ∙ ap (text_of g.phrase) (sym (blank_append tail.0 (111 ∷ 114 ∷ []) b)) ∙ ap (λ (l : List ℕ). text_of g.phrase (blank tail.0 (111 ∷ 114 ∷ l))) (gap ∙ ap (blank n) e);
    })
    h

any_more_placed : (most depth used : ℕ) (rest : ℕ → List ℕ → Read AnyView) (a : AllView) (joint : Joint) (s t b : List ℕ) → a.joint ≡ joint → AllText most depth used true a s → t ≡ s ++ b → ((w : List ℕ) → Placed disjunction most depth a.used w (rest a.used w)) → Placed disjunction most depth used t (any_more rest a joint b)
any_more_placed most depth used rest a Or s t b joint g is law =
    placed_bind disjunction most depth used t (edge_at b >>= λ e. rest a.used e.1) _
    (edge_placed disjunction most depth used t b (λ w. rest a.used w) (λ n w gap edge. in_parted most depth used a s t b w n (rest a.used w) g joint gap edge is (law w)))
    (λ x. tt)
any_more_placed most depth used rest a And s t b joint g is law = tt
any_more_placed most depth used rest a Neither s t b joint g is law = tt

more_room : (most used parts : ℕ) → most < parts → most < used + parts
more_room most used parts h = omega arith

any_placed : (most depth : ℕ) (part : ℕ → List ℕ → Read PartView) → PartsSound most depth part → PartsPlaced most depth part → (parts : ℕ) → most < parts → (n used : ℕ) (t : List ℕ) → used ≤ most → most < used + n → Placed disjunction most depth used t (any_at part parts n used t)
unfolding any_at
any_placed most depth part sound law parts enough zero used t few room = absurd (no_room most used few room)
any_placed most depth part sound law parts enough (suc n) used t few room =
    placed_after (AllText most depth used) disjunction most depth used t t (all_at part parts used t) (λ a. any_more (any_at part parts n) a.0 a.0.joint a.1) (all_sound most depth part sound parts used t)
    (placed_wrap conjunction disjunction most depth depth used used t t (all_at part parts used t) (λ c left f e. record { whole = c; fits = all_begun c (starts 40 left) f; nests = λ m. m; open_is = swap_open (open_before c) depth; many = refl; is = e })
    (all_placed most depth part sound law parts used t few (more_room most used parts enough)))
    (λ x s g is. any_more_placed most depth used (any_at part parts n) x.0 x.0.joint s t x.1 refl g is
    (λ w. any_placed most depth part sound law parts enough n x.0.used w g.few (less_room most used n (comparisons g.phrase) x.0.used room g.used_is (some_comparison g.phrase))))

-- ---- groups
group_placed : (most depth parts used : ℕ) (part : ℕ → List ℕ → Read PartView) (text left : List ℕ) → PartsSound most depth part → PartsPlaced most depth part → most < parts → used ≤ most → text ≡ 40 ∷ left → Placed unary most (suc depth) used text (closed_group (any_at part parts parts used (after_spaces left)))
group_placed most depth parts used part text left sound law enough few is =
    let n = spaces left in
    let u = after_spaces left in
    placed_bind unary most (suc depth) used text (any_at part parts parts used u) _
    (placed_wrap disjunction unary most depth (suc depth) used used u text (any_at part parts parts used u)
    (λ c left f e. record { whole = InGroup n.0 c; fits = f; nests = λ m. m; open_is = one_open (open_before c) depth; many = refl; is = is ∙ ap (λ (l : List ℕ). 40 ∷ l) (n.1 ∙ ap (blank n.0) e) })
    (any_placed most depth part sound law parts enough parts used u few (more_room most used parts enough)))
    (λ x. placed_quiet unary most (suc depth) used text _ (quiet_bind (expect 41 x.1) _ (expect_quiet 41 x.1) (λ e. tt)))

pub inner_placed : (most parts depth : ℕ) → most < parts → InnerPlaced most depth (inner_at most parts depth)
unfolding inner_at
inner_placed most parts zero enough = record {
  group = λ used text left few is. record { phrase = Due; fits = tt; nests = tt; few = none_more used most few; open_is = refl; opens = inl (ap (starts 40) is); is = refl };
  negation = λ used text left few named is. closed_not most used text left few named is;
}
inner_placed most parts (suc depth) enough = record {
  group = λ used text left few is.
      group_placed most depth parts used (part_at most (inner_at most parts depth)) text left (part_sound most depth (inner_at most parts depth) (inner_sound most parts depth)) (part_placed most depth (inner_at most parts depth) (inner_placed most parts depth enough)) enough few is;
  negation = λ used text left few named is.
      edge_placed unary most (suc depth) used text left (λ u. second_at most (inner_at most parts depth) used u)
      (λ n u gap edge. second_placed most depth (inner_at most parts depth) (inner_placed most parts depth enough) used n text u few (is ∙ ap (λ (l : List ℕ). codes "not" ++ l) gap) edge);
}

pub parts_placed : (most parts depth used : ℕ) (t : List ℕ) → most < parts → used ≤ most → Placed disjunction most depth used t (any_at (part_at most (inner_at most parts depth)) parts parts used t)
parts_placed most parts depth used t enough few =
    any_placed most depth (part_at most (inner_at most parts depth)) (part_sound most depth (inner_at most parts depth) (inner_sound most parts depth)) (part_placed most depth (inner_at most parts depth) (inner_placed most parts depth enough)) parts enough parts used t few (more_room most used parts enough)
