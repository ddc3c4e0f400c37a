-- The laws of reading a filter: it is right, complete, and stops where the grammar does.
use Rattle.std.proofs.Common.{◌≡◌, ◌⊎◌, inl, inr, ℕ, zero, suc, ◌+◌, ◌≤◌, List, [], ◌∷◌, ◌++◌, length, Bool, true, false, Ok, Err, Result, refl, ap, sym, subst, ◌∙◌, arith, append_assoc, append-nil, length-append}
use Rattle.std.specs.Prelude.{IsUtf8, chars, encode_utf8_all, IfOk, IfErr}
use Rattle.std.proofs.lemmas.Str.{encodes-chars, encodes-append}
use Rattle.tab_filter.specs.declared.filter_text.FilterRefused.{FilterRefused}
use Rattle.tab_filter.specs.declared.filter_text.FilterRefused.TheVariants as refusals
use Rattle.tab_filter.specs.Trees.{Tree}
use Rattle.tab_filter.specs.Lexer.{Read, ParseFault, Syntax, BadLiteral, Deep, TooMany, after_spaces}
use Rattle.tab_filter.specs.Parser.{AnyView, part_at, inner_at, any_at, whole_of, whole_at, filter_at}
use Rattle.tab_filter.specs.Grammar.{Phrase, Comparing, Group, Negated, Joined, Parted, blank, text_of, closes, comparisons, disjunction, Fits, Nests, Spells, SpellsWithin, IsFront, NoFurther, IsDue, NoLiteral}
use Rattle.tab_filter.specs.Offsets.{offset_of, refusal_of, ErrIs, Answers, IsRefused, IsTree}
use Rattle.tab_filter.proofs.LexerLaws.{after_blank, neither_complete}
use Rattle.tab_filter.proofs.Phrases.{blank_append, text_begins}
use Rattle.tab_filter.proofs.Complete.{Follows, complete, any_of}
use Rattle.tab_filter.proofs.Sound.{Sound, spaces}
use Rattle.tab_filter.proofs.SoundPhrases.{AnyText, filter_parts_sound}
use Rattle.tab_filter.proofs.Same.{found, done, halted, done_is, err_no_ok, Same, same_bind}
use Rattle.tab_filter.proofs.SameLexer.{spaces_at, same_spaces}
use Rattle.tab_filter.proofs.SameParser.{inner_same, same_part, same_any}

-- ---- the parts of a whole text
abbrev parts_at : ℕ → ℕ → ℕ → List ℕ → Read AnyView
parts_at most parts depth t = any_at (part_at most (inner_at most parts depth)) parts parts 0 (after_spaces t)

abbrev answered : Result Tree ParseFault → Tree → Type 0
answered r tree = r ≡ Ok tree

abbrev faulted : ParseFault → Result Tree ParseFault
faulted fault = Err fault

abbrev treed : Tree → Result Tree ParseFault
treed tree = Ok tree

tree_same : {a b : Tree} → treed a ≡ treed b → a ≡ b
tree_same e = cc

syntax_same : {a b : List ℕ} → Syntax a ≡ Syntax b → a ≡ b
syntax_same e = cc

few_of : (c used : ℕ) → used ≡ 0 + c → used ≤ 15 → c ≤ 15
few_of c used e h = omega arith

fault_no_tree : {a : ParseFault} {b : Tree} → faulted a ≡ treed b → ⊥
fault_no_tree e = cc

fault_same : {a b : ParseFault} → faulted a ≡ faulted b → a ≡ b
fault_same e = cc

tree_no_fault : {a : Tree} {b : ParseFault} → treed a ≡ faulted b → ⊥
tree_no_fault e = cc

-- ---- what is read is spelled so
spelled_so : (most depth : ℕ) (k : Bool) (v : AnyView) (s t u : List ℕ) (n : ℕ) → AnyText most depth 0 k v s → t ≡ blank n s → Spells v.tree t
spelled_so most depth k v s t u n g is =
    record { phrase = g.phrase; fits = g.fits; tree_is = g.tree_is; before = n; after = g.after; is = is ∙ ap (blank n) g.is }

whole_spelled : (t u : List ℕ) (n : ℕ) (r : Read AnyView) (tree : Tree) → t ≡ blank n u → Sound (AnyText 15 64 0) u r → whole_at r ≡ Ok tree → SpellsWithin tree t
unfolding spelled_so
whole_spelled t u n (Err e) tree is sound h = absurd (fault_no_tree h)
whole_spelled t u n (Ok x) tree is sound h = by_left x.1 sound.2 h
  where
    by_left : (left : List ℕ) → u ≡ sound.0 ++ left → whole_of x.0 left ≡ Ok tree → SpellsWithin tree t
    by_left [] split h =
        let g = sound.1 in
        let spells = spelled_so 15 64 true x.0 sound.0 t u n g (is ∙ ap (blank n) (split ∙ append-nil sound.0)) in
        record {
          spelled = record { phrase = spells.phrase; fits = spells.fits; tree_is = sym (tree_same h) ∙ spells.tree_is; before = spells.before; after = spells.after; is = spells.is };
          nests = g.nests;
          few = few_of (comparisons g.phrase) x.0.used g.used_is g.few;
        }
    by_left (b ∷ bs) split h = absurd (fault_no_tree h)

pub filter_spelled : (t : List ℕ) (tree : Tree) → filter_at t ≡ Ok tree → SpellsWithin tree t
unfolding filter_at
filter_spelled t tree h =
    let n = spaces t in whole_spelled t (after_spaces t) n.0 (parts_at 15 16 64 t) tree n.1 (filter_parts_sound 15 16 64 0 (after_spaces t)) h

-- ---- a front stands before what is left
front_of_text : (t u : List ℕ) (n : ℕ) (p left : List ℕ) → t ≡ blank n u → u ≡ p ++ left → t ≡ blank n p ++ left
front_of_text t u n p left is split = is ∙ ap (blank n) split ∙ blank_append n p left

whole_front : (t u : List ℕ) (n : ℕ) (r : Read AnyView) (left : List ℕ) → t ≡ blank n u → Sound (AnyText 15 64 0) u r → whole_at r ≡ faulted (Syntax left) → (front : List ℕ) × (t ≡ front ++ left) × IsFront front
whole_front t u n (Ok x) left is sound h = by_left x.1 sound.2 h
  where
    by_left : (rest : List ℕ) → u ≡ sound.0 ++ rest → whole_of x.0 rest ≡ faulted (Syntax left) → (front : List ℕ) × (t ≡ front ++ left) × IsFront front
    by_left [] split h = absurd (tree_no_fault h)
    by_left (b ∷ bs) split h =
        let left_is : b ∷ bs ≡ left = syntax_same (fault_same h) in (
          blank n sound.0,
          front_of_text t u n sound.0 left is (split ∙ ap (λ (l : List ℕ). sound.0 ++ l) left_is),
          record { tree = x.0.tree; more = []; spelled = spelled_so 15 64 true x.0 sound.0 (blank n sound.0 ++ []) u n sound.1 (append-nil (blank n sound.0)) },
        )
whole_front t u n (Err (Syntax l)) left is sound h =
    let left_is : l ≡ left = syntax_same (fault_same h) in (
      blank n sound.0,
      front_of_text t u n sound.0 left is (sound.4 ∙ ap (λ (m : List ℕ). sound.0 ++ m) left_is),
      record { tree = sound.2.tree; more = sound.1; spelled = spelled_so 15 64 false sound.2 (sound.0 ++ sound.1) (blank n sound.0 ++ sound.1) u n sound.3 (sym (blank_append n sound.0 sound.1)) },
    )
whole_front t u n (Err (BadLiteral l)) left is sound h = absurd (others (fault_same h))
  where
    others : BadLiteral l ≡ Syntax left → ⊥
    others e = cc
whole_front t u n (Err (Deep l)) left is sound h = absurd (others (fault_same h))
  where
    others : Deep l ≡ Syntax left → ⊥
    others e = cc
whole_front t u n (Err TooMany) left is sound h = absurd (others (fault_same h))
  where
    others : TooMany ≡ Syntax left → ⊥
    others e = cc

pub filter_front : (t left : List ℕ) → filter_at t ≡ faulted (Syntax left) → (front : List ℕ) × (t ≡ front ++ left) × IsFront front
unfolding filter_at
filter_front t left h =
    let n = spaces t in whole_front t (after_spaces t) n.0 (parts_at 15 16 64 t) left n.1 (filter_parts_sound 15 16 64 0 (after_spaces t)) h

-- ---- a literal is due, and none stands there
whole_due : (t u : List ℕ) (n : ℕ) (r : Read AnyView) (left : List ℕ) → t ≡ blank n u → Sound (AnyText 15 64 0) u r → whole_at r ≡ faulted (BadLiteral left) → (front : List ℕ) × (t ≡ front ++ left) × IsDue front × NoLiteral left
whole_due t u n (Ok x) left is sound h = absurd (by_left x.1 h)
  where
    by_left : (rest : List ℕ) → whole_of x.0 rest ≡ faulted (BadLiteral left) → ⊥
    by_left [] h = tree_no_fault h
    by_left (b ∷ bs) h = others (fault_same h)
      where
        others : Syntax (b ∷ bs) ≡ BadLiteral left → ⊥
        others e = cc
whole_due t u n (Err (BadLiteral l)) left is sound h =
    let left_is : l ≡ left = bad_same (fault_same h) in (
      blank n sound.0,
      front_of_text t u n sound.0 left is (sound.2 ∙ ap (λ (m : List ℕ). sound.0 ++ m) left_is),
      λ value w literal. let due = sound.1 w value literal in
          record { tree = due.1.tree; more = due.0; spelled = spelled_so 15 64 false due.1 (sound.0 ++ (w ++ due.0)) ((blank n sound.0 ++ w) ++ due.0) u n due.2 (append_assoc (blank n sound.0) w due.0 ∙ sym (blank_append n sound.0 (w ++ due.0))) },
      λ value s r literal ends e. sound.3.none value s r literal ends (left_is ∙ e),
    )
  where
    bad_same : {a b : List ℕ} → BadLiteral a ≡ BadLiteral b → a ≡ b
    bad_same e = cc
whole_due t u n (Err (Syntax l)) left is sound h = absurd (others (fault_same h))
  where
    others : Syntax l ≡ BadLiteral left → ⊥
    others e = cc
whole_due t u n (Err (Deep l)) left is sound h = absurd (others (fault_same h))
  where
    others : Deep l ≡ BadLiteral left → ⊥
    others e = cc
whole_due t u n (Err TooMany) left is sound h = absurd (others (fault_same h))
  where
    others : TooMany ≡ BadLiteral left → ⊥
    others e = cc

pub filter_due : (t left : List ℕ) → filter_at t ≡ faulted (BadLiteral left) → (front : List ℕ) × (t ≡ front ++ left) × IsDue front × NoLiteral left
unfolding filter_at
filter_due t left h =
    let n = spaces t in whole_due t (after_spaces t) n.0 (parts_at 15 16 64 t) left n.1 (filter_parts_sound 15 16 64 0 (after_spaces t)) h

-- ---- what is spelled so is read
follows_end : (closed : Bool) (after : ℕ) → Follows closed (blank after [])
follows_end true after = refl
follows_end false zero = refl
follows_end false (suc n) = refl

phrase_read : (most parts depth : ℕ) (c : Phrase) (before after : ℕ) → Fits disjunction c → Nests c depth → comparisons c ≤ most → most ≤ parts → parts_at most parts depth (blank before (text_of c (blank after []))) ≡ done (any_of c 0, [])
phrase_read most parts depth c before after f nests few room =
    let r = blank after [] in
    ap (λ (l : List ℕ). any_at (part_at most (inner_at most parts depth)) parts parts 0 l) (after_blank before (text_of c r) (text_begins disjunction c r f).no_space)
    ∙ (complete c).any most parts depth parts 0 r [] f nests (omega arith) room (omega arith) (follows_end (closes c) after) (neither_complete (closes c) after [] refl)

pub filter_complete : (t : List ℕ) (tree : Tree) → SpellsWithin tree t → filter_at t ≡ Ok tree
unfolding filter_at
filter_complete t tree s =
    let p = s.spelled in
    ap (λ (l : List ℕ). whole_at (parts_at 15 16 64 l)) p.is ∙ ap whole_at (phrase_read 15 16 64 p.phrase p.before p.after p.fits s.nests s.few (omega arith)) ∙ ap tree_answer (sym p.tree_is)
  where
    tree_answer : Tree → Result Tree ParseFault
    tree_answer t = Ok t

-- ---- and nothing goes further
-- so many are open at most
nest : Phrase → ℕ
nest (Comparing name a o b value literal) = 0
nest (Group a inner b) = suc (nest inner)
nest (Negated a inner) = suc (nest inner)
nest (Joined first a b second) = nest first + nest second
nest (Parted first a b second) = nest first + nest second

nests_more : (c : Phrase) (d e : ℕ) → d ≤ e → Nests c d → Nests c e
nests_more (Comparing name a o b value literal) d e h n = tt
nests_more (Group a inner b) zero e h n = absurd n
nests_more (Group a inner b) (suc d) zero h n = absurd (omega arith)
nests_more (Group a inner b) (suc d) (suc e) h n = nests_more inner d e (omega arith) n
nests_more (Negated a inner) zero e h n = absurd n
nests_more (Negated a inner) (suc d) zero h n = absurd (omega arith)
nests_more (Negated a inner) (suc d) (suc e) h n = nests_more inner d e (omega arith) n
nests_more (Joined first a b second) d e h n = (nests_more first d e h n.0, nests_more second d e h n.1)
nests_more (Parted first a b second) d e h n = (nests_more first d e h n.0, nests_more second d e h n.1)

nests_so : (c : Phrase) → Nests c (nest c)
unfolding nest
nests_so (Comparing name a o b value literal) = tt
nests_so (Group a inner b) = nests_so inner
nests_so (Negated a inner) = nests_so inner
nests_so (Joined first a b second) =
    (nests_more first (nest first) (nest first + nest second) (omega arith) (nests_so first), nests_more second (nest second) (nest first + nest second) (omega arith) (nests_so second))
nests_so (Parted first a b second) =
    (nests_more first (nest first) (nest first + nest second) (omega arith) (nests_so first), nests_more second (nest second) (nest first + nest second) (omega arith) (nests_so second))

same_parts : (most more parts pieces d e : ℕ) → most ≤ more → parts ≤ pieces → d ≤ e → Same (parts_at most parts d) (parts_at more pieces e)
same_parts most more parts pieces d e h i j =
    same_bind (spaces_at true) (spaces_at true) (λ _ _ l. any_at (part_at most (inner_at most parts d)) parts parts 0 l) (λ _ _ l. any_at (part_at more (inner_at more pieces e)) pieces pieces 0 l) (same_spaces true)
    (λ _ _ _. same_any (part_at most (inner_at most parts d)) (part_at more (inner_at more pieces e)) (λ used. same_part most more used (inner_at most parts d) (inner_at more pieces e) h (inner_same most more parts pieces d e h i j)) parts pieces parts pieces 0 i i)

-- where the whole stops
stopped_at : (r : Read AnyView) (b : ℕ) (bs : List ℕ) → whole_at r ≡ faulted (Syntax (b ∷ bs)) → (r ≡ halted AnyView (Syntax (b ∷ bs))) ⊎ ((v : AnyView) × (r ≡ found v (b ∷ bs)))
stopped_at (Err e) b bs h = inl (ap (halted AnyView) (fault_same h))
stopped_at (Ok x) b bs h = by_left x.1 h refl
  where
    by_left : (rest : List ℕ) → whole_of x.0 rest ≡ faulted (Syntax (b ∷ bs)) → x.1 ≡ rest → (done x ≡ halted AnyView (Syntax (b ∷ bs))) ⊎ ((v : AnyView) × (done x ≡ found v (b ∷ bs)))
    by_left [] h e = absurd (tree_no_fault h)
    by_left (c ∷ cs) h e = inr (x.0, ap (found x.0) (e ∙ syntax_same (fault_same h)))

some_left : (v w : AnyView) (b : ℕ) (bs : List ℕ) → found v (b ∷ bs) ≡ done (w, []) → ⊥
some_left v w b bs e = let left = ap (λ (x : AnyView × List ℕ). length x.1) (done_is e) in absurd (omega arith)

pub filter_no_further : (front : List ℕ) (b : ℕ) (bs : List ℕ) → filter_at (front ++ b ∷ bs) ≡ faulted (Syntax (b ∷ bs)) → NoFurther front (b ∷ bs)
unfolding filter_at
filter_no_further front b bs h tree more s =
    let c = s.phrase in
    let most = 15 + comparisons c in
    let parts = 16 + most in
    let depth = 64 + nest c in
    let reads = ap (parts_at most parts depth) s.is ∙ phrase_read most parts depth c s.before s.after s.fits (nests_more c (nest c) depth (omega arith) (nests_so c)) (omega arith) (omega arith) in
    let same = same_parts 15 most 16 parts 64 depth (omega arith) (omega arith) (omega arith) in
    elim (stopped_at (parts_at 15 16 64 (front ++ b ∷ bs)) b bs h) [
      | inl e ↦ err_no_ok (sym (same.bad front b bs more e) ∙ reads)
      | inr e ↦ some_left e.0 (any_of c 0) b more (sym (same.ok front b bs more e.0 e.1) ∙ reads)
    ]

-- at the end too
end_no_further : (t left : List ℕ) (front : List ℕ) → t ≡ front ++ left → filter_at t ≡ faulted (Syntax left) → NoFurther front left
end_no_further t [] front is h = λ tree s. fault_no_tree (sym h ∙ ap filter_at (is ∙ append-nil front) ∙ filter_complete front tree s)
end_no_further t (b ∷ bs) front is h = filter_no_further front b bs (sym (ap filter_at is) ∙ h)

-- ---- the answers of parse
pub answers_spelled : (text : List ℕ) (cs : List ℕ) (result : Result Tree FilterRefused) → Answers text result (filter_at cs) → IfOk result (λ tree. SpellsWithin tree cs)
answers_spelled text cs (Ok tree) h = filter_spelled cs tree h
answers_spelled text cs (Err e) h = tt

err_is_none : (text : List ℕ) (refused : FilterRefused) (tree : Tree) (r : Result Tree ParseFault) → r ≡ Ok tree → ErrIs text refused r → ⊥
err_is_none text refused tree r e h = subst (ErrIs text refused) e h

pub answers_only : (text : List ℕ) (cs : List ℕ) (result : Result Tree FilterRefused) → Answers text result (filter_at cs) → (tree : Tree) → SpellsWithin tree cs → IsTree tree result
answers_only text cs (Ok found) h tree s = tree_same (sym h ∙ filter_complete cs tree s)
answers_only text cs (Err refusals.Memory) h tree s = refl
answers_only text cs (Err (refusals.Syntax at)) h tree s = absurd (err_is_none text (refusals.Syntax at) tree (filter_at cs) (filter_complete cs tree s) h)
answers_only text cs (Err (refusals.BadLiteral at)) h tree s = absurd (err_is_none text (refusals.BadLiteral at) tree (filter_at cs) (filter_complete cs tree s) h)
answers_only text cs (Err refusals.TooManyComparisons) h tree s = absurd (err_is_none text refusals.TooManyComparisons tree (filter_at cs) (filter_complete cs tree s) h)

-- the offset of what is left, by what is before it
pub offset_is : (text front left : List ℕ) → IsUtf8 text → chars text ≡ front ++ left → offset_of text left ≡ length (encode_utf8_all front)
offset_is text front left utf8 is =
    let bytes : text ≡ encode_utf8_all front ++ encode_utf8_all left = sym (encodes-chars text utf8) ∙ ap encode_utf8_all is ∙ encodes-append front left in
    omega (arith, ap length bytes, length-append (encode_utf8_all front) (encode_utf8_all left))

fault_is : (text : List ℕ) (refused : FilterRefused) (r : Result Tree ParseFault) → ErrIs text refused r → (fault : ParseFault) × (r ≡ faulted fault) × (refused ≡ refusal_of text fault)
fault_is text refused (Ok tree) h = absurd h
fault_is text refused (Err fault) h = (fault, refl, h)

fault_at : (text : List ℕ) (fault : ParseFault) → IsUtf8 text → filter_at (chars text) ≡ faulted fault → IsRefused (chars text) (refusal_of text fault)
fault_at text (Syntax left) utf8 h =
    let f = filter_front (chars text) left h in
    inl (f.0, left, f.1, offset_is text f.0 left utf8 f.1, (f.2, end_no_further (chars text) left f.0 f.1 h))
fault_at text (BadLiteral left) utf8 h =
    let f = filter_due (chars text) left h in (f.0, left, f.1, offset_is text f.0 left utf8 f.1, (f.2, f.3))
fault_at text (Deep left) utf8 h = inr ((left, h), λ tree s. fault_no_tree (sym h ∙ filter_complete (chars text) tree s))
fault_at text TooMany utf8 h = λ tree s. fault_no_tree (sym h ∙ filter_complete (chars text) tree s)

pub answers_refused : (text : List ℕ) (result : Result Tree FilterRefused) → IsUtf8 text → Answers text result (filter_at (chars text)) → IfErr result (IsRefused (chars text))
answers_refused text (Ok tree) utf8 h = tt
answers_refused text (Err refusals.Memory) utf8 h = tt
answers_refused text (Err (refusals.Syntax at)) utf8 h =
    let f = fault_is text (refusals.Syntax at) (filter_at (chars text)) h in subst (IsRefused (chars text)) (sym f.2) (fault_at text f.0 utf8 f.1)
answers_refused text (Err (refusals.BadLiteral at)) utf8 h =
    let f = fault_is text (refusals.BadLiteral at) (filter_at (chars text)) h in subst (IsRefused (chars text)) (sym f.2) (fault_at text f.0 utf8 f.1)
answers_refused text (Err refusals.TooManyComparisons) utf8 h =
    let f = fault_is text refusals.TooManyComparisons (filter_at (chars text)) h in subst (IsRefused (chars text)) (sym f.2) (fault_at text f.0 utf8 f.1)
