-- What the readers of words say of the text that they read.
use Rattle.std.proofs.Common.{◌≡◌, ℕ, zero, suc, ◌≤◌, List, [], ◌∷◌, ◌++◌, length, Bool, true, false, cond, not, ◌||◌, Ok, Err, refl, ap, sym, subst, ◌∙◌, arith, lit≤}
use Rattle.std.specs.List.{list_all}
use Rattle.std.proofs.lemmas.Bool.{and_from, true≢false}
use Rattle.tab_filter.specs.declared.trees.Operator.{Operator}
use Rattle.tab_filter.specs.declared.trees.Operator.TheVariants.{Equal, NotEqual, Greater, GreaterOrEqual, Less, LessOrEqual}
use Rattle.tab_filter.specs.declared.lexer.Joint.{Joint}
use Rattle.tab_filter.specs.declared.lexer.Joint.TheVariants.{And, Or, Neither}
use Rattle.tab_keys.specs.Results.{◌>>=◌}
use Rattle.tab_filter.specs.Lexer.{Syntax, starts, past_first, after_spaces, expect, letter_at, either_letter_at, operator_at, continues, name_front, starts_name, whole_name, behind_name, name_at, joint_at, and_at, or_at}
use Rattle.tab_filter.specs.Grammar.{IsName, operator_text, blank, IsGap}
use Rattle.tab_filter.proofs.Chars.{begins-e}
use Rattle.tab_filter.proofs.Splits.{whole_name_split}
use Rattle.tab_filter.proofs.Sound.{Meaning, Sound, sound_after, sound_bind, sound_map, sound_here, starts_is, sound_if, spaces, some_spaces, blank_into}

-- ---- single characters
abbrev pub Is : ℕ → Meaning (Unit {0})
Is c k v s = s ≡ c ∷ []

pub expect_sound : (c : ℕ) (t : List ℕ) → Sound (Is c) t (expect c t)
expect_sound c t =
    sound_if (Is c) t (starts c t) (Ok (tt, past_first t)) (Err (Syntax t)) (λ h. (c ∷ [], refl, starts_is c t h)) (λ h. sound_here (Is c) t (c ∷ []) tt refl)

-- ---- operators
abbrev pub Operated : Meaning Operator
Operated k o s = s ≡ operator_text o []

letter_sound : (a c : ℕ) (o : Operator) (t : List ℕ) → operator_text o [] ≡ a ∷ c ∷ [] → starts a t ≡ true → Sound Operated t (letter_at c o (past_first t))
letter_sound a c o t e h =
    let u = past_first t in
    let is = starts_is a t h in
    sound_if Operated t (starts c u) (Ok (o, past_first u)) (Err (Syntax u))
    (λ s. (a ∷ c ∷ [], sym e, is ∙ ap (λ (l : List ℕ). a ∷ l) (starts_is c u s)))
    (λ s. (a ∷ [], c ∷ [], o, sym e, is))

either_letter_sound : (a c : ℕ) (first o : Operator) (t : List ℕ) → operator_text first [] ≡ a ∷ 101 ∷ [] → operator_text o [] ≡ a ∷ c ∷ [] → starts a t ≡ true → Sound Operated t (either_letter_at first c o (past_first t))
either_letter_sound a c first o t d e h =
    let u = past_first t in
    sound_if Operated t (starts 101 u) (Ok (first, past_first u)) (letter_at c o u)
    (λ s. (a ∷ 101 ∷ [], sym d, starts_is a t h ∙ ap (λ (l : List ℕ). a ∷ l) (starts_is 101 u s)))
    (λ s. letter_sound a c o t e h)

pub operator_sound : (t : List ℕ) → Sound Operated t (operator_at t)
unfolding operator_at
operator_sound t =
    sound_if Operated t (starts 101 t) _ _ (λ h. letter_sound 101 113 Equal t refl h)
    (λ _. sound_if Operated t (starts 110 t) _ _ (λ h. letter_sound 110 101 NotEqual t refl h)
    (λ _. sound_if Operated t (starts 103 t) _ _ (λ h. either_letter_sound 103 116 GreaterOrEqual Greater t refl refl h)
    (λ _. sound_if Operated t (starts 108 t) _ _ (λ h. either_letter_sound 108 116 LessOrEqual Less t refl refl h)
    (λ _. sound_here Operated t (101 ∷ 113 ∷ []) Equal refl))))

-- ---- names
abbrev pub Named : Meaning (List ℕ)
Named k w s = (s ≡ w) × IsName w

name_front_all : (n : ℕ) (t : List ℕ) → (list_all continues (name_front n t) ≡ true) × (length (name_front n t) ≤ n)
unfolding name_front
name_front_all zero t = (refl, omega arith)
name_front_all (suc n) [] = (refl, omega arith)
name_front_all (suc n) (b ∷ bs) =
    let rest = name_front_all n bs in
    elim (continues b) as (λ v. continues b ≡ v → (list_all continues (cond v (b ∷ name_front n bs) []) ≡ true) × (length (cond v (b ∷ name_front n bs) []) ≤ suc n)) [
      | true ↦ λ h. (and_from _ _ h rest.0, omega arith)
      | false ↦ λ h. (refl, omega arith)
    ] refl

pub whole_name_is : (t : List ℕ) → starts_name t ≡ true → IsName (whole_name t)
unfolding whole_name
whole_name_is [] h = absurd (true≢false (sym h))
whole_name_is (b ∷ bs) h = let rest = name_front_all 254 bs in (h, rest.0, rest.1)

pub some_name : IsName (101 ∷ [])
some_name = (begins-e, refl, lit≤ tt)

pub name_sound : (t : List ℕ) → Sound Named t (name_at t)
unfolding name_at
name_sound t =
    sound_if Named t (starts_name t) (Ok (whole_name t, behind_name t)) (Err (Syntax t))
    (λ h. (whole_name t, (refl, whole_name_is t h), whole_name_split t))
    (λ h. sound_here Named t (101 ∷ []) (101 ∷ []) (refl, some_name))

-- ---- joints
-- the word that joins a part to the next with the spaces before it, or the spaces at the end
abbrev pub TailText : Bool → Joint → List ℕ → Type 0
TailText closed And s = (n : ℕ) × IsGap closed n × (s ≡ blank n (97 ∷ 110 ∷ 100 ∷ []))
TailText closed Or s = (n : ℕ) × IsGap closed n × (s ≡ blank n (111 ∷ 114 ∷ []))
TailText closed Neither s = (n : ℕ) × (s ≡ blank n [])

abbrev pub Tail : Bool → Meaning Joint
Tail closed k joint s = TailText closed joint s

abbrev Rest : Joint → List ℕ → Meaning Joint
Rest joint word k v s = (v ≡ joint) × (s ≡ word)

and_sound : (t : List ℕ) → Sound (Rest And (110 ∷ 100 ∷ [])) t (and_at t)
and_sound t =
    sound_bind (Is 110) (λ _. Rest And (100 ∷ [])) (Rest And (110 ∷ 100 ∷ [])) t (expect 110 t) (λ n. expect 100 n.1 >>= λ d. Ok (And, d.1)) (expect_sound 110 t)
    (λ x s g. sound_map (Is 100) (Rest And (100 ∷ [])) (λ _. And) x.1 (expect 100 x.1) (expect_sound 100 x.1) (λ k a s e. (refl, e)))
    (λ a s g. (And, 100 ∷ [], (refl, refl))) (λ a s g. g) (λ k a b s w g h. (h.0, ap (λ (l : List ℕ). l ++ w) g ∙ ap (λ (l : List ℕ). 110 ∷ l) h.1))

or_sound : (t : List ℕ) → Sound (Rest Or (114 ∷ [])) t (or_at t)
or_sound t = sound_map (Is 114) (Rest Or (114 ∷ [])) (λ _. Or) t (expect 114 t) (expect_sound 114 t) (λ k a s e. (refl, e))

-- a gap before a word
gap_of : (closed : Bool) (t : List ℕ) → (closed || starts 32 t) ≡ true → (n : ℕ) × IsGap closed n × (t ≡ blank n (after_spaces t))
gap_of true t h = let n = spaces t in (n.0, tt, n.1)
gap_of false t h = some_spaces t h

not_true : (b : Bool) → not b ≡ false → b ≡ true
not_true true h = refl
not_true false h = sym h

with_word : (n c : ℕ) (u t : List ℕ) → t ≡ blank n u → starts c u ≡ true → t ≡ blank n (c ∷ []) ++ past_first u
with_word n c u t is h = is ∙ ap (blank n) (starts_is c u h) ∙ sym (shift n (past_first u))
  where
    shift : (n : ℕ) (r : List ℕ) → blank n (c ∷ []) ++ r ≡ blank n (c ∷ r)
    shift zero r = refl
    shift (suc n) r = ap (λ (l : List ℕ). 32 ∷ l) (shift n r)

after_blank_word : (n : ℕ) (c : ℕ) (w : List ℕ) → blank n (c ∷ []) ++ w ≡ blank n (c ∷ w)
after_blank_word zero c w = refl
after_blank_word (suc n) c w = ap (λ (l : List ℕ). 32 ∷ l) (after_blank_word n c w)

to_tail_and : (closed : Bool) (n : ℕ) → IsGap closed n → (k : Bool) (v : Joint) (w : List ℕ) → Rest And (110 ∷ 100 ∷ []) k v w → Tail closed k v (blank n (97 ∷ []) ++ w)
to_tail_and closed n gap k v w h =
    subst (λ (j : Joint). TailText closed j (blank n (97 ∷ []) ++ w)) (sym h.0) (n, gap, after_blank_word n 97 w ∙ ap (λ (l : List ℕ). blank n (97 ∷ l)) h.1)

to_tail_or : (closed : Bool) (n : ℕ) → IsGap closed n → (k : Bool) (v : Joint) (w : List ℕ) → Rest Or (114 ∷ []) k v w → Tail closed k v (blank n (111 ∷ []) ++ w)
to_tail_or closed n gap k v w h =
    subst (λ (j : Joint). TailText closed j (blank n (111 ∷ []) ++ w)) (sym h.0) (n, gap, after_blank_word n 111 w ∙ ap (λ (l : List ℕ). blank n (111 ∷ l)) h.1)

neither_sound : (closed : Bool) (t : List ℕ) → Sound (Tail closed) t (Ok (Neither, after_spaces t))
neither_sound closed t = let n = spaces t in (blank n.0 [], (n.0, refl), n.1 ∙ sym (blank_into n.0 (after_spaces t)))

pub joint_sound : (closed : Bool) (t : List ℕ) → Sound (Tail closed) t (joint_at closed t)
unfolding joint_at
joint_sound closed t =
    sound_if (Tail closed) t (not (closed || starts 32 t)) _ _ (λ h. neither_sound closed t)
    (λ h. let n = gap_of closed t (not_true (closed || starts 32 t) h) in
    let u = after_spaces t in
    sound_if (Tail closed) t (starts 97 u) _ _
    (λ a. sound_after (Rest And (110 ∷ 100 ∷ [])) (Tail closed) t (blank n.0 (97 ∷ [])) (past_first u) (and_at (past_first u)) (with_word n.0 97 u t n.2 a) (to_tail_and closed n.0 n.1) (and_sound (past_first u)))
    (λ _. sound_if (Tail closed) t (starts 111 u) _ _
    (λ o. sound_after (Rest Or (114 ∷ [])) (Tail closed) t (blank n.0 (111 ∷ [])) (past_first u) (or_at (past_first u)) (with_word n.0 111 u t n.2 o) (to_tail_or closed n.0 n.1) (or_sound (past_first u)))
    (λ _. neither_sound closed t)))
