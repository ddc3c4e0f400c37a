-- The readers of words exceed no limit.
use Rattle.std.proofs.Common.{ℕ, List, [], ◌∷◌, Bool, true, false, cond, not, ◌||◌, Option, Some, None, Ok, Err}
use Rattle.tab_edm.specs.declared.values.Value.{Value}
use Rattle.tab_keys.specs.Results.{◌>>=◌}
use Rattle.tab_filter.specs.declared.trees.Operator.{Operator}
use Rattle.tab_filter.specs.Lexer.{Read, Syntax, BadLiteral, Deep, TooMany, starts, past_first, after_spaces, is_plain, is_unquoted, front_of, behind, expect, gap_at, letter_at, either_letter_at, operator_at, and_at, or_at, joint_at}
use Rattle.tab_filter.specs.Literals.{plain_value, prefixed_value, inside_at, given, quoted, token_at, quote_at, literal_at}

abbrev pub Quiet : {A : Type 0} → Read A → Type 0
Quiet (Ok x) = Unit {0}
Quiet (Err (Syntax left)) = Unit {0}
Quiet (Err (BadLiteral left)) = Unit {0}
Quiet (Err (Deep left)) = ⊥
Quiet (Err TooMany) = ⊥

pub quiet_if : {A : Type 0} (b : Bool) (x y : Read A) → Quiet x → Quiet y → Quiet (cond b x y)
quiet_if true x y h i = h
quiet_if false x y h i = i

pub quiet_bind : {A B : Type 0} (r : Read A) (f : A × List ℕ → Read B) → Quiet r → ((x : A × List ℕ) → Quiet (f x)) → Quiet (r >>= f)
quiet_bind (Ok x) f h next = next x
quiet_bind (Err (Syntax left)) f h next = tt
quiet_bind (Err (BadLiteral left)) f h next = tt
quiet_bind (Err (Deep left)) f h next = absurd h
quiet_bind (Err TooMany) f h next = absurd h

pub expect_quiet : (c : ℕ) (t : List ℕ) → Quiet (expect c t)
expect_quiet c t = quiet_if (starts c t) _ _ tt tt

pub gap_quiet : (t : List ℕ) → Quiet (gap_at t)
gap_quiet t = quiet_if (starts 32 t) _ _ tt tt

letter_quiet : (c : ℕ) (o : Operator) (t : List ℕ) → Quiet (letter_at c o t)
letter_quiet c o t = quiet_if (starts c t) _ _ tt tt

either_letter_quiet : (o : Operator) (c : ℕ) (p : Operator) (t : List ℕ) → Quiet (either_letter_at o c p t)
either_letter_quiet o c p t = quiet_if (starts 101 t) _ _ tt (letter_quiet c p t)

pub operator_quiet : (t : List ℕ) → Quiet (operator_at t)
unfolding operator_at
operator_quiet t =
    quiet_if (starts 101 t) _ _ (letter_quiet _ _ (past_first t))
    (quiet_if (starts 110 t) _ _ (letter_quiet _ _ (past_first t))
    (quiet_if (starts 103 t) _ _ (either_letter_quiet _ _ _ (past_first t))
    (quiet_if (starts 108 t) _ _ (either_letter_quiet _ _ _ (past_first t)) tt)))

and_quiet : (t : List ℕ) → Quiet (and_at t)
and_quiet t = quiet_bind (expect 110 t) _ (expect_quiet 110 t) (λ n. quiet_bind (expect 100 n.1) _ (expect_quiet 100 n.1) (λ d. tt))

or_quiet : (t : List ℕ) → Quiet (or_at t)
or_quiet t = quiet_bind (expect 114 t) _ (expect_quiet 114 t) (λ d. tt)

pub joint_quiet : (closed : Bool) (t : List ℕ) → Quiet (joint_at closed t)
unfolding joint_at
joint_quiet closed t =
    quiet_if (not (closed || starts 32 t)) _ _ tt
    (quiet_if (starts 97 (after_spaces t)) _ _ (and_quiet (past_first (after_spaces t)))
    (quiet_if (starts 111 (after_spaces t)) _ _ (or_quiet (past_first (after_spaces t))) tt))

given_quiet : (t : List ℕ) (v : Option Value) (left : List ℕ) → Quiet (given t v left)
given_quiet t None left = tt
given_quiet t (Some v) left = tt

quoted_quiet : (t : List ℕ) (v : Option (List ℕ × List ℕ)) → Quiet (quoted t v)
quoted_quiet t None = tt
quoted_quiet t (Some v) = tt

token_quiet : (t word left : List ℕ) → Quiet (token_at t word left)
token_quiet t [] left = tt
token_quiet t (b ∷ bs) left = given_quiet t (plain_value (b ∷ bs)) left

quote_quiet : (t word left : List ℕ) → Quiet (quote_at t word left)
quote_quiet t [] left = quoted_quiet t (inside_at left)
quote_quiet t (b ∷ bs) left =
    quiet_if (starts 39 (behind is_unquoted left)) _ _ (given_quiet t (prefixed_value (b ∷ bs) (front_of is_unquoted left)) (past_first (behind is_unquoted left))) tt

word_quiet : (t word left : List ℕ) → Quiet (cond (starts 39 left) (quote_at t word (past_first left)) (token_at t word left))
word_quiet t word left = quiet_if (starts 39 left) _ _ (quote_quiet t word (past_first left)) (token_quiet t word left)

pub literal_quiet : (t : List ℕ) → Quiet (literal_at t)
unfolding literal_at
literal_quiet t = word_quiet t (front_of is_plain t) (behind is_plain t)
