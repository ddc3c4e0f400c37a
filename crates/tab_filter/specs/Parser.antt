-- How the parts of a filter are read, and what joins them.
use Rattle.std.specs.Prelude.{ℕ, zero, suc, List, [], ◌∷◌, Bool, true, false, not, ◌&&◌, ◌||◌, ◌==◌, Option, Some, None, Result, Ok, Err, if◌then◌else◌, nat_le, codes, encode_utf8_all}
use Rattle.tab_edm.specs.declared.values.Value.{Value}
use Rattle.tab_filter.specs.declared.filter_text.TheConstants.{MOST_OPEN}
use Rattle.tab_filter.specs.declared.parser.TheConstants.{MOST_COMPARISONS, MOST_PARTS}
use Rattle.tab_filter.specs.declared.trees.Operator.{Operator}
use Rattle.tab_filter.specs.declared.lexer.Joint.{Joint}
use Rattle.tab_filter.specs.declared.lexer.Joint.TheVariants.{And, Or, Neither}
use Rattle.tab_filter.specs.declared.parser.PartRead.{PartRead}
use Rattle.tab_filter.specs.declared.parser.AllRead.{AllRead}
use Rattle.tab_filter.specs.declared.parser.AnyRead.{AnyRead}
use Rattle.tab_filter.specs.Trees.{Tree, Compared, Negation, Both, Either, tree_of}
use Rattle.tab_keys.specs.Results.{◌>>=◌}
use Rattle.tab_filter.specs.Lexer.{Read, ParseFault, Syntax, Deep, TooMany, starts, past_first, after_spaces, expect, gap_at, edge_at, operator_at, starts_name, whole_name, behind_name, name_at, is_not, operator_named, joint_at}
use Rattle.tab_filter.specs.Literals.{literal_at}

-- a part, whether it ends with a `)`, and the comparisons read up to its end
pub record PartView : Type 0 where
  pub tree : Tree
  pub closed : Bool
  pub used : ℕ

-- parts joined by `and`, and the word behind them
pub record AllView : Type 0 where
  pub tree : Tree
  pub joint : Joint
  pub used : ℕ

-- and those joined by `or`
pub record AnyView : Type 0 where
  pub tree : Tree
  pub used : ℕ

abbrev pub compared : List ℕ → Operator → Value → ℕ → PartView
compared name operator value used = record {
  tree = Compared (record { name = encode_utf8_all name; operator = operator; value = value });
  closed = false;
  used = suc used;
}

-- there is room for one comparison more
abbrev pub room_at : ℕ → ℕ → List ℕ → Read (Unit {0})
room_at most used text = if nat_le most used then Err TooMany else Ok (tt, text)

abbrev pub compared_at : ℕ → List ℕ → Operator → List ℕ → Read PartView
compared_at used name operator text = literal_at text >>= λ v. Ok (compared name operator v.0 used, v.1)

-- an operator and a literal
unfoldable pub operation_at : ℕ → ℕ → List ℕ → List ℕ → Read PartView
operation_at most used name text =
    operator_at text >>= λ o. (room_at most used o.1 >>= λ r. (gap_at r.1 >>= λ g. compared_at used name o.0 g.1))

-- the literal of a comparison whose operator is read
unfoldable pub operand_at : ℕ → ℕ → List ℕ → Operator → List ℕ → Read PartView
operand_at most used name operator text = room_at most used text >>= λ r. compared_at used name operator r.1

-- a literal may begin here, and no operator
unfoldable pub begins_literal : List ℕ → Bool
begins_literal [] = false
begins_literal (b ∷ bs) = if b == 103 then starts 117 bs else not (b == 101 || b == 110 || b == 108 || b == 40 || b == 41)

abbrev pub negated : Read PartView → Read PartView
negated read = read >>= λ m. Ok (record { tree = Negation m.0.tree; closed = m.0.closed; used = m.0.used }, m.1)

abbrev pub not_name : List ℕ
not_name = codes "not"

-- what is read behind a `(` or a `not`, with the text at that word, by whether it is a `not`
abbrev pub Inner : Type 0
Inner = Bool → ℕ → List ℕ → List ℕ → Read PartView

-- a part: a group, a negation or a comparison
abbrev pub named_at : ℕ → Inner → ℕ → List ℕ → List ℕ → List ℕ → Read PartView
named_at most inner used text name left =
    if is_not name then inner true used text left else (gap_at left >>= λ g. operation_at most used name g.1)

unfoldable pub part_at : ℕ → Inner → ℕ → List ℕ → Read PartView
part_at most inner used text =
    if starts 40 text then inner false used text (past_first text) else (name_at text >>= λ w. named_at most inner used text w.0 w.1)

-- a comparison of a property named `not`, where an operator is followed by a literal
abbrev pub either_at : ℕ → Bool → Operator → ℕ → List ℕ → List ℕ → Read PartView
either_at most literal operator used name text =
    if literal then operand_at most used not_name operator text else negated (operation_at most used name text)

abbrev pub ambiguous_at : ℕ → Option Operator → ℕ → List ℕ → List ℕ → Read PartView
ambiguous_at most None used name text = negated (operation_at most used name text)
ambiguous_at most (Some operator) used name text = either_at most (begins_literal text) operator used name text

abbrev pub second_named_at : ℕ → Inner → ℕ → List ℕ → List ℕ → List ℕ → Read PartView
second_named_at most inner used text name left =
    if is_not name then negated (inner true used text left) else (gap_at left >>= λ g. ambiguous_at most (operator_named name) used name g.1)

-- what is behind `not` and the spaces after it: a part, which it negates, or the rest of a comparison of `not`
unfoldable pub second_at : ℕ → Inner → ℕ → List ℕ → Read PartView
second_at most inner used text =
    if starts 40 text then negated (inner false used text (past_first text)) else (name_at text >>= λ w. second_named_at most inner used text w.0 w.1)

-- the operator behind `not`, where a literal may begin behind it
abbrev pub sole : Option Operator → List ℕ → Option (Operator × List ℕ)
sole None text = None
sole (Some operator) text = if begins_literal text then Some (operator, text) else None

abbrev pub sole_name : List ℕ → Option (Operator × List ℕ)
sole_name text =
    if starts_name text && starts 32 (behind_name text) then sole (operator_named (whole_name text)) (after_spaces (behind_name text)) else None

unfoldable pub sole_operator : List ℕ → Option (Operator × List ℕ)
sole_operator text = if starts 32 text then sole_name (after_spaces text) else None

abbrev pub unless_sole : ℕ → ℕ → List ℕ → Option (Operator × List ℕ) → Read PartView
unless_sole most used text None = Err (Deep text)
unless_sole most used text (Some x) = operand_at most used not_name x.0 x.1

-- the parts of a level
abbrev pub all_more : (ℕ → List ℕ → Read AllView) → PartView → Joint → List ℕ → Read AllView
all_more rest first And text =
    (edge_at text >>= λ e. rest first.used e.1) >>= λ m. Ok (record { tree = Both first.tree m.0.tree; joint = m.0.joint; used = m.0.used }, m.1)
all_more rest first Or text = Ok (record { tree = first.tree; joint = Or; used = first.used }, text)
all_more rest first Neither text = Ok (record { tree = first.tree; joint = Neither; used = first.used }, text)

unfoldable pub all_at : (ℕ → List ℕ → Read PartView) → ℕ → ℕ → List ℕ → Read AllView
all_at part zero used text = Err TooMany
all_at part (suc n) used text =
    part used text >>= λ a. (joint_at a.0.closed a.1 >>= λ k. all_more (all_at part n) a.0 k.0 k.1)

abbrev pub any_more : (ℕ → List ℕ → Read AnyView) → AllView → Joint → List ℕ → Read AnyView
any_more rest first Or text =
    (edge_at text >>= λ e. rest first.used e.1) >>= λ m. Ok (record { tree = Either first.tree m.0.tree; used = m.0.used }, m.1)
any_more rest first And text = Ok (record { tree = first.tree; used = first.used }, text)
any_more rest first Neither text = Ok (record { tree = first.tree; used = first.used }, text)

unfoldable pub any_at : (ℕ → List ℕ → Read PartView) → ℕ → ℕ → ℕ → List ℕ → Read AnyView
any_at part parts zero used text = Err TooMany
any_at part parts (suc n) used text =
    all_at part parts used text >>= λ a. any_more (any_at part parts n) a.0 a.0.joint a.1

abbrev pub closed_group : Read AnyView → Read PartView
closed_group read =
    read >>= λ m. (expect 41 m.1 >>= λ e. Ok (record { tree = m.0.tree; closed = true; used = m.0.used }, e.1))

-- what is behind a `(` or a `not` that is open, with so many more that may be
unfoldable pub inner_at : ℕ → ℕ → ℕ → Inner
inner_at most parts zero false used text left = Err (Deep text)
inner_at most parts zero true used text left = unless_sole most used text (sole_operator left)
inner_at most parts (suc depth) false used text left =
    closed_group (any_at (part_at most (inner_at most parts depth)) parts parts used (after_spaces left))
inner_at most parts (suc depth) true used text left = edge_at left >>= λ e. second_at most (inner_at most parts depth) used e.1

-- a filter, with spaces at both ends, and nothing behind it
abbrev pub whole_of : AnyView → List ℕ → Result Tree ParseFault
whole_of any [] = Ok any.tree
whole_of any (b ∷ bs) = Err (Syntax (b ∷ bs))

abbrev pub whole_at : Read AnyView → Result Tree ParseFault
whole_at (Err e) = Err e
whole_at (Ok x) = whole_of x.0 x.1

unfoldable pub filter_at : List ℕ → Result Tree ParseFault
filter_at text =
    whole_at (any_at (part_at MOST_COMPARISONS (inner_at MOST_COMPARISONS MOST_PARTS MOST_OPEN)) MOST_PARTS MOST_PARTS 0 (after_spaces text))

-- what was read, without where it lies in memory
abbrev pub part_view : PartRead → PartView
part_view part = record { tree = tree_of part.node; closed = part.closed; used = part.used }

abbrev pub all_view : AllRead → AllView
all_view all = record { tree = tree_of all.node; joint = all.joint; used = all.used }

abbrev pub any_view : AnyRead → AnyView
any_view any = record { tree = tree_of any.node; used = any.used }
