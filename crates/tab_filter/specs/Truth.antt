-- When a row matches a filter.
use Rattle.std.specs.Prelude.{ℕ, List, Bool, false, not, ◌&&◌, ◌||◌, Option, Some, None, if◌then◌else◌}
use Rattle.std.specs.declared.cmp.Ordering.{Ordering}
use Rattle.std.specs.Ordering.{is_eq, is_ne, is_lt, is_gt, is_le, is_ge, nat_cmp, int_cmp, bool_cmp}
use Rattle.std.specs.Cmp.Lexicographic.{slice_cmp}
use Rattle.tab_keys.specs.Order.{text_cmp}
use Rattle.tab_edm.specs.declared.values.Property.{Property}
use Rattle.tab_edm.specs.declared.values.Value.{Value}
use Rattle.tab_edm.specs.declared.values.Value.TheVariants.{Text, Flag, Int32, Int64, Moment, Guid, Bytes}
use Rattle.tab_edm.specs.Entities.{value_of}
use Rattle.tab_filter.specs.declared.trees.Operator.{Operator}
use Rattle.tab_filter.specs.declared.trees.Operator.TheVariants.{Equal, NotEqual, Greater, GreaterOrEqual, Less, LessOrEqual}
use Rattle.tab_filter.specs.declared.trees.Comparison.{Comparison}
use Rattle.tab_filter.specs.Targets.{is_partition_key, is_row_key, is_timestamp}
use Rattle.tab_filter.specs.Trees.{Tree, Compared, Negation, Both, Either}

-- what a filter sees of a row: its keys, its tick and its entity's properties
pub record FilteredRow : Type 0 where
  pub pk : List ℕ
  pub rk : List ℕ
  pub tick : ℕ
  pub properties : List Property

-- what an operator says of the order of a property's value and the literal
abbrev pub operator_holds : Operator → Ordering → Bool
operator_holds Equal order = is_eq order
operator_holds NotEqual order = is_ne order
operator_holds Greater order = is_gt order
operator_holds GreaterOrEqual order = is_ge order
operator_holds Less order = is_lt order
operator_holds LessOrEqual order = is_le order

-- a value against a literal: texts unit by unit, numbers of both widths as numbers, false below true, moments by their
-- ticks, all others byte by byte; never true of two kinds
abbrev pub value_holds : Value → Operator → Value → Bool
value_holds (Text a) operator (Text b) = operator_holds operator (text_cmp a b)
value_holds (Flag a) operator (Flag b) = operator_holds operator (bool_cmp a b)
value_holds (Int32 a) operator (Int32 b) = operator_holds operator (int_cmp a b)
value_holds (Int32 a) operator (Int64 b) = operator_holds operator (int_cmp a b)
value_holds (Int64 a) operator (Int32 b) = operator_holds operator (int_cmp a b)
value_holds (Int64 a) operator (Int64 b) = operator_holds operator (int_cmp a b)
value_holds (Moment a) operator (Moment b) = operator_holds operator (nat_cmp a b)
value_holds (Guid a) operator (Guid b) = operator_holds operator (slice_cmp nat_cmp a b)
value_holds (Bytes a) operator (Bytes b) = operator_holds operator (slice_cmp nat_cmp a b)
value_holds a operator b = false

-- the value of a row's property with this name
abbrev pub property_of : FilteredRow → List ℕ → Option Value
property_of row name =
    if is_partition_key name then Some (Text row.pk)
    else (if is_row_key name then Some (Text row.rk)
    else (if is_timestamp name then Some (Moment row.tick) else value_of name row.properties))

-- false where there is no such value
abbrev pub found_holds : Option Value → Operator → Value → Bool
found_holds None operator literal = false
found_holds (Some value) operator literal = value_holds value operator literal

unfoldable pub comparison_holds : FilteredRow → Comparison → Bool
comparison_holds row comparison = found_holds (property_of row comparison.name) comparison.operator comparison.value

-- whether a row matches
abbrev pub truth : FilteredRow → Tree → Bool
truth row (Compared comparison) = comparison_holds row comparison
truth row (Negation inner) = not (truth row inner)
truth row (Both first second) = truth row first && truth row second
truth row (Either first second) = truth row first || truth row second
