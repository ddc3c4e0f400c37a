-- The keys that a filter's comparisons of keys leave in.
use Rattle.std.specs.Prelude.{ℕ, List, [], ◌∷◌, ◌++◌, Bool, true, false, not, ◌&&◌, ◌||◌, Option, Some, None, if◌then◌else◌}
use Rattle.std.specs.Ordering.{is_eq, is_lt, is_gt, is_le, is_ge}
use Rattle.tab_keys.specs.KeyTexts.{key_refusal}
use Rattle.tab_keys.specs.Order.{text_cmp}
use Rattle.tab_keys.specs.declared.key_texts.KeyRefused.{KeyRefused}
use Rattle.tab_edm.specs.declared.values.Value.{Value}
use Rattle.tab_edm.specs.declared.values.Value.TheVariants.{Text, Flag, Int32, Int64, Moment, Guid, Bytes}
use Rattle.tab_filter.specs.declared.trees.Operator.{Operator}
use Rattle.tab_filter.specs.declared.trees.Operator.TheVariants.{Equal, NotEqual, Greater, GreaterOrEqual, Less, LessOrEqual}
use Rattle.tab_filter.specs.declared.trees.Comparison.{Comparison}
use Rattle.tab_filter.specs.declared.window.Narrowing.{Narrowing}
use Rattle.tab_filter.specs.declared.window.KeyPart.{KeyPart}
use Rattle.tab_filter.specs.declared.window.KeyPart.TheVariants.{Partition, Row}
use Rattle.tab_filter.specs.Trees.{Tree, Compared, Negation, Both, Either}
use Rattle.tab_filter.specs.Targets.{is_partition_key, is_row_key}
use Rattle.tab_filter.specs.Truth.{operator_holds}

-- the comparisons that narrow the partition keys, and those that narrow the row keys
pub record WindowView : Type 0 where
  pub partitions : List Narrowing
  pub rows : List Narrowing

-- the name of a part of the key
abbrev pub is_of_part : KeyPart → List ℕ → Bool
is_of_part Partition name = is_partition_key name
is_of_part Row name = is_row_key name

abbrev pub is_not_equal : Operator → Bool
is_not_equal NotEqual = true
is_not_equal Equal = false
is_not_equal Greater = false
is_not_equal GreaterOrEqual = false
is_not_equal Less = false
is_not_equal LessOrEqual = false

abbrev pub is_equal : Operator → Bool
is_equal Equal = true
is_equal NotEqual = false
is_equal Greater = false
is_equal GreaterOrEqual = false
is_equal Less = false
is_equal LessOrEqual = false

-- a text narrows, if it is a key
abbrev pub narrowing_if_key : Option KeyRefused → Narrowing → List Narrowing
narrowing_if_key None narrowing = narrowing ∷ []
narrowing_if_key (Some why) narrowing = []

-- and a literal, if it is a text
abbrev pub narrowing_by : Operator → Value → List Narrowing
narrowing_by operator (Text text) = narrowing_if_key (key_refusal text) (record { operator = operator; text = text })
narrowing_by operator (Flag b) = []
narrowing_by operator (Int32 n) = []
narrowing_by operator (Int64 n) = []
narrowing_by operator (Moment tick) = []
narrowing_by operator (Guid bytes) = []
narrowing_by operator (Bytes bytes) = []

-- how a comparison narrows a part of the key, if it does
unfoldable pub narrowing_of : KeyPart → Comparison → List Narrowing
narrowing_of part comparison =
    if not (is_of_part part comparison.name) || is_not_equal comparison.operator then [] else narrowing_by comparison.operator comparison.value

-- how the comparisons of a filter narrow a part of the key, where they are joined by `and` alone
abbrev pub narrowings : KeyPart → Tree → List Narrowing
narrowings part (Compared comparison) = narrowing_of part comparison
narrowings part (Both first second) = narrowings part first ++ narrowings part second
narrowings part (Negation inner) = []
narrowings part (Either first second) = []

-- one of them fixes the part
abbrev pub any_fixes : List Narrowing → Bool
any_fixes [] = false
any_fixes (n ∷ ns) = is_equal n.operator || any_fixes ns

-- the window of a filter: row keys are narrowed only where the partition key is fixed
abbrev pub window_of : Tree → WindowView
window_of tree = record {
  partitions = narrowings Partition tree;
  rows = (if any_fixes (narrowings Partition tree) then narrowings Row tree else []);
}

-- a comparison leaves a key in
abbrev pub meets : Narrowing → List ℕ → Bool
meets n key = operator_holds n.operator (text_cmp key n.text)

abbrev pub all_meet : List Narrowing → List ℕ → Bool
all_meet [] key = true
all_meet (n ∷ ns) key = meets n key && all_meet ns key

-- the key lies in the window
abbrev pub has : WindowView → List ℕ → List ℕ → Bool
has window pk rk = all_meet window.partitions pk && all_meet window.rows rk

-- a comparison leaves a key out as too great
abbrev pub great_by : Operator → List ℕ → List ℕ → Bool
great_by Equal key text = is_gt (text_cmp key text)
great_by LessOrEqual key text = is_gt (text_cmp key text)
great_by Less key text = is_ge (text_cmp key text)
great_by NotEqual key text = false
great_by Greater key text = false
great_by GreaterOrEqual key text = false

abbrev pub is_too_great : Narrowing → List ℕ → Bool
is_too_great n key = great_by n.operator key n.text

-- a comparison leaves a key out as too small
abbrev pub small_by : Operator → List ℕ → List ℕ → Bool
small_by Equal key text = is_lt (text_cmp key text)
small_by GreaterOrEqual key text = is_lt (text_cmp key text)
small_by Greater key text = is_le (text_cmp key text)
small_by NotEqual key text = false
small_by Less key text = false
small_by LessOrEqual key text = false

abbrev pub is_too_small : Narrowing → List ℕ → Bool
is_too_small n key = small_by n.operator key n.text

abbrev pub any_too_great : List Narrowing → List ℕ → Bool
any_too_great [] key = false
any_too_great (n ∷ ns) key = is_too_great n key || any_too_great ns key

abbrev pub any_too_small : List Narrowing → List ℕ → Bool
any_too_small [] key = false
any_too_small (n ∷ ns) key = is_too_small n key || any_too_small ns key

-- a comparison by `eq` has just this key
abbrev pub fixes : Narrowing → List ℕ → Bool
fixes n key = is_equal n.operator && is_eq (text_cmp key n.text)

abbrev pub any_fixes_at : List Narrowing → List ℕ → Bool
any_fixes_at [] key = false
any_fixes_at (n ∷ ns) key = fixes n key || any_fixes_at ns key

-- the key lies past the upper edge
abbrev pub is_past : WindowView → List ℕ → List ℕ → Bool
is_past window pk rk =
    any_too_great window.partitions pk || (any_fixes_at window.partitions pk && any_too_great window.rows rk)

-- the first point of a partition does not
abbrev pub reaches : WindowView → List ℕ → Bool
reaches window pk = not (is_past window pk [])

-- a comparison of the partition key leaves it out as too small
abbrev pub below : WindowView → List ℕ → Bool
below window pk = any_too_small window.partitions pk

-- a comparison by this operator leaves out all keys below its text
abbrev pub is_lower : Operator → Bool
is_lower Equal = true
is_lower Greater = true
is_lower GreaterOrEqual = true
is_lower NotEqual = false
is_lower Less = false
is_lower LessOrEqual = false

abbrev pub greater_corner : Narrowing → List ℕ → List ℕ
greater_corner n corner = if is_lower n.operator && is_gt (text_cmp n.text corner) then n.text else corner

-- the greatest text of those, or the empty one
abbrev pub lower_corner : List Narrowing → List ℕ
lower_corner [] = []
lower_corner (n ∷ ns) = greater_corner n (lower_corner ns)
