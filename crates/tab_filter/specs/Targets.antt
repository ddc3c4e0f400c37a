-- What the name of a comparison stands for in a row.
use Rattle.std.specs.Prelude.{ℕ, List, Bool, codes, bytes_eq, if◌then◌else◌}
use Rattle.tab_filter.specs.declared.targets.Target.{Target}
use Rattle.tab_filter.specs.declared.targets.Target.TheVariants.{PartitionKey, RowKey, Timestamp, Property}

-- the names that stand for a row's keys and its tick
unfoldable pub is_partition_key : List ℕ → Bool
is_partition_key name = bytes_eq name (codes "PartitionKey")

unfoldable pub is_row_key : List ℕ → Bool
is_row_key name = bytes_eq name (codes "RowKey")

unfoldable pub is_timestamp : List ℕ → Bool
is_timestamp name = bytes_eq name (codes "Timestamp")

unfoldable pub target_of : List ℕ → Target
target_of name =
    if is_partition_key name then PartitionKey else (if is_row_key name then RowKey else (if is_timestamp name then Timestamp else Property))
