-- The order of keys and of the bounds between them.
use Rattle.std.specs.Prelude.{ℕ, ◌+◌, ◌-◌, List, [], Bool, true, false, nat_lt, if◌then◌else◌}
use Rattle.std.specs.declared.cmp.Ordering.{Ordering}
use Rattle.std.specs.declared.cmp.Ordering.TheVariants.{Less, Equal, Greater}
use Rattle.std.specs.Ordering.{ordering_then, is_lt, is_eq, nat_cmp}
use Rattle.std.specs.Cmp.Lexicographic.{slice_cmp}
use Rattle.tab_keys.specs.KeyTexts.{units_of}
use Rattle.tab_keys.specs.TableNames.{folded}
use Rattle.tab_keys.specs.declared.keys.Key.{Key}
use Rattle.tab_keys.specs.declared.bounds.Bound.{Bound}
use Rattle.tab_keys.specs.declared.bounds.Bound.TheVariants.{At, End}

-- two texts unit by unit, where a proper prefix is less
unfoldable pub text_cmp : List ℕ → List ℕ → Ordering
text_cmp a b = slice_cmp nat_cmp (units_of a) (units_of b)

-- the rank of a byte among all bytes by which UTF-8 texts compare as their units do: those that begin a character
-- from U+E000 to U+FFFF come behind those that begin a later one, whose first unit is a surrogate
abbrev pub byte_rank : ℕ → ℕ
byte_rank b = if nat_lt b 0xEE then b else (if nat_lt b 0xF0 then b + 16 else b - 2)

-- two names without their case, byte by byte
unfoldable pub name_cmp : List ℕ → List ℕ → Ordering
name_cmp a b = slice_cmp nat_cmp (folded a) (folded b)

-- by table number, then by partition key, then by row key
unfoldable pub key_cmp : Key → Key → Ordering
key_cmp a b = ordering_then (nat_cmp a.table b.table) (ordering_then (text_cmp a.pk b.pk) (text_cmp a.rk b.rk))

abbrev pub key_lt : Key → Key → Bool
key_lt a b = is_lt (key_cmp a b)

-- no order tells the two keys apart
abbrev pub same_key : Key → Key → Bool
same_key a b = is_eq (key_cmp a b)

-- the first key of a partition, before which its bound stands
abbrev pub head_key : ℕ → List ℕ → Key
head_key table pk = record { table = table; pk = pk; rk = [] }

-- the key stands before the bound
abbrev pub is_before : Key → Bound → Bool
is_before key (At table pk) = key_lt key (head_key table pk)
is_before key End = true

-- one bound stands before another
abbrev pub bound_lt : Bound → Bound → Bool
bound_lt (At table pk) (At other key) = key_lt (head_key table pk) (head_key other key)
bound_lt (At table pk) End = true
bound_lt End other = false

-- the order of bounds, where End comes last
abbrev pub bound_cmp : Bound → Bound → Ordering
bound_cmp (At table pk) (At other key) = key_cmp (head_key table pk) (head_key other key)
bound_cmp (At table pk) End = Less
bound_cmp End (At other key) = Greater
bound_cmp End End = Equal
