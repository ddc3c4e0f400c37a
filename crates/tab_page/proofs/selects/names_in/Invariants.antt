use Rattle.std.proofs.Common.{◌≡◌, ◌==◌, map, take, length, filter, string_bytes}
use Rattle.std.specs.List.{slice_split}
use Rattle.tab_page.specs.Queries.{is_name, trimmed}
use Rattle.tab_page.proofs.selects.names_in.Given as goal

abbrev pub invariant-loop-piece : goal.invariant-loop-piece
invariant-loop-piece l =
    map string_bytes l.names.items ≡ filter is_name (map trimmed (take (length l.yielded) (slice_split (λ b. b == 44) l.text)))
