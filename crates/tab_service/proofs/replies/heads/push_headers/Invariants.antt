use Rattle.std.proofs.Common.{◌≡◌, ◌++◌, map, flat_map, take, string_bytes}
use Rattle.tab_service.specs.Replies.{header_line}
use Rattle.tab_service.proofs.replies.heads.push_headers.Given as goal

abbrev pub invariant-loop-name : goal.invariant-loop-name
invariant-loop-name l =
    string_bytes l.head ≡ string_bytes l.fn.head ++ flat_map header_line (map (λ header. (header.0.now, header.1.now)) (take l.name-index l.headers))
