use Rattle.std.proofs.Common.{◌≡◌, map, take}
use Rattle.tab_http.specs.Heads.{header_at}
use Rattle.tab_http.proofs.heads.headers_of.Given as goal

abbrev pub invariant-loop-span : goal.invariant-loop-span
invariant-loop-span l = l.headers.items ≡ map (header_at l.bytes) (take l.span-index l.spans)
