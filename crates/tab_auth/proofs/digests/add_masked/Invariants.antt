use Rattle.std.proofs.Common.{List, ℕ, ◌++◌, take}
use Rattle.sha2.specs.Hashers.{Holds256}
use Rattle.tab_auth.specs.Digests.{masked}
use Rattle.tab_auth.proofs.digests.add_masked.Given as goal

abbrev pub invariant-loop-byte : goal.invariant-loop-byte
invariant-loop-byte l =
    (message : List ℕ) → Holds256 l.initial.hasher message → Holds256 l.hasher (message ++ masked l.mask (take l.byte-index l.bytes))
