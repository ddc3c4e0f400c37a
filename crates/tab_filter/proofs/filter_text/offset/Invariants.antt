use Rattle.std.proofs.Common.{◌≡◌, ◌-◌, length, take}
use Rattle.std.specs.Prelude.{encode_utf8_all}
use Rattle.tab_filter.proofs.filter_text.offset.Given as goal

abbrev pub invariant-loop-c : goal.invariant-loop-c
invariant-loop-c l = l.at ≡ length l.text - length (encode_utf8_all (take l.c-index l.rest))
