-- A map whose store runs is left as it is before a call.
use Rattle.std.proofs.Common.{◌≡◌, ℕ, Bool, false, Ok, refl, sym, ◌∙◌, arith}
use Rattle.std.proofs.lemmas.Bool.{true≢false}
use Rattle.tab_outside.specs.Disks.{Watch}
use Rattle.tab_outside.specs.Pairs.{AddsNone}
use Rattle.tab_journal.specs.Keeping.{IsSound}
use Rattle.tab_master.specs.Maps.{map_sense}
use Rattle.tab_master.specs.RangeMaps.{MapKept, ReadsAnew}

adds_none : {D : Type 0} (w : Watch D) (disk : D) → AddsNone w disk disk
adds_none w disk = record { later = omega arith; each = λ t earlier c left. left }

pub left_alone : {D : Type 0} (honest : Type 0) (w : Watch D) (faults : D → ℕ) (has_stops : D → Bool) (old : MapKept D) → old.failed ≡ false → (honest → IsSound w map_sense old)
    → ReadsAnew honest w faults has_stops map_sense old old (Ok false)
left_alone honest w faults has_stops old running sound = record {
  same = λ again. (refl, refl);
  after = λ failed. absurd (true≢false (sym failed ∙ running));
  sound = sound;
  never = λ trust area at e. absurd cc;
  damaged = tt;
  images_a = λ trust. adds_none w _;
  images_b = λ trust. adds_none w _;
  stands = record { kind = refl; number = refl };
  stops = record { a = refl; b = refl };
  causes = record { later_a = omega arith; later_b = omega arith; fault = λ area e. absurd cc };
}
