-- A counter's frames: a step's frame goes on from those before it, and a checkpoint's frame tells the count.
use Rattle.std.proofs.Common.{◌≡◌, ℕ, ◌<◌, ◌^◌, true, List, [], ◌∷◌, ◌++◌, refl, sym, subst, arith}
use Rattle.tab_keys.proofs.KeyTexts.{IsKeyText-nil}
use Rattle.tab_codec.specs.declared.frames.Frame.{Frame}
use Rattle.tab_codec.specs.Frames.{IsShort}
use Rattle.tab_codec.specs.Spelling.{body, span_spelling, bound_spelling, sized}
use Rattle.tab_journal.specs.Areas.{AreFrames}
use Rattle.tab_journal.specs.Fitting.{told_first, takes, takes_all, after, after_all, is_whole_store}
use Rattle.tab_journal.specs.Told.{server_takes, server_after}
use Rattle.tab_journal.specs.declared.fitting.Told.TheVariants as told
use Rattle.tab_journal.specs.declared.ranges.RangeTold.{RangeTold}
use Rattle.tab_journal.specs.Keeping.{GoesOn, ChecksOut}
use Rattle.tab_stores.specs.Counting.{counted, count_after, count_of, counting}

count_behind : (n m : ℕ) (list : List Frame) → count_of n (list ++ counted m ∷ []) ≡ m
unfolding count_of
count_behind n m [] = refl
count_behind n m (frame ∷ list) = count_behind (count_after n frame) m list

-- a range may begin behind whatever frames
begin_fits : (ranges : List RangeTold) (list : List Frame) (n : ℕ) → takes (after_all (told.Server ranges) list) (counted n) ≡ true
unfolding after_all after takes server_takes
begin_fits ranges [] n = refl
begin_fits ranges (frame ∷ list) n = begin_fits (server_after ranges frame) list n

pub goes_on : GoesOn counting
unfolding told_first
goes_on list n step are fits stands = (begin_fits [] list step, count_behind 0 step list)

short : (n : ℕ) → IsShort (body (counted n))
unfolding body span_spelling bound_spelling sized
short n = omega arith

-- a counter's first frame is one of a store
pub are_frames : (n : ℕ) → n < 2 ^ 64 → AreFrames 2 (counted n ∷ [])
unfolding told_first takes_all takes server_takes after after_all is_whole_store
are_frames n within = record {
  spelled = (record { parts = (within, record { lo = (omega arith, IsKeyText-nil); hi = tt; ordered = refl }, omega arith); orderly = tt; short = short n }, tt);
  fit = refl;
  whole = refl;
}

pub checks_out : ChecksOut counting
unfolding count_of
checks_out list n (within, is) = subst (λ (fs : List Frame). AreFrames 2 fs × (count_of 0 fs ≡ n)) (sym is) (are_frames n within, refl)
