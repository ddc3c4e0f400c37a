-- A counter as the content of a store: what its frames count up to.
use Rattle.std.specs.Prelude.{◌≡◌, ℕ, ◌<◌, ◌^◌, List, [], ◌∷◌}
use Rattle.tab_keys.specs.Spans.{Interval}
use Rattle.tab_keys.specs.declared.bounds.Bound.TheVariants.{At, End}
use Rattle.tab_codec.specs.declared.frames.Frame.{Frame}
use Rattle.tab_codec.specs.declared.frames.Frame.TheVariants as frames
use Rattle.tab_outside.specs.Logs.{InLog, log_watch}
use Rattle.tab_journal.specs.Keeping.{Sense, KeptView, IsSound, IsReady}
use Rattle.tab_stores.specs.declared.counters.Counter.{Counter}

abbrev pub all_keys : Interval
all_keys = record { lo = At 0 []; hi = End }

-- the frame that counts up to a number: the range of this number begins
abbrev pub counted : ℕ → Frame
counted n = frames.Begin n all_keys 0

-- what a frame counts up to: the number of the range that begins, or the count before
abbrev pub count_after : ℕ → Frame → ℕ
count_after n (frames.Begin range span next_tick) = range
count_after n frame = n

-- what frames count up to
unfoldable pub count_of : ℕ → List Frame → ℕ
count_of n [] = n
count_of n (frame ∷ rest) = count_of (count_after n frame) rest

-- a counter is told by its frames whole; a step counts up to a greater number
abbrev pub counting : Sense Counter ℕ
counting = record {
  kind = 2;
  Told = ℕ;
  tells = λ counter. counter.count;
  stands = λ list n. count_of 0 list ≡ n;
  is_checkpoint = λ list n. (n < 2 ^ 64) × (list ≡ counted n ∷ []);
  fits = λ n step. n < step;
  frame_of = counted;
  stepped = λ n step. step;
  ready = λ counter step. Unit {0};
  done = λ counter step new. Unit {0};
}

-- what is known of a counter that is kept between two calls
pub record IsKept (kept : KeptView InLog Counter ℕ) : Type 0 where
  pub sound : IsSound log_watch counting kept
  pub ready : IsReady counting kept.held kept.doubt
