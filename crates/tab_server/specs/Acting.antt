-- What calls on a server leave, by their answers.
use Rattle.std.specs.Prelude.{◌≡◌, ◌≢◌, ◌+◌, ℕ, ◌-◌, ◌^◌, ◌⊎◌, List, Bool, true, false, Option, Some, None, Result, Ok, Err, ⊤, IsTrue}
use Rattle.tab_outside.specs.Disks.{Watch}
use Rattle.tab_outside.specs.Pairs.{Extends, AddsNone, Since}
use Rattle.tab_seats.specs.declared.views.Stroke.{Stroke}
use Rattle.tab_history.specs.declared.asks.Reply.{Reply}
use Rattle.tab_history.specs.declared.entries.Denied.TheVariants as denied
use Rattle.tab_range.specs.declared.commands.Command.{Command}
use Rattle.tab_range.specs.declared.commands.Told.{Told}
use Rattle.tab_range.specs.Commands.{command_key}
use Rattle.tab_range.specs.declared.commands.Answer.TheVariants as answer
use Rattle.tab_range.specs.Outcomes.{accepted, AreOf}
use Rattle.tab_ops.specs.Changes.{applied}
use Rattle.tab_range.specs.Ranges.{DrewOne, range_outcome}
use Rattle.tab_journal.specs.Areas.{Spells}
use Rattle.tab_journal.specs.Stores.{area_a, area_b, IsSameStore}
use Rattle.tab_journal.specs.Keeping.{Sense, StandsFor, StandsWith, IsSound, IsSettled, IsDone, IsRewritten}
use Rattle.tab_server.specs.declared.steps.RangeChange.{RangeChange}
use Rattle.tab_server.specs.declared.ranges.Marked.{Marked}
use Rattle.tab_server.specs.declared.refusals.ActRefused.{ActRefused}
use Rattle.tab_server.specs.declared.refusals.ActRefused.TheVariants as refused
use Rattle.tab_server.specs.Contents.{ranges_sense}
use Rattle.tab_server.specs.Serving.{ServerView, range_for, at_number, with_spare, with_tally, is_sealed, is_in_doubt}
use Rattle.tab_server.specs.ServerCauses.{ServerCauses, IsDamagedIn}

-- a change of this range, of this tick, that is just what the command comes to at this moment
pub record IsChangeOf {T : Type 0} (marked : Marked T) (command : Command) (now tick : ℕ) (step : RangeChange) : Type 0 where
  pub range : step.range ≡ marked.range.id
  pub told : step.told ≡ record { command = command; tick = Some tick }
  pub moment : step.moment ≡ now
  pub changes : step.changes.tick ≡ tick
  pub due : range_outcome marked.range command now ≡ accepted tick (applied marked.range.rows step.changes.list)
  pub of : AreOf command (answer.Change step.changes)

module _ {T : Type 0} (is_drawn : T → Stroke Told → T → Type 0) (is_ready : T → ℕ → Type 0) (are_kin : T → T → Type 0) where
  abbrev sense : Sense (List (Marked T)) RangeChange
  sense = ranges_sense is_drawn is_ready are_kin

  module _ {D : Type 0} where
    -- ---- settling

    -- the change in doubt was done or left out, and the server runs
    abbrev pub IsSettledTo : ServerView D T → ServerView D T → Type 0
    IsSettledTo old new = ((stood : Bool) × IsSettled sense old.held old.doubt new.held stood) × (new.doubt ≡ None) × (new.failed ≡ false)

    -- it had failed, and nothing is known yet of the change in doubt
    abbrev pub IsUnsettled : ServerView D T → ServerView D T → Type 0
    IsUnsettled old new = (old.failed ≡ true) × (new.held ≡ old.held) × (new.doubt ≡ old.doubt) × (new.failed ≡ true)

    abbrev pub AfterSettle : ServerView D T → ServerView D T → Result ⊤ ActRefused → Type 0
    AfterSettle old new (Ok x) = IsSettledTo old new
    AfterSettle old new (Err (refused.DiskFault area)) = IsUnsettled old new
    AfterSettle old new (Err (refused.Damaged area at)) = IsUnsettled old new
    AfterSettle old new (Err refused.Memory) = IsUnsettled old new
    AfterSettle old new (Err _) = ⊥

    -- A server that has failed was settled, and one that runs is as it was: what is held, which images its disks have, and
    -- where a refusal comes from.
    pub record Settles (w : Watch D) (honest : Type 0) (faults : D → ℕ) (old new : ServerView D T) (result : Result ⊤ ActRefused) : Type 0 where
      pub same : old.failed ≡ false → (new ≡ old) × (result ≡ Ok tt)
      pub after : AfterSettle old new result
      pub store : IsSameStore old.store new.store
      pub sound : honest → IsSound w sense new
      pub images_a : honest → AddsNone w (area_a old.store) (area_a new.store)
      pub images_b : honest → AddsNone w (area_b old.store) (area_b new.store)
      pub causes : ServerCauses faults old new result
      pub damaged : IsDamagedIn result
      pub never : honest → (area at : ℕ) → result ≡ Err (refused.Damaged area at) → ⊥

    -- ---- a command

    -- all is as before, but for room for rows that may have been found
    abbrev pub IsStill : ℕ → ServerView D T → ServerView D T → Type 0
    IsStill range old new = (spare : ℕ) × (new ≡ record old { held = at_number range (with_spare spare) old.held })

    -- the range's tally drew the stroke of a command that changed nothing; all else is as before
    pub record IsTold (marked : Marked T) (command : Command) (now : ℕ) (old new : ServerView D T) : Type 0 where
      pub tally : Option T
      pub is : new ≡ record old { held = at_number marked.range.id (with_tally tally) old.held }
      pub drew : DrewOne is_drawn is_ready are_kin (record { command = command; tick = None }) now marked.range.tally tally

    -- each image spells what is held, or that with this change
    abbrev pub StepImages : Watch D → Type 0 → ServerView D T → ServerView D T → RangeChange → Type 0
    StepImages w honest old new step =
        honest → Extends w (Spells old.store.kind old.store.number) (StandsWith sense old.held step) (area_a old.store) (area_b old.store) (area_a new.store) (area_b new.store)

    -- a change was made, on the disks and in memory
    pub record IsMade (w : Watch D) (honest : Type 0) (marked : Marked T) (command : Command) (now tick : ℕ) (old new : ServerView D T) : Type 0 where
      pub step : RangeChange
      pub asked : IsChangeOf marked command now tick step
      pub spare : ℕ
      pub done : IsDone sense (at_number marked.range.id (with_spare spare) old.held) step new.held
      pub clear : new.doubt ≡ None
      pub running : new.failed ≡ false
      pub images : StepImages w honest old new step

    -- a change is in doubt, and what was held is held still
    pub record IsDoubted (w : Watch D) (honest : Type 0) (marked : Marked T) (command : Command) (now tick : ℕ) (old new : ServerView D T) : Type 0 where
      pub step : RangeChange
      pub asked : IsChangeOf marked command now tick step
      pub spare : ℕ
      pub held : new.held ≡ at_number marked.range.id (with_spare spare) old.held
      pub doubt : new.doubt ≡ Some step
      pub failed : new.failed ≡ true
      pub images : StepImages w honest old new step

    -- what a command leaves of a server that runs, where this range is for it: a stroke is drawn, or a change is made, or it
    -- is in doubt, or no memory was found
    abbrev pub Replies : Watch D → Type 0 → Marked T → Command → ℕ → ServerView D T → ServerView D T → Result Reply ActRefused → Option ℕ → Type 0
    Replies w honest marked command now old new (Ok reply) None = ((range_outcome marked.range command now).answer ≡ Ok reply) × IsTold marked command now old new
    Replies w honest marked command now old new (Ok reply) (Some tick) = ((range_outcome marked.range command now).answer ≡ Ok reply) × IsMade w honest marked command now tick old new
    Replies w honest marked command now old new (Err refused.TimeSpent) tick = ((range_outcome marked.range command now).answer ≡ Err denied.TimeSpent) × IsTold marked command now old new
    Replies w honest marked command now old new (Err (refused.Op why)) tick = ((range_outcome marked.range command now).answer ≡ Err (denied.Op why)) × IsTold marked command now old new
    Replies w honest marked command now old new (Err refused.NotFound) tick = ((range_outcome marked.range command now).answer ≡ Err denied.NotFound) × IsTold marked command now old new
    Replies w honest marked command now old new (Err (refused.DiskFault area)) (Some tick) = IsDoubted w honest marked command now tick old new
    Replies w honest marked command now old new (Err refused.Memory) tick = IsStill marked.range.id old new
    Replies w honest marked command now old new (Err _) tick = ⊥

    -- a refusal of the settling is passed on; else the range that is for the command answers it as it is then
    abbrev pub AnswersAfter : Watch D → Type 0 → (D → ℕ) → Command → ℕ → ServerView D T → ServerView D T → Result ⊤ ActRefused → Result Reply ActRefused → Type 0
    AnswersAfter w honest faults command now mid new (Err why) result = (result ≡ Err why) × (new ≡ mid)
    AnswersAfter w honest faults command now mid new (Ok x) result =
        (marked : Marked T) × (range_for mid.held (command_key command) ≡ Some marked)
        × Replies w honest marked command now mid new result ((range_outcome marked.range command now).tick)
        × ServerCauses faults mid new result

    -- a server was settled, and then answered
    pub record Answers (w : Watch D) (honest : Type 0) (faults : D → ℕ) (command : Command) (now : ℕ) (old new : ServerView D T) (result : Result Reply ActRefused) : Type 0 where
      pub mid : ServerView D T
      pub settled : Result ⊤ ActRefused
      pub first : Settles w honest faults old mid settled
      pub answered : AnswersAfter w honest faults command now mid new settled result

    -- it is sealed, and all is as before; or it answers
    abbrev pub ActsUnlessSealed : Watch D → Type 0 → (D → ℕ) → Command → ℕ → ServerView D T → ServerView D T → Result Reply ActRefused → Marked T → Bool → Type 0
    ActsUnlessSealed w honest faults command now old new result marked true = (result ≡ Err (refused.Sealed marked.range.id)) × (new ≡ old)
    ActsUnlessSealed w honest faults command now old new result marked false = Answers w honest faults command now old new result

    -- by the range that is for the command: none is there, or it is sealed, and all is as before; or it answers
    abbrev pub ActsAt : Watch D → Type 0 → (D → ℕ) → Command → ℕ → ServerView D T → ServerView D T → Result Reply ActRefused → Option (Marked T) → Type 0
    ActsAt w honest faults command now old new result None = (result ≡ Err refused.NotHeld) × (new ≡ old)
    ActsAt w honest faults command now old new result (Some marked) = ActsUnlessSealed w honest faults command now old new result marked (is_sealed marked.mark)

    -- what a command leaves; before all else no memory may be found, and then all is as before
    abbrev pub Acts : Watch D → Type 0 → (D → ℕ) → Command → ℕ → ServerView D T → ServerView D T → Result Reply ActRefused → Type 0
    Acts w honest faults command now old new result =
        ((result ≡ Err refused.Memory) × (new ≡ old)) ⊎ ActsAt w honest faults command now old new result (range_for old.held (command_key command))

    -- the tally of the range that is for the command is ready for its stroke, and for that of a change in doubt before it
    abbrev pub IsReadyToAct : ServerView D T → Command → Type 0
    IsReadyToAct server command =
        (marked : Marked T) (tally : T) → range_for server.held (command_key command) ≡ Some marked → marked.range.tally ≡ Some tally
        → is_ready tally 1 × (IsTrue (is_in_doubt server.doubt marked.range.id) → is_ready tally 2)

    -- ---- a checkpoint

    -- what is held is held still; the store was rewritten, with the next epoch, or a disk failed; or no memory was found, or the last epoch
    -- is reached, and all is as before
    abbrev pub Rewrites : Watch D → Type 0 → ServerView D T → ServerView D T → Result ⊤ ActRefused → Type 0
    Rewrites w honest old new (Ok x) =
        (new.held ≡ old.held) × (new.doubt ≡ None) × (new.failed ≡ false) × (honest → IsRewritten w sense new) × (new.store.epoch ≡ old.store.epoch + 1) × (old.store.epoch ≢ 2 ^ 64 - 1)
    Rewrites w honest old new (Err (refused.DiskFault area)) = (new.held ≡ old.held) × (new.doubt ≡ old.doubt) × (new.failed ≡ true) × (old.store.epoch ≢ 2 ^ 64 - 1)
    Rewrites w honest old new (Err refused.EpochSpent) = (new ≡ old) × (old.store.epoch ≡ 2 ^ 64 - 1)
    Rewrites w honest old new (Err refused.Memory) = new ≡ old
    Rewrites w honest old new (Err _) = ⊥

    abbrev pub RewritesAfter : Watch D → Type 0 → (D → ℕ) → ServerView D T → ServerView D T → Result ⊤ ActRefused → Result ⊤ ActRefused → Type 0
    RewritesAfter w honest faults mid new (Err why) result = (result ≡ Err why) × (new ≡ mid)
    RewritesAfter w honest faults mid new (Ok x) result =
        Rewrites w honest mid new result
        × (honest → Since w (Spells mid.store.kind mid.store.number) (StandsFor sense mid.held) (w.moment (area_a mid.store)) (w.moment (area_b mid.store)) (area_a new.store) (area_b new.store))
        × ServerCauses faults mid new result

    -- a server was settled, and then its store was rewritten to what is held
    pub record ChecksPoint (w : Watch D) (honest : Type 0) (faults : D → ℕ) (old new : ServerView D T) (result : Result ⊤ ActRefused) : Type 0 where
      pub mid : ServerView D T
      pub settled : Result ⊤ ActRefused
      pub first : Settles w honest faults old mid settled
      pub rewritten : RewritesAfter w honest faults mid new settled result
