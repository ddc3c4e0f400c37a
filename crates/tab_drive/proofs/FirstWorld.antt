-- What every history over the first world gives.
use Rattle.std.proofs.Common.{◌≡◌, List, [], sym, subst, arith}
use Rattle.tab_history.specs.Kept.{IsBelow, HasTablesBelow}
use Rattle.tab_history.specs.Legality.{Legal}
use Rattle.tab_history.specs.Followed.{FollowedWell, FollowedStill}
use Rattle.tab_history.specs.Ticks.{TicksRise, TicksTellRows}
use Rattle.tab_history.specs.Numbers.{NumbersRise, MadeNew, DropsHide}
use Rattle.tab_history.specs.declared.entries.Entry.{Entry}
use Rattle.tab_history.proofs.DoubtLaws.{no_doubts, none_open}
use Rattle.tab_history.proofs.FollowedLaws.{followed_well}
use Rattle.tab_history.proofs.StillLaws.{followed_still}
use Rattle.tab_history.proofs.TickLaws.{ticks_rise, ticks_tell_rows}
use Rattle.tab_history.proofs.NumberLaws.{numbers_rise, made_new, drops_hide}
use Rattle.tab_core.specs.Courses.{first_state}
use Rattle.tab_core.proofs.FirstCourse.{is_world}

tables_below : HasTablesBelow first_state
tables_below = (λ k d within. absurd (omega (arith, within)), no_doubts (IsBelow 1))

pub gives_followed : (history : List Entry) → Legal first_state history → FollowedWell first_state history
gives_followed history legal = followed_well first_state history is_world legal

-- a history without entries is one
pub none_legal : (history : List Entry) → history ≡ [] → Legal first_state history
none_legal history none = subst (λ (h : List Entry). Legal first_state h) (sym none) (record { doubts = none_open first_state.world; steps = tt })

pub gives_still : (history : List Entry) → Legal first_state history → FollowedStill first_state history
gives_still history legal = followed_still first_state history is_world legal

pub tells_rows : (history : List Entry) → Legal first_state history → TicksTellRows first_state history
tells_rows history legal = ticks_tell_rows first_state history is_world legal

pub rises : (history : List Entry) → Legal first_state history → TicksRise first_state history
rises history legal = ticks_rise first_state history legal

pub numbers : (history : List Entry) → Legal first_state history → NumbersRise first_state history
numbers history legal = numbers_rise first_state history legal

pub made : (history : List Entry) → Legal first_state history → MadeNew first_state history
made history legal = made_new first_state history is_world tables_below legal

pub hides : (history : List Entry) → Legal first_state history → DropsHide first_state history
hides history legal = drops_hide first_state history is_world tables_below legal
