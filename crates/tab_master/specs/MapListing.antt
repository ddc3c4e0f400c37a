-- A map in the order in which frames told of it.
use Rattle.std.specs.Prelude.{ℕ, List, [], ◌∷◌, Option, None}
use Rattle.tab_codec.specs.declared.frames.Frame.{Frame}
use Rattle.tab_journal.specs.Told.{MapTold, map_after}
use Rattle.tab_master.specs.Spelled.{next_plan_after, next_plan_by}

-- the rows, once a first frame told of them, and the number of the next plan
pub record MapListed : Type 0 where
  pub held : Option MapTold
  pub next_plan : ℕ

abbrev pub map_listed_after : MapListed → Frame → MapListed
map_listed_after listed frame = record { held = map_after listed.held frame; next_plan = next_plan_after listed.next_plan frame }

unfoldable pub map_after_all : Option MapTold → List Frame → Option MapTold
map_after_all held [] = held
map_after_all held (frame ∷ frames) = map_after_all (map_after held frame) frames

-- what frames told of the map
abbrev pub map_listed : List Frame → MapListed
map_listed frames = record { held = map_after_all None frames; next_plan = next_plan_by 0 frames }
