-- A store that was just made keeps what every course keeps.
use Rattle.std.proofs.Common.{ℕ, ◌<◌, ◌≤◌, [], refl, inl, arith, All}
use Rattle.std.proofs.lemmas.List.Elements.{All-cons, All-nil}
use Rattle.tab_history.specs.World.{IsWorld, floor_of}
use Rattle.tab_history.specs.Configurations.{next_tick_of, MapRow}
use Rattle.tab_history.specs.Ranges.{IsNextTickIn}
use Rattle.tab_core.specs.Courses.{IsCourse, IsConfiguration, IsMap, first_state, first_world, first_config, first_course, first_row}

pub is_world : IsWorld first_world
is_world = record {
  names_rise = λ i j d less within. absurd (omega (arith, within));
  numbers_differ = λ i j d less within. absurd (omega (arith, within));
  names_below = λ k d within. absurd (omega (arith, within));
  rows_rise = λ i j d less within. absurd (omega (arith, within));
  rows_below = λ k d within. absurd (omega (arith, within));
  ticks_below = λ k d within. absurd (omega (arith, within));
}

one : (P : MapRow → Type 0) → P first_row → All P first_config.rows
one P holds = All-cons P first_row [] holds (All-nil P)

is_map : (servers : ℕ) → 1 ≤ servers → IsMap servers first_config
is_map servers least = record {
  tiles = (refl, refl, refl);
  differ = λ i j d less within. absurd (omega (arith, less, within));
  given = one (λ row. row.range < 2) (omega arith);
  kept = omega arith;
  servers_are = one (λ row. row.server < servers) (omega (arith, least));
}

is_next : IsNextTickIn first_world.floors first_row.span (next_tick_of first_config.next_ticks 1)
unfolding floor_of next_tick_of
is_next = record { above = λ key inside. omega arith; reached = inl refl }

is_configuration : (servers : ℕ) → 1 ≤ servers → IsConfiguration servers first_state first_config
is_configuration servers least = record {
  map = is_map servers least;
  ticks = one (λ row. IsNextTickIn first_world.floors row.span (next_tick_of first_config.next_ticks row.range)) is_next;
  ticks_next = λ k d within. absurd (omega (arith, within));
  stores_differ = λ i j d less within. absurd (omega (arith, within));
}

pub is_course : (servers : ℕ) → 1 ≤ servers → IsCourse servers first_course
is_course servers least = record {
  world = is_world;
  doubts = record { acceptable = λ k d within. absurd (omega (arith, within)); apart = λ i j d less within. absurd (omega (arith, within)) };
  tables = (λ k d within. absurd (omega (arith, within)), λ k d within. absurd (omega (arith, within)));
  groups = λ k d within. absurd (omega (arith, within));
  asks_differ = λ i j d less within. absurd (omega (arith, within));
  config = is_configuration servers least;
  pending_differ = λ i j d less within. absurd (omega (arith, less, within));
}
