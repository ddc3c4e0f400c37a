-- Which frame fits those before it in a store of some kind.
use Rattle.std.specs.Prelude.{◌≡◌, ℕ, List, [], ◌∷◌, Bool, true, false, ◌&&◌, ◌==◌, None, if◌then◌else◌}
use Rattle.tab_codec.specs.declared.frames.Frame.{Frame}
use Rattle.tab_journal.specs.Told.{server_takes, server_after, map_takes, map_after, names_takes, names_after}
use Rattle.tab_journal.specs.declared.fitting.Told.{Told}
use Rattle.tab_journal.specs.declared.fitting.Told.TheVariants as told

-- the kinds of stores, as the header of an area tells them: 0 the map, 1 the names, 2 a server. There is no other kind.
unfoldable pub told_first : ℕ → Told
told_first kind = if kind == 0 then told.Map None else (if kind == 1 then told.Names None else (if kind == 2 then told.Server [] else told.Nothing))

-- the frame is one of the store's kinds, and fits those before it
unfoldable pub takes : Told → Frame → Bool
takes (told.Map held) frame = map_takes held frame
takes (told.Names held) frame = names_takes held frame
takes (told.Server ranges) frame = server_takes ranges frame
takes told.Nothing frame = false

unfoldable pub after : Told → Frame → Told
after (told.Map held) frame = told.Map (map_after held frame)
after (told.Names held) frame = told.Names (names_after held frame)
after (told.Server ranges) frame = told.Server (server_after ranges frame)
after told.Nothing frame = told.Nothing

unfoldable pub after_all : Told → List Frame → Told
after_all so_far [] = so_far
after_all so_far (frame ∷ frames) = after_all (after so_far frame) frames

-- each frame fits those before it
unfoldable pub takes_all : Told → List Frame → Bool
takes_all so_far [] = true
takes_all so_far (frame ∷ frames) = takes so_far frame && takes_all (after so_far frame) frames

-- the frames may end here: a map and names have their first frame, and a store of no kind has no end
unfoldable pub is_whole_store : Told → Bool
is_whole_store (told.Map None) = false
is_whole_store (told.Names None) = false
is_whole_store told.Nothing = false
is_whole_store so_far = true

-- what the frames of a kind told
abbrev pub told_by : ℕ → List Frame → Told
told_by kind frames = after_all (told_first kind) frames

-- the frame fits these frames of a store of this kind
abbrev pub Fits : ℕ → List Frame → Frame → Type 0
Fits kind frames frame = takes (told_by kind frames) frame ≡ true
