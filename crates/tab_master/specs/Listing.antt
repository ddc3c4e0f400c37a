-- Tables in the order in which frames told of them.
use Rattle.std.specs.Prelude.{◌+◌, [], ◌∷◌, ◌++◌, map, Option, None, Some}
use Rattle.tab_codec.specs.declared.frames.Frame.{Frame}
use Rattle.tab_codec.specs.declared.frames.Frame.TheVariants as frames
use Rattle.tab_journal.specs.declared.fitting.Told.{Told}
use Rattle.tab_journal.specs.declared.fitting.Told.TheVariants as told
use Rattle.tab_master.specs.Spelled.{SpelledNames, named, without_table}

-- what a frame more makes of them, by its kind
abbrev pub listing_after : Option SpelledNames → Frame → Option SpelledNames
listing_after None (frames.Names next_table names) = Some (record { next_table = next_table; names = map named names })
listing_after (Some told) (frames.Names next_table names) = Some (record { next_table = told.next_table; names = told.names ++ map named names })
listing_after (Some told) (frames.Create table name) = Some (record { next_table = table + 1; names = told.names ++ record { spelling = name; table = table } ∷ [] })
listing_after (Some told) (frames.Drop table) = Some (record { next_table = told.next_table; names = without_table told.names table })
listing_after told frame = told

-- what the frames of the names told, as they told it
abbrev pub listing_of : Told → Option SpelledNames
listing_of (told.Names (Some held)) = Some (record { next_table = held.next_table; names = map named held.names })
listing_of _ = None
