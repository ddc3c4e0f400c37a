-- The entry that a step of a history keeps.
use Rattle.tab_history.specs.declared.entries.Entry.{Entry}
use Rattle.tab_history.specs.declared.entries.Entry.TheVariants as entry
use Rattle.tab_history.specs.declared.histories.Step.{Step}
use Rattle.tab_history.specs.declared.histories.Step.TheVariants.{Resolve, Change, Other}

abbrev pub entry_of : Step → Entry
entry_of (Resolve ask name table) = entry.Resolve ask name table
entry_of (Change ask now table group result) = entry.Change ask now table group result
entry_of (Other kept) = kept.value
