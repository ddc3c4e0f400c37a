-- What the frames of a server stand for whose ranges draw no strokes.
use Rattle.std.specs.Prelude.{List, ⊤}
use Rattle.tab_stores.specs.declared.tallying.Unnumbered.{Unnumbered}
use Rattle.tab_journal.specs.Keeping.{Sense}
use Rattle.tab_server.specs.declared.ranges.Marked.{Marked}
use Rattle.tab_server.specs.declared.steps.RangeChange.{RangeChange}
use Rattle.tab_server.specs.Contents.{ranges_sense}

abbrev pub strokeless : Sense (List (Marked Unnumbered)) RangeChange
strokeless = ranges_sense (λ tally stroke after. ⊤) (λ tally count. ⊤) (λ tally other. ⊤)
