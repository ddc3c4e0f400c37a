-- What something kept ends as, where a `&mut` to what it holds is returned.
use Rattle.std.specs.Borrow.{Lends, Fml, RattleType, MutBor}
use Rattle.tab_journal.specs.Keeping.{KeptView}
use Rattle.tab_journal.specs.declared.contents.Content as content
use Rattle.tab_journal.specs.contracts.kept.Kept.{the_row}

-- once the borrow r ends, what is held is what was left behind it, and the rest is as it was
abbrev pub lends_held : (D C S : RattleType) → content.Ghosts C.Denot S.Denot → MutBor (KeptView D.Denot C.Denot S.Denot) → MutBor C.Denot → Fml
lends_held D C S ghosts kept r = Lends (the_row D C S ghosts) C kept r (λ held. record kept.now { held = held })
