-- Disks of which contracts see nothing.
use Rattle.std.specs.Prelude.{ℕ, List, []}
use Rattle.tab_outside.specs.Disks.{Watch}

-- what is seen of disks that tell nothing
abbrev pub untold : {D : Type 0} → Watch D
untold = record { seen = λ disk. []; may_leave = λ disk c. ⊥; moment = λ disk. 0; left_since = λ disk t c. ⊥ }
