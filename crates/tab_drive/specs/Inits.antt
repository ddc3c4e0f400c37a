-- The command `init`: how it ends, and why.
use Rattle.std.specs.Prelude.{◌≡◌, ℕ, ◌≤◌, List, [], ◌∷◌, ◌++◌, codes, decimal, Option, Some, None, ⊤}
use Rattle.tab_outside.specs.Disks.{Watch}
use Rattle.tab_history.specs.declared.entries.Entry.{Entry}
use Rattle.tab_core.specs.Making.{IsFirstFilled, RoseAt}
use Rattle.tab_core.specs.declared.cores.InitRefused.{InitRefused}
use Rattle.tab_core.specs.declared.cores.InitRefused.TheVariants.{NotEmpty, DiskFault, Memory}
use Rattle.tab_drive.specs.Runs.{Traffic, memory_line}
use Rattle.tab_drive.specs.Commands.{SaidOnly}

-- its exit status, where it made a store and where it was refused
abbrev pub init_status : Option InitRefused → ℕ
init_status None = 0
init_status (Some (NotEmpty disk)) = 8
init_status (Some (DiskFault disk)) = 5
init_status (Some Memory) = 7

-- a line about a disk
abbrev pub disk_line : ℕ → List ℕ → List ℕ
disk_line disk what = codes "disk " ++ decimal disk ++ what

-- its last line
abbrev pub init_line : Option InitRefused → List ℕ
init_line None = []
init_line (Some (NotEmpty disk)) = disk_line disk (codes " is not empty\n")
init_line (Some (DiskFault disk)) = disk_line disk (codes " fault\n")
init_line (Some Memory) = memory_line

-- The first disk that is not empty is the cause, or one whose count of faults rose, and none before that one has bytes. Where a
-- kind of disks does not tell its content, nothing is said of bytes.
abbrev pub IsInitCause : {D : Type 0} → Type 0 → Watch D → (D → ℕ) → List D → List D → Option InitRefused → Type 0
IsInitCause tells w faults old new (Some (NotEmpty disk)) = tells → IsFirstFilled w old disk
IsInitCause tells w faults old new (Some (DiskFault disk)) = RoseAt faults old new disk × (tells → (k : ℕ) → IsFirstFilled w old k → disk ≤ k)
IsInitCause tells w faults old new _ = ⊤

-- `init` ended so, by its cause: it read nothing, and wrote no more than its last line
pub record Inits {D : Type 0} (tells : Type 0) (w : Watch D) (faults : D → ℕ) (old new : List D)
    (traffic : Traffic) (faults_before faults_now status : ℕ) (history : List Entry) (done : ℕ) : Type 0 where
  pub refused : Option InitRefused
  pub cause : IsInitCause tells w faults old new refused
  pub status_is : status ≡ init_status refused
  pub said : SaidOnly traffic faults_before faults_now (init_line refused) history done
