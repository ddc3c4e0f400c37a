-- What a call does to one disk: which images of a crash it adds.
use Rattle.std.specs.Prelude.{◌≡◌, ℕ, ◌+◌, ◌<◌, ◌≤◌, ◌^◌, ◌⊎◌, List, [], ◌∷◌, ◌++◌, length}
use Rattle.tab_outside.specs.Disks.{Watch, LeavesOnly}
use Rattle.tab_journal.specs.Areas.{ShutAt, IsClosed}

-- each image of a crash now has P
abbrev pub EachNow : {D : Type 0} → Watch D → (List ℕ → Type 0) → D → Type 0
EachNow w P disk = (c : List ℕ) → w.may_leave disk c → P c

-- each image of a crash since whatever earlier moment was there before the call, or has P
pub record Adds {D : Type 0} (w : Watch D) (P : List ℕ → Type 0) (old new : D) : Type 0 where
  pub later : w.moment old ≤ w.moment new
  pub each : (t : ℕ) → t ≤ w.moment old → (c : List ℕ) → w.left_since new t c → w.left_since old t c ⊎ P c

-- a disk has bytes and then a gate that is not open, and a crash leaves just that
pub record IsShutOn {D : Type 0} (w : Watch D) (before : List ℕ) (disk : D) : Type 0 where
  pub shut : ShutAt before (w.seen disk)
  pub durable : LeavesOnly w disk (w.seen disk)

-- a frame may be appended: its spelling, with a closed gate behind, goes behind the gate that stands at this end
pub record MayAppend {D : Type 0} (w : Watch D) (disk : D) (end : ℕ) (piece before spelled : List ℕ) : Type 0 where
  pub stands : end ≡ length before
  pub within : end + 1 < 2 ^ 64
  pub shut : IsShutOn w before disk
  pub ends : piece ≡ spelled ++ 0 ∷ []

-- the bytes end with the gate, or with the frame and the gate behind it
abbrev pub IsEitherShut : List ℕ → List ℕ → List ℕ → Type 0
IsEitherShut before spelled area = ShutAt before area ⊎ ShutAt (before ++ 1 ∷ spelled) area

-- an area that is being built: each image is closed, and behind its gate stand these bytes
pub record IsBuilt {D : Type 0} (w : Watch D) (built : List ℕ) (disk : D) : Type 0 where
  pub closed : EachNow w IsClosed disk
  pub gate : ℕ
  pub rest : List ℕ
  pub is : w.seen disk ≡ gate ∷ (built ++ rest)

-- an area is closed, or it is as it was
abbrev pub IsClosedOr : List ℕ → List ℕ → Type 0
IsClosedOr bytes area = IsClosed area ⊎ (area ≡ bytes)
