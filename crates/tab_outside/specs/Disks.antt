-- What a disk is: what a read gives, and what a crash may leave, at this moment and at earlier ones.
use Rattle.std.specs.Prelude.{◌≡◌, ℕ, zero, suc, ◌+◌, ◌-◌, ◌≤◌, ◌⊎◌, min, max, List, [], ◌∷◌, ◌++◌, length, take, drop, replicate}

-- the bytes with the piece from an offset on; where they ended before it, zeros lie between
abbrev pub spliced : List ℕ → ℕ → List ℕ → List ℕ
spliced bytes at piece = take at bytes ++ replicate (at - length bytes) 0 ++ piece ++ drop (at + length piece) bytes

-- the bytes after a write: an empty piece changes nothing, also past the end
abbrev pub overwritten : List ℕ → ℕ → List ℕ → List ℕ
overwritten bytes at [] = bytes
overwritten bytes at (byte ∷ rest) = spliced bytes at (byte ∷ rest)

-- how long a disk is at the least after a write of n bytes at an offset
abbrev pub write_end : ℕ → ℕ → ℕ
write_end at zero = 0
write_end at (suc n) = at + suc n

-- after a write of n bytes that failed, or that a crash cut short: any bytes in the range and past the old end, the
-- same elsewhere
pub record Torn (at n : ℕ) (old new : List ℕ) : Type 0 where
  pub before : take (min at (length old)) new ≡ take (min at (length old)) old
  pub after : drop (at + n) new ≡ drop (at + n) old
  pub no_shorter : length old ≤ length new
  pub no_longer : length new ≤ max (length old) (write_end at n)

-- what contracts see of a kind of disks: what a read gives; what a crash now may leave; a number that counts moments;
-- what a crash at some moment since might have left
pub record Watch (D : Type 0) : Type 1 where
  pub seen : D → List ℕ
  pub may_leave : D → List ℕ → Type 0
  pub moment : D → ℕ
  pub left_since : D → ℕ → List ℕ → Type 0

-- a crash leaves just this
abbrev pub LeavesOnly : {D : Type 0} → Watch D → D → List ℕ → Type 0
LeavesOnly w disk bytes = (c : List ℕ) → w.may_leave disk c → c ≡ bytes

-- time goes on: a crash since an earlier moment might have left what it might have left before, or what one now may
pub record Elapses {D : Type 0} (w : Watch D) (old new : D) : Type 0 where
  pub later : w.moment old ≤ w.moment new
  pub nothing_else : (t : ℕ) (c : List ℕ) → t ≤ w.moment old → w.left_since new t c → w.left_since old t c ⊎ w.may_leave new c
  pub keeps : (t : ℕ) (c : List ℕ) → t ≤ w.moment old → w.left_since old t c → w.left_since new t c

-- a call that writes nothing: what a read gives stays, and a crash leaves nothing that it could not leave before
pub record Rests {D : Type 0} (w : Watch D) (old new : D) : Type 0 where
  pub same : w.seen new ≡ w.seen old
  pub crash : (c : List ℕ) → w.may_leave new c → w.may_leave old c
  pub time : Elapses w old new

-- an image of a crash before the write, of which that one is torn
pub record WasTorn {D : Type 0} (w : Watch D) (at n : ℕ) (old : D) (c : List ℕ) : Type 0 where
  pub before : List ℕ
  pub left : w.may_leave old before
  pub torn : Torn at n before c

-- a write of n bytes, whether it failed or not, puts its range and the part past the old end in doubt and nothing else
pub record Wrote {D : Type 0} (w : Watch D) (at n : ℕ) (old new : D) : Type 0 where
  pub range : Torn at n (w.seen old) (w.seen new)
  pub crash : (c : List ℕ) → w.may_leave new c → WasTorn w at n old c
  pub time : Elapses w old new

-- what is known of any watch: a crash now counts as one since an earlier moment, one since now is one now, and a read gives
-- one of the images
abbrev pub CountsNow : {D : Type 0} → Watch D → Type 0
CountsNow w = (disk : _) (t : ℕ) (c : List ℕ) → t ≤ w.moment disk → w.may_leave disk c → w.left_since disk t c

abbrev pub OnlyNow : {D : Type 0} → Watch D → Type 0
OnlyNow w = (disk : _) (c : List ℕ) → w.left_since disk (w.moment disk) c → w.may_leave disk c

abbrev pub ReadsImage : {D : Type 0} → Watch D → Type 0
ReadsImage w = (disk : _) → w.may_leave disk (w.seen disk)
