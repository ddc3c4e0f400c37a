-- A disk in memory: the log of its calls, what they leave for a read and for a crash, and its four pictures.
use Rattle.std.specs.Prelude.{◌≡◌, ℕ, ◌%◌, ◌==◌, ◌-◌, ◌+◌, ◌<◌, ◌≤◌, ◌⊎◌, List, [], ◌∷◌, ◌++◌, length, take, drop, map, replicate, cond}
use Rattle.tab_outside.specs.Armed.{Armed}
use Rattle.tab_outside.specs.Calls.{Calls}
use Rattle.tab_outside.specs.Disks.{Torn, Watch, overwritten}
use Rattle.tab_outside.specs.declared.logs.Call.{Call}
use Rattle.tab_outside.specs.declared.logs.Call.TheVariants.{Write, Settle}

-- a piece at its offset
pub record Written : Type 0 where
  pub at : ℕ
  pub piece : List ℕ

-- a write, also one that was stopped in; or a restart into a picture. A sync counts as the restart in which every write
-- stands
pub data Logged : Type 0 where
  wrote : Written → Logged
  settled : ℕ → Logged

-- a call of the log, without where its piece lies in memory
abbrev pub logged : Call → Logged
logged (Write at piece) = wrote (record { at = at; piece = piece.items })
logged (Settle pick) = settled pick

-- the writes of a log
abbrev pub writes_of : List Logged → List Written
writes_of [] = []
writes_of (wrote one ∷ calls) = one ∷ writes_of calls
writes_of (settled pick ∷ calls) = writes_of calls

-- the bytes after writes, the first of them first
abbrev pub written : List ℕ → List Written → List ℕ
written bytes [] = bytes
written bytes (one ∷ writes) = written (overwritten bytes one.at one.piece) writes

-- what a crash may leave of writes that no sync followed: each may be torn
abbrev pub MayLeave : List ℕ → List Written → List ℕ → Type 0
MayLeave bytes [] c = c ≡ bytes
MayLeave bytes (one ∷ writes) c = (torn : List ℕ) × Torn one.at (length one.piece) bytes torn × MayLeave torn writes c

-- a range that was written, with one byte throughout
abbrev pub filled : ℕ → Written → Written
filled byte one = record { at = one.at; piece = replicate (length one.piece) byte }

-- the byte that a restart of this kind leaves throughout each written range
abbrev pub fill_byte : ℕ → ℕ
fill_byte pick = cond (pick % 4 == 2) 0xa5 0x01

-- what each written range holds after it: at 1 what was written, at 2 the byte a5 throughout, at 3 the byte 01
abbrev pub painted : ℕ → Written → Written
painted pick one = cond (pick % 4 == 1) one (filled (fill_byte pick) one)

-- the picture of a restart: at 0 no write since the last sync stands, otherwise each range written since is painted
abbrev pub picture : ℕ → List ℕ → List Written → List ℕ
picture pick bytes writes = cond (pick % 4 == 0) bytes (written bytes (map (painted pick) writes))

-- the bytes as the last sync or restart left them, and the writes since
pub record Synced : Type 0 where
  pub bytes : List ℕ
  pub since : List Written

-- an empty disk
abbrev pub empty_disk : Synced
empty_disk = record { bytes = []; since = [] }

-- after one more call
abbrev pub after_logged : Synced → Logged → Synced
after_logged disk (wrote one) = record { bytes = disk.bytes; since = disk.since ++ one ∷ [] }
after_logged disk (settled pick) = record { bytes = picture pick disk.bytes disk.since; since = [] }

-- after several
abbrev pub after_log : Synced → List Logged → Synced
after_log disk [] = disk
after_log disk (call ∷ calls) = after_log (after_logged disk call) calls

-- what a read gives
abbrev pub bytes_of : List Logged → List ℕ
bytes_of log = let disk = after_log empty_disk log in written disk.bytes disk.since

-- what a crash now may leave
abbrev pub LogLeaves : List Logged → List ℕ → Type 0
LogLeaves log = let disk = after_log empty_disk log in MayLeave disk.bytes disk.since

-- what a crash might have left when the log had t calls, or at a later moment
pub record LogLeft (log : List Logged) (t : ℕ) (c : List ℕ) : Type 0 where
  pub calls : ℕ
  pub since : t ≤ calls
  pub within : calls ≤ length log
  pub left : LogLeaves (take calls log) c

-- the picture that a restart gives
abbrev pub picture_of : ℕ → List Logged → List ℕ
picture_of pick log = let disk = after_log empty_disk log in picture pick disk.bytes disk.since

-- the writes since the last sync are settled by a restart of this kind, and what a read gives is all that a crash leaves;
-- where there are none, nothing changes
pub record Settles (pick : ℕ) (old new : List Logged) : Type 0 where
  pub one_more : (new ≡ old) ⊎ (new ≡ old ++ settled pick ∷ [])
  pub now : after_log empty_disk new ≡ record { bytes = picture_of pick old; since = [] }

-- bytes with nothing but zeros behind them
pub record IsPadded (bytes padded : List ℕ) : Type 0 where
  pub size : length bytes ≤ length padded
  pub is : padded ≡ bytes ++ replicate (length padded - length bytes) 0

-- a write lies within so many bytes
abbrev pub FitsIn : ℕ → Written → Type 0
FitsIn size one = 0 < length one.piece → one.at + length one.piece ≤ size

-- what is kept of a log: the bytes that a read gives; the bytes of the last sync, how many they are, and zeros behind them
-- for writes to come; and how many calls stand before the writes that no sync followed
pub record KeepsLog (log : List Logged) (bytes padded : List ℕ) (kept before : ℕ) : Type 0 where
  pub read : bytes ≡ bytes_of log
  pub settled : IsPadded (after_log empty_disk log).bytes padded
  pub kept_is : kept ≡ length (after_log empty_disk log).bytes
  pub since : (after_log empty_disk log).since ≡ writes_of (drop before log)
  pub within : before ≤ length log
  pub room : length bytes ≤ length padded

-- a disk in memory: its log, its calls and what waits for them
pub record InLog : Type 0 where
  pub log : List Logged
  pub calls : Calls
  pub armed : Armed

-- what is seen of it
abbrev pub log_watch : Watch InLog
log_watch = record { seen = λ disk. bytes_of disk.log; may_leave = λ disk. LogLeaves disk.log; moment = λ disk. length disk.log; left_since = λ disk. LogLeft disk.log }
