-- A disk in memory is a disk: what its log may leave.
use Rattle.std.proofs.Common.{◌≡◌, ℕ, ◌+◌, ◌-◌, ◌≤◌, min, max, true, false, List, [], ◌∷◌, ◌++◌, length, take, drop, replicate, refl, sym, ap, subst, ◌∙◌, arith}
use Rattle.std.proofs.lemmas.List.{length-append, length-take, length-drop, length-replicate, take-append-le, take-take, take_all, drop_at, append_assoc}
use Rattle.tab_outside.specs.Disks.{Torn, spliced, overwritten}
use Rattle.tab_outside.specs.Logs.{Written, Logged, written, MayLeave, LogLeaves, LogLeft, bytes_of, after_log, empty_disk}

-- a write that changed nothing
pub torn_same : (at n : ℕ) (bytes : List ℕ) → Torn at n bytes bytes
torn_same at n bytes = record { before = refl; after = refl; no_shorter = omega arith; no_longer = omega arith }

-- how long the bytes are after a write
pub spliced_length : (bytes piece : List ℕ) (at : ℕ) → length (spliced bytes at piece) ≡ max (length bytes) (at + length piece)
spliced_length bytes piece at =
    let end : ℕ = at + length piece in
    let gap : List ℕ = replicate (at - length bytes) 0 in
    omega (
      arith,
      length-append (take at bytes ++ gap ++ piece) (drop end bytes),
      length-append (take at bytes ++ gap) piece,
      length-append (take at bytes) gap,
      length-take at bytes,
      length-replicate {A = ℕ} (at - length bytes) 0,
      length-drop end bytes,
    )

front_length : (bytes piece : List ℕ) (at : ℕ) → length (take at bytes ++ replicate (at - length bytes) 0 ++ piece) ≡ at + length piece
front_length bytes piece at =
    let gap : List ℕ = replicate (at - length bytes) 0 in
    omega (arith, length-append (take at bytes ++ gap) piece, length-append (take at bytes) gap, length-take at bytes, length-replicate {A = ℕ} (at - length bytes) 0)

spliced_before : (bytes tail : List ℕ) (at : ℕ) → take (min at (length bytes)) (take at bytes ++ tail) ≡ take (min at (length bytes)) bytes
spliced_before bytes tail at =
    take-append-le (min at (length bytes)) (take at bytes) tail (omega (arith, length-take at bytes)) ∙ take-take (min at (length bytes)) at bytes (omega arith)

-- a whole write is a torn one
pub torn_overwritten : (at : ℕ) (piece bytes : List ℕ) → Torn at (length piece) bytes (overwritten bytes at piece)
torn_overwritten at [] bytes = torn_same at 0 bytes
torn_overwritten at (byte ∷ rest) bytes =
    let piece : List ℕ = byte ∷ rest in
    let end : ℕ = at + length piece in
    let gap : List ℕ = replicate (at - length bytes) 0 in
    record {
      before = ap (take (min at (length bytes))) (append_assoc (take at bytes ++ gap) piece (drop end bytes) ∙ append_assoc (take at bytes) gap (piece ++ drop end bytes))
          ∙ spliced_before bytes (gap ++ (piece ++ drop end bytes)) at;
      after = drop_at (take at bytes ++ gap ++ piece) (drop end bytes) end (front_length bytes piece at);
      no_shorter = omega (arith, spliced_length bytes piece at);
      no_longer = omega (arith, spliced_length bytes piece at);
    }

-- of writes that no sync followed a crash may leave none or all
pub leaves_none : (bytes : List ℕ) (writes : List Written) → MayLeave bytes writes bytes
leaves_none bytes [] = refl
leaves_none bytes (one ∷ writes) = (bytes, torn_same one.at (length one.piece) bytes, leaves_none bytes writes)

pub leaves_all : (bytes : List ℕ) (writes : List Written) → MayLeave bytes writes (written bytes writes)
leaves_all bytes [] = refl
leaves_all bytes (one ∷ writes) =
    (overwritten bytes one.at one.piece, torn_overwritten one.at one.piece bytes, leaves_all (overwritten bytes one.at one.piece) writes)

pub reads_image : (log : List Logged) → LogLeaves log (bytes_of log)
reads_image log = let disk = after_log empty_disk log in leaves_all disk.bytes disk.since

pub counts_now : (log : List Logged) (t : ℕ) (c : List ℕ) → t ≤ length log → LogLeaves log c → LogLeft log t c
counts_now log t c earlier left = record {
  calls = length log;
  since = earlier;
  within = omega arith;
  left = subst (λ (calls : List Logged). LogLeaves calls c) (sym (take_all (length log) log (omega arith))) left;
}

pub only_now : (log : List Logged) (c : List ℕ) → LogLeft log (length log) c → LogLeaves log c
only_now log c was = subst (λ (calls : List Logged). LogLeaves calls c) (take_all was.calls log was.since) was.left

-- a disk in memory has stops
pub never_stopless : {A : Type 0} → true ≡ false → A
never_stopless none = absurd (let no : ⊥ = cc in no)
