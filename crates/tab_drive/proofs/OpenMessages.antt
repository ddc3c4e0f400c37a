-- Bytes that hold no whole message of a size with the line feed behind it.
use Rattle.std.proofs.Common.{◌≡◌, ◌≢◌, ℕ, ◌≤◌, false, List, [], ◌∷◌, ◌++◌, length, length-append, get_or, drop, Option, None, Some, ap, sym, subst, ◌∙◌, arith, append_assoc}
use Rattle.std.specs.Option.{option_eq}
use Rattle.std.specs.Io.KnownBytes.{Consumes}
use Rattle.std.proofs.KnownBytes.{Consumes-kept, Consumes-trans}
use Rattle.std.proofs.lemmas.Bool.Decides.{Decides-eqb}
use lib.Dec.{eqb}
use Rattle.tab_outside.specs.Transfers.{Moved, ReadsByte}
use Rattle.tab_drive.specs.Schedule.{line_feed}
use Rattle.tab_drive.specs.Reading.{HasNoMessage, IfTold, IsOpenMessage, Took}
use Rattle.tab_drive.proofs.Told.{told_all, told_front}

-- they are too few
pub no_message_short : (size : ℕ) (bytes : List ℕ) → length bytes ≤ size → HasNoMessage size bytes
no_message_short size bytes short message rest sized is = omega (arith, ap length is, length-append message (line_feed ∷ rest))

-- or another byte stands behind the message
pub no_message_ended : (bytes more : List ℕ) (byte : ℕ) → byte ≢ line_feed → HasNoMessage (length bytes) (bytes ++ byte ∷ more)
no_message_ended [] more byte other [] rest sized is = other (ap (λ (l : List ℕ). get_or l 0 0) is)
no_message_ended [] more byte other (m ∷ message) rest sized is = omega arith
no_message_ended (b ∷ bytes) more byte other [] rest sized is = omega arith
no_message_ended (b ∷ bytes) more byte other (m ∷ message) rest sized is = no_message_ended bytes more byte other message rest (omega arith) (ap (drop 1) is)

-- what was moved behind nothing
pub moved_all : (old new : Option (List ℕ)) (there now : List ℕ) → Moved old new there now → there ≡ [] → Consumes old new now
moved_all old new there now moved none = let is : now ≡ moved.bytes = moved.behind ∙ ap (λ l. l ++ moved.bytes) none in subst (Consumes old new) (sym is) moved.consumed

other_byte : (byte : ℕ) → eqb byte line_feed ≡ false → byte ≢ line_feed
other_byte byte test is = let same = (Decides-eqb byte line_feed).1 is in cc

-- no line feed came behind the message
pub no_message_next : (old mid new : Option (List ℕ)) (bytes : List ℕ) (next : Option ℕ) → Consumes old mid bytes → ReadsByte mid new next → option_eq eqb next (Some line_feed) ≡ false
    → IfTold old (HasNoMessage (length bytes))
no_message_next old mid new bytes None consumed read test = told_all old mid new bytes _ consumed read.0 read.1 (no_message_short (length bytes) bytes (omega arith))
no_message_next old mid new bytes (Some byte) consumed read test =
    told_front old new (bytes ++ byte ∷ []) _ (Consumes-trans old mid new bytes (byte ∷ []) consumed read)
    (λ rest. rw append_assoc (no_message_ended bytes rest byte (other_byte byte test)))

pub open_message_next : (old mid new : Option (List ℕ)) (bytes : List ℕ) (next : Option ℕ) → Consumes old mid bytes → ReadsByte mid new next → option_eq eqb next (Some line_feed) ≡ false
    → Took (IsOpenMessage (length bytes)) old new
open_message_next old mid new bytes None consumed read test = record {
  bytes = bytes;
  are = record { no_message = no_message_short (length bytes) bytes (omega arith); bound = omega arith };
  consumed = Consumes-kept old mid new bytes consumed read.1;
}
open_message_next old mid new bytes (Some byte) consumed read test = record {
  bytes = bytes ++ byte ∷ [];
  are = record { no_message = no_message_ended bytes [] byte (other_byte byte test); bound = omega (arith, length-append bytes (byte ∷ [])) };
  consumed = Consumes-trans old mid new bytes (byte ∷ []) consumed read;
}
