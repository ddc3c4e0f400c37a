-- Bytes with no line feed among them.
use Rattle.std.proofs.Common.{◌≢◌, ℕ, ◌<◌, ◌≤◌, List, [], ◌∷◌, ◌++◌, length, length-append, Option, get_or, drop, ap, subst, arith, refl}
use Rattle.std.specs.Io.KnownBytes.{Consumes}
use Rattle.std.proofs.KnownBytes.{Consumes-trans}
use Rattle.tab_drive.specs.Schedule.{line_feed}
use Rattle.tab_drive.specs.Lines.{IsLine}
use Rattle.tab_drive.specs.Reading.{HasNoLine, IsOpenLine, Took}
use Rattle.tab_drive.specs.declared.reading.TheConstants.{LONGEST_LINE}

-- one more such byte
pub IsLine-push : (bytes : List ℕ) (byte : ℕ) → IsLine bytes → byte ≢ line_feed → IsLine (bytes ++ byte ∷ [])
IsLine-push [] byte line other = (other, tt)
IsLine-push (first ∷ bytes) byte line other = (line.0, IsLine-push bytes byte line.1 other)

pub IsLine-append : (xs ys : List ℕ) → IsLine xs → IsLine ys → IsLine (xs ++ ys)
IsLine-append [] ys front back = back
IsLine-append (x ∷ xs) ys front back = (front.0, IsLine-append xs ys front.1 back)

fed : (line rest : List ℕ) → IsLine (line ++ line_feed ∷ rest) → ⊥
fed [] rest line = line.0 refl
fed (x ∷ xs) rest line = fed xs rest line.1

-- no line ends in them
pub no_line_inside : (bytes : List ℕ) → IsLine bytes → HasNoLine bytes
no_line_inside bytes no_feed line rest is_line short is = fed line rest (subst IsLine is no_feed)

longer : (bytes more line rest : List ℕ) → IsLine bytes → length line < length bytes → bytes ++ more ≢ line ++ line_feed ∷ rest
longer [] more line rest no_feed less is = omega arith
longer (b ∷ bytes) more [] rest no_feed less is = no_feed.0 (ap (λ (l : List ℕ). get_or l 0 0) is)
longer (b ∷ bytes) more (x ∷ line) rest no_feed less is = longer bytes more line rest no_feed.1 (omega arith) (ap (drop 1) is)

-- nor behind them, where they are more than a line has
pub no_line_behind : (bytes : List ℕ) → IsLine bytes → LONGEST_LINE < length bytes → (more : List ℕ) → HasNoLine (bytes ++ more)
no_line_behind bytes no_feed long more line rest is_line short is = longer bytes more line rest no_feed (omega arith) is

-- a line and one byte more, none of which ends it
pub open_line : (old mid new : Option (List ℕ)) (line : List ℕ) (byte : ℕ) → Consumes old mid line → Consumes mid new (byte ∷ []) → IsLine line → byte ≢ line_feed → length line ≤ LONGEST_LINE → Took IsOpenLine old new
open_line old mid new line byte front last is_line other short = record {
  bytes = line ++ byte ∷ [];
  are = record { is_line = IsLine-push line byte is_line other; bound = omega (arith, length-append line (byte ∷ [])) };
  consumed = Consumes-trans old mid new line (byte ∷ []) front last;
}
