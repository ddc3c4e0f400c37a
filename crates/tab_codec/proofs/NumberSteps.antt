-- What one step of reading gives where the bytes are long enough, or not.
use Rattle.std.proofs.Common.{◌≡◌, ℕ, ◌-◌, ◌<◌, ◌≤◌, List, [], ◌∷◌, length, get_or, take, drop, Ok, Err, refl, sym, ap, arith}
use Rattle.std.specs.Int.{Width, byte_len, from_be_bytes}
use Rattle.std.proofs.lemmas.Bool.{le-ltb}
use Rattle.std.proofs.lemmas.List.{take_all}
use Rattle.tab_codec.specs.Reading.{byte_at, number_at}
use Rattle.tab_codec.proofs.FieldLaws.{done}

pub number_reads : (w : Width) (bytes : List ℕ) → byte_len w ≤ length bytes → number_at w bytes ≡ Ok (from_be_bytes w (take (byte_len w) bytes), drop (byte_len w) bytes)
unfolding number_at
number_reads w bytes le = rw (le-ltb _ _ le) refl

pub byte_reads : (bytes : List ℕ) → 1 ≤ length bytes → byte_at bytes ≡ Ok (get_or bytes 0 0, take (length bytes - 1) (drop 1 bytes))
unfolding byte_at
byte_reads [] le = absurd (omega arith)
byte_reads (b ∷ rest) le = ap (λ (r : List ℕ). done b r) (sym (take_all (length (b ∷ rest) - 1) rest (omega arith)))

pub no_byte : (bytes : List ℕ) → length bytes < 1 → byte_at bytes ≡ Err 0
unfolding byte_at
no_byte [] lt = refl
no_byte (b ∷ rest) lt = absurd (omega arith)

pub first_of : (bytes : List ℕ) → 1 ≤ length bytes → bytes ≡ get_or bytes 0 0 ∷ take (length bytes - 1) (drop 1 bytes)
first_of [] le = absurd (omega arith)
first_of (b ∷ rest) le = ap (λ (r : List ℕ). b ∷ r) (sym (take_all (length (b ∷ rest) - 1) rest (omega arith)))
