-- What a read from a list of bytes gives, and what it leaves.
use Rattle.std.proofs.Common.{◌≡◌, ℕ, ◌+◌, ◌<◌, ◌≤◌, List, [], ◌++◌, length, take, drop, sym, ap, ◌∙◌, arith, min, take-append-drop}
use Rattle.std.proofs.lemmas.List.{drop-drop, drop_all, length-drop, length-take, length-take-le, take-append-le, take-take, take_all, take_at, append_assoc}
use Rattle.std.proofs.Math.Seq.{take-append-add}

-- a read of the first n bytes of what is left leaves the rest
pub read_front : (bytes taken : List ℕ) (at n : ℕ) → taken ≡ take n (drop at bytes) → drop at bytes ≡ taken ++ drop (at + n) bytes
read_front bytes taken at n copied =
    sym (take-append-drop n (drop at bytes)) ∙ ap (λ xs. xs ++ drop n (drop at bytes)) (sym copied) ∙ ap (λ xs. taken ++ xs) (drop-drop n at bytes)

-- a read of nothing into a buffer that has room is the end
pub read_none : (bytes : List ℕ) (at n size : ℕ) → n ≡ min (length (drop at bytes)) size → n ≡ 0 → 0 < size → drop (at + n) bytes ≡ []
read_none bytes at n size least none room = drop_all (at + n) bytes (omega (arith, length-drop at bytes))

-- a read into the rest of a buffer stands behind what came before
pub read_behind : (xs ys rest : List ℕ) (a n : ℕ) → a ≤ length xs → n ≤ length ys → take (a + n) (take a xs ++ (ys ++ rest)) ≡ take a xs ++ take n ys
read_behind xs ys rest a n within fits =
    ap (λ (m : ℕ). take (m + n) (take a xs ++ (ys ++ rest))) (sym (length-take-le a xs within)) ∙ take-append-add (take a xs) (ys ++ rest) n ∙ ap (λ zs. take a xs ++ zs) (take-append-le n ys rest fits)

-- a list that was grown begins with what it was
pub grown_front : (old more : List ℕ) (start end : ℕ) → length old ≡ start → start ≤ end → take start (take end old ++ more) ≡ old
grown_front old more start end size later = rw (take_all end old (omega arith)) (take_at old more start size)

-- a list that was grown by a buffer, read into and cut has what it was, and behind it what was read
pub cut_behind : (old grown ys rest tail : List ℕ) (start n size : ℕ) → length old ≡ start → take start grown ≡ old → n ≤ length ys → start + n ≤ size
    → take (start + n) (take size (take start grown ++ (ys ++ rest) ++ tail)) ≡ old ++ take n ys
cut_behind old grown ys rest tail start n size least front fits room =
    let within : start ≤ length grown = omega (arith, length-take start grown, ap length front) in
    let joined = append_assoc (take start grown) (ys ++ rest) tail ∙ ap (λ zs. take start grown ++ zs) (append_assoc ys rest tail) in
    take-take (start + n) size _ room ∙ ap (take (start + n)) joined ∙ read_behind grown ys (rest ++ tail) start n within fits ∙ ap (λ zs. zs ++ take n ys) front
