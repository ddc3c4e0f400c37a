-- How a disk in memory keeps the bytes of the last sync, with zeros behind them.
use Rattle.std.proofs.Common.{◌≡◌, ℕ, zero, suc, ◌+◌, ◌-◌, ◌%◌, ◌==◌, ◌<◌, ◌≤◌, max, Bool, true, false, cond, inl, inr, List, [], ◌∷◌, ◌++◌, length, take, drop, replicate, map, refl, sym, ap, subst, ◌∙◌, arith}
use Rattle.std.specs.List.{AllByRecursion}
use Rattle.std.proofs.lemmas.List.{length-append, length-replicate, length-drop, take-append-le, drop-append-le, take_all, take_at, drop_all, append_assoc, replicate-append-replicate, drop-map, map-append}
use Rattle.tab_outside.specs.Disks.{write_end, spliced, overwritten}
use Rattle.tab_outside.specs.declared.logs.Call.{Call}
use Rattle.tab_outside.specs.Logs.{Written, Logged, logged, wrote, settled, written, writes_of, Synced, empty_disk, after_log, bytes_of, filled, fill_byte, painted, picture, picture_of, Settles, IsPadded, FitsIn, KeepsLog}
use Rattle.tab_outside.specs.LogLaws.{spliced_length}
use Rattle.tab_outside.proofs.LogLemmas.{after_more, bytes_more}
use Rattle.tab_outside.proofs.Overwrites.{spliced_when_grown}

pub padded_by : (bytes padded : List ℕ) (k : ℕ) → padded ≡ bytes ++ replicate k 0 → IsPadded bytes padded
padded_by bytes padded k is =
    let size : length padded ≡ length bytes + k = omega (arith, ap length is, length-append bytes (replicate k 0), length-replicate {A = ℕ} k 0) in
    let count : k ≡ length padded - length bytes = omega (arith, size) in
    record { size = omega (arith, size); is = is ∙ ap (λ (n : ℕ). bytes ++ replicate n 0) count }

-- zeros behind zeros
pub padded_more : (bytes padded grown : List ℕ) (k : ℕ) → IsPadded bytes padded → grown ≡ padded ++ replicate k 0 → IsPadded bytes grown
padded_more bytes padded grown k was is =
    let n : ℕ = length padded - length bytes in
    padded_by bytes grown (n + k) (
    is ∙ ap (λ (front : List ℕ). front ++ replicate k 0) was.is ∙ append_assoc bytes (replicate n 0) (replicate k 0)
    ∙ ap (λ (tail : List ℕ). bytes ++ tail) (replicate-append-replicate n k 0)
    )

-- a piece put among them, at an offset where zeros may lie
pub padded_spliced : (base padded piece : List ℕ) (at : ℕ) → IsPadded base padded → at + length piece ≤ length padded
    → IsPadded (spliced base at piece) (take at padded ++ piece ++ drop (at + length piece) padded)
padded_spliced base padded piece at was fits =
    let end : ℕ = at + length piece in
    let n : ℕ = length padded - length base in
    let g : ℕ = end - length base in
    let grown : List ℕ = base ++ replicate g 0 in
    let z : List ℕ = replicate (n - g) 0 in
    let least : g + (n - g) ≡ n = omega (arith, fits, was.size) in
    let all : padded ≡ grown ++ z = was.is ∙ ap (λ (tail : List ℕ). base ++ tail) (ap (λ (k : ℕ). replicate k 0) (sym least) ∙ sym (replicate-append-replicate g (n - g) 0)) ∙ sym (append_assoc base (replicate g 0) z) in
    let size : length grown ≡ length base + g = omega (arith, length-append base (replicate g 0), length-replicate {A = ℕ} g 0) in
    let front : take at padded ≡ take at grown = ap (take at) all ∙ take-append-le at grown z (omega (arith, size)) in
    let back : drop end padded ≡ drop end grown ++ z = ap (drop end) all ∙ drop-append-le end grown z (omega (arith, size)) in
    padded_by (spliced base at piece) (take at padded ++ piece ++ drop end padded) (n - g) (
    ap (λ (xs : List ℕ). xs ++ piece ++ drop end padded) front ∙ ap (λ (ys : List ℕ). take at grown ++ piece ++ ys) back
    ∙ sym (append_assoc (take at grown ++ piece) (drop end grown) z) ∙ ap (λ (xs : List ℕ). xs ++ z) (spliced_when_grown base piece at grown refl)
    )

in_part : (base piece : List ℕ) (at : ℕ) → 0 < length piece → overwritten base at piece ≡ spliced base at piece
in_part base [] at some = absurd (let none : ⊥ = omega (arith, some) in none)
in_part base (byte ∷ rest) at some = refl

-- the range of a write, painted
pub padded_write : (base old new : List ℕ) (at : ℕ) (piece : List ℕ) → IsPadded base old → 0 < length piece → at + length piece ≤ length old
    → new ≡ take at old ++ piece ++ drop (at + length piece) old → IsPadded (overwritten base at piece) new
padded_write base old new at piece was some fits is =
    subst (λ (bytes : List ℕ). IsPadded bytes new) (sym (in_part base piece at some))
    (subst (λ (bytes : List ℕ). IsPadded (spliced base at piece) bytes) (sym is) (padded_spliced base old piece at was fits))

pub overwritten_empty : (base : List ℕ) (at : ℕ) (piece : List ℕ) → length piece ≡ 0 → overwritten base at piece ≡ base
overwritten_empty base at [] none = refl
overwritten_empty base at (byte ∷ rest) none = absurd (let no : ⊥ = omega (arith, none) in no)

pub overwritten_length : (bytes : List ℕ) (at : ℕ) (piece : List ℕ) → length (overwritten bytes at piece) ≡ max (length bytes) (write_end at (length piece))
overwritten_length bytes at [] = omega arith
overwritten_length bytes at (byte ∷ rest) = spliced_length bytes (byte ∷ rest) at

-- a painted range is where it was, and as long
either_at : (b : Bool) (x y : Written) (at : ℕ) → x.at ≡ at → y.at ≡ at → (cond b x y).at ≡ at
either_at true x y at left right = left
either_at false x y at left right = right

either_length : (b : Bool) (x y : Written) (n : ℕ) → length x.piece ≡ n → length y.piece ≡ n → length (cond b x y).piece ≡ n
either_length true x y n left right = left
either_length false x y n left right = right

pub painted_at : (pick : ℕ) (one : Written) → (painted pick one).at ≡ one.at
painted_at pick one = either_at (pick % 4 == 1) one (filled (fill_byte pick) one) one.at refl refl

pub painted_length : (pick : ℕ) (one : Written) → length (painted pick one).piece ≡ length one.piece
painted_length pick one =
    either_length (pick % 4 == 1) one (filled (fill_byte pick) one) (length one.piece) refl (length-replicate {A = ℕ} (length one.piece) (fill_byte pick))

painted_size : (pick : ℕ) (one : Written) (x y : List ℕ) → length x ≡ length y
    → length (overwritten x (painted pick one).at (painted pick one).piece) ≡ length (overwritten y one.at one.piece)
painted_size pick one x y same =
    let painted_one : Written = painted pick one in
    overwritten_length x painted_one.at painted_one.piece
    ∙ ap (λ (at : ℕ). max (length x) (write_end at (length painted_one.piece))) (painted_at pick one)
    ∙ ap (λ (n : ℕ). max (length x) (write_end one.at n)) (painted_length pick one)
    ∙ ap (λ (n : ℕ). max n (write_end one.at (length one.piece))) same ∙ sym (overwritten_length y one.at one.piece)

pub painted_lengths : (pick : ℕ) (x y : List ℕ) (writes : List Written) → length x ≡ length y → length (written x (map (painted pick) writes)) ≡ length (written y writes)
painted_lengths pick x y [] same = same
painted_lengths pick x y (one ∷ writes) same =
    painted_lengths pick (overwritten x (painted pick one).at (painted pick one).piece) (overwritten y one.at one.piece) writes (painted_size pick one x y same)

-- how many bytes a picture has
pub picture_length : (pick : ℕ) (base : List ℕ) (writes : List Written) → length (picture pick base writes) ≡ cond (pick % 4 == 0) (length base) (length (written base writes))
picture_length pick base writes = by_test (pick % 4 == 0)
  where
    by_test : (b : Bool) → length (cond b base (written base (map (painted pick) writes))) ≡ cond b (length base) (length (written base writes))
    by_test true = refl
    by_test false = painted_lengths pick base base writes refl

-- each write lies within what a read gives
no_shorter : (bytes : List ℕ) (writes : List Written) → length bytes ≤ length (written bytes writes)
no_shorter bytes [] = omega arith
no_shorter bytes (one ∷ writes) = omega (arith, no_shorter (overwritten bytes one.at one.piece) writes, overwritten_length bytes one.at one.piece)

ends_within : (at n : ℕ) → 0 < n → write_end at n ≡ at + n
ends_within at zero some = absurd (let none : ⊥ = omega (arith, some) in none)
ends_within at (suc n) some = refl

pub all_fit : (size : ℕ) (bytes : List ℕ) (writes : List Written) → length (written bytes writes) ≤ size → AllByRecursion (FitsIn size) writes
all_fit size bytes [] room = tt
all_fit size bytes (one ∷ writes) room =
    let next : List ℕ = overwritten bytes one.at one.piece in (
      λ some. omega (arith, room, no_shorter next writes, overwritten_length bytes one.at one.piece, ends_within one.at (length one.piece) some),
      all_fit size next writes room,
    )

pub writes_more : (calls : List Logged) (others : List Logged) → writes_of (calls ++ others) ≡ writes_of calls ++ writes_of others
writes_more [] others = refl
writes_more (wrote one ∷ calls) others = ap (λ (writes : List Written). one ∷ writes) (writes_more calls others)
writes_more (settled pick ∷ calls) others = writes_more calls others

-- what is kept after one write more
pub keeps_write : (log : List Logged) (bytes padded : List ℕ) (kept before : ℕ) (one : Written) (next grown : List ℕ) (k : ℕ) → KeepsLog log bytes padded kept before
    → next ≡ overwritten bytes one.at one.piece → grown ≡ padded ++ replicate k 0 → length next ≤ length grown → KeepsLog (log ++ wrote one ∷ []) next grown kept before
keeps_write log bytes padded kept before one next grown k keeps is more room =
    let now = after_more empty_disk log (wrote one) in
    record {
      read = is ∙ ap (λ (b : List ℕ). overwritten b one.at one.piece) keeps.read ∙ sym (bytes_more log one);
      settled = subst (λ (d : Synced). IsPadded d.bytes grown) (sym now) (padded_more (after_log empty_disk log).bytes padded grown k keeps.settled more);
      kept_is = keeps.kept_is ∙ sym (ap (λ (d : Synced). length d.bytes) now);
      since = ap (λ (d : Synced). d.since) now ∙ ap (λ (writes : List Written). writes ++ one ∷ []) keeps.since
          ∙ sym (ap writes_of (drop-append-le before log (wrote one ∷ []) keeps.within) ∙ writes_more (drop before log) (wrote one ∷ []));
      within = omega (arith, keeps.within, length-append log (wrote one ∷ []));
      room = room;
    }

-- after the writes were settled
pub keeps_settled : (log : List Logged) (pick : ℕ) (next padded : List ℕ) (kept before : ℕ) → next ≡ picture_of pick log → IsPadded (picture_of pick log) padded
    → kept ≡ length (picture_of pick log) → before ≡ length log + 1 → KeepsLog (log ++ settled pick ∷ []) next padded kept before
keeps_settled log pick next padded kept before is settles kept_is all =
    let now = after_more empty_disk log (settled pick) in
    record {
      read = is ∙ sym (ap (λ (d : Synced). written d.bytes d.since) now);
      settled = subst (λ (d : Synced). IsPadded d.bytes padded) (sym now) settles;
      kept_is = kept_is ∙ sym (ap (λ (d : Synced). length d.bytes) now);
      since = ap (λ (d : Synced). d.since) now ∙ sym (ap writes_of (drop_all before (log ++ settled pick ∷ []) (omega (arith, all, length-append log (settled pick ∷ [])))));
      within = omega (arith, all, length-append log (settled pick ∷ []));
      room = omega (arith, ap length is, settles.size);
    }

pub settles_more : (pick : ℕ) (log new : List Logged) → new ≡ log ++ settled pick ∷ [] → Settles pick log new
settles_more pick log new is = record { one_more = inr is; now = ap (after_log empty_disk) is ∙ after_more empty_disk log (settled pick) }

-- there are none to settle
either_same : (b : Bool) (x : List ℕ) → x ≡ cond b x x
either_same true x = refl
either_same false x = refl

abbrev synced_so : List ℕ → List Written → Synced
synced_so bytes since = record { bytes = bytes; since = since }

nothing_there : (pick : ℕ) (bytes : List ℕ) (since : List Written) → since ≡ [] → synced_so bytes since ≡ synced_so (picture pick bytes since) []
nothing_there pick bytes [] none = ap (λ (b : List ℕ). synced_so b []) (either_same (pick % 4 == 0) bytes)
nothing_there pick bytes (one ∷ writes) none = absurd (let no : ⊥ = cc in no)

nothing_since : (pick : ℕ) (disk : Synced) → disk.since ≡ [] → disk ≡ synced_so (picture pick disk.bytes disk.since) []
nothing_since pick disk none = nothing_there pick disk.bytes disk.since none

pub settles_nothing : (pick : ℕ) (log : List Logged) → (after_log empty_disk log).since ≡ [] → Settles pick log log
settles_nothing pick log none = record { one_more = inl refl; now = nothing_since pick (after_log empty_disk log) none }

-- what is left to paint
pub record PaintsOn (pick : ℕ) (base : List ℕ) (all left : List Written) (bytes : List ℕ) : Type 0 where
  pub painted_so : List ℕ
  pub padded : IsPadded painted_so bytes
  pub rest : written painted_so (map (painted pick) left) ≡ written base (map (painted pick) all)

pub paints_first : (pick : ℕ) (base : List ℕ) (all : List Written) (bytes : List ℕ) → IsPadded base bytes → PaintsOn pick base all all bytes
paints_first pick base all bytes padded = record { painted_so = base; padded = padded; rest = refl }

pub paints_next : (pick : ℕ) (base : List ℕ) (all : List Written) (one : Written) (left : List Written) (bytes next : List ℕ)
    → ((so : List ℕ) → IsPadded so bytes → IsPadded (written so (painted pick one ∷ [])) next) → PaintsOn pick base all (one ∷ left) bytes → PaintsOn pick base all left next
paints_next pick base all one left bytes next paints on = record {
  painted_so = written on.painted_so (painted pick one ∷ []);
  padded = paints on.painted_so on.padded;
  rest = on.rest;
}

pub paints_last : (pick : ℕ) (base : List ℕ) (all : List Written) (bytes : List ℕ) → PaintsOn pick base all [] bytes → IsPadded (written base (map (painted pick) all)) bytes
paints_last pick base all bytes on = subst (λ (so : List ℕ). IsPadded so bytes) on.rest on.padded

-- a range that was written, painted
pub paint_piece : (pick : ℕ) (base old new : List ℕ) (one : Written) → (pick % 4 == 1) ≡ true → 0 < length one.piece → one.at + length one.piece ≤ length old
    → new ≡ take one.at old ++ one.piece ++ drop (one.at + length one.piece) old → IsPadded base old → IsPadded (written base (painted pick one ∷ [])) new
paint_piece pick base old new one kind some fits is was =
    let as_it_is : painted pick one ≡ one = ap (λ (b : Bool). cond b one (filled (fill_byte pick) one)) kind in
    subst (λ (w : Written). IsPadded (written base (w ∷ [])) new) (sym as_it_is) (padded_write base old new one.at one.piece was some fits is)

pub paint_fill : (pick : ℕ) (base old new : List ℕ) (one : Written) → (pick % 4 == 1) ≡ false → 0 < length one.piece → one.at + length one.piece ≤ length old
    → new ≡ take one.at old ++ replicate (length one.piece) (fill_byte pick) ++ drop (one.at + length one.piece) old → IsPadded base old → IsPadded (written base (painted pick one ∷ [])) new
paint_fill pick base old new one kind some fits is was =
    let byte : ℕ = fill_byte pick in
    let as_filled : painted pick one ≡ filled byte one = ap (λ (b : Bool). cond b one (filled byte one)) kind in
    let size : length (replicate (length one.piece) byte) ≡ length one.piece = length-replicate {A = ℕ} (length one.piece) byte in
    subst (λ (w : Written). IsPadded (written base (w ∷ [])) new) (sym as_filled) (
    padded_write base old new one.at (replicate (length one.piece) byte) was (omega (arith, size, some)) (omega (arith, size, fits))
    (is ∙ ap (λ (n : ℕ). take one.at old ++ replicate (length one.piece) byte ++ drop (one.at + n) old) (sym size))
    )

pub paint_empty : (pick : ℕ) (base old : List ℕ) (one : Written) → length one.piece ≡ 0 → IsPadded base old → IsPadded (written base (painted pick one ∷ [])) old
paint_empty pick base old one none was =
    subst (λ (bytes : List ℕ). IsPadded bytes old) (sym (overwritten_empty base (painted pick one).at (painted pick one).piece (painted_length pick one ∙ none))) was

-- the picture in which every write stands, whatever number picks it
all_same : (writes : List Written) → map (λ (one : Written). one) writes ≡ writes
all_same [] = refl
all_same (one ∷ writes) = ap (λ (rest : List Written). one ∷ rest) (all_same writes)

pub picture_all : (pick : ℕ) (log : List Logged) → pick % 4 ≡ 1 → picture_of pick log ≡ bytes_of log
picture_all pick log kind =
    let base : List ℕ = (after_log empty_disk log).bytes in
    let writes : List Written = (after_log empty_disk log).since in
    ap (λ (n : ℕ). cond (n == 0) base (written base (map (λ (one : Written). cond (n == 1) one (filled (cond (n == 2) 0xa5 0x01) one)) writes))) kind
    ∙ ap (written base) (all_same writes)

either_least : (b : Bool) (x y n : ℕ) → x ≤ n → y ≤ n → cond b x y ≤ n
either_least true x y n left right = left
either_least false x y n left right = right

pub picture_no_longer : (pick : ℕ) (log : List Logged) → length (picture_of pick log) ≤ length (bytes_of log)
picture_no_longer pick log =
    let base : List ℕ = (after_log empty_disk log).bytes in
    let writes : List Written = (after_log empty_disk log).since in
    let within = either_least (pick % 4 == 0) (length base) (length (written base writes)) (length (written base writes)) (no_shorter base writes) (omega arith) in
    omega (arith, within, picture_length pick base writes)

-- what stands in front of the zeros
pub padded_front : (bytes padded : List ℕ) (n : ℕ) → n ≡ length bytes → IsPadded bytes padded → take n padded ≡ bytes
padded_front bytes padded n is was = ap (take n) was.is ∙ take_at bytes (replicate (length padded - length bytes) 0) n (sym is)

-- the writes behind the settled calls
pub rest_writes : (items xs : List Call) (before : ℕ) → xs ≡ items → writes_of (map logged (take (length xs - before) (drop before xs))) ≡ writes_of (drop before (map logged items))
rest_writes items xs before same =
    ap (λ (calls : List Call). writes_of (map logged calls)) (take_all (length xs - before) (drop before xs) (omega (arith, length-drop before xs)) ∙ ap (drop before) same)
    ∙ ap writes_of (sym (drop-map logged before items))

pub logged_more : (old mid new : List Call) (call : Call) (one : Logged) → new ≡ mid ++ call ∷ [] → mid ≡ old → logged call ≡ one → map logged new ≡ map logged old ++ one ∷ []
logged_more old mid new call one more same is =
    ap (map logged) more ∙ map-append logged mid (call ∷ []) ∙ ap (λ (calls : List Call). map logged calls ++ logged call ∷ []) same
    ∙ ap (λ (last : Logged). map logged old ++ last ∷ []) is

-- the bytes of the last sync, settled
pub settled_now : (pick : ℕ) (items xs : List Call) (before kept : ℕ) (bytes padded lent new : List ℕ) → KeepsLog (map logged items) bytes padded kept before → lent ≡ padded → xs ≡ items
    → ((base : List ℕ) → IsPadded base lent → IsPadded (picture pick base (writes_of (map logged (take (length xs - before) (drop before xs))))) new)
    → IsPadded (picture_of pick (map logged items)) new
settled_now pick items xs before kept bytes padded lent new keeps is same settles =
    let base : List ℕ = (after_log empty_disk (map logged items)).bytes in
    subst (λ (since : List Written). IsPadded (picture pick base since) new) (rest_writes items xs before same ∙ sym keeps.since)
    (settles base (subst (λ (zeros : List ℕ). IsPadded base zeros) (sym is) keeps.settled))

-- how many they are
pub kept_now : (pick : ℕ) (log : List Logged) (bytes padded : List ℕ) (kept before read now : ℕ) → KeepsLog log bytes padded kept before → now ≡ cond (pick % 4 == 0) kept read
    → read ≡ length bytes → now ≡ length (picture_of pick log)
kept_now pick log bytes padded kept before read now keeps is all =
    let disk : Synced = after_log empty_disk log in
    is ∙ ap (λ (n : ℕ). cond (pick % 4 == 0) n read) keeps.kept_is ∙ ap (λ (n : ℕ). cond (pick % 4 == 0) (length disk.bytes) n) (all ∙ ap length keeps.read)
    ∙ sym (picture_length pick disk.bytes disk.since)
