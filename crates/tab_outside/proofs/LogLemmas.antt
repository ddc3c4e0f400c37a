-- What the calls of a disk in memory leave.
use Rattle.std.proofs.Common.{◌≡◌, ℕ, ◌+◌, ◌%◌, ◌==◌, ◌<◌, ◌≤◌, Bool, true, false, cond, inl, inr, Result, Ok, Err, OnOk, OnErr, List, [], ◌∷◌, ◌++◌, length, take, replicate, map, refl, sym, ap, subst, ◌∙◌, arith}
use Rattle.std.specs.Prelude.{◌⊎◌}
use Rattle.std.proofs.lemmas.Bool.{cases_lt}
use Rattle.std.proofs.lemmas.List.{length-append, length-replicate, take-append-le, take_all}
use Rattle.tab_outside.specs.Disks.{Torn, WasTorn, Wrote, Rests, Elapses, LeavesOnly, overwritten}
use Rattle.tab_outside.specs.Logs.{InLog, Written, Logged, wrote, settled, written, MayLeave, LogLeaves, LogLeft, Synced, empty_disk, after_logged, after_log, bytes_of, filled, fill_byte, painted, picture_of, Settles, log_watch}
use Rattle.tab_outside.specs.LogLaws.{torn_same, torn_overwritten, leaves_none, leaves_all}

-- one call more
pub after_more : (disk : Synced) (calls : List Logged) (call : Logged) → after_log disk (calls ++ call ∷ []) ≡ after_logged (after_log disk calls) call
after_more disk [] call = refl
after_more disk (first ∷ calls) call = after_more (after_logged disk first) calls call

-- one write more
pub written_more : (bytes : List ℕ) (writes : List Written) (one : Written) → written bytes (writes ++ one ∷ []) ≡ overwritten (written bytes writes) one.at one.piece
written_more bytes [] one = refl
written_more bytes (first ∷ writes) one = written_more (overwritten bytes first.at first.piece) writes one

-- what a crash leaves of them
pub record LeftBefore (bytes : List ℕ) (writes : List Written) (one : Written) (c : List ℕ) : Type 0 where
  pub before : List ℕ
  pub left : MayLeave bytes writes before
  pub torn : Torn one.at (length one.piece) before c

left_before : (bytes torn : List ℕ) (first : Written) (writes : List Written) (one : Written) (c : List ℕ) → Torn first.at (length first.piece) bytes torn
    → LeftBefore torn writes one c → LeftBefore bytes (first ∷ writes) one c
left_before bytes torn first writes one c is rest = record { before = rest.before; left = (torn, is, rest.left); torn = rest.torn }

last_torn : (bytes torn : List ℕ) (one : Written) (c : List ℕ) → Torn one.at (length one.piece) bytes torn → c ≡ torn → LeftBefore bytes [] one c
last_torn bytes torn one c is same = record { before = bytes; left = refl; torn = subst (λ (d : List ℕ). Torn one.at (length one.piece) bytes d) (sym same) is }

pub left_more : (bytes : List ℕ) (writes : List Written) (one : Written) (c : List ℕ) → MayLeave bytes (writes ++ one ∷ []) c → LeftBefore bytes writes one c
left_more bytes [] one c left = last_torn bytes left.0 one c left.1 left.2
left_more bytes (first ∷ writes) one c left = left_before bytes left.0 first writes one c left.1 (left_more left.0 writes one c left.2)

-- time goes on with each call of the log
more_cases : (log : List Logged) (call : Logged) (t : ℕ) (c : List ℕ) (calls : ℕ) → t ≤ calls → calls ≤ length log + 1 → LogLeaves (take calls (log ++ call ∷ [])) c
    → (length log < calls) ⊎ (calls ≤ length log) → LogLeft log t c ⊎ LogLeaves (log ++ call ∷ []) c
more_cases log call t c calls since within left (inr before) = inl (record {
  calls = calls;
  since = since;
  within = before;
  left = subst (λ (taken : List Logged). LogLeaves taken c) (take-append-le calls log (call ∷ []) before) left;
})
more_cases log call t c calls since within left (inl last) =
    inr (subst (λ (taken : List Logged). LogLeaves taken c) (take_all calls (log ++ call ∷ []) (omega (arith, last, length-append log (call ∷ [])))) left)

took_more : (log : List Logged) (call : Logged) (t : ℕ) (c : List ℕ) (calls : ℕ) → t ≤ calls → calls ≤ length log + 1 → LogLeaves (take calls (log ++ call ∷ [])) c
    → LogLeft log t c ⊎ LogLeaves (log ++ call ∷ []) c
took_more log call t c calls since within left = more_cases log call t c calls since within left (cases_lt (length log) calls)

kept_more : (log : List Logged) (call : Logged) (t : ℕ) (c : List ℕ) → LogLeft log t c → LogLeft (log ++ call ∷ []) t c
kept_more log call t c was = record {
  calls = was.calls;
  since = was.since;
  within = omega (arith, was.within, length-append log (call ∷ []));
  left = subst (λ (taken : List Logged). LogLeaves taken c) (sym (take-append-le was.calls log (call ∷ []) was.within)) was.left;
}

elapses_same : (log : List Logged) (old new : InLog) → old.log ≡ log → new.log ≡ log → Elapses log_watch old new
elapses_same log old new was is = record {
  later = omega (arith, ap length was, ap length is);
  nothing_else = λ t c earlier left. inl (subst (λ (calls : List Logged). LogLeft calls t c) (is ∙ sym was) left);
  keeps = λ t c earlier left. subst (λ (calls : List Logged). LogLeft calls t c) (was ∙ sym is) left;
}

pub elapses_more : (old new : InLog) (call : Logged) → new.log ≡ old.log ++ call ∷ [] → Elapses log_watch old new
elapses_more old new call is = record {
  later = omega (arith, ap length is, length-append old.log (call ∷ []));
  nothing_else = λ t c earlier left.
      let now : LogLeft (old.log ++ call ∷ []) t c = subst (λ (calls : List Logged). LogLeft calls t c) is left in
      let within : now.calls ≤ length old.log + 1 = omega (arith, now.within, length-append old.log (call ∷ [])) in
      subst (λ (calls : List Logged). LogLeft old.log t c ⊎ LogLeaves calls c) (sym is) (took_more old.log call t c now.calls now.since within now.left);
  keeps = λ t c earlier left. subst (λ (calls : List Logged). LogLeft calls t c) (sym is) (kept_more old.log call t c left);
}

pub elapses_kept : (old new : InLog) → new.log ≡ old.log → Elapses log_watch old new
elapses_kept old new same = elapses_same old.log old new refl same

-- a call that leaves the log
pub rests_kept : (old new : InLog) → new.log ≡ old.log → Rests log_watch old new
rests_kept old new same = record {
  same = ap bytes_of same;
  crash = λ c left. subst (λ (calls : List Logged). LogLeaves calls c) same left;
  time = elapses_kept old new same;
}

-- a write that was not made
pub wrote_none : (old new : InLog) (at n : ℕ) → new.log ≡ old.log → Wrote log_watch at n old new
wrote_none old new at n same = record {
  range = subst (λ (bytes : List ℕ). Torn at n (bytes_of old.log) bytes) (sym (ap bytes_of same)) (torn_same at n (bytes_of old.log));
  crash = λ c left. record { before = c; left = subst (λ (calls : List Logged). LogLeaves calls c) same left; torn = torn_same at n c };
  time = elapses_kept old new same;
}

-- a write that was
pub bytes_more : (log : List Logged) (one : Written) → bytes_of (log ++ wrote one ∷ []) ≡ overwritten (bytes_of log) one.at one.piece
bytes_more log one =
    let disk = after_log empty_disk log in
    ap (λ (d : Synced). written d.bytes d.since) (after_more empty_disk log (wrote one)) ∙ written_more disk.bytes disk.since one

torn_more : (log : List Logged) (one : Written) (c : List ℕ) → LogLeaves (log ++ wrote one ∷ []) c
    → LeftBefore (after_log empty_disk log).bytes (after_log empty_disk log).since one c
torn_more log one c left =
    let disk = after_log empty_disk log in
    left_more disk.bytes disk.since one c (subst (λ (d : Synced). MayLeave d.bytes d.since c) (after_more empty_disk log (wrote one)) left)

was_torn : (old : InLog) (one : Written) (c : List ℕ) → LeftBefore (after_log empty_disk old.log).bytes (after_log empty_disk old.log).since one c
    → WasTorn log_watch one.at (length one.piece) old c
was_torn old one c was = record { before = was.before; left = was.left; torn = was.torn }

pub wrote_one : (old new : InLog) (one : Written) → new.log ≡ old.log ++ wrote one ∷ [] → Wrote log_watch one.at (length one.piece) old new
wrote_one old new one is = record {
  range = subst (λ (bytes : List ℕ). Torn one.at (length one.piece) (bytes_of old.log) bytes) (sym (ap bytes_of is ∙ bytes_more old.log one)) (torn_overwritten one.at one.piece (bytes_of old.log));
  crash = λ c left. was_torn old one c (torn_more old.log one c (subst (λ (calls : List Logged). LogLeaves calls c) is left));
  time = elapses_more old new (wrote one) is;
}

-- painting a range is a torn write of it
as_torn : (b : Bool) (one x y : Written) (old new : List ℕ) → (Torn x.at (length x.piece) old new → Torn one.at (length one.piece) old new)
    → (Torn y.at (length y.piece) old new → Torn one.at (length one.piece) old new)
    → Torn (cond b x y).at (length (cond b x y).piece) old new → Torn one.at (length one.piece) old new
as_torn true one x y old new left right torn = left torn
as_torn false one x y old new left right torn = right torn

torn_filled : (byte : ℕ) (one : Written) (old new : List ℕ) → Torn one.at (length (replicate (length one.piece) byte)) old new → Torn one.at (length one.piece) old new
torn_filled byte one old new torn = subst (λ (n : ℕ). Torn one.at n old new) (length-replicate {A = ℕ} (length one.piece) byte) torn

torn_painted : (pick : ℕ) (one : Written) (old new : List ℕ) → Torn (painted pick one).at (length (painted pick one).piece) old new → Torn one.at (length one.piece) old new
torn_painted pick one old new =
    as_torn (pick % 4 == 1) one one (filled (fill_byte pick) one) old new (λ torn. torn) (torn_filled (fill_byte pick) one old new)

leaves_painted : (pick : ℕ) (bytes : List ℕ) (writes : List Written) (c : List ℕ) → MayLeave bytes (map (painted pick) writes) c → MayLeave bytes writes c
leaves_painted pick bytes [] c left = left
leaves_painted pick bytes (one ∷ writes) c left = (left.0, torn_painted pick one bytes left.0 left.1, leaves_painted pick left.0 writes c left.2)

leaves_either : (b : Bool) (bytes : List ℕ) (writes : List Written) (x y : List ℕ) → MayLeave bytes writes x → MayLeave bytes writes y → MayLeave bytes writes (cond b x y)
leaves_either true bytes writes x y left right = left
leaves_either false bytes writes x y left right = right

-- each picture is an image of a crash
pub leaves_picture : (pick : ℕ) (log : List Logged) → LogLeaves log (picture_of pick log)
leaves_picture pick log =
    let disk = after_log empty_disk log in
    leaves_either (pick % 4 == 0) disk.bytes disk.since disk.bytes (written disk.bytes (map (painted pick) disk.since)) (leaves_none disk.bytes disk.since)
    (leaves_painted pick disk.bytes disk.since (written disk.bytes (map (painted pick) disk.since)) (leaves_all disk.bytes (map (painted pick) disk.since)))

all_stand : (writes : List Written) → map (painted 1) writes ≡ writes
all_stand [] = refl
all_stand (one ∷ writes) = ap (λ (rest : List Written). one ∷ rest) (all_stand writes)

-- the one in which every write stands is what a read gives
pub all_read : (log : List Logged) → picture_of 1 log ≡ bytes_of log
all_read log = let disk = after_log empty_disk log in ap (written disk.bytes) (all_stand disk.since)

-- what a settled log gives and leaves
pub settled_bytes : (pick : ℕ) (old new : List Logged) → Settles pick old new → bytes_of new ≡ picture_of pick old
settled_bytes pick old new settles = ap (λ (d : Synced). written d.bytes d.since) settles.now

pub settled_leaves : (pick : ℕ) (old new : List Logged) (c : List ℕ) → Settles pick old new → LogLeaves new c → c ≡ picture_of pick old
settled_leaves pick old new c settles left = subst (λ (d : Synced). MayLeave d.bytes d.since c) settles.now left

settled_time : (old new : InLog) (pick : ℕ) → (new.log ≡ old.log) ⊎ (new.log ≡ old.log ++ settled pick ∷ []) → Elapses log_watch old new
settled_time old new pick (inl same) = elapses_kept old new same
settled_time old new pick (inr more) = elapses_more old new (settled pick) more

pub settled_elapses : (pick : ℕ) (old new : InLog) → Settles pick old.log new.log → Elapses log_watch old new
settled_elapses pick old new settles = settled_time old new pick settles.one_more

pub settled_only : (pick : ℕ) (old new : InLog) → Settles pick old.log new.log → LeavesOnly log_watch new (bytes_of new.log)
settled_only pick old new settles c left = settled_leaves pick old.log new.log c settles left ∙ sym (settled_bytes pick old.log new.log settles)

pub settled_image : (pick : ℕ) (old new : List Logged) → Settles pick old new → LogLeaves old (bytes_of new)
settled_image pick old new settles = subst (λ (bytes : List ℕ). LogLeaves old bytes) (sym (settled_bytes pick old new settles)) (leaves_picture pick old)

-- a sync
pub settled_rests : (old new : InLog) → Settles 1 old.log new.log → Rests log_watch old new
settled_rests old new settles = record {
  same = settled_bytes 1 old.log new.log settles ∙ all_read old.log;
  crash = λ c left. subst (λ (bytes : List ℕ). LogLeaves old.log bytes) (sym (settled_leaves 1 old.log new.log c settles left)) (leaves_picture 1 old.log);
  time = settled_elapses 1 old new settles;
}

-- a write that was made or not, by its answer
pub wrote_by : {T E : Type 0} (old new : InLog) (mid : List Logged) (one : Written) (answer : Result T E) → mid ≡ old.log → OnOk answer (new.log ≡ mid ++ wrote one ∷ [])
    → OnErr answer (new.log ≡ mid) → Wrote log_watch one.at (length one.piece) old new
wrote_by old new mid one (Ok done) same made refused = wrote_one old new one (made ∙ ap (λ (log : List Logged). log ++ wrote one ∷ []) same)
wrote_by old new mid one (Err why) same made refused = wrote_none old new one.at (length one.piece) (refused ∙ same)

pub written_by : (old mid new : List Logged) (one : Written) → mid ≡ old → new ≡ mid ++ wrote one ∷ [] → bytes_of new ≡ overwritten (bytes_of old) one.at one.piece
written_by old mid new one same made = ap bytes_of (made ∙ ap (λ (log : List Logged). log ++ wrote one ∷ []) same) ∙ bytes_more old one

-- settling after the log stayed
pub settles_from : (pick : ℕ) (old mid new : List Logged) → mid ≡ old → Settles pick mid new → Settles pick old new
settles_from pick old mid new same settles = subst (λ (log : List Logged). Settles pick log new) same settles
