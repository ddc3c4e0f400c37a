-- How the images of one disk go on from device call to device call, and what an append's four calls add.
use Rattle.std.proofs.Common.{◌≡◌, ℕ, ◌+◌, Result, Ok, Err, OnOk, List, [], ◌∷◌, ◌++◌, length, drop, inl, inr, sym, ap, subst, ◌∙◌, arith, append_assoc, length-append}
use Rattle.std.specs.Prelude.{◌≢◌, ◌⊎◌}
use Rattle.tab_outside.specs.Disks.{Watch, Rests, Wrote, Elapses, Torn, LeavesOnly, CountsNow, overwritten}
use Rattle.tab_outside.specs.Pairs.{AddsNone}
use Rattle.tab_outside.proofs.Moments.{rests_adds_none}
use Rattle.tab_journal.specs.Areas.{ShutAt}
use Rattle.tab_journal.specs.Steps.{EachNow, Adds, IsShutOn, MayAppend, IsEitherShut}
use Rattle.tab_journal.proofs.Bytes.{torn_gate, written_at, shut_stays, either_shut}

-- what holds where a call went well goes on to what follows from it
pub on_ok : {T E : Type 0} (A B : Type 0) (result : Result T E) → (A → B) → OnOk result A → OnOk result B
on_ok A B (Ok x) to a = to a
on_ok A B (Err e) to a = a

still : {A B P : Type 0} → (A → B ⊎ P) → A ⊎ P → B ⊎ P
still to (inl a) = to a
still to (inr p) = inr p

has_now : {A B P : Type 0} → (B → P) → A ⊎ B → A ⊎ P
has_now to (inl a) = inl a
has_now to (inr b) = inr (to b)

pub adds_then : {D : Type 0} (w : Watch D) (P : List ℕ → Type 0) (old mid new : D) → Adds w P old mid → Adds w P mid new → Adds w P old new
adds_then w P old mid new first second = record {
  later = omega (arith, first.later, second.later);
  each = λ t earlier c left. still (first.each t earlier c) (second.each t (omega (arith, earlier, first.later)) c left);
}

pub adds_weaker : {D : Type 0} (w : Watch D) (P Q : List ℕ → Type 0) (old new : D) → ((c : List ℕ) → P c → Q c) → Adds w P old new → Adds w Q old new
adds_weaker w P Q old new to adds = record {
  later = adds.later;
  each = λ t earlier c left. has_now (to c) (adds.each t earlier c left);
}

-- time goes on, and each image now has P
pub adds_now : {D : Type 0} (w : Watch D) (P : List ℕ → Type 0) (old new : D) → Elapses w old new → EachNow w P new → Adds w P old new
adds_now w P old new time each = record {
  later = time.later;
  each = λ t earlier c left. has_now (each c) (time.nothing_else t c earlier left);
}

pub adds_none : {D : Type 0} (w : Watch D) (P : List ℕ → Type 0) (old new : D) → AddsNone w old new → Adds w P old new
adds_none w P old new none = record {
  later = none.later;
  each = λ t earlier c left. inl (none.each t earlier c left);
}

pub adds_rests : {D : Type 0} (w : Watch D) (P : List ℕ → Type 0) (old new : D) → CountsNow w → Rests w old new → Adds w P old new
adds_rests w P old new counts rests = adds_none w P old new (rests_adds_none w old new counts rests)

pub each_rests : {D : Type 0} (w : Watch D) (P : List ℕ → Type 0) (old new : D) → Rests w old new → EachNow w P old → EachNow w P new
each_rests w P old new rests each c left = each c (rests.crash c left)

pub each_wrote : {D : Type 0} (w : Watch D) (at n : ℕ) (P Q : List ℕ → Type 0) (old new : D) → Wrote w at n old new → ((b c : List ℕ) → P b → Torn at n b c → Q c) → EachNow w P old → EachNow w Q new
each_wrote w at n P Q old new wrote step each c left =
    let was = wrote.crash c left in
    step was.before c (each was.before was.left) was.torn

pub each_only : {D : Type 0} (w : Watch D) (P : List ℕ → Type 0) (disk : D) (bytes : List ℕ) → LeavesOnly w disk bytes → P bytes → EachNow w P disk
each_only w P disk bytes only has c left = subst P (sym (only c left)) has

-- ---- an append

-- a frame lies behind a gate that is not open, with a closed gate behind it
pub record IsStaged (before spelled bytes : List ℕ) : Type 0 where
  pub gate : ℕ
  pub more : List ℕ
  pub shut : gate ≢ 1
  pub is : bytes ≡ before ++ gate ∷ (spelled ++ 0 ∷ more)

-- the first write leaves the gate shut
pub first_images : {D : Type 0} (w : Watch D) (d0 d1 : D) (end at : ℕ) (piece before spelled : List ℕ) → MayAppend w d0 end piece before spelled → at ≡ end + 1
    → Wrote w at (length piece) d0 d1 → EachNow w (ShutAt before) d1
first_images w d0 d1 end at piece before spelled may is wrote =
    each_wrote w at (length piece) (ShutAt before) (ShutAt before) d0 d1 wrote
    (λ b c shut torn. shut_stays before at (length piece) b c (omega (arith, is, may.stands)) shut torn)
    (each_only w (ShutAt before) d0 (w.seen d0) may.shut.durable may.shut.shut)

-- and the frame behind it
pub first_written : {D : Type 0} (w : Watch D) (d0 d1 : D) (end at : ℕ) (piece before spelled : List ℕ) → MayAppend w d0 end piece before spelled → at ≡ end + 1
    → w.seen d1 ≡ overwritten (w.seen d0) at piece → IsStaged before spelled (w.seen d1)
first_written w d0 d1 end at piece before spelled may is written =
    let shut = may.shut.shut in
    let front = before ++ shut.gate ∷ [] in
    let more = drop (length piece) shut.rest in
    let place : at ≡ length front = omega (arith, is, may.stands, length-append before (shut.gate ∷ [])) in
    let seen : w.seen d0 ≡ front ++ shut.rest = shut.is ∙ sym (append_assoc before (shut.gate ∷ []) shut.rest) in
    let parts : piece ++ more ≡ spelled ++ 0 ∷ more = ap (λ (l : List ℕ). l ++ more) may.ends ∙ append_assoc spelled (0 ∷ []) more in
    record {
      gate = shut.gate;
      more = more;
      shut = shut.shut;
      is = written ∙ ap (λ (l : List ℕ). overwritten l at piece) seen ∙ written_at front shut.rest piece at place
          ∙ append_assoc before (shut.gate ∷ []) (piece ++ more) ∙ ap (λ (l : List ℕ). before ++ shut.gate ∷ l) parts;
    }

-- the second write leaves the gate shut or opens it
pub second_images : {D : Type 0} (w : Watch D) (d2 d3 : D) (end : ℕ) (before spelled : List ℕ) → end ≡ length before → IsStaged before spelled (w.seen d2) → LeavesOnly w d2 (w.seen d2)
    → Wrote w end 1 d2 d3 → EachNow w (IsEitherShut before spelled) d3
second_images w d2 d3 end before spelled is staged only wrote =
    each_wrote w end 1 (λ b. b ≡ w.seen d2) (IsEitherShut before spelled) d2 d3 wrote
    (λ b c same torn.
    let at_gate : Torn (length before) 1 (before ++ staged.gate ∷ (spelled ++ 0 ∷ staged.more)) c =
    subst (λ (l : List ℕ). Torn (length before) 1 l c) (same ∙ staged.is) (subst (λ (n : ℕ). Torn n 1 b c) is torn) in
    let any = torn_gate before staged.gate (spelled ++ 0 ∷ staged.more) c at_gate in
    either_shut before spelled staged.more any.0 c any.1)
    only

-- and opens it where it is done
pub second_written : {D : Type 0} (w : Watch D) (d2 d3 : D) (end : ℕ) (before spelled : List ℕ) → end ≡ length before → IsStaged before spelled (w.seen d2)
    → w.seen d3 ≡ overwritten (w.seen d2) end (1 ∷ []) → ShutAt (before ++ 1 ∷ spelled) (w.seen d3)
second_written w d2 d3 end before spelled is staged written = record {
  gate = 0;
  rest = staged.more;
  shut = λ e. let none : ⊥ = omega (arith, e) in none;
  is = written ∙ ap (λ (l : List ℕ). overwritten l end (1 ∷ [])) staged.is ∙ written_at before (staged.gate ∷ (spelled ++ 0 ∷ staged.more)) (1 ∷ []) end is
      ∙ sym (append_assoc before (1 ∷ spelled) (0 ∷ staged.more));
}

pub staged_same : (before spelled a b : List ℕ) → b ≡ a → IsStaged before spelled a → IsStaged before spelled b
staged_same before spelled a b same staged = subst (IsStaged before spelled) (sym same) staged

pub shut_same : {D : Type 0} (w : Watch D) (before : List ℕ) (old new : D) → w.seen new ≡ w.seen old → ShutAt before (w.seen old) → LeavesOnly w new (w.seen new) → IsShutOn w before new
shut_same w before old new same shut only = record { shut = subst (ShutAt before) (sym same) shut; durable = only }
