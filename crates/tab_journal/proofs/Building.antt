-- How an area is built while it is closed, and opened.
use Rattle.std.proofs.Common.{◌≡◌, ℕ, zero, suc, ◌+◌, ◌≤◌, List, [], ◌∷◌, ◌++◌, length, drop, inl, inr, refl, sym, ap, subst, ◌∙◌, arith, append_assoc}
use Rattle.std.specs.Prelude.{◌≢◌}
use Rattle.tab_outside.specs.Disks.{Watch, Wrote, Torn, LeavesOnly, ReadsImage, overwritten}
use Rattle.tab_journal.specs.Areas.{IsClosed}
use Rattle.tab_journal.specs.Steps.{EachNow, IsClosedOr, IsBuilt}
use Rattle.tab_journal.proofs.Bytes.{torn_gate, written_at, shut_stays}
use Rattle.tab_journal.proofs.Images.{IsStaged, each_wrote}

-- a write behind the gate of a closed area leaves it closed
pub closed_wrote : {D : Type 0} (w : Watch D) (at n : ℕ) (old new : D) → 1 ≤ at → Wrote w at n old new → EachNow w IsClosed old → EachNow w IsClosed new
closed_wrote w at n old new behind wrote each =
    each_wrote w at n IsClosed IsClosed old new wrote (λ b c shut torn. shut_stays [] at n b c behind shut torn) each

-- and puts its bytes behind those that were built
pub built_wrote : {D : Type 0} (w : Watch D) (at : ℕ) (built piece : List ℕ) (old new : D) → IsBuilt w built old → at ≡ 1 + length built → EachNow w IsClosed new
    → w.seen new ≡ overwritten (w.seen old) at piece → IsBuilt w (built ++ piece) new
built_wrote w at built piece old new is place closed written =
    let more = drop (length piece) is.rest in
    record {
      closed = closed;
      gate = is.gate;
      rest = more;
      is = written ∙ ap (λ (l : List ℕ). overwritten l at piece) is.is ∙ written_at (is.gate ∷ built) is.rest piece at (omega (arith, place))
          ∙ ap (λ (l : List ℕ). is.gate ∷ l) (sym (append_assoc built piece more));
    }

-- what is read of a closed area has a gate that is not open
first_byte : (gate : ℕ) (rest : List ℕ) (shut : IsClosed (gate ∷ rest)) → gate ≢ 1
first_byte gate rest shut is = shut.shut (let same : shut.gate ≡ gate = cc in same ∙ is)

-- an area that is built up to a closed gate, as a gate that is staged before all of it
pub built_staged : {D : Type 0} (w : Watch D) (end : ℕ) (built : List ℕ) (old new : D) → ReadsImage w → IsBuilt w built old → end ≡ 1 + length built
    → EachNow w IsClosed new → w.seen new ≡ overwritten (w.seen old) end (0 ∷ []) → IsStaged [] built (w.seen new)
built_staged w end built old new reads is place closed written =
    let now : w.seen new ≡ is.gate ∷ (built ++ 0 ∷ drop 1 is.rest) =
    written ∙ ap (λ (l : List ℕ). overwritten l end (0 ∷ [])) is.is ∙ written_at (is.gate ∷ built) is.rest (0 ∷ []) end (omega (arith, place)) in
    record {
      gate = is.gate;
      more = drop 1 is.rest;
      shut = first_byte is.gate (built ++ 0 ∷ drop 1 is.rest) (subst IsClosed now (closed (w.seen new) (reads new)));
      is = now;
    }

-- a closed area that is synced
pub closed_done : (seen old c : List ℕ) → seen ≡ overwritten old 0 (0 ∷ []) → c ≡ seen → (c ≡ 0 ∷ drop 1 old)
closed_done seen old c written same = same ∙ written ∙ written_at [] old (0 ∷ []) 0 refl

pub zero_closed : (rest c : List ℕ) → c ≡ 0 ∷ rest → IsClosed c
zero_closed rest c is = record { gate = 0; rest = rest; shut = λ e. let none : ⊥ = omega (arith, e) in none; is = is }

-- a torn write of the gate closes an open area, or leaves it as it was
closed_or : (any : ℕ) (rest c : List ℕ) → c ≡ any ∷ rest → IsClosedOr (1 ∷ rest) c
closed_or zero rest c is = inl (record { gate = 0; rest = rest; shut = λ e. let none : ⊥ = omega (arith, e) in none; is = is })
closed_or (suc zero) rest c is = inr is
closed_or (suc (suc n)) rest c is = inl (record { gate = suc (suc n); rest = rest; shut = λ e. let none : ⊥ = omega (arith, e) in none; is = is })

pub closing_images : {D : Type 0} (w : Watch D) (old new : D) (rest : List ℕ) → LeavesOnly w old (1 ∷ rest) → Wrote w 0 1 old new → EachNow w (IsClosedOr (1 ∷ rest)) new
closing_images w old new rest only wrote =
    each_wrote w 0 1 (λ b. b ≡ 1 ∷ rest) (IsClosedOr (1 ∷ rest)) old new wrote
    (λ b c same torn.
    let any = torn_gate [] 1 rest c (subst (λ (l : List ℕ). Torn 0 1 l c) same torn) in
    closed_or any.0 rest c any.1)
    only
