-- What a write at a gate or behind it leaves of the bytes of an area, and what a crash that cuts it short does.
use Rattle.std.proofs.Common.{◌≡◌, ℕ, zero, suc, ◌+◌, ◌-◌, ◌≤◌, List, [], ◌∷◌, ◌++◌, length, take, drop, replicate, get_or, inl, inr, refl, sym, ap, subst, ◌∙◌, arith, append_assoc, length-append, take-append-drop}
use Rattle.std.specs.Prelude.{min}
use Rattle.std.proofs.Math.Seq.{drop-append-add}
use Rattle.std.proofs.lemmas.List.{append-nil, take_at, drop_at, drop_more}
use Rattle.tab_outside.specs.Disks.{Torn, overwritten}
use Rattle.tab_journal.specs.Areas.{ShutAt}
use Rattle.tab_journal.specs.Steps.{IsEitherShut}

take_less : (k m : ℕ) (xs : List ℕ) → k ≤ m → take k (take m xs) ≡ take k xs
take_less zero m xs less = refl
take_less (suc k) zero xs less = absurd (let none : ⊥ = omega (arith, less) in none)
take_less (suc k) (suc m) [] less = refl
take_less (suc k) (suc m) (x ∷ xs) less = ap (λ (l : List ℕ). x ∷ l) (take_less k m xs (omega (arith, less)))

front_same : (k m : ℕ) (xs ys : List ℕ) → k ≤ m → take m xs ≡ take m ys → take k xs ≡ take k ys
front_same k m xs ys less same = sym (take_less k m xs less) ∙ ap (take k) same ∙ take_less k m ys less

-- the bytes up to a gate, and the gate
to_gate : (before : List ℕ) (gate : ℕ) (rest : List ℕ) → take (length before + 1) (before ++ gate ∷ rest) ≡ before ++ gate ∷ []
to_gate before gate rest =
    ap (take (length before + 1)) (sym (append_assoc before (gate ∷ []) rest))
    ∙ take_at (before ++ gate ∷ []) rest (length before + 1) (length-append before (gate ∷ []))

past_gate : (before : List ℕ) (gate : ℕ) (rest : List ℕ) → drop (length before + 1) (before ++ gate ∷ rest) ≡ rest
past_gate before gate rest =
    ap (drop (length before + 1)) (sym (append_assoc before (gate ∷ []) rest))
    ∙ drop_at (before ++ gate ∷ []) rest (length before + 1) (length-append before (gate ∷ []))

-- a torn write behind a gate leaves what stands up to it
pub torn_behind : (before : List ℕ) (gate : ℕ) (rest : List ℕ) (at n : ℕ) (c : List ℕ) → length before + 1 ≤ at → Torn at n (before ++ gate ∷ rest) c
    → (more : List ℕ) × (c ≡ before ++ gate ∷ more)
torn_behind before gate rest at n c behind torn =
    let s = before ++ gate ∷ rest in
    let k = length before + 1 in
    let size : length s ≡ length before + (length rest + 1) = omega (arith, length-append before (gate ∷ rest)) in
    let within : k ≤ min at (length s) = omega (arith, size, behind) in
    let front : take k c ≡ before ++ gate ∷ [] = front_same k (min at (length s)) c s within torn.before ∙ to_gate before gate rest in
    (drop k c, sym (take-append-drop k c) ∙ ap (λ (l : List ℕ). l ++ drop k c) front ∙ append_assoc before (gate ∷ []) (drop k c))

-- a torn write of a gate alone leaves all but the gate
pub torn_gate : (before : List ℕ) (gate : ℕ) (rest c : List ℕ) → Torn (length before) 1 (before ++ gate ∷ rest) c → (any : ℕ) × (c ≡ before ++ any ∷ rest)
torn_gate before gate rest c torn =
    let s = before ++ gate ∷ rest in
    let n = length before in
    let size : length s ≡ n + (length rest + 1) = omega (arith, length-append before (gate ∷ rest)) in
    let least : min n (length s) ≡ n = omega (arith, size) in
    let front : take n c ≡ before = subst (λ (m : ℕ). take m c ≡ take m s) least torn.before ∙ take_at before (gate ∷ rest) n refl in
    let behind : drop (n + 1) c ≡ rest = torn.after ∙ past_gate before gate rest in
    let any = get_or c n 0 in
    let back : drop n c ≡ any ∷ rest = drop_more c n 0 (omega (arith, torn.no_shorter, size)) ∙ ap (λ (l : List ℕ). any ∷ l) behind in
    (any, sym (take-append-drop n c) ∙ ap (λ (l : List ℕ). l ++ drop n c) front ∙ ap (λ (l : List ℕ). before ++ l) back)

-- a write behind some bytes
pub written_at : (front back piece : List ℕ) (at : ℕ) → at ≡ length front → overwritten (front ++ back) at piece ≡ front ++ (piece ++ drop (length piece) back)
written_at front back [] at is = refl
written_at front back (byte ∷ piece) at is =
    let s = front ++ back in
    let k = length (byte ∷ piece) in
    let none : at - length s ≡ 0 = omega (arith, is, length-append front back) in
    let zeros : replicate (at - length s) 0 ≡ [] = ap (λ (m : ℕ). replicate m 0) none in
    let before : take at s ≡ front = take_at front back at (sym is) in
    let after : drop (at + k) s ≡ drop k back = ap (λ (m : ℕ). drop (m + k) s) is ∙ drop-append-add front back k in
    ap (λ (l : List ℕ). l ++ replicate (at - length s) 0 ++ (byte ∷ piece) ++ drop (at + k) s) before
    ∙ ap (λ (l : List ℕ). front ++ l ++ (byte ∷ piece) ++ drop (at + k) s) zeros
    ∙ ap (λ (l : List ℕ). l ++ (byte ∷ piece) ++ drop (at + k) s) (append-nil front)
    ∙ ap (λ (l : List ℕ). front ++ (byte ∷ piece) ++ l) after
    ∙ append_assoc front (byte ∷ piece) (drop k back)

-- a gate that is shut stays so under a torn write behind it
pub shut_stays : (before : List ℕ) (at n : ℕ) (s c : List ℕ) → length before + 1 ≤ at → ShutAt before s → Torn at n s c → ShutAt before c
shut_stays before at n s c behind shut torn =
    let t = torn_behind before shut.gate shut.rest at n c behind (subst (λ (l : List ℕ). Torn at n l c) shut.is torn) in
    record { gate = shut.gate; rest = t.0; shut = shut.shut; is = t.1 }

-- whatever byte stands at a gate, it is open or it is not
pub either_shut : (before spelled more : List ℕ) (any : ℕ) (c : List ℕ) → c ≡ before ++ any ∷ (spelled ++ 0 ∷ more) → IsEitherShut before spelled c
either_shut before spelled more zero c is = inl (record { gate = 0; rest = spelled ++ 0 ∷ more; shut = λ e. let none : ⊥ = omega (arith, e) in none; is = is })
either_shut before spelled more (suc zero) c is =
    inr (record { gate = 0; rest = more; shut = λ e. let none : ⊥ = omega (arith, e) in none; is = is ∙ sym (append_assoc before (1 ∷ spelled) (0 ∷ more)) })
either_shut before spelled more (suc (suc n)) c is =
    inl (record { gate = suc (suc n); rest = spelled ++ 0 ∷ more; shut = λ e. let none : ⊥ = omega (arith, e) in none; is = is })
