-- The tick of an ETag.
use Rattle.std.proofs.Common.{◌≡◌, ℕ, zero, suc, ◌+◌, ◌≤◌, ◌<◌, ◌↔◌, ◌⊎◌, List, Bool, true, false, Option, Some, None, refl, sym, ap, ◌∙◌, arith, inl, inr, cond, true≢false, bytes_eq}
use Rattle.std.proofs.lemmas.Slice.Eq.{bytes_eq-Decides}
use Rattle.std.proofs.lemmas.Bool.{cases_lt}
use Rattle.tab_edm.specs.Moments.{text_of_etag}
use Rattle.tab_edm.specs.declared.TheConstants.{GREATEST}
use Rattle.tab_service.specs.Conditions.{last_below, tick_of_etag}

none_here : (b : Bool) (n : ℕ) (rest : Option ℕ) → b ≡ false → rest ≡ None → cond b (Some n) rest ≡ None
none_here true n rest fails none = absurd (true≢false fails)
none_here false n rest fails none = none

-- no number passes
none_below : (test : ℕ → Bool) (n : ℕ) → ((k : ℕ) → k < n → test k ≡ false) → last_below test n ≡ None
unfolding last_below
none_below test zero fails = refl
none_below test (suc n) fails =
    none_here (test n) n (last_below test n) (fails n (omega arith)) (none_below test n (λ k below. fails k (omega arith)))

some_here : (b : Bool) (n found : ℕ) (rest : Option ℕ) → (b ≡ true → n ≡ found) → (b ≡ false → rest ≡ Some found) → cond b (Some n) rest ≡ Some found
some_here true n found rest here later = ap (λ (k : ℕ). Some k) (here refl)
some_here false n found rest here later = later refl

not_last : (test : ℕ → Bool) (n found : ℕ) → test found ≡ true → test n ≡ false → found < suc n → (found < n) ⊎ (n ≤ found) → found < n
not_last test n found passes fails below (inl lower) = lower
not_last test n found passes fails below (inr least) =
    let same : found ≡ n = omega arith in absurd (true≢false (sym passes ∙ ap test same ∙ fails))

-- just one passes
pub one_below : (test : ℕ → Bool) (n found : ℕ) → found < n → test found ≡ true → ((k : ℕ) → k < n → test k ≡ true → k ≡ found) → last_below test n ≡ Some found
unfolding last_below
one_below test zero found below passes only = absurd (omega arith)
one_below test (suc n) found below passes only =
    some_here (test n) n found (last_below test n) (only n (omega arith))
    (λ fails. one_below test n found (not_last test n found passes fails below (cases_lt found n)) passes (λ k lower. only k (omega arith)))

abbrev pub IsTickOf : List ℕ → Option ℕ → Type 0
IsTickOf text found = (tick : ℕ) → (found ≡ Some tick) ↔ ((tick ≤ GREATEST) × (text ≡ text_of_etag tick))

missing : (text : List ℕ) → IsTickOf text None → (k : ℕ) → k < GREATEST + 1 → (b : Bool) → bytes_eq (text_of_etag k) text ≡ b → b ≡ false
missing text is k below true e = absurd (none_some ((is k).1 (omega arith, sym ((bytes_eq-Decides (text_of_etag k) text).0 e))))
  where
    none_some : None ≡ Some k → ⊥
    none_some h = cc
missing text is k below false e = refl

the_one : (text : List ℕ) (tick : ℕ) → IsTickOf text (Some tick) → (k : ℕ) → k < GREATEST + 1 → bytes_eq (text_of_etag k) text ≡ true → k ≡ tick
the_one text tick is k below e = same ((is k).1 (omega arith, sym ((bytes_eq-Decides (text_of_etag k) text).0 e)))
  where
    same : Some tick ≡ Some k → k ≡ tick
    same h = cc

-- the reader of ETags gives the tick whose ETag a text is
pub tick_read : (text : List ℕ) (found : Option ℕ) → IsTickOf text found → found ≡ tick_of_etag text
unfolding tick_of_etag
tick_read text None is =
    sym (none_below (λ tick. bytes_eq (text_of_etag tick) text) (GREATEST + 1) (λ k below. missing text is k below (bytes_eq (text_of_etag k) text) refl))
tick_read text (Some tick) is =
    let here = (is tick).0 refl in
    sym (one_below (λ t. bytes_eq (text_of_etag t) text) (GREATEST + 1) tick (omega (arith, here.0)) ((bytes_eq-Decides (text_of_etag tick) text).1 (sym here.1)) (the_one text tick is))
