-- What a reader does up to the character at which it stops does not hang on what is behind that character, and larger
-- limits change nothing of it.
use Rattle.std.proofs.Common.{◌≡◌, ℕ, List, [], ◌∷◌, ◌++◌, length, Bool, true, false, cond, ◌==◌, Ok, Err, refl, ap, sym, subst, ◌∙◌, arith, append_assoc, append-nil, length-append, ◌⊎◌, inl, inr}
use Rattle.std.proofs.lemmas.List.{append_cancel_right}
use Rattle.tab_keys.specs.Results.{◌>>=◌}
use Rattle.tab_filter.specs.Lexer.{Read, ParseFault, Syntax, BadLiteral, Deep, TooMany, starts, past_first}

-- what is left is an end of the text
abbrev pub Ended : {A : Type 0} → List ℕ → Read A → Type 0
Ended t (Ok x) = (s : List ℕ) × (t ≡ s ++ x.1)
Ended t (Err (Syntax left)) = (s : List ℕ) × (t ≡ s ++ left)
Ended t (Err (BadLiteral left)) = Unit {0}
Ended t (Err (Deep left)) = Unit {0}
Ended t (Err TooMany) = Unit {0}

abbrev pub found : {A : Type 0} → A → List ℕ → Read A
found v left = Ok (v, left)

abbrev pub stopped : {A : Type 0} → List ℕ → Read A
stopped left = Err (Syntax left)

pub record Same {A : Type 0} (f g : List ℕ → Read A) : Type 0 where
  pub ends : (t : List ℕ) → Ended t (f t)
  pub ok : (p : List ℕ) (b : ℕ) (r q : List ℕ) (v : A) → f (p ++ b ∷ r) ≡ found v (b ∷ r) → g (p ++ b ∷ q) ≡ found v (b ∷ q)
  pub bad : (p : List ℕ) (b : ℕ) (r q : List ℕ) → f (p ++ b ∷ r) ≡ stopped {A = A} (b ∷ r) → g (p ++ b ∷ q) ≡ stopped {A = A} (b ∷ q)

-- ---- equations of results
abbrev pub done : {A : Type 0} → A × List ℕ → Read A
done x = Ok x

abbrev pub halted : (A : Type 0) → ParseFault → Read A
halted A e = Err e

pub done_is : {A : Type 0} {x y : A × List ℕ} → done x ≡ done y → x ≡ y
done_is e = cc

pub stop_is : (A : Type 0) {l m : List ℕ} → halted A (Syntax l) ≡ halted A (Syntax m) → l ≡ m
stop_is A e = cc

pub ok_no_stop : {A : Type 0} {x : A × List ℕ} {e : ParseFault} → done x ≡ halted A e → ⊥
ok_no_stop e = cc

pub err_no_ok : {A : Type 0} {e : ParseFault} {x : A × List ℕ} → halted A e ≡ done x → ⊥
err_no_ok e = cc

pub bad_no_stop : (A : Type 0) {l m : List ℕ} → halted A (BadLiteral l) ≡ halted A (Syntax m) → ⊥
bad_no_stop A e = cc

pub deep_no_stop : (A : Type 0) {l m : List ℕ} → halted A (Deep l) ≡ halted A (Syntax m) → ⊥
deep_no_stop A e = cc

pub many_no_stop : (A : Type 0) {m : List ℕ} → halted A TooMany ≡ halted A (Syntax m) → ⊥
many_no_stop A e = cc

-- a text is not a proper end of itself
pub no_end : (r s : List ℕ) (b : ℕ) → r ≡ s ++ b ∷ r → ⊥
no_end r s b e = absurd (let long = ap length e ∙ length-append s (b ∷ r) in omega arith)

pub cancel : (p s u : List ℕ) → p ++ u ≡ s ++ u → p ≡ s
cancel p s u e = append_cancel_right p s u e

pub no_front : (c : ℕ) (p u : List ℕ) → (c ∷ p) ++ u ≡ u → ⊥
no_front c p u e = absurd (let long = ap length e in let more = length-append p u in omega arith)

-- ---- readers behind one another
-- what the first reader leaves of a text that the second stops in
record Cut {A : Type 0} (g : List ℕ → Read A) (p : List ℕ) (b : ℕ) (r q : List ℕ) (v : A) (u : List ℕ) : Type 0 where
  left : List ℕ
  is : u ≡ left ++ b ∷ r
  reads : g (p ++ b ∷ q) ≡ found v (left ++ b ∷ q)

cut : {A : Type 0} (f g : List ℕ → Read A) → Same f g → (p : List ℕ) (b : ℕ) (r q : List ℕ) (v : A) (u s : List ℕ) → f (p ++ b ∷ r) ≡ found v u → u ≡ s ++ b ∷ r → Cut g p b r q v u
cut f g same p b r q v u s e is =
    let front = same.ends (p ++ b ∷ r) in
    let ended : Ended (p ++ b ∷ r) (found v u) = subst (Ended (p ++ b ∷ r)) e front in
    let split : p ≡ ended.0 ++ s = cancel p (ended.0 ++ s) (b ∷ r) (ended.1 ∙ ap (λ (l : List ℕ). ended.0 ++ l) is ∙ sym (append_assoc ended.0 s (b ∷ r))) in
    by_rest s is ended.0 split
  where
    by_rest : (s : List ℕ) → u ≡ s ++ b ∷ r → (t : List ℕ) → p ≡ t ++ s → Cut g p b r q v u
    by_rest [] is t split =
        let here : p ≡ t = split ∙ append-nil t in
        record { left = []; is = is; reads = ap (λ (l : List ℕ). g (l ++ b ∷ q)) here ∙ same.ok t b r q v (ap (λ (l : List ℕ). f (l ++ b ∷ r)) (sym here) ∙ e ∙ ap (found v) is) }
    by_rest (c ∷ cs) is t split =
        let before : p ++ b ∷ r ≡ t ++ c ∷ (cs ++ b ∷ r) = ap (λ (l : List ℕ). l ++ b ∷ r) split ∙ append_assoc t (c ∷ cs) (b ∷ r) in
        let after : p ++ b ∷ q ≡ t ++ c ∷ (cs ++ b ∷ q) = ap (λ (l : List ℕ). l ++ b ∷ q) split ∙ append_assoc t (c ∷ cs) (b ∷ q) in
        record { left = c ∷ cs; is = is; reads = ap g after ∙ same.ok t c (cs ++ b ∷ r) (cs ++ b ∷ q) v (sym (ap f before) ∙ e ∙ ap (found v) is) }

pub ended_after : {A : Type 0} (t s u : List ℕ) (r : Read A) → t ≡ s ++ u → Ended u r → Ended t r
ended_after t s u (Ok x) is h = (s ++ h.0, is ∙ ap (λ (l : List ℕ). s ++ l) h.1 ∙ sym (append_assoc s h.0 x.1))
ended_after t s u (Err (Syntax left)) is h = (s ++ h.0, is ∙ ap (λ (l : List ℕ). s ++ l) h.1 ∙ sym (append_assoc s h.0 left))
ended_after t s u (Err (BadLiteral left)) is h = tt
ended_after t s u (Err (Deep left)) is h = tt
ended_after t s u (Err TooMany) is h = tt

pub ended_bind : {A B : Type 0} (t : List ℕ) (r : Read A) (f : A × List ℕ → Read B) → Ended t r → ((x : A × List ℕ) → Ended x.1 (f x)) → Ended t (r >>= f)
ended_bind t (Ok x) f h next = ended_after t h.0 x.1 (f x) h.1 (next x)
ended_bind t (Err (Syntax left)) f h next = h
ended_bind t (Err (BadLiteral left)) f h next = tt
ended_bind t (Err (Deep left)) f h next = tt
ended_bind t (Err TooMany) f h next = tt

-- where a bind comes to an answer, and where it stops
bind_ok : {A B : Type 0} (r : Read A) (f : A × List ℕ → Read B) (y : B × List ℕ) → (r >>= f) ≡ done y → (x : A × List ℕ) × (r ≡ done x) × (f x ≡ done y)
bind_ok (Ok x) f y e = (x, refl, e)
bind_ok (Err e) f y h = absurd (err_no_ok h)

bind_bad : {A B : Type 0} (r : Read A) (f : A × List ℕ → Read B) (left : List ℕ) → (r >>= f) ≡ halted B (Syntax left) → (r ≡ halted A (Syntax left)) ⊎ ((x : A × List ℕ) × (r ≡ done x) × (f x ≡ halted B (Syntax left)))
bind_bad (Ok x) f left e = inr (x, refl, e)
bind_bad {A} {B} (Err (Syntax l)) f left e = inl (ap (λ (m : List ℕ). halted A (Syntax m)) (stop_is B e))
bind_bad {A} {B} (Err (BadLiteral l)) f left e = absurd (bad_no_stop B e)
bind_bad {A} {B} (Err (Deep l)) f left e = absurd (deep_no_stop B e)
bind_bad {A} {B} (Err TooMany) f left e = absurd (many_no_stop B e)

-- the second reader may know the whole text, which is told in faults alone
pub same_bind : {A B : Type 0} (f g : List ℕ → Read A) (h k : List ℕ → A → List ℕ → Read B) → Same f g → ((t u : List ℕ) (v : A) → Same (h t v) (k u v)) → Same (λ t. f t >>= λ x. h t x.0 x.1) (λ t. g t >>= λ x. k t x.0 x.1)
same_bind {A} {B} f g h k same next = record {
  ends = λ t. ended_bind t (f t) (λ x. h t x.0 x.1) (same.ends t) (λ x. (next t t x.0).ends x.1);
  ok = λ p b r q v e.
      let t = p ++ b ∷ r in
      let x = bind_ok (f t) (λ x. h t x.0 x.1) (v, b ∷ r) e in
      let rest = (next t t x.0.0).ends x.0.1 in
      let ended : Ended x.0.1 (found v (b ∷ r)) = subst (Ended x.0.1) x.2 rest in
      let c = cut f g same p b r q x.0.0 x.0.1 ended.0 x.1 ended.1 in
      ap (λ (l : Read A). l >>= λ x. k (p ++ b ∷ q) x.0 x.1) c.reads ∙ (next t (p ++ b ∷ q) x.0.0).ok c.left b r q v (ap (h t x.0.0) (sym c.is) ∙ x.2);
  bad = λ p b r q e. by_stop p b r q (bind_bad (f (p ++ b ∷ r)) (λ x. h (p ++ b ∷ r) x.0 x.1) (b ∷ r) e);
}
  where
    by_stop : (p : List ℕ) (b : ℕ) (r q : List ℕ) → (f (p ++ b ∷ r) ≡ halted A (Syntax (b ∷ r))) ⊎ ((x : A × List ℕ) × (f (p ++ b ∷ r) ≡ done x) × (h (p ++ b ∷ r) x.0 x.1 ≡ halted B (Syntax (b ∷ r)))) → (g (p ++ b ∷ q) >>= λ x. k (p ++ b ∷ q) x.0 x.1) ≡ halted B (Syntax (b ∷ q))
    by_stop p b r q (inl e) = ap (λ (l : Read A). l >>= λ x. k (p ++ b ∷ q) x.0 x.1) (same.bad p b r q e)
    by_stop p b r q (inr x) =
        let t = p ++ b ∷ r in
        let rest = (next t t x.0.0).ends x.0.1 in
        let ended : Ended x.0.1 (halted B (Syntax (b ∷ r))) = subst (Ended x.0.1) x.2 rest in
        let c = cut f g same p b r q x.0.0 x.0.1 ended.0 x.1 ended.1 in
        ap (λ (l : Read A). l >>= λ x. k (p ++ b ∷ q) x.0 x.1) c.reads ∙ (next t (p ++ b ∷ q) x.0.0).bad c.left b r q (ap (h t x.0.0) (sym c.is) ∙ x.2)

-- nothing is read
pub same_stay : {A : Type 0} (v : A) → Same (λ u. found v u) (λ u. found v u)
same_stay {A} v = record {
  ends = λ t. ([], refl);
  ok = λ p b r q w e. let x = done_is e in stays p b r q w (ap (λ (y : A × List ℕ). y.0) x) (ap (λ (y : A × List ℕ). y.1) x);
  bad = λ p b r q e. absurd (ok_no_stop e);
}
  where
    stays : (p : List ℕ) (b : ℕ) (r q : List ℕ) (w : A) → v ≡ w → p ++ b ∷ r ≡ b ∷ r → found v (p ++ b ∷ q) ≡ found w (b ∷ q)
    stays [] b r q w e is = ap (λ (x : A). found x (b ∷ q)) e
    stays (c ∷ cs) b r q w e is = absurd (no_front c cs (b ∷ r) is)

-- another value for what was read
pub same_map : {A B : Type 0} (f g : List ℕ → Read A) (h : A → B) → Same f g → Same (λ t. f t >>= λ m. Ok (h m.0, m.1)) (λ t. g t >>= λ m. Ok (h m.0, m.1))
same_map {A} {B} f g h same = same_bind f g (λ _ v u. Ok (h v, u)) (λ _ v u. Ok (h v, u)) same (λ t u v. same_stay (h v))

-- nothing can be read
pub same_here : (A : Type 0) → Same (λ u. halted A (Syntax u)) (λ u. halted A (Syntax u))
same_here A = record {
  ends = λ t. ([], refl);
  ok = λ p b r q w e. absurd (err_no_ok e);
  bad = λ p b r q e. stays p b r q (stop_is A e);
}
  where
    stays : (p : List ℕ) (b : ℕ) (r q : List ℕ) → p ++ b ∷ r ≡ b ∷ r → halted A (Syntax (p ++ b ∷ q)) ≡ halted A (Syntax (b ∷ q))
    stays [] b r q is = refl
    stays (c ∷ cs) b r q is = absurd (no_front c cs (b ∷ r) is)

-- a fault of another kind, of which nothing is said
pub same_fault : (A : Type 0) (f g : List ℕ → Read A) → ((t : List ℕ) → Ended t (f t)) → ((t : List ℕ) (x : A × List ℕ) → f t ≡ done x → ⊥) → ((t left : List ℕ) → f t ≡ halted A (Syntax left) → ⊥) → Same f g
same_fault A f g ends ok bad = record {
  ends = ends;
  ok = λ p b r q v e. absurd (ok (p ++ b ∷ r) (v, b ∷ r) e);
  bad = λ p b r q e. absurd (bad (p ++ b ∷ r) (b ∷ r) e);
}

-- by a test that does not look at the text
pub same_choice : {A : Type 0} (c : Bool) (f g h k : List ℕ → Read A) → (c ≡ true → Same f g) → (c ≡ false → Same h k) → Same (λ t. cond c (f t) (h t)) (λ t. cond c (g t) (k t))
same_choice true f g h k s z = s refl
same_choice false f g h k s z = z refl

-- by the first character, past which the one reader begins
pub same_starts : {A : Type 0} (c : ℕ) (f g h k : List ℕ → List ℕ → Read A) → ((t u : List ℕ) → Same (f t) (g u)) → ((t u : List ℕ) → Same (h t) (k u)) → Same (λ t. cond (starts c t) (f t (past_first t)) (h t t)) (λ t. cond (starts c t) (g t (past_first t)) (k t t))
same_starts {A} c f g h k first other = record {
  ends = ends;
  ok = ok;
  bad = bad;
}
  where
    ends : (t : List ℕ) → Ended t (cond (starts c t) (f t (past_first t)) (h t t))
    ends [] = (other [] []).ends []
    ends (d ∷ ds) =
        elim (d == c) as (λ v. Ended (d ∷ ds) (cond v (f (d ∷ ds) ds) (h (d ∷ ds) (d ∷ ds)))) [
          | true ↦ ended_after (d ∷ ds) (d ∷ []) ds (f (d ∷ ds) ds) refl ((first (d ∷ ds) []).ends ds)
          | false ↦ (other (d ∷ ds) []).ends (d ∷ ds)
        ]

    ok : (p : List ℕ) (b : ℕ) (r q : List ℕ) (v : A) → cond (starts c (p ++ b ∷ r)) (f (p ++ b ∷ r) (past_first (p ++ b ∷ r))) (h (p ++ b ∷ r) (p ++ b ∷ r)) ≡ found v (b ∷ r) → cond (starts c (p ++ b ∷ q)) (g (p ++ b ∷ q) (past_first (p ++ b ∷ q))) (k (p ++ b ∷ q) (p ++ b ∷ q)) ≡ found v (b ∷ q)
    ok [] b r q v e =
        elim (b == c) as (λ z. cond z (f (b ∷ r) r) (h (b ∷ r) (b ∷ r)) ≡ found v (b ∷ r) → cond z (g (b ∷ q) q) (k (b ∷ q) (b ∷ q)) ≡ found v (b ∷ q)) [
          | true ↦ λ e. let ended : Ended r (found v (b ∷ r)) = subst (Ended r) e ((first (b ∷ r) []).ends r) in absurd (no_end r ended.0 b ended.1)
          | false ↦ λ e. (other (b ∷ r) (b ∷ q)).ok [] b r q v e
        ] e
    ok (d ∷ ds) b r q v e =
        elim (d == c) as (λ z. cond z (f (d ∷ (ds ++ b ∷ r)) (ds ++ b ∷ r)) (h (d ∷ (ds ++ b ∷ r)) (d ∷ (ds ++ b ∷ r))) ≡ found v (b ∷ r) → cond z (g (d ∷ (ds ++ b ∷ q)) (ds ++ b ∷ q)) (k (d ∷ (ds ++ b ∷ q)) (d ∷ (ds ++ b ∷ q))) ≡ found v (b ∷ q)) [
          | true ↦ λ e. (first (d ∷ (ds ++ b ∷ r)) (d ∷ (ds ++ b ∷ q))).ok ds b r q v e
          | false ↦ λ e. (other (d ∷ (ds ++ b ∷ r)) (d ∷ (ds ++ b ∷ q))).ok (d ∷ ds) b r q v e
        ] e

    bad : (p : List ℕ) (b : ℕ) (r q : List ℕ) → cond (starts c (p ++ b ∷ r)) (f (p ++ b ∷ r) (past_first (p ++ b ∷ r))) (h (p ++ b ∷ r) (p ++ b ∷ r)) ≡ halted A (Syntax (b ∷ r)) → cond (starts c (p ++ b ∷ q)) (g (p ++ b ∷ q) (past_first (p ++ b ∷ q))) (k (p ++ b ∷ q) (p ++ b ∷ q)) ≡ halted A (Syntax (b ∷ q))
    bad [] b r q e =
        elim (b == c) as (λ z. cond z (f (b ∷ r) r) (h (b ∷ r) (b ∷ r)) ≡ halted A (Syntax (b ∷ r)) → cond z (g (b ∷ q) q) (k (b ∷ q) (b ∷ q)) ≡ halted A (Syntax (b ∷ q))) [
          | true ↦ λ e. let ended : Ended r (halted A (Syntax (b ∷ r))) = subst (Ended r) e ((first (b ∷ r) []).ends r) in absurd (no_end r ended.0 b ended.1)
          | false ↦ λ e. (other (b ∷ r) (b ∷ q)).bad [] b r q e
        ] e
    bad (d ∷ ds) b r q e =
        elim (d == c) as (λ z. cond z (f (d ∷ (ds ++ b ∷ r)) (ds ++ b ∷ r)) (h (d ∷ (ds ++ b ∷ r)) (d ∷ (ds ++ b ∷ r))) ≡ halted A (Syntax (b ∷ r)) → cond z (g (d ∷ (ds ++ b ∷ q)) (ds ++ b ∷ q)) (k (d ∷ (ds ++ b ∷ q)) (d ∷ (ds ++ b ∷ q))) ≡ halted A (Syntax (b ∷ q))) [
          | true ↦ λ e. (first (d ∷ (ds ++ b ∷ r)) (d ∷ (ds ++ b ∷ q))).bad ds b r q e
          | false ↦ λ e. (other (d ∷ (ds ++ b ∷ r)) (d ∷ (ds ++ b ∷ q))).bad (d ∷ ds) b r q e
        ] e
