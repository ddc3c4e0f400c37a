-- What reading says of the text that it read: an answer is spelled by what was taken, a front of some text stands before
-- where the grammar does not go on, and a literal is due where one that is bad stands.
use Rattle.std.proofs.Common.{◌≡◌, ◌⊎◌, inl, inr, ℕ, zero, suc, ◌<◌, List, [], ◌∷◌, ◌++◌, Bool, true, false, cond, ◌==◌, Ok, Err, refl, ap, sym, subst, ◌∙◌, arith, append_assoc}
use Rattle.std.proofs.lemmas.Bool.{true≢false}
use Rattle.std.proofs.lemmas.Bool.Decides.{Decides-eqb}
use Rattle.tab_edm.specs.declared.values.Value.{Value}
use Rattle.tab_keys.specs.Results.{◌>>=◌}
use Rattle.tab_filter.specs.Lexer.{Read, Syntax, BadLiteral, Deep, TooMany, starts, past_first, after_spaces, behind, gap_at, edge_at}
use Rattle.tab_filter.specs.Grammar.{ends_token, IsLiteral, blank}
use Rattle.tab_filter.proofs.Phrases.{blank_append}

-- no literal stands here, and no parenthesis
pub record IsBad (left : List ℕ) : Type 0 where
  pub none : (value : Value) (s r : List ℕ) → IsLiteral value s → ends_token r ≡ true → left ≡ s ++ r → ⊥
  pub closed : starts 40 left ≡ false

-- what a front may go on with, whether the limits count or not
abbrev pub Meaning : Type 0 → Type 1
Meaning A = Bool → A → List ℕ → Type 0

abbrev pub Due : {A : Type 0} → Meaning A → List ℕ → Type 0
Due {A} G p = (w : List ℕ) (value : Value) → IsLiteral value w → (more : List ℕ) × (v : A) × G false v (p ++ (w ++ more))

abbrev pub Sound : {A : Type 0} → Meaning A → List ℕ → Read A → Type 0
Sound G t (Ok x) = (s : List ℕ) × G true x.0 s × (t ≡ s ++ x.1)
Sound {A} G t (Err (Syntax left)) = (p : List ℕ) × (more : List ℕ) × (v : A) × G false v (p ++ more) × (t ≡ p ++ left)
Sound G t (Err (BadLiteral left)) = (p : List ℕ) × Due G p × (t ≡ p ++ left) × IsBad left
Sound G t (Err (Deep left)) = Unit {0}
Sound G t (Err TooMany) = Unit {0}

-- behind what was read already
pub sound_after : {A : Type 0} (H : Meaning A) (K : Meaning A) (t s u : List ℕ) (r : Read A) → t ≡ s ++ u → ((k : Bool) (v : A) (w : List ℕ) → H k v w → K k v (s ++ w)) → Sound H u r → Sound K t r
sound_after {A} H K t s u (Ok x) is to h =
    (s ++ h.0, to true x.0 h.0 h.1, is ∙ ap (λ (l : List ℕ). s ++ l) h.2 ∙ sym (append_assoc s h.0 x.1))
sound_after {A} H K t s u (Err (Syntax left)) is to h =
    (s ++ h.0, h.1, h.2, subst (K false h.2) (sym (append_assoc s h.0 h.1)) (to false h.2 (h.0 ++ h.1) h.3), is ∙ ap (λ (l : List ℕ). s ++ l) h.4 ∙ sym (append_assoc s h.0 left))
sound_after {A} H K t s u (Err (BadLiteral left)) is to h = (
  s ++ h.0,
  λ w value l. let due = h.1 w value l in
      (due.0, due.1, subst (K false due.1) (sym (append_assoc s h.0 (w ++ due.0))) (to false due.1 (h.0 ++ (w ++ due.0)) due.2)),
  is ∙ ap (λ (l : List ℕ). s ++ l) h.2 ∙ sym (append_assoc s h.0 left),
  h.3,
)
sound_after {A} H K t s u (Err (Deep left)) is to h = tt
sound_after {A} H K t s u (Err TooMany) is to h = tt

-- one reader behind another
pub sound_bind : {A B : Type 0} (G : Meaning A) (H : A → Meaning B) (K : Meaning B) (t : List ℕ) (r : Read A) (f : A × List ℕ → Read B) → Sound G t r → ((x : A × List ℕ) (s : List ℕ) → G true x.0 s → Sound (H x.0) x.1 (f x)) → ((a : A) (s : List ℕ) → G false a s → (b : B) × (w : List ℕ) × H a false b w) → ((a : A) (s : List ℕ) → G true a s → G false a s) → ((k : Bool) (a : A) (b : B) (s w : List ℕ) → G k a s → H a k b w → K k b (s ++ w)) → Sound K t (r >>= f)
sound_bind G H K t (Ok x) f g rest fill loose join =
    let h = rest x g.0 g.1 in
    sound_after (H x.0) K t g.0 x.1 (f x) g.2 (λ k v w. joined k v w) h
  where
    joined : (k : Bool) (v : _) (w : List ℕ) → H x.0 k v w → K k v (g.0 ++ w)
    joined true v w e = join true x.0 v g.0 w g.1 e
    joined false v w e = join false x.0 v g.0 w (loose x.0 g.0 g.1) e
sound_bind G H K t (Err (Syntax left)) f g rest fill loose join =
    let more = fill g.2 (g.0 ++ g.1) g.3 in
    (g.0, g.1 ++ more.1, more.0, subst (K false more.0) (append_assoc g.0 g.1 more.1) (join false g.2 more.0 (g.0 ++ g.1) more.1 g.3 more.2), g.4)
sound_bind {A} {B} G H K t (Err (BadLiteral left)) f g rest fill loose join = (
  g.0,
  λ w value l. let due = g.1 w value l in
      let more = fill due.1 (g.0 ++ (w ++ due.0)) due.2 in
      (due.0 ++ more.1, more.0, subst (K false more.0) (append_assoc g.0 (w ++ due.0) more.1 ∙ ap (λ (l : List ℕ). g.0 ++ l) (append_assoc w due.0 more.1)) (join false due.1 more.0 (g.0 ++ (w ++ due.0)) more.1 due.2 more.2)),
  g.2,
  g.3,
)
sound_bind G H K t (Err (Deep left)) f g rest fill loose join = tt
sound_bind G H K t (Err TooMany) f g rest fill loose join = tt

-- another value for what was read
pub sound_map : {A B : Type 0} (G : Meaning A) (K : Meaning B) (h : A → B) (t : List ℕ) (r : Read A) → Sound G t r → ((k : Bool) (a : A) (s : List ℕ) → G k a s → K k (h a) s) → Sound K t (r >>= λ m. Ok (h m.0, m.1))
sound_map G K h t (Ok x) g to = (g.0, to true x.0 g.0 g.1, g.2)
sound_map G K h t (Err (Syntax left)) g to = (g.0, g.1, h g.2, to false g.2 (g.0 ++ g.1) g.3, g.4)
sound_map G K h t (Err (BadLiteral left)) g to =
    (g.0, λ w value l. let due = g.1 w value l in (due.0, h due.1, to false due.1 (g.0 ++ (w ++ due.0)) due.2), g.2, g.3)
sound_map G K h t (Err (Deep left)) g to = tt
sound_map G K h t (Err TooMany) g to = tt

-- nothing of this can be read here
pub sound_here : {A : Type 0} (G : Meaning A) (t more : List ℕ) (v : A) → G false v more → Sound G t (Err (Syntax t))
sound_here G t more v g = ([], more, v, g, refl)

-- the same for more
pub sound_weaker : {A : Type 0} (H : Meaning A) (K : Meaning A) (t : List ℕ) (r : Read A) → ((k : Bool) (v : A) (w : List ℕ) → H k v w → K k v w) → Sound H t r → Sound K t r
sound_weaker H K t r to h = sound_after H K t [] t r refl to h

-- by the first character
pub starts_is : (c : ℕ) (t : List ℕ) → starts c t ≡ true → t ≡ c ∷ past_first t
starts_is c [] h = absurd (true≢false (sym h))
starts_is c (b ∷ bs) h = ap (λ (n : ℕ). n ∷ bs) ((Decides-eqb b c).0 h)

pub sound_if : {A : Type 0} (G : Meaning A) (t : List ℕ) (b : Bool) (x y : Read A) → (b ≡ true → Sound G t x) → (b ≡ false → Sound G t y) → Sound G t (cond b x y)
sound_if G t true x y f g = f refl
sound_if G t false x y f g = g refl

-- ---- spaces
pub spaces : (t : List ℕ) → (n : ℕ) × (t ≡ blank n (after_spaces t))
unfolding behind
spaces [] = (0, refl)
spaces (b ∷ bs) =
    elim (b == 32) as (λ v. (b == 32) ≡ v → (n : ℕ) × (b ∷ bs ≡ blank n (cond v (after_spaces bs) (b ∷ bs)))) [
      | true ↦ λ e. let rest = spaces bs in (suc rest.0, ap (λ (n : ℕ). n ∷ bs) ((Decides-eqb b 32).0 e) ∙ ap (λ (l : List ℕ). 32 ∷ l) rest.1)
      | false ↦ λ e. (0, refl)
    ] refl

pub blank_into : (n : ℕ) (r : List ℕ) → blank n [] ++ r ≡ blank n r
blank_into n r = sym (blank_append n [] r)

spaced : (n : ℕ) (r : List ℕ) → blank (suc n) r ≡ blank n [] ++ 32 ∷ r
spaced zero r = refl
spaced (suc n) r = ap (λ (l : List ℕ). 32 ∷ l) (spaced n r)

-- so many spaces, one at least
pub record Gap (k : Bool) (v : Unit {0}) (s : List ℕ) : Type 0 where
  pub count : ℕ
  pub some : 0 < count
  pub is : s ≡ blank count []

pub some_spaces : (t : List ℕ) → starts 32 t ≡ true → (n : ℕ) × (0 < n) × (t ≡ blank n (after_spaces t))
unfolding behind
some_spaces [] h = absurd (true≢false (sym h))
some_spaces (b ∷ bs) h =
    let rest = spaces bs in
    rw h (suc rest.0, omega arith, ap (λ (n : ℕ). n ∷ bs) ((Decides-eqb b 32).0 h) ∙ ap (λ (l : List ℕ). 32 ∷ l) rest.1)

pub gap_sound : (t : List ℕ) → Sound Gap t (gap_at t)
gap_sound t =
    sound_if Gap t (starts 32 t) (Ok (tt, after_spaces t)) (Err (Syntax t))
    (λ h. let n = some_spaces t h in (blank n.0 [], record { count = n.0; some = n.1; is = refl }, n.2 ∙ blank_append n.0 [] (after_spaces t)))
    (λ h. sound_here Gap t (32 ∷ []) tt (record { count = 1; some = omega arith; is = refl }))

-- spaces, where what follows them begins with a `(` or there is one at least
abbrev pub IsEdge : ℕ → List ℕ → Type 0
IsEdge n s = (0 < n) ⊎ (starts 40 s ≡ true)

edge_start : (p u more : List ℕ) (n : ℕ) → starts 40 u ≡ true → (c : ℕ) (cs : List ℕ) → p ≡ c ∷ cs → (left : List ℕ) → u ≡ p ++ left → starts 40 (p ++ more) ≡ true
edge_start p u more n h c cs e left is =
    ap (λ (l : List ℕ). starts 40 (l ++ more)) e ∙ sym (ap (λ (l : List ℕ). starts 40 (l ++ left)) e) ∙ sym (ap (starts 40) is) ∙ h

sound_opening : {B : Type 0} (H K : Meaning B) (t u : List ℕ) (n : ℕ) (r : Read B) → t ≡ blank n u → starts 40 u ≡ true → ((k : Bool) (b : B) → H k b [] → ⊥) → ((k : Bool) (m : ℕ) (b : B) (s : List ℕ) → H k b s → IsEdge m s → K k b (blank m s)) → Sound H u r → Sound K t r
sound_opening H K t u n (Ok x) is h some join g = opened g.0 g.1 g.2
  where
    opened : (s : List ℕ) → H true x.0 s → u ≡ s ++ x.1 → (s2 : List ℕ) × K true x.0 s2 × (t ≡ s2 ++ x.1)
    opened [] g e = absurd (some true x.0 g)
    opened (c ∷ cs) g e =
        (blank n (c ∷ cs), join true n x.0 (c ∷ cs) g (inr (sym (ap (starts 40) e) ∙ h)), is ∙ ap (blank n) e ∙ blank_append n (c ∷ cs) x.1)
sound_opening {B} H K t u n (Err (Syntax left)) is h some join g = opened g.0 g.1 g.2 g.3 g.4
  where
    opened : (p more : List ℕ) (v : B) → H false v (p ++ more) → u ≡ p ++ left → (q : List ℕ) × (rest : List ℕ) × (w : B) × K false w (q ++ rest) × (t ≡ q ++ left)
    opened [] more v g e =
        (blank n [], 32 ∷ more, v, subst (K false v) (spaced n more) (join false (suc n) v more g (inl (omega arith))), is ∙ ap (blank n) e ∙ blank_append n [] left)
    opened (c ∷ cs) more v g e =
        (blank n (c ∷ cs), more, v, subst (K false v) (blank_append n (c ∷ cs) more) (join false n v ((c ∷ cs) ++ more) g (inr (edge_start (c ∷ cs) u more n h c cs refl left e))), is ∙ ap (blank n) e ∙ blank_append n (c ∷ cs) left)
sound_opening {B} H K t u n (Err (BadLiteral left)) is h some join g = opened g.0 g.1 g.2 g.3
  where
    opened : (p : List ℕ) → Due H p → u ≡ p ++ left → IsBad left → (q : List ℕ) × Due K q × (t ≡ q ++ left) × IsBad left
    opened [] due e bad = absurd (true≢false (sym h ∙ ap (starts 40) e ∙ bad.closed))
    opened (c ∷ cs) due e bad = (
      blank n (c ∷ cs),
      λ w value l. let d = due w value l in
          (d.0, d.1, subst (K false d.1) (blank_append n (c ∷ cs) (w ++ d.0)) (join false n d.1 ((c ∷ cs) ++ (w ++ d.0)) d.2 (inr (edge_start (c ∷ cs) u (w ++ d.0) n h c cs refl left e)))),
      is ∙ ap (blank n) e ∙ blank_append n (c ∷ cs) left,
      bad,
    )
sound_opening H K t u n (Err (Deep left)) is h some join g = tt
sound_opening H K t u n (Err TooMany) is h some join g = tt

pub sound_edge : {B : Type 0} (H K : Meaning B) (t : List ℕ) (f : List ℕ → Read B) → ((u : List ℕ) → Sound H u (f u)) → ((k : Bool) (b : B) → H k b [] → ⊥) → (b : B) → (w : List ℕ) → H false b w → ((k : Bool) (m : ℕ) (b : B) (s : List ℕ) → H k b s → IsEdge m s → K k b (blank m s)) → Sound K t (edge_at t >>= λ e. f e.1)
sound_edge {B} H K t f rest some b w fill join =
    elim (starts 40 (after_spaces t)) as (λ v. starts 40 (after_spaces t) ≡ v → Sound K t (cond {A = Read (Unit {0})} v (Ok (tt, after_spaces t)) (gap_at t) >>= λ e. f e.1)) [
      | true ↦ λ h. let n = spaces t in sound_opening H K t (after_spaces t) n.0 (f (after_spaces t)) n.1 h some join (rest (after_spaces t))
      | false ↦ λ h. sound_bind Gap (λ _. H) K t (gap_at t) (λ e. f e.1) (gap_sound t) (λ x s g. rest x.1) (λ a s g. (b, w, fill)) (λ a s g. record { count = g.count; some = g.some; is = g.is })
          (λ k a v s w g h. subst (K k v) (sym (blank_into g.count w) ∙ ap (λ (l : List ℕ). l ++ w) (sym g.is)) (join k g.count v w h (inl g.some)))
    ] refl
