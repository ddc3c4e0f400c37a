-- A field that is read is the field that was written, and what was written is read again.
use Rattle.std.proofs.Common.{◌≡◌, ℕ, zero, suc, ◌+◌, ◌^◌, ◌<◌, ◌≤◌, Bool, true, false, cond, ltb, List, [], ◌∷◌, ◌++◌, length, take, drop, Result, Ok, Err, refl, sym, ap, subst, ◌∙◌, append_assoc, arith, inl, inr}
use Rattle.std.specs.List.{flat_map}
use Rattle.std.specs.Int.{Width, w16, w32, w64, byte_len, from_be_bytes, to_be_bytes}
use Rattle.std.proofs.lemmas.Bool.{cases_lt, ltb-false, le-ltb}
use Rattle.std.proofs.lemmas.List.{take_at, drop_at, take-append-drop, length-append, length-take, get_or-drop, get_or-take, get_or_past, get_or_append_left}
use Rattle.std.proofs.lemmas.List.Elements.{All-from_get_or}
use Rattle.std.specs.List.{All}
use Rattle.std.proofs.lemmas.List.Concat.{flat_map-cons}
use Rattle.std.proofs.lemmas.Nat.{be_bytes_2, be_bytes_4, be_bytes_8, from_be_bytes-to_be_bytes_2, from_be_bytes-to_be_bytes_4, from_be_bytes-to_be_bytes_8}
use Rattle.tab_codec.specs.Spelling.{sized}
use Rattle.tab_codec.specs.Frames.{AreBytes}
use Rattle.tab_codec.specs.Reading.{Read, ◌>>=◌, byte_at, number_at, bytes_at, sized_at, allowing, items_at}

pub drop_bytes : (n : ℕ) (bytes : List ℕ) → AreBytes bytes → AreBytes (drop n bytes)
drop_bytes n bytes h i = rw get_or-drop (h (n + i))

pub take_bytes : (n : ℕ) (bytes : List ℕ) → AreBytes bytes → AreBytes (take n bytes)
take_bytes n bytes h i =
    elim (cases_lt i n) [
      | inl lt ↦ rw (get_or-take n bytes i 0 lt) (h i)
      | inr le ↦ rw (get_or_past (take n bytes) i 0 (omega (arith, length-take n bytes))) (omega arith)
    ]

pub front_bytes : (a b : List ℕ) → AreBytes (a ++ b) → AreBytes a
front_bytes a b h i =
    elim (cases_lt i (length a)) [
      | inl lt ↦ rw (← get_or_append_left a b 0 i lt) (h i)
      | inr le ↦ rw (get_or_past a i 0 le) (omega arith)
    ]

pub all_bytes : (bytes : List ℕ) → AreBytes bytes → All (λ b. b < 256) bytes
all_bytes bytes h = All-from_get_or (λ b. b < 256) bytes 0 (λ i within. omega (arith, h i))

-- the value of a step that did not fail
pub bind_ok : {A B : Type 0} (r : Result A ℕ) (f : A → Result B ℕ) (y : B) → (r >>= f) ≡ Ok y → (x : A) × (r ≡ Ok x) × (f x ≡ Ok y)
bind_ok (Ok x) f y e = (x, refl, e)
bind_ok (Err left) f y e = absurd cc

-- a value with the bytes behind it
abbrev pub done : {A : Type 0} → A → List ℕ → Read A
done x rest = Ok (x, rest)

pub ok_is : {A : Type 0} (x y : A × List ℕ) (read : Read A) → read ≡ Ok x → read ≡ Ok y → x ≡ y
ok_is x y read d e = cc

-- a test that did not fail
pub guard_short : {A : Type 0} (b : Bool) (left : ℕ) (x y : A) → cond b (Err left) (Ok x) ≡ Ok y → (b ≡ false) × (x ≡ y)
guard_short true left x y e = absurd cc
guard_short false left x y e = (refl, cc)

pub guard_allowed : {A : Type 0} (b : Bool) (left : ℕ) (x y : A) → cond b (Ok x) (Err left) ≡ Ok y → (b ≡ true) × (x ≡ y)
guard_allowed true left x y e = (refl, cc)
guard_allowed false left x y e = absurd cc

-- what a reader took from the front
pub record Took {A : Type 0} (spell : A → List ℕ) (Fits : A → Type 0) (bytes : List ℕ) (x : A × List ℕ) : Type 0 where
  pub parts : bytes ≡ spell x.0 ++ x.1
  pub rest : AreBytes x.1
  pub fits : Fits x.0

-- what is read is spelled so and fits, and what fits is read where it is spelled
pub record IsField {A : Type 0} (read : List ℕ → Read A) (spell : A → List ℕ) (Fits : A → Type 0) : Type 0 where
  pub takes : (bytes : List ℕ) (x : A × List ℕ) → AreBytes bytes → read bytes ≡ Ok x → Took spell Fits bytes x
  pub again : (a : A) (rest : List ℕ) → Fits a → read (spell a ++ rest) ≡ Ok (a, rest)

-- ---- what is made of fields

-- a field, and behind it a value whose first part it is
pub bind_field : {A C : Type 0} {read : List ℕ → Read A} {spell : A → List ℕ} {Fits : A → Type 0} {others : A → List ℕ → Read C} {spell_others : C → List ℕ} {FitOthers : A → C → Type 0}
    (first : C → A) → IsField read spell Fits → ((a : A) → Fits a → IsField (others a) spell_others (FitOthers a)) → ((a : A) (c : C) → FitOthers a c → first c ≡ a)
    → IsField (λ bytes. read bytes >>= λ x. others x.0 x.1) (λ c. spell (first c) ++ spell_others c) (λ c. Fits (first c) × FitOthers (first c) c)
bind_field {A} {C} {read} {spell} {Fits} {others} {spell_others} {FitOthers} first one two stays = record {
  takes = λ bytes x fits e.
      let b = bind_ok (read bytes) (λ y. others y.0 y.1) x e in
      let s = one.takes bytes b.0 fits b.1 in
      let t = (two b.0.0 s.fits).takes b.0.1 x s.rest b.2 in
      let same : b.0.0 ≡ first x.0 = sym (stays b.0.0 x.0 t.fits) in
      let whole : bytes ≡ (spell b.0.0 ++ spell_others x.0) ++ x.1 = s.parts ∙ ap (λ (r : List ℕ). spell b.0.0 ++ r) t.parts ∙ sym (append_assoc (spell b.0.0) (spell_others x.0) x.1) in
      record {
        parts = whole ∙ ap (λ (a : A). (spell a ++ spell_others x.0) ++ x.1) same;
        rest = t.rest;
        fits = subst (λ (a : A). Fits a × FitOthers a x.0) same (s.fits, t.fits);
      };
  again = λ c rest h. rw (append_assoc (spell (first c)) (spell_others c) rest, one.again (first c) (spell_others c ++ rest) h.0) ((two (first c) h.0).again c rest h.1);
}

-- a value made of one field
pub last_field : {A C : Type 0} {read : List ℕ → Read A} {spell : A → List ℕ} {Fits : A → Type 0}
    (make : A → C) (part : C → A) → ((a : A) → Fits a → part (make a) ≡ a) → IsField read spell Fits
    → IsField (λ bytes. read bytes >>= λ x. Ok (make x.0, x.1)) (λ c. spell (part c)) (λ c. Fits (part c) × (make (part c) ≡ c))
last_field {A} {C} {read} {spell} {Fits} make part back one = record {
  takes = λ bytes x fits e.
      let b = bind_ok (read bytes) (λ y. done (make y.0) y.1) x e in
      let s = one.takes bytes b.0 fits b.1 in
      let is : (make b.0.0, b.0.1) ≡ x = ok_is (make b.0.0, b.0.1) x (done (make b.0.0) b.0.1) refl b.2 in
      let made : Took (λ c. spell (part c)) (λ c. Fits (part c) × (make (part c) ≡ c)) bytes (make b.0.0, b.0.1) = record {
        parts = s.parts ∙ ap (λ (a : A). spell a ++ b.0.1) (sym (back b.0.0 s.fits));
        rest = s.rest;
        fits = (subst Fits (sym (back b.0.0 s.fits)) s.fits, ap make (back b.0.0 s.fits));
      } in
      subst (λ (y : C × List ℕ). Took (λ c. spell (part c)) (λ c. Fits (part c) × (make (part c) ≡ c)) bytes y) is made;
  again = λ c rest h. rw (one.again (part c) rest h.0) (ap (λ (d : C). done d rest) h.1);
}

-- one case of a type, made of one field
pub variant_field : {A C : Type 0} {read : List ℕ → Read A} {spell : A → List ℕ} {Fits : A → Type 0} (make : A → C) (spell_so : C → List ℕ) (FitsSo : C → Type 0) → IsField read spell Fits
    → ((a : A) → spell_so (make a) ≡ spell a) → ((a : A) → Fits a → FitsSo (make a)) → ((c : C) → FitsSo c → (a : A) × (make a ≡ c) × Fits a)
    → IsField (λ bytes. read bytes >>= λ x. Ok (make x.0, x.1)) spell_so FitsSo
variant_field {A} {C} {read} {spell} {Fits} make spell_so FitsSo one same so back = record {
  takes = λ bytes x fits e.
      let b = bind_ok (read bytes) (λ y. done (make y.0) y.1) x e in
      let s = one.takes bytes b.0 fits b.1 in
      let is : (make b.0.0, b.0.1) ≡ x = ok_is (make b.0.0, b.0.1) x (done (make b.0.0) b.0.1) refl b.2 in
      let made : Took spell_so FitsSo bytes (make b.0.0, b.0.1) = record {
        parts = s.parts ∙ ap (λ (w : List ℕ). w ++ b.0.1) (sym (same b.0.0));
        rest = s.rest;
        fits = so b.0.0 s.fits;
      } in
      subst (λ (y : C × List ℕ). Took spell_so FitsSo bytes y) is made;
  again = λ c rest h.
      let p = back c h in
      subst (λ (d : C). (read (spell_so d ++ rest) >>= λ x. done (make x.0) x.1) ≡ done d rest) p.1 (rw (same p.0, one.again p.0 rest p.2) refl);
}

-- a field that is allowed
pub allowing_field : {A : Type 0} {read : List ℕ → Read A} {spell : A → List ℕ} {Fits : A → Type 0} (allowed : A → Bool) → IsField read spell Fits
    → IsField (allowing allowed read) spell (λ a. Fits a × (allowed a ≡ true))
unfolding allowing
allowing_field {A} {read} {spell} {Fits} allowed one = record {
  takes = λ bytes x fits e.
      let b = bind_ok (read bytes) (λ y. cond (allowed y.0) (Ok y) (Err (length bytes))) x e in
      let g = guard_allowed (allowed b.0.0) (length bytes) b.0 x b.2 in
      let s = one.takes bytes b.0 fits b.1 in
      let made : Took spell (λ a. Fits a × (allowed a ≡ true)) bytes b.0 = record { parts = s.parts; rest = s.rest; fits = (s.fits, g.0) } in
      subst (λ (y : A × List ℕ). Took spell (λ a. Fits a × (allowed a ≡ true)) bytes y) g.1 made;
  again = λ a rest h. rw (one.again a rest h.0, h.1) refl;
}

-- the same field, with its spelling and what fits in other words
pub same_field : {A : Type 0} {read : List ℕ → Read A} {spell spell_so : A → List ℕ} {Fits FitsSo : A → Type 0} → IsField read spell Fits
    → ((a : A) → Fits a → (spell a ≡ spell_so a) × FitsSo a) → ((a : A) → FitsSo a → Fits a) → IsField read spell_so FitsSo
same_field {A} {read} {spell} {spell_so} {Fits} {FitsSo} one so back = record {
  takes = λ bytes x fits e.
      let s = one.takes bytes x fits e in
      let h = so x.0 s.fits in
      record { parts = s.parts ∙ ap (λ (w : List ℕ). w ++ x.1) h.0; rest = s.rest; fits = h.1 };
  again = λ a rest h. rw (← (so a (back a h)).0) (one.again a rest (back a h));
}

-- the same field, with what its spelling shows, which is of bytes
pub shown_field : {A : Type 0} {read : List ℕ → Read A} {spell : A → List ℕ} {Fits Shown : A → Type 0} → ((a : A) → AreBytes (spell a) → Shown a) → IsField read spell Fits
    → IsField read spell (λ a. Fits a × Shown a)
shown_field {A} {read} {spell} {Fits} {Shown} shows one = record {
  takes = λ bytes x fits e.
      let s = one.takes bytes x fits e in
      record { parts = s.parts; rest = s.rest; fits = (s.fits, shows x.0 (front_bytes (spell x.0) x.1 (subst (λ (w : List ℕ). AreBytes w) s.parts fits))) };
  again = λ a rest h. one.again a rest h.0;
}

-- a reader whose value is made of the parts that it read: what is made was spelled so, and parts that fit are read again
pub record IsVariant {A C : Type 0} (read : List ℕ → Read C) (make : A → C) (spell : A → List ℕ) (Fits : A → Type 0) : Type 0 where
  pub takes : (bytes : List ℕ) (x : C × List ℕ) → AreBytes bytes → read bytes ≡ Ok x → (a : A) × (make a ≡ x.0) × Took spell Fits bytes (a, x.1)
  pub again : (a : A) (rest : List ℕ) → Fits a → read (spell a ++ rest) ≡ Ok (make a, rest)

pub last_part : {A C : Type 0} {read : List ℕ → Read A} {spell : A → List ℕ} {Fits : A → Type 0} (make : A → C) → IsField read spell Fits
    → IsVariant (λ bytes. read bytes >>= λ x. Ok (make x.0, x.1)) make spell Fits
last_part {A} {C} {read} {spell} {Fits} make one = record {
  takes = λ bytes x fits e.
      let b = bind_ok (read bytes) (λ y. done (make y.0) y.1) x e in
      let is : (make b.0.0, b.0.1) ≡ x = ok_is (make b.0.0, b.0.1) x (done (make b.0.0) b.0.1) refl b.2 in
      subst (λ (y : C × List ℕ). (a : A) × (make a ≡ y.0) × Took spell Fits bytes (a, y.1)) is (b.0.0, refl, one.takes bytes b.0 fits b.1);
  again = λ a rest h. rw (one.again a rest h) refl;
}

pub bind_part : {A B C : Type 0} {read : List ℕ → Read A} {spell : A → List ℕ} {Fits : A → Type 0} {others : A → List ℕ → Read C} {spell_others : B → List ℕ} {FitOthers : A → B → Type 0} (make : A → B → C)
    → IsField read spell Fits → ((a : A) → Fits a → IsVariant (others a) (make a) spell_others (FitOthers a))
    → IsVariant (λ bytes. read bytes >>= λ x. others x.0 x.1) (λ (p : A × B). make p.0 p.1) (λ (p : A × B). spell p.0 ++ spell_others p.1) (λ (p : A × B). Fits p.0 × FitOthers p.0 p.1)
bind_part {A} {B} {C} {read} {spell} {Fits} {others} {spell_others} {FitOthers} make one two = record {
  takes = λ bytes x fits e.
      let b = bind_ok (read bytes) (λ y. others y.0 y.1) x e in
      let s = one.takes bytes b.0 fits b.1 in
      let v = (two b.0.0 s.fits).takes b.0.1 x s.rest b.2 in
      let whole : bytes ≡ (spell b.0.0 ++ spell_others v.0) ++ x.1 =
      s.parts ∙ ap (λ (r : List ℕ). spell b.0.0 ++ r) v.2.parts ∙ sym (append_assoc (spell b.0.0) (spell_others v.0) x.1) in
      ((b.0.0, v.0), v.1, record { parts = whole; rest = v.2.rest; fits = (s.fits, v.2.fits) });
  again = λ p rest h. rw (append_assoc (spell p.0) (spell_others p.1) rest, one.again p.0 (spell_others p.1 ++ rest) h.0) ((two p.0 h.0).again p.1 rest h.1);
}

-- each item fits behind what the ones before it left
abbrev pub FitsAll : {S A : Type 0} → (S → A → S) → (S → A → Type 0) → S → List A → Type 0
FitsAll next Fits state [] = Unit {0}
FitsAll next Fits state (x ∷ xs) = Fits state x × FitsAll next Fits (next state x) xs

items_take : {S A : Type 0} {item : S → List ℕ → Read A} {spell : A → List ℕ} {Fits : S → A → Type 0} (next : S → A → S) → ((s : S) → IsField (item s) spell (Fits s))
    → (n : ℕ) (s : S) (bytes : List ℕ) (x : List A × List ℕ) → AreBytes bytes → items_at item next s n bytes ≡ Ok x → Took (flat_map spell) (λ xs. (length xs ≡ n) × FitsAll next Fits s xs) bytes x
unfolding items_at
items_take {S} {A} {item} {spell} {Fits} next one zero s bytes x fits e =
    let none : Took (flat_map spell) (λ xs. (length xs ≡ 0) × FitsAll next Fits s xs) bytes ([], bytes) = record { parts = refl; rest = fits; fits = (refl, tt) } in
    subst (λ (y : List A × List ℕ). Took (flat_map spell) (λ xs. (length xs ≡ 0) × FitsAll next Fits s xs) bytes y) (ok_is ([], bytes) x (done [] bytes) refl e) none
items_take {S} {A} {item} {spell} {Fits} next one (suc n) s bytes x fits e =
    let a = bind_ok (item s bytes) (λ f. items_at item next (next s f.0) n f.1 >>= λ o. done (f.0 ∷ o.0) o.1) x e in
    let b = bind_ok (items_at item next (next s a.0.0) n a.0.1) (λ o. done (a.0.0 ∷ o.0) o.1) x a.2 in
    let t = (one s).takes bytes a.0 fits a.1 in
    let u = items_take next one n (next s a.0.0) a.0.1 b.0 t.rest b.1 in
    let whole : bytes ≡ flat_map spell (a.0.0 ∷ b.0.0) ++ b.0.1 =
    t.parts ∙ ap (λ (r : List ℕ). spell a.0.0 ++ r) u.parts ∙ sym (append_assoc (spell a.0.0) (flat_map spell b.0.0) b.0.1) ∙ ap (λ (w : List ℕ). w ++ b.0.1) (sym (flat_map-cons spell a.0.0 b.0.0)) in
    let made : Took (flat_map spell) (λ xs. (length xs ≡ suc n) × FitsAll next Fits s xs) bytes (a.0.0 ∷ b.0.0, b.0.1) =
    record { parts = whole; rest = u.rest; fits = (ap suc u.fits.0, (t.fits, u.fits.1)) } in
    subst (λ (y : List A × List ℕ). Took (flat_map spell) (λ xs. (length xs ≡ suc n) × FitsAll next Fits s xs) bytes y) (ok_is (a.0.0 ∷ b.0.0, b.0.1) x (done (a.0.0 ∷ b.0.0) b.0.1) refl b.2) made

items_again : {S A : Type 0} {item : S → List ℕ → Read A} {spell : A → List ℕ} {Fits : S → A → Type 0} (next : S → A → S) → ((s : S) → IsField (item s) spell (Fits s))
    → (s : S) (xs : List A) (rest : List ℕ) → FitsAll next Fits s xs → items_at item next s (length xs) (flat_map spell xs ++ rest) ≡ Ok (xs, rest)
unfolding items_at
items_again next one s [] rest h = refl
items_again {S} {A} {item} {spell} next one s (x ∷ xs) rest h =
    rw (flat_map-cons spell x xs, append_assoc (spell x) (flat_map spell xs) rest, (one s).again x (flat_map spell xs ++ rest) h.0, items_again next one (next s x) xs rest h.1) refl

-- so many items
pub items_field : {S A : Type 0} {item : S → List ℕ → Read A} {spell : A → List ℕ} {Fits : S → A → Type 0} (next : S → A → S) → ((s : S) → IsField (item s) spell (Fits s))
    → (s : S) (n : ℕ) → IsField (items_at item next s n) (flat_map spell) (λ xs. (length xs ≡ n) × FitsAll next Fits s xs)
items_field {S} {A} {item} {spell} {Fits} next one s n = record {
  takes = items_take next one n s;
  again = λ xs rest h. subst (λ (k : ℕ). items_at item next s k (flat_map spell xs ++ rest) ≡ done xs rest) h.0 (items_again next one s xs rest h.1);
}

-- ---- bytes and numbers

pub rest_bytes : (b : ℕ) (bytes : List ℕ) → AreBytes (b ∷ bytes) → AreBytes bytes
rest_bytes b bytes h i = h (suc i)

byte_takes : (bytes : List ℕ) (x : ℕ × List ℕ) → AreBytes bytes → byte_at bytes ≡ Ok x → Took (λ b. b ∷ []) (λ b. b < 2 ^ 8) bytes x
unfolding byte_at
byte_takes [] x fits e = absurd cc
byte_takes (b ∷ rest) x fits e =
    let made : Took (λ b. b ∷ []) (λ b. b < 2 ^ 8) (b ∷ rest) (b, rest) = record { parts = refl; rest = rest_bytes b rest fits; fits = fits 0 } in
    subst (λ (y : ℕ × List ℕ). Took (λ b. b ∷ []) (λ b. b < 2 ^ 8) (b ∷ rest) y) (ok_is (b, rest) x (done b rest) refl e) made

pub byte_field : IsField byte_at (λ b. b ∷ []) (λ b. b < 2 ^ 8)
unfolding byte_at
byte_field = record { takes = byte_takes; again = λ b rest h. refl }

pub record IsWide (w : Width) (limit : ℕ) : Type 0 where
  pub len : (n : ℕ) → length (to_be_bytes w n) ≡ byte_len w
  pub back : (bytes : List ℕ) → length bytes ≡ byte_len w → AreBytes bytes → to_be_bytes w (from_be_bytes w bytes) ≡ bytes
  pub again : (n : ℕ) → n < limit → from_be_bytes w (to_be_bytes w n) ≡ n
  pub below : (bytes : List ℕ) → AreBytes bytes → from_be_bytes w bytes < limit

wide16 : IsWide w16 (2 ^ 16)
wide16 = record {
  len = λ n. refl;
  back = λ bytes len fits. be_bytes_2 bytes _ len fits refl;
  again = λ n lt. from_be_bytes-to_be_bytes_2 n lt;
  below = λ bytes fits. omega (arith, fits 0, fits 1);
}

wide32 : IsWide w32 (2 ^ 32)
wide32 = record {
  len = λ n. refl;
  back = λ bytes len fits. be_bytes_4 bytes _ len fits refl;
  again = λ n lt. from_be_bytes-to_be_bytes_4 n lt;
  below = λ bytes fits. omega (arith, fits 0, fits 1, fits 2, fits 3);
}

wide64 : IsWide w64 (2 ^ 64)
wide64 = record {
  len = λ n. refl;
  back = λ bytes len fits. be_bytes_8 bytes _ len fits refl;
  again = λ n lt. from_be_bytes-to_be_bytes_8 n lt;
  below = λ bytes fits. omega (arith, fits 0, fits 1, fits 2, fits 3, fits 4, fits 5, fits 6, fits 7);
}

number_field : (w : Width) (limit : ℕ) → IsWide w limit → IsField (number_at w) (to_be_bytes w) (λ n. n < limit)
unfolding number_at
number_field w limit wide = record {
  takes = λ bytes x fits e.
      let g = guard_short (ltb (length bytes) (byte_len w)) (length bytes) (from_be_bytes w (take (byte_len w) bytes), drop (byte_len w) bytes) x e in
      let long : byte_len w ≤ length bytes = ltb-false _ _ g.0 in
      let front = take_bytes (byte_len w) bytes fits in
      let made : Took (to_be_bytes w) (λ n. n < limit) bytes (from_be_bytes w (take (byte_len w) bytes), drop (byte_len w) bytes) = record {
        parts = rw (wide.back (take (byte_len w) bytes) (omega (arith, length-take (byte_len w) bytes)) front) (sym (take-append-drop (byte_len w) bytes));
        rest = drop_bytes (byte_len w) bytes fits;
        fits = wide.below (take (byte_len w) bytes) front;
      } in
      subst (λ (y : ℕ × List ℕ). Took (to_be_bytes w) (λ n. n < limit) bytes y) g.1 made;
  again = λ n rest lt.
      let len = wide.len n in
      let long : ltb (length (to_be_bytes w n ++ rest)) (byte_len w) ≡ false = le-ltb _ _ (omega (arith, length-append (to_be_bytes w n) rest)) in
      rw (long, take_at (to_be_bytes w n) rest (byte_len w) len, drop_at (to_be_bytes w n) rest (byte_len w) len, wide.again n lt) refl;
}

pub field16 : IsField (number_at w16) (to_be_bytes w16) (λ n. n < 2 ^ 16)
field16 = number_field w16 (2 ^ 16) wide16

pub field32 : IsField (number_at w32) (to_be_bytes w32) (λ n. n < 2 ^ 32)
field32 = number_field w32 (2 ^ 32) wide32

pub field64 : IsField (number_at w64) (to_be_bytes w64) (λ n. n < 2 ^ 64)
field64 = number_field w64 (2 ^ 64) wide64

pub bytes_field : (count : ℕ) → IsField (bytes_at count) (λ b. b) (λ b. length b ≡ count)
unfolding bytes_at
bytes_field count = record {
  takes = λ bytes x fits e.
      let g = guard_short (ltb (length bytes) count) (length bytes) (take count bytes, drop count bytes) x e in
      let long : count ≤ length bytes = ltb-false _ _ g.0 in
      let made : Took (λ b. b) (λ b. length b ≡ count) bytes (take count bytes, drop count bytes) = record {
        parts = sym (take-append-drop count bytes);
        rest = drop_bytes count bytes fits;
        fits = omega (arith, length-take count bytes);
      } in
      subst (λ (y : List ℕ × List ℕ). Took (λ b. b) (λ b. length b ≡ count) bytes y) g.1 made;
  again = λ b rest len.
      let long : ltb (length (b ++ rest)) count ≡ false = le-ltb _ _ (omega (arith, length-append b rest)) in
      rw (long, take_at b rest count len, drop_at b rest count len) refl;
}

pub sized_field : IsField sized_at sized (λ b. length b < 2 ^ 32)
unfolding sized_at sized
sized_field = record {
  takes = λ bytes x fits e.
      let b = bind_ok (number_at w32 bytes) (λ n. cond (ltb (length n.1) n.0) (Err (length bytes)) (Ok (take n.0 n.1, drop n.0 n.1))) x e in
      let n = b.0 in
      let t = field32.takes bytes n fits b.1 in
      let g = guard_short (ltb (length n.1) n.0) (length bytes) (take n.0 n.1, drop n.0 n.1) x b.2 in
      let long : n.0 ≤ length n.1 = ltb-false _ _ g.0 in
      let len : length (take n.0 n.1) ≡ n.0 = omega (arith, length-take n.0 n.1) in
      let whole : bytes ≡ (to_be_bytes w32 n.0 ++ take n.0 n.1) ++ drop n.0 n.1 =
      t.parts ∙ ap (λ (r : List ℕ). to_be_bytes w32 n.0 ++ r) (sym (take-append-drop n.0 n.1)) ∙ sym (append_assoc (to_be_bytes w32 n.0) (take n.0 n.1) (drop n.0 n.1)) in
      let made : Took (λ b. to_be_bytes w32 (length b) ++ b) (λ b. length b < 2 ^ 32) bytes (take n.0 n.1, drop n.0 n.1) = record {
        parts = subst (λ (k : ℕ). bytes ≡ (to_be_bytes w32 k ++ take n.0 n.1) ++ drop n.0 n.1) (sym len) whole;
        rest = drop_bytes n.0 n.1 t.rest;
        fits = omega (arith, t.fits);
      } in
      subst (λ (y : List ℕ × List ℕ). Took (λ b. to_be_bytes w32 (length b) ++ b) (λ b. length b < 2 ^ 32) bytes y) g.1 made;
  again = λ b rest lt.
      let long : ltb (length (b ++ rest)) (length b) ≡ false = le-ltb _ _ (omega (arith, length-append b rest)) in
      rw (append_assoc (to_be_bytes w32 (length b)) b rest, field32.again (length b) (b ++ rest) lt, long, take_at b rest (length b) refl, drop_at b rest (length b) refl) refl;
}

-- the items of bytes that are read are bytes
pub raw_field : (count : ℕ) → IsField (bytes_at count) (λ b. b) (λ b. (length b ≡ count) × All (λ x. x < 256) b)
raw_field count = shown_field all_bytes (bytes_field count)

pub raw_sized_field : IsField sized_at sized (λ b. (length b < 2 ^ 32) × All (λ x. x < 256) b)
unfolding sized
raw_sized_field = shown_field (λ b h. all_bytes b (λ i. h (suc (suc (suc (suc i)))))) sized_field
