-- What was read of an area is what it holds: its header, that it is closed, its frames.
use Rattle.std.proofs.Common.{◌≡◌, ℕ, suc, ◌+◌, ◌<◌, ◌≤◌, ◌^◌, Bool, true, false, cond, inl, inr, Result, Ok, Err, List, [], ◌∷◌, ◌++◌, length, take, drop, refl, sym, ap, subst, ◌∙◌, arith, append_assoc}
use Rattle.std.specs.Prelude.{◌⊎◌, ◌==◌, nat_lt, min}
use Rattle.std.specs.Int.{w64, to_be_bytes, from_be_bytes}
use Rattle.std.proofs.lemmas.Bool.Decides.{nat_tests}
use Rattle.std.proofs.lemmas.List.{drop_at, length-drop}
use Rattle.tab_codec.specs.declared.frames.Frame.{Frame}
use Rattle.tab_codec.specs.Frames.{AreBytes}
use Rattle.tab_codec.proofs.FrontLaws.{chosen}
use Rattle.tab_codec.proofs.FieldLaws.{field64, drop_bytes, rest_bytes}
use Rattle.tab_codec.specs.Reading.{number_at}
use Rattle.std.proofs.lemmas.Bool.{ltb-true, ltb-false, le-ltb}
use Rattle.tab_journal.specs.Fitting.{told_first}
use Rattle.tab_journal.specs.Areas.{stamp, header, opened, front, first_gate, IsOpen, IsClosed, IsUnder, Spells}
use Rattle.tab_journal.specs.Reading.{agreeing, header_of, front_of, frames_of, Found, found, found_in, not_before, read_areas}
use Rattle.tab_journal.specs.declared.reading.Front.{Front}
use Rattle.tab_journal.specs.declared.reading.Front.TheVariants.{Empty, Closed, NoHeader, Open}
use Rattle.tab_journal.proofs.ReadingLaws.{open_gate, closed_gate, read_opened}

equal_test : (a b : ℕ) → (a == b) ≡ true → a ≡ b
equal_test a b e = grind (arith, nat_tests)

-- bytes that agree with all of others begin with them
agree_case : (x y : ℕ) (xs ys : List ℕ) (b : Bool) → (x == y) ≡ b → suc (length xs) ≤ cond b (suc (agreeing xs ys)) 0 → (length xs ≤ agreeing xs ys → ys ≡ xs ++ drop (length xs) ys)
    → y ∷ ys ≡ x ∷ (xs ++ drop (length xs) ys)
agree_case x y xs ys true same less so =
    ap (λ (n : ℕ). n ∷ ys) (sym (equal_test x y same)) ∙ ap (λ (l : List ℕ). x ∷ l) (so (omega (arith, less)))
agree_case x y xs ys false same less so = absurd (let none : ⊥ = omega (arith, less) in none)

agree_all : (xs ys : List ℕ) → length xs ≤ agreeing xs ys → ys ≡ xs ++ drop (length xs) ys
unfolding agreeing
agree_all [] ys less = refl
agree_all (x ∷ xs) [] less = absurd (let none : ⊥ = omega (arith, less) in none)
agree_all (x ∷ xs) (y ∷ ys) less = agree_case x y xs ys (x == y) refl less (agree_all xs ys)

abbrev front_so : ℕ → Front
front_so e = Open e

same_front : (e f : ℕ) → front_so e ≡ front_so f → e ≡ f
same_front e f is = cc

never_closed : (e : ℕ) → Closed ≡ front_so e → ⊥
never_closed e is = absurd cc

never_without : (at e : ℕ) → NoHeader at ≡ front_so e → ⊥
never_without at e is = absurd cc

without_closed : (at : ℕ) → NoHeader at ≡ Closed → ⊥
without_closed at is = absurd cc

-- the header of a store of a kind that there is
abbrev known_header : ℕ → ℕ → List ℕ → Front
known_header kind number bytes =
    cond (nat_lt (agreeing (stamp kind number) bytes) 11) (NoHeader (1 + agreeing (stamp kind number) bytes))
    (cond (nat_lt (length bytes) 19) (NoHeader (1 + length bytes)) (Open (from_be_bytes w64 (take 8 (drop 11 bytes)))))

-- what is read as closed is closed
known_never_closed : (kind number : ℕ) (bytes : List ℕ) → known_header kind number bytes ≡ Closed → ⊥
known_never_closed kind number bytes e =
    elim (chosen (nat_lt (agreeing (stamp kind number) bytes) 11) (NoHeader (1 + agreeing (stamp kind number) bytes))
    (cond (nat_lt (length bytes) 19) (NoHeader (1 + length bytes)) (Open (from_be_bytes w64 (take 8 (drop 11 bytes))))) Closed e) [
      | inl h ↦ absurd (without_closed _ h.1)
      | inr h ↦ elim (chosen (nat_lt (length bytes) 19) (NoHeader (1 + length bytes)) (Open (from_be_bytes w64 (take 8 (drop 11 bytes)))) Closed h.1) [
        | inl i ↦ absurd (without_closed _ i.1)
        | inr i ↦ absurd (never_closed _ (sym i.1))
      ]
    ]

header_never_closed : (kind number : ℕ) (bytes : List ℕ) → header_of kind number bytes ≡ Closed → ⊥
unfolding header_of
header_never_closed kind number bytes e =
    elim (chosen (nat_lt 2 kind) (NoHeader (1 + min 9 (agreeing (stamp kind number) bytes))) (known_header kind number bytes) Closed e) [
      | inl h ↦ absurd (without_closed _ h.1)
      | inr h ↦ absurd (known_never_closed kind number bytes h.1)
    ]

pub closed_is : (kind number : ℕ) (area : List ℕ) → front_of kind number area ≡ Closed → IsClosed area
unfolding front_of
closed_is kind number [] e = absurd cc
closed_is kind number (gate ∷ bytes) e =
    elim (chosen (gate == 1) (header_of kind number bytes) Closed Closed e) [
      | inl h ↦ absurd (header_never_closed kind number bytes h.1)
      | inr h ↦ record { gate = gate; rest = bytes; shut = closed_gate gate h.0; is = refl }
    ]

number_is : (bytes : List ℕ) → 8 ≤ length bytes → number_at w64 bytes ≡ Ok (from_be_bytes w64 (take 8 bytes), drop 8 bytes)
unfolding number_at
number_is bytes long = rw (le-ltb (length bytes) 8 long) refl

-- bytes that begin with a header
pub record HasHeader (kind number epoch : ℕ) (bytes : List ℕ) : Type 0 where
  pub within : epoch < 2 ^ 64
  pub rest : List ℕ
  pub is : bytes ≡ header kind number epoch ++ rest

header_made : (kind number epoch : ℕ) (bytes : List ℕ) → AreBytes bytes → 11 ≤ agreeing (stamp kind number) bytes → 19 ≤ length bytes → from_be_bytes w64 (take 8 (drop 11 bytes)) ≡ epoch
    → HasHeader kind number epoch bytes
unfolding header
header_made kind number epoch bytes fits agrees long is =
    let behind = drop 11 bytes in
    let front : bytes ≡ stamp kind number ++ behind = agree_all (stamp kind number) bytes agrees in
    let n = from_be_bytes w64 (take 8 behind) in
    let t = field64.takes behind (n, drop 8 behind) (drop_bytes 11 bytes fits) (number_is behind (omega (arith, long, length-drop 11 bytes))) in
    record {
      within = subst (λ (m : ℕ). m < 2 ^ 64) is t.fits;
      rest = drop 8 behind;
      is = front ∙ ap (λ (l : List ℕ). stamp kind number ++ l) t.parts ∙ ap (λ (m : ℕ). stamp kind number ++ (to_be_bytes w64 m ++ drop 8 behind)) is
          ∙ sym (append_assoc (stamp kind number) (to_be_bytes w64 epoch) (drop 8 behind));
    }

known_header_is : (kind number epoch : ℕ) (bytes : List ℕ) → AreBytes bytes → known_header kind number bytes ≡ Open epoch → HasHeader kind number epoch bytes
known_header_is kind number epoch bytes fits e =
    elim (chosen (nat_lt (agreeing (stamp kind number) bytes) 11) (NoHeader (1 + agreeing (stamp kind number) bytes))
    (cond (nat_lt (length bytes) 19) (NoHeader (1 + length bytes)) (Open (from_be_bytes w64 (take 8 (drop 11 bytes))))) (Open epoch) e) [
      | inl h ↦ absurd (never_without _ epoch h.1)
      | inr h ↦ elim (chosen (nat_lt (length bytes) 19) (NoHeader (1 + length bytes)) (Open (from_be_bytes w64 (take 8 (drop 11 bytes)))) (Open epoch) h.1) [
        | inl i ↦ absurd (never_without _ epoch i.1)
        | inr i ↦ header_made kind number epoch bytes fits (ltb-false _ _ h.0) (ltb-false _ _ i.0) (same_front _ epoch i.1)
      ]
    ]

header_is : (kind number epoch : ℕ) (bytes : List ℕ) → AreBytes bytes → header_of kind number bytes ≡ Open epoch → HasHeader kind number epoch bytes
unfolding header_of
header_is kind number epoch bytes fits e =
    elim (chosen (nat_lt 2 kind) (NoHeader (1 + min 9 (agreeing (stamp kind number) bytes))) (known_header kind number bytes) (Open epoch) e) [
      | inl h ↦ absurd (never_without _ epoch h.1)
      | inr h ↦ known_header_is kind number epoch bytes fits h.1
    ]

-- an open area, from its gate on
pub open_is : (kind number epoch : ℕ) (area : List ℕ) → AreBytes area → front_of kind number area ≡ Open epoch → (rest : List ℕ) × (epoch < 2 ^ 64) × (area ≡ 1 ∷ (header kind number epoch ++ rest))
unfolding front_of
open_is kind number epoch [] fits e = absurd cc
open_is kind number epoch (gate ∷ bytes) fits e =
    elim (chosen (gate == 1) (header_of kind number bytes) Closed (Open epoch) e) [
      | inl h ↦
          let head = header_is kind number epoch bytes (rest_bytes gate bytes fits) h.1 in
          (head.rest, head.within, ap (λ (g : ℕ). g ∷ bytes) (open_gate gate h.0) ∙ ap (λ (l : List ℕ). 1 ∷ l) head.is)
      | inr h ↦ absurd (never_closed epoch h.1)
    ]

-- and with its frames
pub frames_are : (kind number epoch : ℕ) (list : List Frame) (area : List ℕ) → AreBytes area → front_of kind number area ≡ Open epoch → frames_of kind area ≡ Ok list → IsOpen kind number epoch list area
unfolding front header
frames_are kind number epoch list area fits at_front read =
    let head = open_is kind number epoch area fits at_front in
    let behind : drop first_gate area ≡ head.0 = ap (drop first_gate) head.2 ∙ drop_at (1 ∷ header kind number epoch) head.0 20 refl in
    let r = read_opened (suc (length area)) (told_first kind) first_gate (drop first_gate area) list (drop_bytes first_gate area fits) read in
    record {
      within = head.1;
      are = record { spelled = r.spelled; fit = r.fit; whole = r.whole };
      shut = record {
        gate = r.shut.gate;
        rest = r.shut.rest;
        shut = r.shut.shut;
        is = head.2 ∙ ap (λ (l : List ℕ). 1 ∷ (header kind number epoch ++ l)) (sym behind ∙ r.shut.is)
            ∙ ap (λ (l : List ℕ). 1 ∷ l) (sym (append_assoc (header kind number epoch) (opened list) (r.shut.gate ∷ r.shut.rest)));
      };
    }

-- ---- which area counts

abbrev found_so : Found → Result Found (ℕ × ℕ)
found_so f = Ok f

abbrev place_so : ℕ → ℕ → Result Found (ℕ × ℕ)
place_so area at = Err (area, at)

not_found : (area at : ℕ) (f : Found) → place_so area at ≡ found_so f → ⊥
not_found area at f e = absurd cc

same_found : (f g : Found) → found_so f ≡ found_so g → f ≡ g
same_found f g e = cc

-- the area beside it is closed, or open with a lower epoch
abbrev pub IsBelow : ℕ → Front → Type 0
IsBelow epoch front = (front ≡ Closed) ⊎ ((older : ℕ) × (older < epoch) × (front ≡ Open older))

pub record Counts (area : ℕ) (f : Found) (current other : Front) (read : Result (List Frame) ℕ) : Type 0 where
  pub place : f.area ≡ area
  pub at_front : current ≡ Open f.epoch
  pub frames : read ≡ Ok f.frames
  pub below : IsBelow f.epoch other

in_is : (n epoch : ℕ) (read : Result (List Frame) ℕ) (f : Found) → found_in n epoch read ≡ found_so f → (f.area ≡ n) × (f.epoch ≡ epoch) × (read ≡ Ok f.frames)
in_is n epoch (Err at) f e = absurd (not_found n at f e)
in_is n epoch (Ok list) f e =
    let same = same_found (record { area = n; epoch = epoch; frames = list }) f e in
    (sym (ap (λ (g : Found). g.area) same), sym (ap (λ (g : Found). g.epoch) same), ap (λ (g : Found). Ok g.frames) same)

counts : (n epoch : ℕ) (current other : Front) (read : Result (List Frame) ℕ) (f : Found) → found_in n epoch read ≡ found_so f → current ≡ Open epoch → IsBelow epoch other → Counts n f current other read
counts n epoch current other read f e is below =
    let parts = in_is n epoch read f e in
    record {
      place = parts.0;
      at_front = is ∙ ap (λ (m : ℕ). Open m) (sym parts.1);
      frames = parts.2;
      below = subst (λ (m : ℕ). IsBelow m other) (sym parts.1) below;
    }

before_is : (read : Result (List Frame) ℕ) (at : ℕ) (f : Found) → not_before read at ≡ found_so f → ⊥
before_is (Ok list) at f e = not_found 1 at f e
before_is (Err place) at f e = not_found 0 place f e

less_or : (a b : ℕ) → (a == b) ≡ false → nat_lt b a ≡ false → a < b
less_or a b differ not_less = grind (arith, nat_tests)

-- where frames were found, one area counts, and the other does not beside it
pub found_is : (x y : Front) (in_a in_b : Result (List Frame) ℕ) (f : Found) → found x y in_a in_b ≡ found_so f → Counts 0 f x y in_a ⊎ Counts 1 f y x in_b
unfolding found
found_is Empty y in_a in_b f e = absurd (not_found 0 0 f e)
found_is (NoHeader at) y in_a in_b f e = absurd (not_found 0 at f e)
found_is Closed Empty in_a in_b f e = absurd (not_found 0 0 f e)
found_is Closed Closed in_a in_b f e = absurd (not_found 0 0 f e)
found_is Closed (NoHeader at) in_a in_b f e = absurd (not_found 1 at f e)
found_is Closed (Open epoch) in_a in_b f e = inr (counts 1 epoch (Open epoch) Closed in_b f e refl (inl refl))
found_is (Open epoch) Empty in_a in_b f e = absurd (before_is in_a 0 f e)
found_is (Open epoch) Closed in_a in_b f e = inl (counts 0 epoch (Open epoch) Closed in_a f e refl (inl refl))
found_is (Open epoch) (NoHeader at) in_a in_b f e = absurd (before_is in_a at f e)
found_is (Open epoch) (Open other) in_a in_b f e =
    elim (chosen (epoch == other) (place_so 0 12) (cond (nat_lt other epoch) (found_in 0 epoch in_a) (found_in 1 other in_b)) (found_so f) e) [
      | inl h ↦ absurd (not_found 0 12 f h.1)
      | inr h ↦ elim (chosen (nat_lt other epoch) (found_in 0 epoch in_a) (found_in 1 other in_b) (found_so f) h.1) [
        | inl i ↦ inl (counts 0 epoch (Open epoch) (Open other) in_a f i.1 refl (inr (other, ltb-true _ _ i.0, refl)))
        | inr i ↦ inr (counts 1 other (Open other) (Open epoch) in_b f i.1 refl (inr (epoch, less_or epoch other h.0 i.0, refl)))
      ]
    ]

-- an area that is below does not count
pub below_is : (kind number epoch : ℕ) (area : List ℕ) → AreBytes area → IsBelow epoch (front_of kind number area) → IsUnder kind number epoch area
below_is kind number epoch area fits (inl closed) = inl (closed_is kind number area closed)
below_is kind number epoch area fits (inr older) =
    let head = open_is kind number older.0 area fits older.2 in
    inr (record { older = older.0; lower = older.1; rest = head.0; is = head.2 })

-- what was read of two areas, they spell
pub read_spelled : (kind number : ℕ) (f : Found) (a b : List ℕ) → AreBytes a → AreBytes b → read_areas kind number a b ≡ Ok f → Spells kind number f.frames a b
read_spelled kind number f a b fits_a fits_b e =
    elim (found_is (front_of kind number a) (front_of kind number b) _ _ f e) [
      | inl h ↦ inl (record { epoch = f.epoch; current_is = frames_are kind number f.epoch f.frames a fits_a h.at_front h.frames; other_is = below_is kind number f.epoch b fits_b h.below })
      | inr h ↦ inr (record { epoch = f.epoch; current_is = frames_are kind number f.epoch f.frames b fits_b h.at_front h.frames; other_is = below_is kind number f.epoch a fits_a h.below })
    ]
