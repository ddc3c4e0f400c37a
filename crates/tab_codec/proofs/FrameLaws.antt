-- What is read of any bytes is a frame that has a spelling, and each spelling is read.
use Rattle.std.proofs.Common.{inl, inr, ◌≡◌, ℕ, suc, ◌+◌, ◌-◌, ◌≤◌, Bool, true, false, cond, ltb, ◌&&◌, ◌||◌, List, [], ◌∷◌, ◌++◌, length, take, drop, Result, Ok, Err, refl, sym, ap, subst, ◌∙◌, append_assoc, arith}
use Rattle.std.specs.Prelude.{nat_le, ◌==◌}
use Rattle.std.specs.Int.{w32, to_be_bytes, from_be_bytes}
use Rattle.std.proofs.lemmas.Bool.{ltb-false, le-ltb}
use Rattle.std.proofs.lemmas.Bool.Decides.{nat_tests}
use Rattle.std.proofs.lemmas.List.{append-nil, take_at, drop_at, take-append-drop, length-append}
use Rattle.std.proofs.lemmas.Nat.{from_be_bytes-to_be_bytes_4}
use Rattle.tab_codec.specs.declared.frames.Frame.{Frame}
use Rattle.tab_codec.specs.declared.frames.Frame.TheVariants as frames
use Rattle.tab_codec.specs.Spelling.{sized, kind, body, spelling}
use Rattle.tab_codec.specs.Frames.{AreBytes, HasSpelling, BeginsWith}
use Rattle.tab_codec.specs.Reading.{Read, number_at, body_at, whole_body, frame_at}
use Rattle.tab_codec.specs.declared.reading.CodecRefused.{CodecRefused}
use Rattle.tab_codec.specs.declared.reading.CodecRefused.TheVariants.{NoSpelling, Memory}
use Rattle.tab_codec.specs.Answers.{Answers, Tells}
use Rattle.tab_codec.proofs.FieldLaws.{done, field32, take_bytes, rest_bytes}
use Rattle.tab_codec.proofs.FrontLaws.{chosen, refused}
use Rattle.tab_codec.proofs.BodyLaws.{body_takes, body_again}

abbrev read_so : Frame × ℕ → Result (Frame × ℕ) ℕ
read_so x = Ok x

same_read : (x y : Frame × ℕ) → read_so x ≡ read_so y → x ≡ y
same_read x y e = cc

not_refused : (at : ℕ) (x : Frame × ℕ) → refused at ≡ read_so x → ⊥
not_refused at x e = absurd cc

empty : {A : Type 0} (xs : List A) → length xs ≡ 0 → xs ≡ []
empty [] e = refl
empty (x ∷ xs) e = absurd cc

both_equal : (a b c d : ℕ) → (a == b && c == d) ≡ true → (a ≡ b) × (c ≡ d)
both_equal a b c d e = grind (arith, nat_tests)

not_or : (a b : Bool) → (a || b) ≡ false → (a ≡ false) × (b ≡ false)
not_or false b e = (refl, e)
not_or true b e = absurd cc

-- a whole body was read
record IsWholeBody (n : ℕ) (bytes : List ℕ) (found : Read Frame) (x : Frame × ℕ) : Type 0 where
  read : found ≡ Ok (x.0, [])
  size : length bytes ≡ n
  count : x.1 ≡ 5 + n

whole_read : (size : ℕ) (bytes : List ℕ) (read : Read Frame) (x : Frame × ℕ) → whole_body size bytes read ≡ read_so x → IsWholeBody size bytes read x
whole_read size bytes (Err left) x e = absurd (not_refused _ x e)
whole_read size bytes (Ok y) x e =
    elim (chosen (length y.1 == 0 && length bytes == size) (read_so (y.0, 5 + size)) (refused (5 + (length bytes - length y.1))) (read_so x) e) [
      | inl h ↦
          let b = both_equal (length y.1) 0 (length bytes) size h.0 in
          let same = same_read (y.0, 5 + size) x h.1 in
          let first : y.0 ≡ x.0 = ap (λ (z : Frame × ℕ). z.0) same in
          let none : y.1 ≡ [] = empty y.1 b.0 in
          record {
            read = ap (λ (r : List ℕ). done y.0 r) none ∙ ap (λ (f : Frame). done f []) first;
            size = b.1;
            count = sym (ap (λ (z : Frame × ℕ). z.1) same);
          }
      | inr h ↦ absurd (not_refused _ x h.1)
    ]

number_is : (bytes : List ℕ) → 4 ≤ length bytes → number_at w32 bytes ≡ Ok (from_be_bytes w32 (take 4 bytes), drop 4 bytes)
unfolding number_at
number_is bytes long = rw (le-ltb (length bytes) 4 long) refl

pub frame_takes : (bytes : List ℕ) (x : Frame × ℕ) → AreBytes bytes → frame_at bytes ≡ Ok x → BeginsWith x.0 x.1 bytes
unfolding frame_at spelling sized
frame_takes [] x fits e = absurd (not_refused 0 x e)
frame_takes (k ∷ bytes) x fits e =
    let size = from_be_bytes w32 (take 4 bytes) in
    let inside = take size (drop 4 bytes) in
    let short = ltb (length bytes) 4 || ltb 268_435_456 size in
    elim (chosen (nat_le 1 k && nat_le k 9) (cond short (refused 1) (whole_body size inside (body_at k inside))) (refused 0) (read_so x) e) [
      | inl h ↦ elim (chosen short (refused 1) (whole_body size inside (body_at k inside)) (read_so x) h.1) [
        | inl s ↦ absurd (not_refused 1 x s.1)
        | inr s ↦
            let n = not_or (ltb (length bytes) 4) (ltb 268_435_456 size) s.0 in
            let long : 4 ≤ length bytes = ltb-false _ _ n.0 in
            let small : size ≤ 268_435_456 = ltb-false _ _ n.1 in
            let w = whole_read size inside (body_at k inside) x s.1 in
            let behind = rest_bytes k bytes fits in
            let head = field32.takes bytes (size, drop 4 bytes) behind (number_is bytes long) in
            let t = body_takes k h.0 inside (x.0, []) (take_bytes size (drop 4 bytes) head.rest) w.read in
            let is : inside ≡ body x.0 = t.parts ∙ append-nil (body x.0) in
            let many : length (body x.0) ≡ size = ap length (sym is) ∙ w.size in
            let parts : bytes ≡ to_be_bytes w32 size ++ (inside ++ drop size (drop 4 bytes)) = head.parts ∙ ap (λ (r : List ℕ). to_be_bytes w32 size ++ r) (sym (take-append-drop size (drop 4 bytes))) in
            let spelled : bytes ≡ to_be_bytes w32 (length (body x.0)) ++ (body x.0 ++ drop size (drop 4 bytes)) =
            parts ∙ ap (λ (b : List ℕ). to_be_bytes w32 size ++ (b ++ drop size (drop 4 bytes))) is ∙ ap (λ (m : ℕ). to_be_bytes w32 m ++ (body x.0 ++ drop size (drop 4 bytes))) (sym many) in
            record {
              has = record { parts = t.fits.parts; orderly = t.fits.orderly; short = omega (arith, many) };
              rest = drop size (drop 4 bytes);
              is = ap (λ (b : List ℕ). k ∷ b) (spelled ∙ sym (append_assoc (to_be_bytes w32 (length (body x.0))) (body x.0) (drop size (drop 4 bytes))))
                  ∙ ap (λ (m : ℕ). m ∷ ((to_be_bytes w32 (length (body x.0)) ++ body x.0) ++ drop size (drop 4 bytes))) (sym t.fits.kind);
              count = omega (arith, w.count, many, length-append (to_be_bytes w32 (length (body x.0))) (body x.0));
            }
      ]
      | inr h ↦ absurd (not_refused 0 x h.1)
    ]

kind_within : (f : Frame) → (nat_le 1 (kind f) && nat_le (kind f) 9) ≡ true
kind_within (frames.Begin range span next_tick) = refl
kind_within (frames.Rows range rows) = refl
kind_within (frames.Whole range next_tick) = refl
kind_within (frames.Change range next_tick changes) = refl
kind_within (frames.Map next_range next_plan rows) = refl
kind_within (frames.Commit plan next_range old_ranges new_rows) = refl
kind_within (frames.Names next_table names) = refl
kind_within (frames.Create table name) = refl
kind_within (frames.Drop table) = refl

whole_again : (n : ℕ) (f : Frame) (bytes : List ℕ) → length bytes ≡ n → whole_body n bytes (done f []) ≡ Ok (f, 5 + n)
whole_again n f bytes e =
    let same : (length bytes == n) ≡ true = grind (arith, nat_tests) in
    rw same refl

frame_is : (k n : ℕ) (bytes inside : List ℕ) → (nat_le 1 k && nat_le k 9) ≡ true → 4 ≤ length bytes → from_be_bytes w32 (take 4 bytes) ≡ n → n ≤ 268_435_456 → take n (drop 4 bytes) ≡ inside
    → frame_at (k ∷ bytes) ≡ whole_body n inside (body_at k inside)
unfolding frame_at
frame_is k n bytes inside within long size small is = rw (within, le-ltb (length bytes) 4 long, size, le-ltb 268_435_456 n small, is) refl

pub frame_again : (f : Frame) (rest : List ℕ) → HasSpelling f → frame_at (spelling f ++ rest) ≡ Ok (f, length (spelling f))
unfolding spelling sized
frame_again f rest h =
    let b = body f in
    let n = length b in
    let head = to_be_bytes w32 n in
    let behind : (head ++ b) ++ rest ≡ head ++ (b ++ rest) = append_assoc head b rest in
    let long : 4 ≤ length (head ++ (b ++ rest)) = omega (arith, length-append head (b ++ rest)) in
    let size : from_be_bytes w32 (take 4 (head ++ (b ++ rest))) ≡ n = ap (from_be_bytes w32) (take_at head (b ++ rest) 4 refl) ∙ from_be_bytes-to_be_bytes_4 n (omega (arith, h.short)) in
    let is : take n (drop 4 (head ++ (b ++ rest))) ≡ b = ap (take n) (drop_at head (b ++ rest) 4 refl) ∙ take_at b rest n refl in
    let read : body_at (kind f) b ≡ done f [] = subst (λ (w : List ℕ). body_at (kind f) w ≡ done f []) (append-nil b) (body_again f [] h.parts h.orderly) in
    let count : read_so (f, 5 + n) ≡ read_so (f, suc (length (head ++ b))) = ap (λ (m : ℕ). read_so (f, m)) (omega (arith, length-append head b)) in
    ap (λ (w : List ℕ). frame_at (kind f ∷ w)) behind
    ∙ frame_is (kind f) n (head ++ (b ++ rest)) b (kind_within f) long size h.short is
    ∙ ap (whole_body n b) read
    ∙ whole_again n f b refl
    ∙ count

pub spelled_reads : (bytes : List ℕ) (f : Frame) (n : ℕ) → AreBytes bytes → frame_at bytes ≡ Ok (f, n) → BeginsWith f n bytes
spelled_reads bytes f n fits e = frame_takes bytes (f, n) fits e

pub one_frame : (a b : Frame) (x y : List ℕ) → HasSpelling a → HasSpelling b → spelling a ++ x ≡ spelling b ++ y → (a ≡ b) × (x ≡ y)
one_frame a b x y one two e =
    let same = same_read (a, length (spelling a)) (b, length (spelling b)) (sym (frame_again a x one) ∙ ap frame_at e ∙ frame_again b y two) in
    let frame : a ≡ b = ap (λ (z : Frame × ℕ). z.0) same in
    let behind : spelling b ++ x ≡ spelling b ++ y = ap (λ (f : Frame). spelling f ++ x) (sym frame) ∙ e in
    (frame, sym (drop_at (spelling b) x (length (spelling b)) refl) ∙ ap (drop (length (spelling b))) behind ∙ drop_at (spelling b) y (length (spelling b)) refl)

-- bytes that are refused begin with no spelling
none_spelled : (bytes : List ℕ) (at : ℕ) → frame_at bytes ≡ Err at → (f : Frame) (n : ℕ) → BeginsWith f n bytes → ⊥
none_spelled bytes at e f n h = not_refused at (f, length (spelling f)) (sym e ∙ ap frame_at h.is ∙ frame_again f h.rest h.has)

pub answers_tell : (bytes : List ℕ) (answer : Result (Frame × ℕ) CodecRefused) → AreBytes bytes → Answers answer (frame_at bytes) → Tells answer bytes
answers_tell bytes (Ok x) fits h = frame_takes bytes x fits h
answers_tell bytes (Err (NoSpelling at)) fits h = none_spelled bytes at h
answers_tell bytes (Err Memory) fits h = tt
