-- What was counted or written of a list so far.
use Rattle.std.proofs.Common.{◌≡◌, ℕ, ◌+◌, ◌*◌, ◌<◌, ◌≤◌, List, [], ◌∷◌, ◌++◌, length, get_or, take, drop, refl, sym, ap, subst, ◌∙◌, append_assoc, length-append, arith, cond, Result, Ok, Err, OnOk}
use Rattle.std.specs.Result.{is_ok}
use Rattle.tab_codec.specs.Spelling.{sized}
use Rattle.std.specs.List.{flat_map, AllByRecursion}
use Rattle.std.specs.Int.{w64, to_be_bytes}
use Rattle.std.proofs.lemmas.List.{take_more, append-nil, take-append-drop}
use Rattle.std.proofs.lemmas.List.Concat.{flat_map-append, flat_map-cons}

-- the spelling of one item more
pub spelled_more : {A : Type 0} (f : A → List ℕ) (xs : List A) (i : ℕ) (x : A) → i < length xs → x ≡ get_or xs i x → flat_map f (take (i + 1) xs) ≡ flat_map f (take i xs) ++ f x
spelled_more f xs i x lt is =
    ap (flat_map f) (take_more xs i x lt ∙ ap (λ y. take i xs ++ y ∷ []) (sym is)) ∙ flat_map-append f (take i xs) (x ∷ [])
    ∙ ap (λ (ys : List ℕ). flat_map f (take i xs) ++ ys) (flat_map-cons f x [] ∙ append-nil (f x))

-- what was counted and the next item together are no longer than the whole
pub part_within : {A : Type 0} (f : A → List ℕ) (xs : List A) (i : ℕ) (x : A) → i < length xs → x ≡ get_or xs i x → length (flat_map f (take i xs)) + length (f x) ≤ length (flat_map f xs)
part_within f xs i x lt is =
    let whole : length (flat_map f xs) ≡ length (flat_map f (take (i + 1) xs) ++ flat_map f (drop (i + 1) xs)) =
    ap length (ap (flat_map f) (sym (take-append-drop (i + 1) xs)) ∙ flat_map-append f (take (i + 1) xs) (drop (i + 1) xs)) in
    omega (arith, whole, length-append (flat_map f (take (i + 1) xs)) (flat_map f (drop (i + 1) xs)), ap length (spelled_more f xs i x lt is), length-append (flat_map f (take i xs)) (f x))

all_pushed : {A : Type 0} (P : A → Type 0) (xs : List A) (x : A) → AllByRecursion P xs → P x → AllByRecursion P (xs ++ x ∷ [])
all_pushed P [] x h p = (p, tt)
all_pushed P (y ∷ ys) x h p = (h.0, all_pushed P ys x h.1 p)

pub all_more : {A : Type 0} (P : A → Type 0) (xs : List A) (i : ℕ) (x : A) → i < length xs → x ≡ get_or xs i x → AllByRecursion P (take i xs) → P x → AllByRecursion P (take (i + 1) xs)
all_more P xs i x lt is h p =
    subst (λ ys. AllByRecursion P ys) (ap (λ y. take i xs ++ y ∷ []) is ∙ sym (take_more xs i x lt)) (all_pushed P (take i xs) x h p)

-- numbers of eight bytes each
pub numbers_long : (xs : List ℕ) → length (flat_map (to_be_bytes w64) xs) ≡ 8 * length xs
numbers_long [] = refl
numbers_long (x ∷ xs) = omega (arith, ap length (flat_map-cons (to_be_bytes w64) x xs), length-append (to_be_bytes w64 x) (flat_map (to_be_bytes w64) xs), numbers_long xs)

-- what was written in three steps, and in four
pub in_three : (old a b c one two new : List ℕ) → one ≡ old ++ a → two ≡ one ++ b → new ≡ two ++ c → new ≡ old ++ (a ++ (b ++ c))
in_three old a b c one two new h k l =
    l ∙ ap (λ (w : List ℕ). w ++ c) k ∙ append_assoc one b c ∙ ap (λ (w : List ℕ). w ++ (b ++ c)) h ∙ append_assoc old a (b ++ c)

pub in_four : (old a b c d one two three new : List ℕ) → one ≡ old ++ a → two ≡ one ++ b → three ≡ two ++ c → new ≡ three ++ d → new ≡ old ++ (a ++ (b ++ (c ++ d)))
in_four old a b c d one two three new h k l m =
    in_three one b c d two three new k l m ∙ ap (λ (w : List ℕ). w ++ (b ++ (c ++ d))) h ∙ append_assoc old a (b ++ (c ++ d))

pub in_two : (old a b one new : List ℕ) → one ≡ old ++ a → new ≡ one ++ b → new ≡ old ++ (a ++ b)
in_two old a b one new h k = k ∙ ap (λ (w : List ℕ). w ++ b) h ∙ append_assoc old a b

-- what was appended, where that went well
pub appended : {E : Type 0} (r : Result (Unit {0}) E) (old other new : List ℕ) → new ≡ cond (is_ok r) (old ++ other) old → OnOk r (new ≡ old ++ other)
appended (Ok x) old other new e = e
appended (Err x) old other new e = tt

-- a text that was written is the text that it is lent from
pub of_text : (old s t u new : List ℕ) → s ≡ t → t ≡ u → new ≡ old ++ sized s → new ≡ old ++ sized u
of_text old s t u new a b e = subst (λ (w : List ℕ). new ≡ old ++ sized w) (a ∙ b) e

-- one item more was written
pub put_more : {A : Type 0} (f : A → List ℕ) (xs : List A) (i : ℕ) (x : A) (old so_far new : List ℕ) → i < length xs → x ≡ get_or xs i x → so_far ≡ old ++ flat_map f (take i xs) → new ≡ so_far ++ f x
    → new ≡ old ++ flat_map f (take (i + 1) xs)
put_more f xs i x old so_far new lt is h k =
    in_two old (flat_map f (take i xs)) (f x) so_far new h k ∙ ap (λ (w : List ℕ). old ++ w) (sym (spelled_more f xs i x lt is))
