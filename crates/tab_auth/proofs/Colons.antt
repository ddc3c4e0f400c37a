-- A text and its first colon.
use Rattle.std.proofs.Common.{◌≡◌, ℕ, suc, ◌+◌, List, [], ◌∷◌, ◌++◌, length, take, drop, Bool, true, false, ◌||◌, ◌==◌, not, cond, refl, ap, arith}
use Rattle.std.specs.List.{list_any, position_or_len, before_first, after_first}
use Rattle.std.proofs.lemmas.Bool.{eqb-true}

-- before and after the first colon of a text that has one
pub record IsCut (text before after : List ℕ) : Type 0 where
  pub text_is : text ≡ before ++ (58 ∷ after)
  pub no_colon : list_any (λ byte. byte == 58) before ≡ false

cut_by : (test : Bool) (x n : ℕ) (xs : List ℕ) → (x == 58) ≡ test → (list_any (λ byte. byte == 58) xs ≡ true → IsCut xs (take n xs) (drop (n + 1) xs)) → (test || list_any (λ byte. byte == 58) xs) ≡ true → IsCut (x ∷ xs) (take (cond (not test) (1 + n) 0) (x ∷ xs)) (drop (cond (not test) (1 + n) 0 + 1) (x ∷ xs))
cut_by true x n xs is rest any = record {
  text_is = ap (λ (y : ℕ). y ∷ xs) (eqb-true x 58 is);
  no_colon = refl;
}
cut_by false x n xs is rest any =
    let more : 1 + n ≡ suc n = omega arith in
    let yet_more : 1 + n + 1 ≡ suc (n + 1) = omega arith in
    rw (yet_more, more) (record {
      text_is = ap (λ (ys : List ℕ). x ∷ ys) (rest any).text_is;
      no_colon = rw is (rest any).no_colon;
    })

pub cut : (text : List ℕ) → list_any (λ byte. byte == 58) text ≡ true → IsCut text (before_first (λ byte. byte == 58) text) (after_first (λ byte. byte == 58) text)
cut [] any = cc
cut (x ∷ xs) any =
    cut_by (x == 58) x (position_or_len (λ byte. byte == 58) xs) xs refl (cut xs) any

pub has_colon : (before after : List ℕ) → list_any (λ byte. byte == 58) (before ++ (58 ∷ after)) ≡ true
has_colon [] after = refl
has_colon (x ∷ xs) after =
    elim (x == 58) as (λ test. (test || list_any (λ byte. byte == 58) (xs ++ (58 ∷ after))) ≡ true) [ true ↦ refl | false ↦ has_colon xs after ]

-- a text begins with what has no colon, and a colon stands behind it
pub length_before : (before after : List ℕ) → list_any (λ byte. byte == 58) before ≡ false → position_or_len (λ byte. byte == 58) (before ++ (58 ∷ after)) ≡ length before
length_before [] after = λ none. refl
length_before (x ∷ xs) after =
    elim (x == 58) as (λ test. (test || list_any (λ byte. byte == 58) xs) ≡ false → cond (not test) (1 + position_or_len (λ byte. byte == 58) (xs ++ (58 ∷ after))) 0 ≡ suc (length xs)) [ true ↦ λ none. absurd (cc) | false ↦ λ none. omega (arith, length_before xs after none) ]
