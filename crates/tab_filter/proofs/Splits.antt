-- A text is its longest front of some characters and what is behind it.
use Rattle.std.proofs.Common.{◌≡◌, ℕ, zero, suc, ◌≤◌, List, [], ◌∷◌, ◌++◌, length, Bool, true, false, cond, refl, ap, sym, ◌∙◌, arith, length-append}
use Rattle.tab_filter.specs.Lexer.{continues, name_front, name_behind, whole_name, behind_name, front_of, behind}

pub name_split : (n : ℕ) (text : List ℕ) → text ≡ name_front n text ++ name_behind n text
unfolding name_front name_behind
name_split zero text = refl
name_split (suc n) [] = refl
name_split (suc n) (b ∷ bs) =
    elim (continues b) as (λ v. b ∷ bs ≡ cond v (b ∷ name_front n bs) [] ++ cond v (name_behind n bs) (b ∷ bs)) [
      | true ↦ ap (λ (l : List ℕ). b ∷ l) (name_split n bs)
      | false ↦ refl
    ]

pub whole_name_split : (text : List ℕ) → text ≡ whole_name text ++ behind_name text
unfolding whole_name name_behind
whole_name_split [] = refl
whole_name_split (b ∷ bs) = ap (λ (l : List ℕ). b ∷ l) (name_split 254 bs)

pub behind_name_shorter : (text : List ℕ) → length (behind_name text) ≤ length text
behind_name_shorter text =
    omega (arith, ap length (whole_name_split text), length-append (whole_name text) (behind_name text))

pub name_shorter_is : (text rest : List ℕ) → rest ≡ behind_name text → length rest ≤ length text
name_shorter_is text rest e = rw e (behind_name_shorter text)

pub name_read : (text front rest : List ℕ) → rest ≡ behind_name text → ((w : List ℕ) → text ≡ w ++ rest → front ≡ w) → front ≡ whole_name text
name_read text front rest e taken =
    taken (whole_name text) (whole_name_split text ∙ ap (λ (l : List ℕ). whole_name text ++ l) (sym e))

pub split_behind : (p : ℕ → Bool) (text : List ℕ) → text ≡ front_of p text ++ behind p text
unfolding front_of behind
split_behind p [] = refl
split_behind p (b ∷ bs) =
    elim (p b) as (λ v. b ∷ bs ≡ cond v (b ∷ front_of p bs) [] ++ cond v (behind p bs) (b ∷ bs)) [
      | true ↦ ap (λ (l : List ℕ). b ∷ l) (split_behind p bs)
      | false ↦ refl
    ]

pub behind_shorter : (p : ℕ → Bool) (text : List ℕ) → length (behind p text) ≤ length text
behind_shorter p text = omega (arith, ap length (split_behind p text), length-append (front_of p text) (behind p text))

pub behind_shorter_is : (p : ℕ → Bool) (text rest : List ℕ) → rest ≡ behind p text → length rest ≤ length text
behind_shorter_is p text rest e = rw e (behind_shorter p text)

pub front_read : (p : ℕ → Bool) (text front rest : List ℕ) → rest ≡ behind p text → ((w : List ℕ) → text ≡ w ++ rest → front ≡ w) → front ≡ front_of p text
front_read p text front rest e taken =
    taken (front_of p text) (split_behind p text ∙ ap (λ (l : List ℕ). front_of p text ++ l) (sym e))
