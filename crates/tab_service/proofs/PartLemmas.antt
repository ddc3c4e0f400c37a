-- Texts that are cut at a mark.
use Rattle.std.proofs.Common.{◌≡◌, ◌≢◌, ℕ, ◌-◌, ◌<◌, List, ◌++◌, length, take, Bool, true, false, ◌==◌, cond, Option, Some, None, option_map, Bor, refl, ap, ◌∙◌, bytes_eq}
use Rattle.std.specs.Option.{MatchOption, option_copied}
use Rattle.std.specs.List.{position_or_len, before_first, after_first}
use Rattle.std.specs.Str.Pattern.{FindsTextSuffix, StripsSuffix}
use Rattle.std.proofs.lemmas.Slice.Eq.{bytes_eq-Decides}
use Rattle.tab_auth.proofs.Fronts.{any_within, none_within}
use Rattle.tab_service.specs.Targets.{before_mark, parted}

mark_lacks : (text mark : List ℕ) → ((front : List ℕ) → text ≢ front ++ mark) → (test : Bool) → bytes_eq text (take (length text - length mark) text ++ mark) ≡ test
    → ◌≡◌ {A = Option (List ℕ)} None (cond test (Some (take (length text - length mark) text)) None)
mark_lacks text mark lacks true is = absurd (lacks _ ((bytes_eq-Decides text (take (length text - length mark) text ++ mark)).0 is))
mark_lacks text mark lacks false is = refl

mark_ends : (text mark x : List ℕ) (n : ℕ) → n ≡ length mark → text ≡ take (length text - n) text ++ mark → x ≡ take (length text - n) text → Some x ≡ before_mark mark text
unfolding before_mark
mark_ends text mark x n count is cut =
    let whole : text ≡ take (length text - length mark) text ++ mark = is ∙ ap (λ (k : ℕ). take (length text - k) text ++ mark) count in
    rw ((bytes_eq-Decides text (take (length text - length mark) text ++ mark)).1 whole) (ap (λ (t : List ℕ). Some t) (cut ∙ ap (λ (k : ℕ). take (length text - k) text) count))

-- a text without the mark that ends it
pub cut_off : (text mark : List ℕ) (r : Option (Bor (List ℕ))) → MatchOption r (FindsTextSuffix mark text None) (λ x. StripsSuffix (FindsTextSuffix mark) text x.now)
    → option_copied r ≡ before_mark mark text
unfolding before_mark
cut_off text mark None lacks = mark_lacks text mark lacks (bytes_eq text (take (length text - length mark) text ++ mark)) refl
cut_off text mark (Some x) found = mark_ends text mark x.now found.0 found.1.0 found.1.1 found.2

-- a text parted at a byte
pub cut_at : (byte : ℕ) (text : List ℕ) (r : Option (Bor (List ℕ) × Bor (List ℕ)))
    → MatchOption r (position_or_len (λ b. b == byte) text ≡ length text) (λ x. (x.0.now ≡ before_first (λ b. b == byte) text) × (x.1.now ≡ after_first (λ b. b == byte) text) × (position_or_len (λ b. b == byte) text < length text))
    → option_map (λ parts. (parts.0.now, parts.1.now)) r ≡ parted byte text
cut_at byte text None none = rw (none_within (λ b. b == byte) text none) refl
cut_at byte text (Some x) is = rw (any_within (λ b. b == byte) text is.2, is.0, is.1) refl
