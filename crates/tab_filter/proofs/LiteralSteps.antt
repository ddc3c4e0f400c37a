-- Steps of the loops that read literals.
use Rattle.std.proofs.Common.{◌≡◌, ℕ, ◌+◌, ◌-◌, ◌<◌, List, [], ◌∷◌, ◌++◌, length, take, get_or, true, false, cond, ◌==◌, Option, Some, None, refl, ap, sym, ◌∙◌, arith, append_assoc, append-nil, length-append}
use Rattle.std.proofs.lemmas.List.{take_more}
use Rattle.std.proofs.lemmas.Str.{encodes-append, length-encode}
use Rattle.std.specs.Char.{len_utf8}
use Rattle.std.specs.Prelude.{encode_utf8, encode_utf8_all, option_map}
use Rattle.tab_edm.specs.declared.values.Value.TheVariants.{Guid}
use Rattle.tab_filter.specs.Lexer.{starts, past_first}
use Rattle.tab_filter.specs.Literals.{with_front, inside_at, with_byte, hex_byte, hex_pairs}

-- ---- the bytes of a text's characters
pub text_more : (chars : List ℕ) (i : ℕ) → i < length chars → encode_utf8_all (take (i + 1) chars) ≡ encode_utf8_all (take i chars) ++ encode_utf8 (get_or chars i 0)
text_more chars i h =
    ap encode_utf8_all (take_more chars i 0 h) ∙ encodes-append (take i chars) (get_or chars i 0 ∷ []) ∙ ap (λ (l : List ℕ). encode_utf8_all (take i chars) ++ l) (append-nil _)

-- ---- what stands between quotes
pub with_front-append : (f g : List ℕ) (o : Option (List ℕ × List ℕ)) → with_front (f ++ g) o ≡ with_front f (with_front g o)
with_front-append f g None = refl
with_front-append f g (Some x) = ap (λ (l : List ℕ). Some (l, x.1)) (append_assoc f g x.0)

pub with_front-nil : (o : Option (List ℕ × List ℕ)) → with_front [] o ≡ o
with_front-nil None = refl
with_front-nil (Some x) = refl

pub inside_step : (b : ℕ) (bs : List ℕ) → inside_at (b ∷ bs) ≡ cond (b == 39) (cond (starts 39 bs) (with_front (encode_utf8 39) (inside_at (past_first bs))) (Some ([], bs))) (with_front (encode_utf8 b) (inside_at bs))
unfolding inside_at
inside_step b [] = elim (b == 39) as (λ v. cond v (Some ([], [])) None ≡ cond v (Some ([], [])) (with_front (encode_utf8 b) None)) [ true ↦ refl | false ↦ refl ]
inside_step b (c ∷ cs) = refl

abbrev Goes : List ℕ → List ℕ → List ℕ → Type 0
Goes front text whole = with_front front (inside_at text) ≡ inside_at whole

pub inside_char : (front new text rest whole : List ℕ) (c : ℕ) → Goes front text whole → text ≡ c ∷ rest → (c == 39) ≡ false → new ≡ front ++ encode_utf8 c → Goes new rest whole
inside_char front new text rest whole c so_far is other more =
    let step : inside_at text ≡ with_front (encode_utf8 c) (inside_at rest) = rw (is, inside_step, other) refl in
    rw more (with_front-append front (encode_utf8 c) (inside_at rest)) ∙ ap (with_front front) (sym step) ∙ so_far

pub inside_quote : (front new text rest whole : List ℕ) (c : ℕ) → Goes front text whole → text ≡ c ∷ rest → (c == 39) ≡ true → starts 39 rest ≡ true → new ≡ front ++ encode_utf8 39 → Goes new (past_first rest) whole
inside_quote front new text rest whole c so_far is quote again more =
    let step : inside_at text ≡ with_front (encode_utf8 39) (inside_at (past_first rest)) = rw (is, inside_step, quote, again) refl in
    rw more (with_front-append front (encode_utf8 39) (inside_at (past_first rest))) ∙ ap (with_front front) (sym step) ∙ so_far

pub inside_end : (front text rest whole : List ℕ) (c : ℕ) → Goes front text whole → text ≡ c ∷ rest → (c == 39) ≡ true → starts 39 rest ≡ false → Some (front, rest) ≡ inside_at whole
inside_end front text rest whole c so_far is quote again =
    let step : inside_at text ≡ Some ([], rest) = rw (is, inside_step, quote, again) refl in
    ap (λ (l : List ℕ). Some (l, rest)) (sym (append-nil front)) ∙ ap (with_front front) (sym step) ∙ so_far

pub inside_none : (front text whole : List ℕ) → Goes front text whole → text ≡ [] → None ≡ inside_at whole
unfolding inside_at
inside_none front text whole so_far is = rw is at so_far

-- ---- pairs of hexadecimal digits
abbrev Adds : List ℕ → List ℕ → List ℕ → Type 0
Adds bytes text whole = option_map (λ more. bytes ++ more) (hex_pairs text) ≡ hex_pairs whole

pairs_step : (text rest last : List ℕ) (high low byte : ℕ) → text ≡ high ∷ rest → rest ≡ low ∷ last → Some byte ≡ hex_byte high low → hex_pairs text ≡ option_map (λ (l : List ℕ). byte ∷ l) (hex_pairs last)
unfolding hex_pairs
pairs_step text rest last high low byte is and_low pair =
    ap hex_pairs (is ∙ ap (λ (l : List ℕ). high ∷ l) and_low) ∙ ap (λ (o : Option ℕ). with_byte o (hex_pairs last)) (sym pair)

joined : (bytes : List ℕ) (byte : ℕ) (o : Option (List ℕ)) → option_map (λ (l : List ℕ). (bytes ++ byte ∷ []) ++ l) o ≡ option_map (λ (l : List ℕ). bytes ++ l) (option_map (λ (l : List ℕ). byte ∷ l) o)
joined bytes byte None = refl
joined bytes byte (Some l) = ap Some (append_assoc bytes (byte ∷ []) l)

pub pairs_more : (bytes new text rest last whole : List ℕ) (high low byte : ℕ) → Adds bytes text whole → text ≡ high ∷ rest → rest ≡ low ∷ last → Some byte ≡ hex_byte high low → new ≡ bytes ++ byte ∷ [] → Adds new last whole
pairs_more bytes new text rest last whole high low byte so_far is and_low pair more =
    rw more (joined bytes byte (hex_pairs last)) ∙ ap (option_map (λ (l : List ℕ). bytes ++ l)) (sym (pairs_step text rest last high low byte is and_low pair)) ∙ so_far

pub pairs_end : (bytes text whole : List ℕ) → Adds bytes text whole → text ≡ [] → Some bytes ≡ hex_pairs whole
unfolding hex_pairs
pairs_end bytes text whole so_far is = ap Some (sym (append-nil bytes)) ∙ (rw is at so_far)

pub pairs_odd : (bytes text rest whole : List ℕ) (high : ℕ) → Adds bytes text whole → text ≡ high ∷ rest → rest ≡ [] → None ≡ hex_pairs whole
unfolding hex_pairs
pairs_odd bytes text rest whole high so_far is none = rw (is, none) at so_far

pub pairs_wrong : (bytes text rest last whole : List ℕ) (high low : ℕ) → Adds bytes text whole → text ≡ high ∷ rest → rest ≡ low ∷ last → None ≡ hex_byte high low → None ≡ hex_pairs whole
unfolding hex_pairs
pairs_wrong bytes text rest last whole high low so_far is and_low pair =
    ap (λ (o : Option ℕ). option_map (λ (l : List ℕ). bytes ++ l) (with_byte o (hex_pairs last))) pair
    ∙ ap (λ (l : List ℕ). option_map (λ (l : List ℕ). bytes ++ l) (hex_pairs l)) (sym (is ∙ ap (λ (l : List ℕ). high ∷ l) and_low)) ∙ so_far

-- ---- guids
pub guid_none : (o : Option (List ℕ)) → ((u : List ℕ) → o ≡ Some u → ⊥) → None ≡ option_map Guid o
guid_none None h = refl
guid_none (Some u) h = absurd (h u refl)

-- ---- offsets
pub offset_more : (rest : List ℕ) (i whole at new c : ℕ) → i < length rest → at ≡ whole - length (encode_utf8_all (take i rest)) → c ≡ get_or rest i 0 → new ≡ at - len_utf8 c → new ≡ whole - length (encode_utf8_all (take (i + 1) rest))
offset_more rest i whole at new c h so_far is less =
    let more : length (encode_utf8_all (take (i + 1) rest)) ≡ length (encode_utf8_all (take i rest)) + len_utf8 c =
    ap length (text_more rest i h) ∙ length-append (encode_utf8_all (take i rest)) (encode_utf8 (get_or rest i 0)) ∙ ap (λ (n : ℕ). length (encode_utf8_all (take i rest)) + n) (length-encode (get_or rest i 0) ∙ ap len_utf8 (sym is)) in
    omega (arith, more, so_far, less)
