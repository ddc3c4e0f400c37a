-- The parts of a head in the order in which they are written.
use Rattle.std.proofs.Common.{◌≡◌, ℕ, List, [], ◌∷◌, ◌++◌, flat_map, codes, ap, ◌∙◌, append_assoc, append-nil}
use Rattle.std.proofs.lemmas.Grind.{flat_map-append}
use Rattle.tab_service.specs.Replies.{Header, header_line, status_line, head_text}

-- six parts, each written behind those before it
in_turn : (a b c d e f h1 h2 h3 h4 h5 h6 : List ℕ)
    → h1 ≡ a → h2 ≡ h1 ++ b → h3 ≡ h2 ++ c → h4 ≡ h3 ++ d → h5 ≡ h4 ++ e → h6 ≡ h5 ++ f → h6 ≡ a ++ b ++ c ++ d ++ e ++ f
in_turn a b c d e f h1 h2 h3 h4 h5 h6 p1 p2 p3 p4 p5 p6 =
    p6 ∙ ap (λ h. h ++ f) (p5 ∙ ap (λ h. h ++ e) (p4 ∙ ap (λ h. h ++ d) (p3 ∙ ap (λ h. h ++ c) (p2 ∙ ap (λ h. h ++ b) p1))))

parts : (status : ℕ) (first second last : Header) (more : List Header)
    → status_line status ++ header_line first ++ header_line second ++ flat_map header_line more ++ header_line last ++ codes "\r\n"
    ≡ head_text status (first ∷ second ∷ (more ++ last ∷ []))
unfolding head_text
parts status first second last more = simp (flat_map-append header_line, append-nil, append_assoc)

-- a head whose lines are written in turn
pub written_in_turn : (status : ℕ) (first second last : Header) (more : List Header) (h1 h2 h3 h4 h5 h6 : List ℕ)
    → h1 ≡ status_line status
    → h2 ≡ h1 ++ header_line first
    → h3 ≡ h2 ++ header_line second
    → h4 ≡ h3 ++ flat_map header_line more
    → h5 ≡ h4 ++ header_line last
    → h6 ≡ h5 ++ codes "\r\n"
    → h6 ≡ head_text status (first ∷ second ∷ (more ++ last ∷ []))
written_in_turn status first second last more h1 h2 h3 h4 h5 h6 p1 p2 p3 p4 p5 p6 =
    in_turn _ _ _ _ _ _ h1 h2 h3 h4 h5 h6 p1 p2 p3 p4 p5 p6 ∙ parts status first second last more

bodiless_parts : (status : ℕ) (last : Header) (more : List Header)
    → status_line status ++ flat_map header_line more ++ header_line last ++ codes "\r\n" ≡ head_text status (more ++ last ∷ [])
unfolding head_text
bodiless_parts status last more = simp (flat_map-append header_line, append-nil, append_assoc)

-- a head with no lines of a body
pub bodiless_in_turn : (status : ℕ) (last : Header) (more : List Header) (h1 h2 h3 h4 : List ℕ)
    → h1 ≡ status_line status
    → h2 ≡ h1 ++ flat_map header_line more
    → h3 ≡ h2 ++ header_line last
    → h4 ≡ h3 ++ codes "\r\n"
    → h4 ≡ head_text status (more ++ last ∷ [])
bodiless_in_turn status last more h1 h2 h3 h4 p1 p2 p3 p4 =
    p4 ∙ ap (λ h. h ++ codes "\r\n") (p3 ∙ ap (λ h. h ++ header_line last) (p2 ∙ ap (λ h. h ++ flat_map header_line more) p1))
    ∙ bodiless_parts status last more

-- words with nothing in them
pub plain_words : (text : List ℕ) → text ++ [] ++ [] ≡ text
plain_words text = append-nil (text ++ []) ∙ append-nil text
