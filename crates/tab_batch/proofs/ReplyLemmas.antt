-- The lines of a batch's reply, and the parts between them.
use Rattle.std.proofs.Common.{◌≡◌, ℕ, ◌+◌, ◌-◌, Bool, true, false, ◌||◌, ◌==◌, List, [], ◌∷◌, ◌++◌, length, take, map, refl, sym, ap, ◌∙◌, cond, arith, append-nil, append_assoc, length-append}
use Rattle.std.specs.Prelude.{None, Some, Ok, Option, codes, slice_range, is_some, option_and_then}
use Rattle.std.specs.List.{flat_map, AllByRecursion}
use Rattle.std.proofs.Math.Seq.{take-append_seam, drop-append_seam}
use Rattle.std.proofs.lemmas.List.{reverse-append, reverse-reverse}
use Rattle.tab_http.specs.Headers.{cons_first}
use Rattle.tab_batch.specs.Lines.{LineView, cut_lines, without_end, placed, lines_at, text_end}
use Rattle.tab_batch.specs.Marks.{Blocks, blocks_of, add_line, mark_of}
use Rattle.tab_batch.specs.Boundaries.{boundary_of, boundary_among, pieces, unquoted}
use Rattle.tab_batch.specs.Parts.{Found, from_first, is_nothing, is_empty, content_type, settles, under, only_part, change_set, with_request, requests_at, when_closed, body_at, ranges_of, between, cut_out, requests_of}
use Rattle.tab_batch.specs.Replies.{line_end, line, outer_boundary, inner_boundary, opening, part_head, ending, part_text, batch_text, MarksNothing, IsPlain}
use Rattle.tab_batch.proofs.PieceLemmas.{first_of_plain, only_plain}
use Rattle.tab_batch.specs.declared.marks.Mark.{Mark}
use Rattle.tab_batch.specs.declared.byte_ranges.ByteRange.{ByteRange}
use Rattle.httparse.specs.Grammar.{trim_ows}
use Rattle.tab_batch.specs.declared.marks.Mark.TheVariants.{Delimiter}

-- ---- the lines of a reply

pub all_of_both : {X : Type 0} (P : X → Type 0) (xs ys : List X) → AllByRecursion P xs → AllByRecursion P ys → AllByRecursion P (xs ++ ys)
all_of_both P [] ys p q = q
all_of_both P (x ∷ xs) ys p q = (p.0, all_of_both P xs ys p.1 q)

-- the last line of a text that ends with the end of a line
pub record LastLine (reply : List ℕ) : Type 0 where
  pub before : List (List ℕ)
  pub last : List ℕ
  pub cut : cut_lines (line reply) ≡ before ++ line last ∷ []

longer : (c : ℕ) (before : List (List ℕ)) (last : List ℕ) (lines : List (List ℕ)) → lines ≡ before ++ line last ∷ [] → (front : List (List ℕ)) × (end : List ℕ) × (cons_first c lines ≡ front ++ line end ∷ [])
longer c [] last lines is = ([], c ∷ last, ap (cons_first c) is)
longer c (b ∷ before) last lines is = ((c ∷ b) ∷ before, last, ap (cons_first c) is)

pub last_line : (reply : List ℕ) → LastLine reply
unfolding cut_lines
last_line [] = record { before = []; last = []; cut = refl }
last_line (c ∷ reply) =
    let rest = last_line reply in
    let more = longer c rest.before rest.last (cut_lines (line reply)) rest.cut in
    by_test (c == 10) refl rest more
  where
    by_test : (v : Bool) → (c == 10) ≡ v → LastLine reply → (front : List (List ℕ)) × (end : List ℕ) × (cons_first c (cut_lines (line reply)) ≡ front ++ line end ∷ []) → LastLine (c ∷ reply)
    by_test true is rest more = record { before = (c ∷ []) ∷ rest.before; last = rest.last; cut = rw is (ap (λ (ls : List (List ℕ)). (c ∷ []) ∷ ls) rest.cut) }
    by_test false is rest more = record { before = more.0; last = more.1; cut = rw is more.2 }

first_of_both : (c : ℕ) (before : List (List ℕ)) (last : List ℕ) (xs ys : List (List ℕ)) → xs ≡ before ++ line last ∷ [] → cons_first c (xs ++ ys) ≡ cons_first c xs ++ ys
first_of_both c [] last xs ys is = rw is refl
first_of_both c (b ∷ before) last xs ys is = rw is refl

-- the lines of a reply, and then those behind it
pub cut_both : (reply more : List ℕ) → cut_lines (line reply ++ more) ≡ cut_lines (line reply) ++ cut_lines more
unfolding cut_lines
cut_both [] more = refl
cut_both (c ∷ reply) more =
    let rest = cut_both reply more in
    let last = last_line reply in
    by_test (c == 10) refl rest (ap (cons_first c) rest ∙ first_of_both c last.before last.last (cut_lines (line reply)) (cut_lines more) last.cut)
  where
    by_test : (v : Bool) → (c == 10) ≡ v → cut_lines (line reply ++ more) ≡ cut_lines (line reply) ++ cut_lines more → cons_first c (cut_lines (line reply ++ more)) ≡ cons_first c (cut_lines (line reply)) ++ cut_lines more
        → cut_lines (line (c ∷ reply) ++ more) ≡ cut_lines (line (c ∷ reply)) ++ cut_lines more
    by_test true is rest more = rw is (ap (λ (ls : List (List ℕ)). (c ∷ []) ∷ ls) rest)
    by_test false is rest more = rw is more

-- ---- offsets

-- the offset behind the lines
abbrev pub behind_lines : ℕ → List (List ℕ) → ℕ
behind_lines at [] = at
behind_lines at (l ∷ ls) = behind_lines (at + length l) ls

behind_both : (at : ℕ) (xs ys : List (List ℕ)) → behind_lines at (xs ++ ys) ≡ behind_lines (behind_lines at xs) ys
behind_both at [] ys = refl
behind_both at (x ∷ xs) ys = behind_both (at + length x) xs ys

behind_first : (at c : ℕ) (lines : List (List ℕ)) → behind_lines at (cons_first c lines) ≡ behind_lines (at + 1) lines
behind_first at c [] = refl
behind_first at c (l ∷ lines) = let same : at + length (c ∷ l) ≡ at + 1 + length l = omega arith in ap (λ (n : ℕ). behind_lines n lines) same

pub behind_cut : (at : ℕ) (bytes : List ℕ) → behind_lines at (cut_lines bytes) ≡ at + length bytes
unfolding cut_lines
behind_cut at [] = omega arith
behind_cut at (c ∷ bytes) = by_test (c == 10) refl (behind_cut (at + 1) bytes)
  where
    longer_by_one : at + 1 + length bytes ≡ at + length (c ∷ bytes)
    longer_by_one = omega arith

    by_test : (v : Bool) → (c == 10) ≡ v → behind_lines (at + 1) (cut_lines bytes) ≡ at + 1 + length bytes → behind_lines at (cut_lines (c ∷ bytes)) ≡ at + length (c ∷ bytes)
    by_test true is rest = rw is (rest ∙ longer_by_one)
    by_test false is rest = rw is (behind_first at c (cut_lines bytes) ∙ rest ∙ longer_by_one)

pub end_dropped : (text : List ℕ) → without_end (line text) ≡ text
unfolding without_end
end_dropped text = rw (reverse-append text line_end) (reverse-reverse text)

end_of_last : (at end : ℕ) (before : List (List ℕ)) (last : List ℕ) → text_end end (placed at (before ++ line last ∷ [])) ≡ behind_lines at before + length last
end_of_last at end [] last = ap (λ (t : List ℕ). at + length t) (end_dropped last)
end_of_last at end (b ∷ before) last = end_of_last (at + length b) (at + length (without_end b)) before last

-- the text of a reply's lines ends where the reply does
pub reply_end : (at end : ℕ) (reply : List ℕ) → text_end end (placed at (cut_lines (line reply))) ≡ at + length reply
reply_end at end reply =
    let last = last_line reply in
    let whole = sym (behind_cut at (line reply)) ∙ ap (behind_lines at) last.cut ∙ behind_both at last.before (line last.last ∷ []) in
    let size = length-append reply line_end in
    let last_size = length-append last.last line_end in
    ap (λ (ls : List (List ℕ)). text_end end (placed at ls)) last.cut ∙ end_of_last at end last.before last.last ∙ omega (arith, whole, size, last_size)

-- ---- the lines of the text

abbrev delimiter_line : List ℕ
delimiter_line = line (codes "--changesetresponse_1")

abbrev type_line : List ℕ
type_line = line (codes "Content-Type: application/http")

abbrev encoding_line : List ℕ
encoding_line = line (codes "Content-Transfer-Encoding: binary")

abbrev last_of_set : List ℕ
last_of_set = line (codes "--changesetresponse_1--")

abbrev outer_line : List ℕ
outer_line = line (codes "--batchresponse_1")

abbrev outer_type : List ℕ
outer_type = codes "Content-Type: multipart/mixed; boundary=changesetresponse_1"

abbrev outer_type_line : List ℕ
outer_type_line = line outer_type

abbrev last_of_all : List ℕ
last_of_all = line (codes "--batchresponse_1--")

-- the lines of the change set
abbrev set_lines : List (List ℕ) → List (List ℕ)
set_lines [] = last_of_set ∷ []
set_lines (reply ∷ replies) = delimiter_line ∷ type_line ∷ encoding_line ∷ line [] ∷ (cut_lines (line reply) ++ set_lines replies)

cut_head : (more : List ℕ) → cut_lines (part_head ++ more) ≡ delimiter_line ∷ type_line ∷ encoding_line ∷ line [] ∷ cut_lines more
unfolding cut_lines part_head
cut_head more = refl

cut_ending : cut_lines ending ≡ last_of_set ∷ last_of_all ∷ []
unfolding cut_lines ending
cut_ending = refl

cut_opening : (more : List ℕ) → cut_lines (opening ++ more) ≡ outer_line ∷ outer_type_line ∷ line [] ∷ cut_lines more
unfolding cut_lines opening
cut_opening more = refl

-- a part, and then the others
one_first : (reply : List ℕ) (replies : List (List ℕ)) → flat_map part_text (reply ∷ replies) ++ ending ≡ part_head ++ (line reply ++ (flat_map part_text replies ++ ending))
one_first reply replies = append_assoc (part_head ++ line reply) (flat_map part_text replies) ending ∙ append_assoc part_head (line reply) (flat_map part_text replies ++ ending)

cut_set : (replies : List (List ℕ)) → cut_lines (flat_map part_text replies ++ ending) ≡ set_lines replies ++ last_of_all ∷ []
cut_set [] = cut_ending
cut_set (reply ∷ replies) =
    let more = flat_map part_text replies ++ ending in
    ap cut_lines (one_first reply replies) ∙ cut_head (line reply ++ more)
    ∙ ap (λ (ls : List (List ℕ)). delimiter_line ∷ type_line ∷ encoding_line ∷ line [] ∷ ls)
    (cut_both reply more ∙ ap (λ (ls : List (List ℕ)). cut_lines (line reply) ++ ls) (cut_set replies) ∙ sym (append_assoc (cut_lines (line reply)) (set_lines replies) (last_of_all ∷ [])))

-- ---- blocks

abbrev Unmarked : List ℕ → List ℕ → Type 0
Unmarked boundary l = mark_of boundary (without_end l) ≡ None

-- lines that mark nothing stand before the first mark
unmarked : (boundary : List ℕ) (at : ℕ) (xs ys : List (List ℕ)) → AllByRecursion (Unmarked boundary) xs
    → ◌≡◌ {A = Blocks} (blocks_of boundary (placed at (xs ++ ys)))
    (record { front = placed at xs ++ (blocks_of boundary (placed (behind_lines at xs) ys)).front; marked = (blocks_of boundary (placed (behind_lines at xs) ys)).marked })
unmarked boundary at [] ys none = refl
unmarked boundary at (x ∷ xs) ys none =
    let here : LineView = record { start = at; text = without_end x; next = at + length x } in
    ap (λ (m : Option Mark). add_line here m (blocks_of boundary (placed (at + length x) (xs ++ ys)))) none.0 ∙ ap (add_line here None) (unmarked boundary (at + length x) xs ys none.1)

inner_none : (ls : List (List ℕ)) → AllByRecursion MarksNothing ls → AllByRecursion (Unmarked inner_boundary) ls
inner_none [] none = tt
inner_none (l ∷ ls) none = (none.0.inner, inner_none ls none.1)

outer_none : (ls : List (List ℕ)) → AllByRecursion MarksNothing ls → AllByRecursion (Unmarked outer_boundary) ls
outer_none [] none = tt
outer_none (l ∷ ls) none = (none.0.outer, outer_none ls none.1)

-- no line of the change set marks anything under the outer boundary
set_unmarked : (replies : List (List ℕ)) → AllByRecursion IsPlain replies → AllByRecursion (Unmarked outer_boundary) (set_lines replies)
unfolding mark_of without_end
set_unmarked [] plain = (refl, tt)
set_unmarked (reply ∷ replies) plain = (refl, (refl, (refl, (refl, all_of_both (Unmarked outer_boundary) (cut_lines (line reply)) (set_lines replies) (outer_none _ plain.0) (set_unmarked replies plain.1)))))

-- ---- requests

abbrev text_start : ℕ → ℕ
text_start at = behind_lines at (delimiter_line ∷ type_line ∷ encoding_line ∷ line [] ∷ [])

-- where the replies stand
abbrev spans_at : ℕ → List (List ℕ) → List ByteRange
spans_at at [] = []
spans_at at (reply ∷ replies) = record { start = text_start at; end = text_start at + length reply } ∷ spans_at (behind_lines (text_start at) (cut_lines (line reply))) replies

abbrev inner_blocks : ℕ → List (List ℕ) → Blocks
inner_blocks at lines = blocks_of inner_boundary (placed at lines)

head_found : (size at : ℕ) (lines : List (List ℕ)) → requests_at size (inner_blocks at (delimiter_line ∷ type_line ∷ encoding_line ∷ line [] ∷ lines)).marked
    ≡ with_request (Ok (record { start = text_start at; end = text_end (text_start at) (inner_blocks (text_start at) lines).front })) (requests_at size (inner_blocks (text_start at) lines).marked)
unfolding mark_of without_end
head_found size at lines = refl

set_front : (at : ℕ) (replies : List (List ℕ)) → (inner_blocks at (set_lines replies)).front ≡ []
unfolding mark_of without_end
set_front at [] = refl
set_front at (reply ∷ replies) = refl

set_found : (size at : ℕ) (replies : List (List ℕ)) → AllByRecursion IsPlain replies → requests_at size (inner_blocks at (set_lines replies)).marked ≡ Ok (spans_at at replies)
unfolding mark_of without_end
set_found size at [] plain = refl
set_found size at (reply ∷ replies) plain =
    let start = text_start at in
    let lines = cut_lines (line reply) in
    let rest = inner_blocks (behind_lines start lines) (set_lines replies) in
    let blocks = unmarked inner_boundary start lines (set_lines replies) (inner_none lines plain.0) in
    let front : (inner_blocks start (lines ++ set_lines replies)).front ≡ placed start lines =
    ap (λ (b : Blocks). b.front) blocks ∙ ap (λ (ls : List LineView). placed start lines ++ ls) (set_front (behind_lines start lines) replies) ∙ append-nil (placed start lines) in
    let found : requests_at size (inner_blocks start (lines ++ set_lines replies)).marked ≡ Ok (spans_at (behind_lines start lines) replies) =
    ap (λ (b : Blocks). requests_at size b.marked) blocks ∙ set_found size (behind_lines start lines) replies plain.1 in
    let end = ap (text_end start) front ∙ reply_end start start reply in
    head_found size at (lines ++ set_lines replies)
    ∙ ap (λ (n : ℕ). with_request (Ok (record { start = start; end = n })) (requests_at size (inner_blocks start (lines ++ set_lines replies)).marked)) end
    ∙ ap (with_request (Ok (record { start = start; end = start + length reply }))) found

-- ---- the body

abbrev outer_blocks : ℕ → List (List ℕ) → Blocks
outer_blocks at lines = blocks_of outer_boundary (placed at lines)

abbrev set_start : ℕ
set_start = behind_lines 0 (outer_line ∷ outer_type_line ∷ line [] ∷ [])

nothing_marked : mark_of outer_boundary (without_end (line [])) ≡ None
unfolding mark_of without_end
nothing_marked = refl

-- a delimiter, a line that gives the boundary of the change set, and an empty line
opened : (size : ℕ) (a b : List ℕ) (lines : List (List ℕ)) → mark_of outer_boundary (without_end a) ≡ Some Delimiter → mark_of outer_boundary (without_end b) ≡ None
    → (is_nothing (without_end b) || is_some (content_type (without_end b))) ≡ true → option_and_then boundary_of (content_type (without_end b)) ≡ Some inner_boundary
    → let t = outer_blocks (0 + length a + length b + length (line [])) lines in
    body_at size (outer_blocks 0 (a ∷ b ∷ line [] ∷ lines)).marked ≡ when_closed size t.marked (requests_at size (blocks_of inner_boundary t.front).marked)
opened size a b lines begins plain settled bound =
    let t = outer_blocks (0 + length a + length b + length (line [])) lines in
    let first : LineView = record { start = 0; text = without_end a; next = 0 + length a } in
    let second : LineView = record { start = 0 + length a; text = without_end b; next = 0 + length a + length b } in
    let third : LineView = record { start = 0 + length a + length b; text = without_end (line []); next = 0 + length a + length b + length (line []) } in
    let rest = outer_blocks (0 + length a + length b) (line [] ∷ lines) in
    let rest_is : rest ≡ add_line third None t = ap (λ (m : Option Mark). add_line third m t) nothing_marked in
    ap (λ (m : Option Mark). body_at size (add_line first m (add_line second (mark_of outer_boundary (without_end b)) rest)).marked) begins
    ∙ ap (λ (m : Option Mark). body_at size (add_line first (Some Delimiter) (add_line second m rest)).marked) plain
    ∙ ap (λ (r : Blocks). body_at size (add_line first (Some Delimiter) (add_line second None r)).marked) rest_is
    ∙ ap (λ (v : Bool). only_part size t.marked (cond v (second ∷ third ∷ t.front) (from_first settles (third ∷ t.front)))) settled
    ∙ ap (under size t.marked second (third ∷ t.front)) bound
    ∙ after_empty size t third (end_dropped [])
  where
    after_empty : (size : ℕ) (t : Blocks) (third : LineView) → third.text ≡ [] → under size t.marked third (third ∷ t.front) (Some inner_boundary) ≡ when_closed size t.marked (requests_at size (blocks_of inner_boundary t.front).marked)
    after_empty size t third empty = ap (λ (text : List ℕ). change_set size t.marked inner_boundary (cond (is_nothing text) (third ∷ t.front) (from_first is_empty t.front))) empty

outer_begins : mark_of outer_boundary (without_end outer_line) ≡ Some Delimiter
unfolding mark_of without_end
outer_begins = refl

outer_plain : mark_of outer_boundary (without_end outer_type_line) ≡ None
unfolding mark_of without_end
outer_plain = refl

outer_settled : (is_nothing (without_end outer_type_line) || is_some (content_type (without_end outer_type_line))) ≡ true
unfolding without_end
outer_settled = refl

abbrev kind_piece : List ℕ
kind_piece = codes " multipart/mixed"

abbrev boundary_piece : List ℕ
boundary_piece = codes " boundary=changesetresponse_1"

outer_pieces : pieces false (kind_piece ++ 59 ∷ boundary_piece) ≡ kind_piece ∷ boundary_piece ∷ []
outer_pieces = first_of_plain kind_piece boundary_piece refl ∙ ap (λ (ps : List (List ℕ)). kind_piece ∷ ps) (only_plain boundary_piece refl)

outer_among : boundary_among (kind_piece ∷ boundary_piece ∷ []) ≡ Some inner_boundary
unfolding unquoted trim_ows
outer_among = refl

outer_bound : option_and_then boundary_of (content_type outer_type) ≡ Some inner_boundary
unfolding boundary_of
outer_bound = ap boundary_among outer_pieces ∙ outer_among

opening_found : (size : ℕ) (lines : List (List ℕ)) → body_at size (outer_blocks 0 (outer_line ∷ outer_type_line ∷ line [] ∷ lines)).marked
    ≡ when_closed size (outer_blocks set_start lines).marked (requests_at size (blocks_of inner_boundary (outer_blocks set_start lines).front).marked)
opening_found size lines = opened size outer_line outer_type_line lines outer_begins outer_plain outer_settled (ap (λ (text : List ℕ). option_and_then boundary_of (content_type text)) (end_dropped outer_type) ∙ outer_bound)

closed_by : (size at : ℕ) (found : Found) → when_closed size (outer_blocks at (last_of_all ∷ [])).marked found ≡ found
unfolding mark_of without_end
closed_by size at found = refl

no_front : (at : ℕ) → (outer_blocks at (last_of_all ∷ [])).front ≡ []
unfolding mark_of without_end
no_front at = refl

body_found : (size : ℕ) (replies : List (List ℕ)) → AllByRecursion IsPlain replies → body_at size (outer_blocks 0 (outer_line ∷ outer_type_line ∷ line [] ∷ (set_lines replies ++ last_of_all ∷ []))).marked ≡ Ok (spans_at set_start replies)
body_found size replies plain =
    let lines = set_lines replies in
    let blocks = unmarked outer_boundary set_start lines (last_of_all ∷ []) (set_unmarked replies plain) in
    let front : (outer_blocks set_start (lines ++ last_of_all ∷ [])).front ≡ placed set_start lines =
    ap (λ (b : Blocks). b.front) blocks ∙ ap (λ (ls : List LineView). placed set_start lines ++ ls) (no_front (behind_lines set_start lines)) ∙ append-nil (placed set_start lines) in
    opening_found size (lines ++ last_of_all ∷ [])
    ∙ ap (λ (b : Blocks). when_closed size b.marked (requests_at size (blocks_of inner_boundary (outer_blocks set_start (lines ++ last_of_all ∷ [])).front).marked)) blocks
    ∙ closed_by size (behind_lines set_start lines) _
    ∙ ap (λ (ls : List LineView). requests_at size (blocks_of inner_boundary ls).marked) front
    ∙ set_found size set_start replies plain

-- ---- the replies between the offsets

middle : (front text more : List ℕ) (start : ℕ) → start ≡ length front → slice_range (front ++ (text ++ more)) start (start + length text) ≡ text
middle front text more start is =
    let size : start + length text - start ≡ length text = omega arith in
    rw (size, is) (ap (take (length text)) (drop-append_seam front (text ++ more)) ∙ take-append_seam text more)

starts : (at : ℕ) (front : List ℕ) → at ≡ length front → text_start at ≡ length (front ++ part_head)
unfolding part_head
starts at front is = omega (arith, length-append front part_head, is)

cut_again : (whole front : List ℕ) (at : ℕ) (replies : List (List ℕ)) → whole ≡ front ++ (flat_map part_text replies ++ ending) → at ≡ length front → map (between whole) (spans_at at replies) ≡ replies
cut_again whole front at [] is begun = refl
cut_again whole front at (reply ∷ replies) is begun =
    let more = flat_map part_text replies ++ ending in
    let start = text_start at in
    let begins = starts at front begun in
    let split : whole ≡ (front ++ part_head) ++ (line reply ++ more) = is ∙ ap (λ (xs : List ℕ). front ++ xs) (one_first reply replies) ∙ sym (append_assoc front part_head (line reply ++ more)) in
    let here : whole ≡ (front ++ part_head) ++ (reply ++ (line_end ++ more)) = split ∙ ap (λ (xs : List ℕ). (front ++ part_head) ++ xs) (append_assoc reply line_end more) in
    let behind : whole ≡ ((front ++ part_head) ++ line reply) ++ more = split ∙ sym (append_assoc (front ++ part_head) (line reply) more) in
    let first : between whole (record { start = start; end = start + length reply }) ≡ reply = ap (λ (w : List ℕ). slice_range w start (start + length reply)) here ∙ middle (front ++ part_head) reply (line_end ++ more) start begins in
    let next : behind_lines start (cut_lines (line reply)) ≡ length ((front ++ part_head) ++ line reply) = behind_cut start (line reply) ∙ omega (arith, begins, length-append (front ++ part_head) (line reply)) in
    let rest = cut_again whole ((front ++ part_head) ++ line reply) (behind_lines start (cut_lines (line reply))) replies behind next in
    ap (λ (r : List ℕ). r ∷ map (between whole) (spans_at (behind_lines start (cut_lines (line reply))) replies)) first ∙ ap (λ (rs : List (List ℕ)). reply ∷ rs) rest

start_is : set_start ≡ length opening
unfolding opening
start_is = refl

pub read_again : (replies : List (List ℕ)) → AllByRecursion IsPlain replies → requests_of outer_boundary (batch_text replies) ≡ Ok replies
unfolding ranges_of lines_at
read_again replies plain =
    let whole = batch_text replies in
    let lines : cut_lines whole ≡ outer_line ∷ outer_type_line ∷ line [] ∷ (set_lines replies ++ last_of_all ∷ []) =
    cut_opening (flat_map part_text replies ++ ending) ∙ ap (λ (ls : List (List ℕ)). outer_line ∷ outer_type_line ∷ line [] ∷ ls) (cut_set replies) in
    ap (λ (ls : List (List ℕ)). cut_out whole (body_at (length whole) (outer_blocks 0 ls).marked)) lines ∙ ap (cut_out whole) (body_found (length whole) replies plain)
    ∙ ap Ok (cut_again whole opening set_start replies refl start_is)
