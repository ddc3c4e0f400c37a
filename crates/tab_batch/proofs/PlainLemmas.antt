-- Replies whose lines mark off no part: those of which no line begins with a hyphen.
use Rattle.std.proofs.Common.{◌≡◌, ℕ, Bool, true, false, not, ◌==◌, List, [], ◌∷◌, ◌++◌, refl, sym, ap, subst, ◌∙◌, append_assoc}
use Rattle.std.specs.Prelude.{Some, None, codes}
use Rattle.std.specs.List.{list_all, AllByRecursion}
use Rattle.std.proofs.lemmas.Bool.{and_parts, true≢false}
use Rattle.tab_http.specs.Headers.{cons_first}
use Rattle.httparse.specs.Grammar.{trim_ows}
use Rattle.tab_batch.specs.Boundaries.{boundary_of, boundary_among, pieces, unquoted}
use Rattle.tab_batch.proofs.PieceLemmas.{first_of_plain, only_plain}
use Rattle.tab_batch.specs.Lines.{cut_lines}
use Rattle.tab_batch.specs.Marks.{behind, mark_of}
use Rattle.tab_batch.specs.Replies.{line_end, line, outer_boundary, inner_boundary, MarksNothing, IsPlain}
use Rattle.tab_batch.proofs.ReplyLemmas.{all_of_both, cut_both, end_dropped}

-- a hyphen, which is 45, stands first
abbrev pub begins_hyphen : List ℕ → Bool
begins_hyphen [] = false
begins_hyphen (b ∷ bytes) = b == 45

-- a text without a line feed, which is 10, that does not begin so
pub record IsMild (text : List ℕ) : Type 0 where
  pub one : list_all (λ b. not (b == 10)) text ≡ true
  pub plain : begins_hyphen text ≡ false

no_dashes : (text : List ℕ) → begins_hyphen text ≡ false → behind (codes "--") text ≡ None
no_dashes [] is = refl
no_dashes (b ∷ bytes) is = rw is refl

unmarked : (boundary text : List ℕ) → begins_hyphen text ≡ false → mark_of boundary text ≡ None
unfolding mark_of
unmarked boundary text is = rw (no_dashes text is) refl

marks_nothing : (text : List ℕ) → begins_hyphen text ≡ false → MarksNothing (line text)
marks_nothing text is = record {
  outer = ap (mark_of outer_boundary) (end_dropped text) ∙ unmarked outer_boundary text is;
  inner = ap (mark_of inner_boundary) (end_dropped text) ∙ unmarked inner_boundary text is;
}

-- a text without a line feed is one line
one_line : (text : List ℕ) → list_all (λ b. not (b == 10)) text ≡ true → cut_lines (line text) ≡ line text ∷ []
unfolding cut_lines
one_line [] is = refl
one_line (b ∷ text) is =
    let parts = and_parts (not (b == 10)) (list_all (λ c. not (c == 10)) text) is in
    by_test (b == 10) refl parts.0 (one_line text parts.1)
  where
    by_test : (test : Bool) → (b == 10) ≡ test → not (b == 10) ≡ true → cut_lines (line text) ≡ line text ∷ [] → cut_lines (line (b ∷ text)) ≡ line (b ∷ text) ∷ []
    by_test true e other later = absurd (true≢false (sym other ∙ ap not e))
    by_test false e other later = rw e (ap (cons_first b) later)

-- such a line alone
pub plain_last : (text : List ℕ) → IsMild text → IsPlain text
plain_last text mild = subst (AllByRecursion MarksNothing) (sym (one_line text mild.one)) (marks_nothing text mild.plain, tt)

-- and with a plain text behind it
pub plain_line : (text rest : List ℕ) → IsMild text → IsPlain rest → IsPlain (line text ++ rest)
plain_line text rest mild is =
    subst (λ (whole : List ℕ). AllByRecursion MarksNothing (cut_lines whole)) (sym (append_assoc (line text) rest line_end))
    (subst (AllByRecursion MarksNothing) (sym (cut_both text (line rest))) (all_of_both MarksNothing (cut_lines (line text)) (cut_lines (line rest)) (plain_last text mild) is))

-- ---- the boundary that a reply names

abbrev reply_kind : List ℕ
reply_kind = codes "multipart/mixed"

abbrev reply_parameter : List ℕ
reply_parameter = codes " boundary=batchresponse_1"

reply_pieces : pieces false (reply_kind ++ 59 ∷ reply_parameter) ≡ reply_kind ∷ reply_parameter ∷ []
reply_pieces = first_of_plain reply_kind reply_parameter refl ∙ ap (λ (ps : List (List ℕ)). reply_kind ∷ ps) (only_plain reply_parameter refl)

reply_among : boundary_among (reply_kind ∷ reply_parameter ∷ []) ≡ Some outer_boundary
unfolding unquoted trim_ows
reply_among = refl

pub reply_boundary : boundary_of (codes "multipart/mixed; boundary=batchresponse_1") ≡ Some outer_boundary
unfolding boundary_of
reply_boundary = ap boundary_among reply_pieces ∙ reply_among
