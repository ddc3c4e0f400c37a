-- The text of a batch's reply (RFC 2046, section 5.1.1).
use Rattle.std.specs.Prelude.{◌≡◌, ℕ, List, [], ◌∷◌, ◌++◌, None, codes}
use Rattle.std.specs.List.{flat_map, AllByRecursion}
use Rattle.tab_batch.specs.Lines.{cut_lines, without_end}
use Rattle.tab_batch.specs.Marks.{mark_of}

abbrev pub line_end : List ℕ
line_end = 13 ∷ 10 ∷ []

abbrev pub line : List ℕ → List ℕ
line text = text ++ line_end

-- the boundary of the body, and that of its change set
abbrev pub outer_boundary : List ℕ
outer_boundary = codes "batchresponse_1"

abbrev pub inner_boundary : List ℕ
inner_boundary = codes "changesetresponse_1"

-- what stands before the replies
unfoldable pub opening : List ℕ
opening = line (codes "--batchresponse_1") ++ (line (codes "Content-Type: multipart/mixed; boundary=changesetresponse_1") ++ line [])

-- what stands before each reply
unfoldable pub part_head : List ℕ
part_head = line (codes "--changesetresponse_1") ++ (line (codes "Content-Type: application/http") ++ (line (codes "Content-Transfer-Encoding: binary") ++ line []))

-- what stands behind the replies
unfoldable pub ending : List ℕ
ending = line (codes "--changesetresponse_1--") ++ line (codes "--batchresponse_1--")

abbrev pub part_text : List ℕ → List ℕ
part_text reply = part_head ++ line reply

-- the text of the reply to a batch, from the texts of the replies to its items
abbrev pub batch_text : List (List ℕ) → List ℕ
batch_text replies = opening ++ (flat_map part_text replies ++ ending)

-- a line that marks off no part
pub record MarksNothing (bytes : List ℕ) : Type 0 where
  pub outer : mark_of outer_boundary (without_end bytes) ≡ None
  pub inner : mark_of inner_boundary (without_end bytes) ≡ None

-- a reply whose lines, with an end behind the last, mark off no part
abbrev pub IsPlain : List ℕ → Type 0
IsPlain reply = AllByRecursion MarksNothing (cut_lines (line reply))
