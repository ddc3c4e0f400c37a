-- An event's spelling is one line and what its line calls: so no spelling begins another.
use Rattle.std.proofs.Common.{◌≡◌, ◌≢◌, ℕ, ◌<◌, ◌≤◌, List, [], ◌∷◌, ◌++◌, length, drop, ap, refl, sym, ◌∙◌, arith, append_assoc}
use Rattle.tab_drive.specs.Schedule.{Fits, IsNoEvent, end_line, line_feed, spelling}
use Rattle.tab_drive.specs.Lines.{IsLine, IsInRange, line_text}
use Rattle.tab_drive.specs.Reading.{HasNoLine, HasNoMessage}
use Rattle.tab_drive.specs.declared.lines.ScheduleLine.{ScheduleLine}
use Rattle.tab_drive.specs.declared.lines.ScheduleLine.TheVariants as lines
use Rattle.tab_drive.specs.declared.schedule.Scheduled.{Scheduled}
use Rattle.tab_drive.specs.declared.schedule.Scheduled.TheVariants.{Now, Call}
use Rattle.tab_drive.specs.declared.lines.TheConstants.{LONGEST_MESSAGE}
use Rattle.tab_drive.proofs.LineTexts.{IsLine-line_text, length-line_text, line_text_injective, split_length, split_line}

-- what the event's line says
abbrev line_for : Scheduled → ScheduleLine
line_for (Now moment) = lines.Now moment
line_for (Call message) = lines.Call (length message)

-- what follows the event's line
abbrev body_for : Scheduled → List ℕ
body_for (Now moment) = []
body_for (Call message) = message ++ line_feed ∷ []

in_range : (event : Scheduled) → Fits event → IsInRange (line_for event)
in_range (Now moment) fits = fits
in_range (Call message) fits = fits

spelled : (event : Scheduled) (rest : List ℕ) → spelling event ++ rest ≡ line_text (line_for event) ++ line_feed ∷ (body_for event ++ rest)
unfolding spelling
spelled (Now moment) rest = append_assoc (line_text (lines.Now moment)) (line_feed ∷ []) rest
spelled (Call message) rest = append_assoc (line_text (lines.Call (length message))) (line_feed ∷ (message ++ line_feed ∷ [])) rest

ended : (rest : List ℕ) → end_line ++ rest ≡ line_text lines.End ++ line_feed ∷ rest
unfolding end_line
ended rest = refl

-- bytes whose line is an event's begin with its line, and go on with what it calls
same_line : (event : Scheduled) (line : ScheduleLine) (rest more : List ℕ) → Fits event → IsInRange line → line_text line ++ line_feed ∷ rest ≡ spelling event ++ more
    → (line ≡ line_for event) × (rest ≡ body_for event ++ more)
same_line event line rest more fits range is =
    let parts = split_line (line_text line) (line_text (line_for event)) rest (body_for event ++ more)
    (IsLine-line_text line range) (IsLine-line_text (line_for event) (in_range event fits)) (is ∙ spelled event more) in
    (line_text_injective line (line_for event) range (in_range event fits) parts.0, parts.1)

-- no event where no line is
pub no_event_no_line : (bytes : List ℕ) → HasNoLine bytes → IsNoEvent bytes
no_event_no_line bytes no_line = record {
  no_event = λ event rest fits is.
      no_line (line_text (line_for event)) (body_for event ++ rest) (IsLine-line_text (line_for event) (in_range event fits)) (length-line_text (line_for event) (in_range event fits)) (is ∙ spelled event rest);
  no_end = λ rest is. no_line (line_text lines.End) rest (IsLine-line_text lines.End tt) (length-line_text lines.End tt) (is ∙ ended rest);
}

-- none where the line says nothing
pub no_event_other_line : (line rest : List ℕ) → IsLine line → ((parsed : ScheduleLine) → IsInRange parsed → line ≢ line_text parsed) → IsNoEvent (line ++ line_feed ∷ rest)
no_event_other_line line rest is_line other = record {
  no_event = λ event more fits is.
      other (line_for event) (in_range event fits)
      (split_line line (line_text (line_for event)) rest (body_for event ++ more) is_line (IsLine-line_text (line_for event) (in_range event fits)) (is ∙ spelled event more)).0;
  no_end = λ more is. other lines.End tt (split_line line (line_text lines.End) rest more is_line (IsLine-line_text lines.End tt) (is ∙ ended more)).0;
}

-- none where the line calls a message that does not follow
pub no_event_no_message : (size : ℕ) (bytes : List ℕ) → size ≤ LONGEST_MESSAGE → HasNoMessage size bytes → IsNoEvent (line_text (lines.Call size) ++ line_feed ∷ bytes)
no_event_no_message size bytes short no_message = record {
  no_event = uncalled;
  no_end = λ rest is. let parts = split_line (line_text (lines.Call size)) (line_text lines.End) bytes rest (IsLine-line_text (lines.Call size) short) (IsLine-line_text lines.End tt) (is ∙ ended rest) in
      (let no = line_text_injective (lines.Call size) lines.End short tt parts.0 in cc);
}
  where
    uncalled : (event : Scheduled) (rest : List ℕ) → Fits event → line_text (lines.Call size) ++ line_feed ∷ bytes ≢ spelling event ++ rest
    uncalled (Now moment) rest fits is = let no = (same_line (Now moment) (lines.Call size) bytes rest fits short is).0 in cc
    uncalled (Call message) rest fits is =
        let parts = same_line (Call message) (lines.Call size) bytes rest fits short is in
        let sized : length message ≡ size = cc in
        no_message message rest sized (parts.1 ∙ append_assoc message (line_feed ∷ []) rest)

-- ---- one spelling for each event, and none that begins another

same_now : (a b : ℕ) → lines.Now a ≡ lines.Now b → a ≡ b
same_now a b is = cc

same_call : (a b : ℕ) → lines.Call a ≡ lines.Call b → a ≡ b
same_call a b is = cc

same_event : (a b : Scheduled) (x y : List ℕ) → line_for a ≡ line_for b → body_for a ++ x ≡ body_for b ++ y → (a ≡ b) × (x ≡ y)
same_event (Now moment) (Now other) x y line body = (ap Now (same_now moment other line), body)
same_event (Now moment) (Call message) x y line body = cc
same_event (Call message) (Now moment) x y line body = cc
same_event (Call message) (Call other) x y line body =
    let parts =
    split_length message other (line_feed ∷ x) (line_feed ∷ y) (same_call (length message) (length other) line)
    (sym (append_assoc message (line_feed ∷ []) x) ∙ body ∙ append_assoc other (line_feed ∷ []) y)
    in
    (ap Call parts.0, ap (drop 1) parts.1)

-- two events whose spellings begin the same bytes are one
pub one_event : (a b : Scheduled) (x y : List ℕ) → Fits a → Fits b → spelling a ++ x ≡ spelling b ++ y → (a ≡ b) × (x ≡ y)
one_event a b x y a_fits b_fits is =
    let parts = same_line b (line_for a) (body_for a ++ x) y b_fits (in_range a a_fits) (sym (spelled a x) ∙ is) in
    same_event a b x y parts.0 parts.1

-- no event begins where the schedule ends, and the other way round
pub event_not_end : (event : Scheduled) (rest more : List ℕ) → Fits event → spelling event ++ rest ≢ end_line ++ more
event_not_end event rest more fits is = apart event (same_line event lines.End more rest fits tt (sym (is ∙ ended more))).0
  where
    apart : (event : Scheduled) → lines.End ≢ line_for event
    apart (Now moment) line = cc
    apart (Call message) line = cc

-- no spelling is empty
pub spelling_some : (event : Scheduled) → 0 < length (spelling event)
unfolding spelling
spelling_some (Now moment) = omega arith
spelling_some (Call message) = omega arith

pub end_line_some : 0 < length end_line
unfolding end_line
end_line_some = omega arith
