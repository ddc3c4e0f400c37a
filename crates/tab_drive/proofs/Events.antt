-- What the reading of a line, and of the message that it calls, tells of the event.
use Rattle.std.proofs.Common.{◌≡◌, ◌≢◌, ℕ, ◌≤◌, List, [], ◌∷◌, ◌++◌, length, Option, ap, refl, sym, subst, ◌∙◌, arith, append_assoc}
use Rattle.std.specs.Io.KnownBytes.{Consumes}
use Rattle.std.proofs.KnownBytes.{Consumes-trans}
use Rattle.tab_drive.specs.Schedule.{Fits, IsNoEvent, end_line, line_feed, spelling}
use Rattle.tab_drive.specs.Lines.{IsInRange, line_text}
use Rattle.tab_drive.specs.Reading.{HasNoMessage, IfTold, IsOpenLine, IsOpenMessage, ReadsLine, ReadsMessage, Took, TookPart}
use Rattle.tab_drive.specs.Reading.IsWithinOne.{in_line, at_line_end, behind_call}
use Rattle.tab_drive.specs.declared.lines.ScheduleLine.{ScheduleLine}
use Rattle.tab_drive.specs.declared.lines.ScheduleLine.TheVariants as lines
use Rattle.tab_drive.specs.declared.schedule.Scheduled.TheVariants.{Now, Call}
use Rattle.tab_drive.specs.declared.lines.TheConstants.{LONGEST_MESSAGE}
use Rattle.tab_drive.proofs.OpenLines.{no_line_inside}
use Rattle.tab_drive.proofs.Spellings.{no_event_no_line, no_event_no_message, no_event_other_line}
use Rattle.tab_drive.proofs.Told.{told_behind, told_front}

-- ---- the events

pub reads_end : (old new : Option (List ℕ)) (line : List ℕ) → ReadsLine old new line → line ≡ line_text lines.End → Consumes old new end_line
unfolding end_line
reads_end old new line read is = subst (λ l. Consumes old new (l ++ line_feed ∷ [])) is read.consumed

pub reads_now : (old new : Option (List ℕ)) (line : List ℕ) (moment : ℕ) → ReadsLine old new line → line ≡ line_text (lines.Now moment) → Consumes old new (spelling (Now moment))
unfolding spelling
reads_now old new line moment read is = subst (λ l. Consumes old new (l ++ line_feed ∷ [])) is read.consumed

pub reads_call : (old mid new : Option (List ℕ)) (line message : List ℕ) (size : ℕ) → ReadsLine old mid line → line ≡ line_text (lines.Call size) → size ≤ LONGEST_MESSAGE
    → ReadsMessage size mid new message → Fits (Call message) × Consumes old new (spelling (Call message))
unfolding spelling
reads_call old mid new line message size read is short came =
    let sized = came.0 in
    let called : line ≡ line_text (lines.Call (length message)) = is ∙ ap (λ n. line_text (lines.Call n)) (sym sized) in
    let whole = Consumes-trans old mid new (line ++ line_feed ∷ []) (message ++ line_feed ∷ []) read.consumed came.1 in
    (omega arith, subst (Consumes old new) (append_assoc line (line_feed ∷ []) (message ++ line_feed ∷ []) ∙ ap (λ l. l ++ line_feed ∷ (message ++ line_feed ∷ [])) called) whole)

-- ---- no event

pub part_of_line : (old new : Option (List ℕ)) → Took IsOpenLine old new → TookPart old new
part_of_line old new took = record {
  part = took.bytes;
  no_event = no_event_no_line took.bytes (no_line_inside took.bytes took.are.is_line);
  within = in_line took.are.is_line took.are.bound;
  consumed = took.consumed;
}

pub part_to_line_end : (old new : Option (List ℕ)) (line : List ℕ) → ReadsLine old new line → ((said : ScheduleLine) → IsInRange said → line ≢ line_text said) → TookPart old new
part_to_line_end old new line read other = record {
  part = line ++ line_feed ∷ [];
  no_event = no_event_other_line line [] read.is_line other;
  within = at_line_end line read.is_line read.short refl;
  consumed = read.consumed;
}

pub part_behind_call : (old mid new : Option (List ℕ)) (line : List ℕ) (size : ℕ) → ReadsLine old mid line → line ≡ line_text (lines.Call size) → size ≤ LONGEST_MESSAGE
    → Took (IsOpenMessage size) mid new → TookPart old new
part_behind_call old mid new line size read is short took =
    let parts : (line ++ line_feed ∷ []) ++ took.bytes ≡ line_text (lines.Call size) ++ line_feed ∷ took.bytes =
    append_assoc line (line_feed ∷ []) took.bytes ∙ ap (λ l. l ++ line_feed ∷ took.bytes) is in
    record {
      part = line_text (lines.Call size) ++ line_feed ∷ took.bytes;
      no_event = no_event_no_message size took.bytes short took.are.no_message;
      within = behind_call size took.bytes short took.are.bound refl;
      consumed = subst (Consumes old new) parts (Consumes-trans old mid new (line ++ line_feed ∷ []) took.bytes read.consumed took.consumed);
    }

pub refused_line : (old new : Option (List ℕ)) (line : List ℕ) → ReadsLine old new line → ((said : ScheduleLine) → IsInRange said → line ≢ line_text said) → IfTold old IsNoEvent
refused_line old new line read other =
    told_front old new (line ++ line_feed ∷ []) IsNoEvent read.consumed (λ rest. subst IsNoEvent (sym (append_assoc line (line_feed ∷ []) rest)) (no_event_other_line line rest read.is_line other))

pub refused_call : (old mid : Option (List ℕ)) (line : List ℕ) (size : ℕ) → ReadsLine old mid line → line ≡ line_text (lines.Call size) → size ≤ LONGEST_MESSAGE
    → IfTold mid (HasNoMessage size) → IfTold old IsNoEvent
refused_call old mid line size read is short refused =
    told_behind old mid (line ++ line_feed ∷ []) IsNoEvent (HasNoMessage size) read.consumed refused
    (λ rest none. subst IsNoEvent (sym (append_assoc line (line_feed ∷ []) rest ∙ ap (λ l. l ++ line_feed ∷ rest) is)) (no_event_no_message size rest short none))
