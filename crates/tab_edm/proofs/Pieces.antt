-- Texts by their pieces.
use Rattle.std.proofs.Common.{◌≡◌, ℕ, suc, ◌+◌, ◌*◌, ◌≤◌, List, [], ◌++◌, length, take, drop, refl, sym, ap, ◌∙◌, arith, append_assoc, append-nil, length-append, ◌-◌}
use Rattle.std.proofs.Math.Seq.{take-add, take-length, take-append_seam, drop-append_seam}
use Rattle.std.proofs.lemmas.List.{take-append-drop, take_rest}
use Rattle.std.specs.Prelude.{codes}
use Rattle.tab_edm.specs.Moments.{CivilDate, last_digits, text_of_date, text_of_time, text_of_fraction}
use Rattle.tab_edm.proofs.Digits.{length-last_digits}

-- a piece behind what is known of a text
extend : (text done piece : List ℕ) (i n : ℕ) → take i text ≡ done → take n (drop i text) ≡ piece → take (i + n) text ≡ done ++ piece
extend text done piece i n so_far here = take-add i n text ∙ rw (so_far, here) refl

-- a piece in the middle of a text
pub piece_in : (text a b c : List ℕ) (i n : ℕ) → text ≡ (a ++ b) ++ c → length a ≡ i → length b ≡ n → take n (drop i text) ≡ b
piece_in text a b c i n is before long =
    rw (is, append_assoc, ← before, drop-append_seam, ← long, take-append_seam) refl

-- the pieces of a date's text
pub record DateFields (text : List ℕ) (d : CivilDate) : Type 0 where
  pub long : length text ≡ 10
  pub first_dash : take 1 (drop 4 text) ≡ codes "-"
  pub second_dash : take 1 (drop 7 text) ≡ codes "-"
  pub year : take 4 (drop 0 text) ≡ last_digits 4 d.year
  pub month : take 2 (drop 5 text) ≡ last_digits 2 d.month
  pub day : take 2 (drop 8 text) ≡ last_digits 2 d.day

pub fields_of_date : (text : List ℕ) (d : CivilDate) → text ≡ text_of_date d → DateFields text d
unfolding text_of_date last_digits
fields_of_date text d e = record {
  long = ap length e;
  first_dash = ap (λ (l : List ℕ). take 1 (drop 4 l)) e;
  second_dash = ap (λ (l : List ℕ). take 1 (drop 7 l)) e;
  year = ap (λ (l : List ℕ). take 4 (drop 0 l)) e;
  month = ap (λ (l : List ℕ). take 2 (drop 5 l)) e;
  day = ap (λ (l : List ℕ). take 2 (drop 8 l)) e;
}

pub date_from_fields : (text : List ℕ) (d : CivilDate) → DateFields text d → text ≡ text_of_date d
unfolding text_of_date
date_from_fields text d f =
    let dashed = extend text (last_digits 4 d.year) (codes "-") 4 1 f.year f.first_dash in
    let month = extend text _ (last_digits 2 d.month) 5 2 dashed f.month in
    let dashed_again = extend text _ (codes "-") 7 1 month f.second_dash in
    sym (take-length text) ∙ rw f.long (extend text _ (last_digits 2 d.day) 8 2 dashed_again f.day)

-- the pieces of a time's text
pub record TimeFields (colon text : List ℕ) (hour minute second : ℕ) : Type 0 where
  pub long : length text ≡ 6 + 2 * length colon
  pub first_colon : take (length colon) (drop 2 text) ≡ colon
  pub second_colon : take (length colon) (drop (4 + length colon) text) ≡ colon
  pub hours : take 2 (drop 0 text) ≡ last_digits 2 hour
  pub minutes : take 2 (drop (2 + length colon) text) ≡ last_digits 2 minute
  pub seconds : take 2 (drop (4 + 2 * length colon) text) ≡ last_digits 2 second

-- a time's text, cut behind a piece
around : (a b c d e : List ℕ) → ((((a ++ b) ++ c) ++ d) ++ e ≡ (a ++ b) ++ (c ++ (d ++ e))) × ((((a ++ b) ++ c) ++ d) ++ e ≡ ((a ++ b) ++ c) ++ (d ++ e)) × ((((a ++ b) ++ c) ++ d) ++ e ≡ ((((a ++ b) ++ c) ++ d) ++ e) ++ [])
around a b c d e = (simp append_assoc, simp append_assoc, sym (append-nil _))

pub fields_of_time : (colon text : List ℕ) (hour minute second : ℕ) → text ≡ text_of_time colon hour minute second → TimeFields colon text hour minute second
unfolding text_of_time
fields_of_time colon text hour minute second e =
    let h = last_digits 2 hour in
    let m = last_digits 2 minute in
    let s = last_digits 2 second in
    let hours = length-last_digits 2 hour in
    let minutes = length-last_digits 2 minute in
    let seconds = length-last_digits 2 second in
    let cut = around h colon m colon s in
    record {
      long = ap length e ∙ simp length-append (omega arith);
      first_colon = piece_in text h colon (m ++ (colon ++ s)) 2 (length colon) (e ∙ cut.0) hours refl;
      second_colon = piece_in text ((h ++ colon) ++ m) colon s (4 + length colon) (length colon) e (simp length-append (omega arith)) refl;
      hours = piece_in text [] h (colon ++ (m ++ (colon ++ s))) 0 2 (e ∙ simp append_assoc) refl hours;
      minutes = piece_in text (h ++ colon) m (colon ++ s) (2 + length colon) 2 (e ∙ cut.1) (simp length-append (omega arith)) minutes;
      seconds = piece_in text (((h ++ colon) ++ m) ++ colon) s [] (4 + 2 * length colon) 2 (e ∙ cut.2) (simp length-append (omega arith)) seconds;
    }

pub time_from_fields : (colon text : List ℕ) (hour minute second : ℕ) → TimeFields colon text hour minute second → text ≡ text_of_time colon hour minute second
unfolding text_of_time
time_from_fields colon text hour minute second f =
    let n = length colon in
    let first = extend text (last_digits 2 hour) colon 2 n f.hours f.first_colon in
    let minutes = extend text _ (last_digits 2 minute) (2 + n) 2 first f.minutes in
    let to_second : 2 + n + 2 ≡ 4 + n = omega arith in
    let second_colon = extend text _ colon (4 + n) n (rw to_second at minutes) f.second_colon in
    let to_seconds : 4 + n + n ≡ 4 + 2 * n = omega arith in
    let all = extend text _ (last_digits 2 second) (4 + 2 * n) 2 (rw to_seconds at second_colon) f.seconds in
    let to_end : 4 + 2 * n + 2 ≡ length text = omega (arith, f.long) in
    sym (take-length text) ∙ rw (← to_end) all

-- the pieces of the text of a second's fraction with digits
pub record FractionFields (text : List ℕ) (count fraction : ℕ) : Type 0 where
  pub long : length text ≡ count + 2
  pub dot : take 1 (drop 0 text) ≡ codes "."
  pub digits : take count (drop 1 text) ≡ last_digits count fraction
  pub zone : take 1 (drop (count + 1) text) ≡ codes "Z"

pub fields_of_fraction : (text : List ℕ) (count fraction : ℕ) → text ≡ text_of_fraction (suc count) fraction → FractionFields text (suc count) fraction
unfolding text_of_fraction
fields_of_fraction text count fraction e =
    let d = last_digits (suc count) fraction in
    let long = length-last_digits (suc count) fraction in
    record {
      long = ap length e ∙ simp length-append (omega arith);
      dot = piece_in text [] (codes ".") (d ++ codes "Z") 0 1 (e ∙ simp append_assoc) refl refl;
      digits = piece_in text (codes ".") d (codes "Z") 1 (suc count) e refl long;
      zone = piece_in text (codes "." ++ d) (codes "Z") [] (suc count + 1) 1 (e ∙ sym (append-nil _)) (simp length-append (omega arith)) refl;
    }

pub fraction_from_fields : (text : List ℕ) (count fraction : ℕ) → FractionFields text (suc count) fraction → text ≡ text_of_fraction (suc count) fraction
unfolding text_of_fraction
fraction_from_fields text count fraction f =
    let to_zone : 1 + suc count ≡ suc count + 1 = omega arith in
    let digits = extend text (codes ".") (last_digits (suc count) fraction) 1 (suc count) f.dot f.digits in
    let all = extend text _ (codes "Z") (suc count + 1) 1 (rw to_zone at digits) f.zone in
    let to_end : suc count + 1 + 1 ≡ length text = omega (arith, f.long) in
    sym (take-length text) ∙ rw (← to_end) all

-- the pieces of a moment's text
pub record MomentFields (colon text date time fraction : List ℕ) : Type 0 where
  pub long : 17 + 2 * length colon ≤ length text
  pub dates : take 10 text ≡ date
  pub mark : take 1 (drop 10 text) ≡ codes "T"
  pub times : take (17 + 2 * length colon - 11) (drop 11 text) ≡ time
  pub fractions : take (length text - (17 + 2 * length colon)) (drop (17 + 2 * length colon) text) ≡ fraction

pub fields_of_moment : (colon text : List ℕ) (d : CivilDate) (hour minute second count fraction : ℕ) → text ≡ text_of_date d ++ codes "T" ++ text_of_time colon hour minute second ++ text_of_fraction count fraction → MomentFields colon text (text_of_date d) (text_of_time colon hour minute second) (text_of_fraction count fraction)
fields_of_moment colon text d hour minute second count fraction e =
    let date = text_of_date d in
    let time = text_of_time colon hour minute second in
    let rest = text_of_fraction count fraction in
    let ten : length date ≡ 10 = (fields_of_date date d refl).long in
    let wide : length time ≡ 6 + 2 * length colon = (fields_of_time colon time hour minute second refl).long in
    let front : length ((date ++ codes "T") ++ time) ≡ 17 + 2 * length colon = simp length-append (omega arith) in
    let from_mark : 17 + 2 * length colon - 11 ≡ 6 + 2 * length colon = omega arith in
    record {
      long = rw e (simp length-append (omega arith));
      dates = piece_in text [] date (codes "T" ++ (time ++ rest)) 0 10 (e ∙ simp append_assoc) refl ten;
      mark = piece_in text date (codes "T") (time ++ rest) 10 1 (e ∙ simp append_assoc) ten refl;
      times = rw from_mark (piece_in text (date ++ codes "T") time rest 11 (6 + 2 * length colon) e (simp length-append (omega arith)) wide);
      fractions = take_rest text (17 + 2 * length colon) ∙ rw (e, ← front, drop-append_seam) refl;
    }

pub moment_from_fields : (colon text date time fraction : List ℕ) → MomentFields colon text date time fraction → text ≡ date ++ codes "T" ++ time ++ fraction
moment_from_fields colon text date time fraction f =
    let mark = extend text date (codes "T") 10 1 f.dates f.mark in
    let times = extend text (date ++ codes "T") time 11 (17 + 2 * length colon - 11) mark f.times in
    let to_fraction : 11 + (17 + 2 * length colon - 11) ≡ 17 + 2 * length colon = omega arith in
    let front = rw to_fraction at times in
    let rest = sym (take_rest text (17 + 2 * length colon)) ∙ f.fractions in
    sym (take-append-drop (17 + 2 * length colon) text) ∙ rw (front, rest) refl
