-- A text gives one moment, and each moment is read back from its text.
use Rattle.std.proofs.Common.{◌≡◌, ℕ, zero, suc, ◌+◌, ◌*◌, ◌/◌, ◌%◌, ◌^◌, ◌<◌, ◌≤◌, List, ◌++◌, length, Option, Some, None, ◌↔◌, refl, sym, ap, subst, ◌∙◌, arith, append_assoc, length-append}
use Rattle.std.proofs.lemmas.List.{append_cancel_left, append_cancel_right}
use Rattle.std.proofs.lemmas.Option.{same_Some}
use Rattle.std.proofs.Math.Nat.{mul-one}
use Rattle.std.specs.Option.{MatchOption, IfSome}
use Rattle.std.specs.Prelude.{codes}
use Rattle.tab_edm.specs.Moments.{CivilDate, IsServed, Spells, days_before, date_after, text_of_date, text_of_time, text_of_fraction, moment_with, text_of_etag}
use Rattle.tab_edm.proofs.Dates.{same_parts, date_after-IsServed, days_before-date_after, days_before_bound, date_after-days_before}
use Rattle.tab_edm.proofs.Digits.{last_digits_same, length-last_digits}
use Rattle.tab_edm.proofs.Pieces.{fields_of_date, fields_of_time, fields_of_fraction}
use Rattle.tab_edm.proofs.Readings.{day_small, time_same, scaled, spelled_fields}

date_same : (d e : CivilDate) → IsServed d → IsServed e → text_of_date d ≡ text_of_date e → d ≡ e
date_same d e h k is =
    let f = fields_of_date (text_of_date d) d refl in
    let g = fields_of_date (text_of_date d) e is in
    let d_year = h.year_high in
    let e_year = k.year_high in
    let d_month = h.month_high in
    let e_month = k.month_high in
    same_parts d e
    (last_digits_same 4 d.year e.year (omega arith) (omega arith) (sym f.year ∙ g.year))
    (last_digits_same 2 d.month e.month (omega arith) (omega arith) (sym f.month ∙ g.month))
    (last_digits_same 2 d.day e.day (day_small d h) (day_small e k) (sym f.day ∙ g.day))

length-text_of_fraction : (count fraction : ℕ) → length (text_of_fraction (suc count) fraction) ≡ count + 3
unfolding text_of_fraction
length-text_of_fraction count fraction = let long = length-last_digits (suc count) fraction in simp length-append (omega arith)

length-whole : (fraction : ℕ) → length (text_of_fraction 0 fraction) ≡ 1
unfolding text_of_fraction
length-whole fraction = refl

same_digits : (c f f₂ : ℕ) → f < 10 ^ suc c → f₂ < 10 ^ suc c → text_of_fraction (suc c) f ≡ text_of_fraction (suc c) f₂ → f ≡ f₂
same_digits c f f₂ h k e =
    last_digits_same (suc c) f f₂ h k (sym (fields_of_fraction (text_of_fraction (suc c) f) c f refl).digits ∙ (fields_of_fraction (text_of_fraction (suc c) f) c f₂ e).digits)

fraction_same : (c f c₂ f₂ : ℕ) → f < 10 ^ c → f₂ < 10 ^ c₂ → text_of_fraction c f ≡ text_of_fraction c₂ f₂ → (c ≡ c₂) × (f ≡ f₂)
fraction_same zero f zero f₂ h k e = (refl, omega arith)
fraction_same zero f (suc c₂) f₂ h k e = absurd (omega (arith, ap length e, length-whole f, length-text_of_fraction c₂ f₂))
fraction_same (suc c) f zero f₂ h k e = absurd (omega (arith, ap length e, length-whole f₂, length-text_of_fraction c f))
fraction_same (suc c) f (suc c₂) f₂ h k e =
    let count : suc c ≡ suc c₂ = omega (arith, ap length e, length-text_of_fraction c f, length-text_of_fraction c₂ f₂) in
    (count, same_digits c f f₂ h (subst (λ (n : ℕ). f₂ < 10 ^ n) (sym count) k) (subst (λ (n : ℕ). text_of_fraction (suc c) f ≡ text_of_fraction n f₂) (sym count) e))

-- a text gives one moment
pub one_moment : (colon text : List ℕ) (t u : ℕ) → Spells colon text t → Spells colon text u → t ≡ u
one_moment colon text t u a b =
    let f = spelled_fields colon text t a in
    let g = spelled_fields colon text u b in
    let dates = date_same a.date b.date a.date_in b.date_in (sym f.dates ∙ g.dates) in
    let hours = a.hour_in in
    let minutes = a.minute_in in
    let seconds = a.second_in in
    let times = time_same colon (text_of_time colon a.hour a.minute a.second) b.hour b.minute b.second a.hour a.minute a.second (omega arith) (omega arith) (omega arith) (fields_of_time colon _ a.hour a.minute a.second refl) b.hour_in b.minute_in b.second_in (sym f.times ∙ g.times) in
    let fractions = fraction_same a.count a.fraction b.count b.fraction a.fraction_in b.fraction_in (sym f.fractions ∙ g.fractions) in
    a.tick_is ∙ rw (dates, sym times.0, sym times.1, sym times.2, fractions.0, fractions.1) (sym b.tick_is)

-- a moment that a text gives is at most the last
pub spelled_bound : (colon text : List ℕ) (t : ℕ) → Spells colon text t → t ≤ 2_650_467_743_999_999_999
spelled_bound colon text t s =
    let days = days_before_bound s.date s.date_in in
    let part = scaled s.count s.fraction s.count_in s.fraction_in in
    let hours = s.hour_in in
    let minutes = s.minute_in in
    let seconds = s.second_in in
    let is = s.tick_is in
    omega arith

-- a moment is given by its written text
pub written_spells : (colon : List ℕ) (t : ℕ) → t ≤ 2_650_467_743_999_999_999 → Spells colon (moment_with colon t) t
unfolding moment_with
written_spells colon t h =
    let second = t / 10_000_000 % 86_400 in
    let days = t / 864_000_000_000 in
    let few : days ≤ 3_067_670 = omega arith in
    record {
      date = date_after days;
      hour = second / 3600;
      minute = second / 60 % 60;
      second = second % 60;
      count = 7;
      fraction = t % 10_000_000;
      date_in = date_after-IsServed days few;
      hour_in = omega arith;
      minute_in = omega arith;
      second_in = omega arith;
      count_in = omega arith;
      fraction_in = omega arith;
      text_is = refl;
      tick_is = rw (days_before-date_after days) (omega arith);
    }

all_digits : (c f : ℕ) → length (text_of_fraction c f) ≡ 9 → c ≡ 7
all_digits zero f e = absurd (omega (arith, length-whole f))
all_digits (suc c) f e = omega (arith, length-text_of_fraction c f)

-- the parts of a moment's number
parts_of_tick : (t d h m s f : ℕ) → h ≤ 23 → m ≤ 59 → s ≤ 59 → f < 10_000_000 → t ≡ (((d * 24 + h) * 60 + m) * 60 + s) * 10_000_000 + f → (t / 864_000_000_000 ≡ d) × (t / 10_000_000 % 86_400 ≡ (h * 60 + m) * 60 + s) × (t % 10_000_000 ≡ f)
parts_of_tick t d h m s f hs ms ss fs e =
    let seconds : t / 10_000_000 ≡ ((d * 24 + h) * 60 + m) * 60 + s = omega arith in
    (omega arith, omega arith, omega arith)

parts_of_second : (n h m s : ℕ) → m ≤ 59 → s ≤ 59 → n ≡ (h * 60 + m) * 60 + s → (n / 3600 ≡ h) × (n / 60 % 60 ≡ m) × (n % 60 ≡ s)
parts_of_second n h m s ms ss e = (omega arith, omega arith, omega arith)

-- a text with all digits of the fraction is the written one
pub full_is_written : (colon text : List ℕ) (t : ℕ) → Spells colon text t → length text ≡ 26 + 2 * length colon → text ≡ moment_with colon t
unfolding moment_with
full_is_written colon text t s long =
    let date = text_of_date s.date in
    let time = text_of_time colon s.hour s.minute s.second in
    let ten : length date ≡ 10 = (fields_of_date date s.date refl).long in
    let wide : length time ≡ 6 + 2 * length colon = (fields_of_time colon time s.hour s.minute s.second refl).long in
    let whole = simp length-append at (ap length s.text_is) in
    let full : s.count ≡ 7 = all_digits s.count s.fraction (omega arith) in
    let small : s.fraction < 10_000_000 = rw full at s.fraction_in in
    let is : t ≡ (((days_before s.date * 24 + s.hour) * 60 + s.minute) * 60 + s.second) * 10_000_000 + s.fraction = rw (full, mul-one) at s.tick_is in
    let parts = parts_of_tick t (days_before s.date) s.hour s.minute s.second s.fraction s.hour_in s.minute_in s.second_in small is in
    let times = parts_of_second (t / 10_000_000 % 86_400) s.hour s.minute s.second s.minute_in s.second_in parts.1 in
    s.text_is ∙ rw (full, parts.0, times.0, times.1, times.2, parts.2, date_after-days_before s.date s.date_in) refl

-- what a reader tells of each moment
pub exactly : (colon text : List ℕ) (o : Option ℕ) → MatchOption o ((t : ℕ) → Spells colon text t → ⊥) (Spells colon text) → (t : ℕ) → (o ≡ Some t) ↔ Spells colon text t
exactly colon text None h t = (λ e. cc, λ s. absurd (h t s))
exactly colon text (Some u) h t =
    (λ e. subst (Spells colon text) (same_Some _ _ e) h, λ s. ap Some (one_moment colon text u t h s))

pub in_time : (colon text : List ℕ) (o : Option ℕ) → MatchOption o ((t : ℕ) → Spells colon text t → ⊥) (Spells colon text) → IfSome o (λ t. t ≤ 2_650_467_743_999_999_999)
in_time colon text None h = tt
in_time colon text (Some t) h = spelled_bound colon text t h

length-moment : (colon : List ℕ) (t : ℕ) → length (moment_with colon t) ≡ 26 + 2 * length colon
unfolding moment_with
length-moment colon t =
    let second = t / 10_000_000 % 86_400 in
    let ten = (fields_of_date (text_of_date (date_after (t / 864_000_000_000))) (date_after (t / 864_000_000_000)) refl).long in
    let wide = (fields_of_time colon (text_of_time colon (second / 3600) (second / 60 % 60) (second % 60)) (second / 3600) (second / 60 % 60) (second % 60) refl).long in
    let tail = length-text_of_fraction 6 (t % 10_000_000) in
    simp length-append (omega arith)

-- the front and the end of an ETag
abbrev pub front : List ℕ
front = codes "W/\"datetime'"

abbrev pub end : List ℕ
end = codes "'\""

-- an ETag between its front and its end
pub etag_parts : (t : ℕ) → text_of_etag t ≡ front ++ (moment_with (codes "%3A") t ++ end)
unfolding text_of_etag
etag_parts t = simp append_assoc

pub etag_rest : (text rest : List ℕ) (t : ℕ) → text ≡ front ++ rest → text ≡ text_of_etag t → rest ≡ moment_with (codes "%3A") t ++ end
etag_rest text rest t opened is = append_cancel_left front rest _ (sym opened ∙ is ∙ etag_parts t)

pub etag_inside : (text rest moment : List ℕ) (t : ℕ) → text ≡ front ++ rest → rest ≡ moment ++ end → text ≡ text_of_etag t → moment ≡ moment_with (codes "%3A") t
etag_inside text rest moment t opened closed is =
    append_cancel_right moment _ end (sym closed ∙ etag_rest text rest t opened is)

pub etag_length : (text rest moment : List ℕ) (t : ℕ) → text ≡ front ++ rest → rest ≡ moment ++ end → text ≡ text_of_etag t → length moment ≡ 32
etag_length text rest moment t opened closed is =
    ap length (etag_inside text rest moment t opened closed is) ∙ length-moment (codes "%3A") t

-- a text that is no ETag
pub no_etag : (text : List ℕ) → ((t : ℕ) → t ≤ 2_650_467_743_999_999_999 → text ≡ text_of_etag t → ⊥) → (t : ℕ) → (None ≡ Some t) ↔ ((t ≤ 2_650_467_743_999_999_999) × (text ≡ text_of_etag t))
no_etag text none t = (λ e. cc, λ h. absurd (none t h.0 h.1))

pub etag_read : (text rest moment : List ℕ) (o : Option ℕ) → text ≡ front ++ rest → rest ≡ moment ++ end → length moment ≡ 32 → MatchOption o ((t : ℕ) → Spells (codes "%3A") moment t → ⊥) (Spells (codes "%3A") moment) → (t : ℕ) → (o ≡ Some t) ↔ ((t ≤ 2_650_467_743_999_999_999) × (text ≡ text_of_etag t))
etag_read text rest moment o opened closed long told t =
    let exact = exactly (codes "%3A") moment o told t in (
      λ e. let s = exact.0 e in (spelled_bound (codes "%3A") moment t s, opened ∙ rw (closed, full_is_written (codes "%3A") moment t s long) (sym (etag_parts t))),
      λ h. exact.1 (rw (etag_inside text rest moment t opened closed h.1) (written_spells (codes "%3A") t h.0)),
    )
