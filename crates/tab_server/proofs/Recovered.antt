-- What is held goes on to be recovered by one listed range more.
use Rattle.std.proofs.Common.{◌≡◌, ℕ, ◌+◌, ◌<◌, ◌≤◌, List, [], ◌∷◌, ◌++◌, Bool, true, false, Some, None, length, get_or, take, map, refl, sym, ap, subst, ◌∙◌, inl, inr, ◌⊎◌, arith}
use Rattle.std.specs.Prelude.{◌==◌, nat_lt, Contains}
use Rattle.std.proofs.lemmas.Bool.Decides.{nat_tests}
use Rattle.std.proofs.lemmas.Option.{none-some}
use Rattle.std.proofs.lemmas.List.{map-append, take_all, take_more}
use Rattle.std.proofs.lemmas.List.Elements.{All-nil, All-push, All-weaker, All-from_recursion, recursion_from_All, Contains-append_left, Contains-push, Contains-get_or}
use Rattle.tab_page.proofs.RisingLists.{Contains-here, Contains-there, Contains-cons_cases, Contains-nil}
use Rattle.tab_keys.specs.Spans.{Interval}
use Rattle.tab_codec.specs.declared.frames.Frame.{Frame}
use Rattle.tab_journal.specs.Areas.{AreFrames}
use Rattle.tab_range.specs.Ranges.{RangeView}
use Rattle.tab_server.specs.Replays.{SpelledRange, spelled_range}
use Rattle.tab_server.specs.Contents.{told_ranges, numbers}
use Rattle.tab_server.specs.Recovering.{IsSpelledOver, IsListedThere, IsReadOver, IsRecovered, LacksListed, with_range}
use Rattle.tab_server.specs.declared.marks.Mark.TheVariants.{Serving}
use Rattle.tab_server.specs.declared.ranges.Marked.{Marked}
use Rattle.tab_server.proofs.Holding.{IsSpelledWith, each_told, told_each, told_still, told_so}
use Rattle.tab_server.proofs.Placing.{all_with}
use Rattle.tab_server.proofs.Inside.{spelled_number}

-- ---- one listed range

some_same : {A : Type 0} (a b : A) → Some a ≡ Some b → a ≡ b
some_same a b e = cc

pub not_begun : (frames : List Frame) (number : ℕ) (span : Interval) → spelled_range frames number ≡ None → IsSpelledOver frames number span → ⊥
not_begun frames number span none is = none-some is.one (sym none ∙ is.is)

pub not_whole : (frames : List Frame) (number : ℕ) (span : Interval) (one : SpelledRange) → spelled_range frames number ≡ Some one → one.is_whole ≡ false → IsSpelledOver frames number span → ⊥
not_whole frames number span one spelled open_still is =
    let same : one ≡ is.one = some_same one is.one (sym spelled ∙ is.is) in
    let both : true ≡ false = sym is.whole ∙ sym (ap (λ (x : SpelledRange). x.is_whole) same) ∙ open_still in
    absurd cc

pub not_over : (frames : List Frame) (number : ℕ) (span : Interval) (one : SpelledRange) → spelled_range frames number ≡ Some one → (one.span ≡ span → ⊥) → IsSpelledOver frames number span → ⊥
not_over frames number span one spelled other is =
    other (ap (λ (x : SpelledRange). x.span) (some_same one is.one (sym spelled ∙ is.is)) ∙ is.over)

-- a range that was read from what frames spell
pub read_over : {T : Type 0} (frames : List Frame) (number : ℕ) (span : Interval) (one : SpelledRange) (range : RangeView T) (spare : ℕ) → AreFrames 2 frames → spelled_range frames number ≡ Some one → one.span ≡ span → one.is_whole ≡ true
    → range ≡ record { id = number; span = one.span; rows = one.rows; spare = spare; next_tick = one.next_tick; tally = None } → IsReadOver frames number span range
read_over frames number span one range spare are spelled over whole is =
    subst (IsReadOver frames number span) (sym is)
    (record {
      id = refl;
      over = over;
      tally = refl;
      spelled = spelled
          ∙ ap (λ (n : ℕ). Some (record { range = n; span = one.span; rows = one.rows; next_tick = one.next_tick; is_whole = one.is_whole })) (spelled_number frames number one are spelled)
          ∙ ap (λ (s : Interval). Some (record { range = number; span = s; rows = one.rows; next_tick = one.next_tick; is_whole = one.is_whole })) over
          ∙ ap (λ (w : Bool). Some (record { range = number; span = span; rows = one.rows; next_tick = one.next_tick; is_whole = w })) whole;
    })

-- ---- numbers

module _ {T : Type 0} (marked : Marked T) where
  kept_one : (n : ℕ) (one : Marked T) (held : List (Marked T)) (b c : Bool) → nat_lt marked.range.id one.range.id ≡ b → (marked.range.id == one.range.id) ≡ c → Contains (numbers (one ∷ held)) n
      → (Contains (numbers held) n → Contains (numbers (with_range marked held)) n) → Contains (numbers (with_range marked (one ∷ held))) n
  kept_one n one held true c e f there rest = rw e (Contains-there marked.range.id n (numbers (one ∷ held)) there)
  kept_one n one held false true e f there rest = rw (e, f) there
  kept_one n one held false false e f there rest = rw (e, f) (by_case (Contains-cons_cases one.range.id n (numbers held) there))
    where
      by_case : (one.range.id ≡ n) ⊎ Contains (numbers held) n → Contains (one.range.id ∷ numbers (with_range marked held)) n
      by_case (inl same) = subst (Contains (one.range.id ∷ numbers (with_range marked held))) same (Contains-here one.range.id (numbers (with_range marked held)))
      by_case (inr there) = Contains-there one.range.id n (numbers (with_range marked held)) (rest there)

  kept_with : (n : ℕ) (held : List (Marked T)) → Contains (numbers held) n → Contains (numbers (with_range marked held)) n
  kept_with n [] there = elim (Contains-nil n there) [ ]
  kept_with n (one ∷ held) there = kept_one n one held (nat_lt marked.range.id one.range.id) (marked.range.id == one.range.id) refl refl there (kept_with n held)

  joined_one : (one : Marked T) (held : List (Marked T)) (b c : Bool) → nat_lt marked.range.id one.range.id ≡ b → (marked.range.id == one.range.id) ≡ c → Contains (numbers (with_range marked held)) marked.range.id
      → Contains (numbers (with_range marked (one ∷ held))) marked.range.id
  joined_one one held true c e f rest = rw e (Contains-here marked.range.id (numbers (one ∷ held)))
  joined_one one held false true e f rest =
      let same : one.range.id ≡ marked.range.id = grind (arith, nat_tests) in
      rw (e, f) (subst (Contains (numbers (one ∷ held))) same (Contains-here one.range.id (numbers held)))
  joined_one one held false false e f rest = rw (e, f) (Contains-there one.range.id marked.range.id (numbers (with_range marked held)) rest)

  joined_with : (held : List (Marked T)) → Contains (numbers (with_range marked held)) marked.range.id
  joined_with [] = Contains-here marked.range.id []
  joined_with (one ∷ held) = joined_one one held (nat_lt marked.range.id one.range.id) (marked.range.id == one.range.id) refl refl (joined_with held)

-- ---- what is recovered so far

pub recovered_none : {T : Type 0} (frames : List Frame) (held : List (Marked T)) → held ≡ [] → IsRecovered frames [] held
recovered_none {T} frames held none =
    subst (IsRecovered frames []) (sym none)
    (record {
      each = All-nil (IsListedThere frames);
      there = All-nil (λ (one : ℕ × Interval). Contains (numbers {T = T} []) one.0);
      only = All-nil (λ (marked : Marked T). Contains (map (λ (one : ℕ × Interval). one.0) []) marked.range.id);
      spelled = tt;
      serving = All-nil (λ (marked : Marked T). (marked.mark ≡ Serving) × (marked.range.tally ≡ None));
    })

abbrev serves : {T : Type 0} → RangeView T → Marked T
serves range = record { range = range; mark = Serving }

module _ {T : Type 0} (frames : List Frame) (so_far : List (ℕ × Interval)) (held : List (Marked T)) (recovered : IsRecovered frames so_far held) (number : ℕ) (span : Interval) (range : RangeView T)
    (read : IsReadOver frames number span range) where
  is_told : IsSpelledWith frames None (serves range)
  is_told =
      ap (spelled_range frames) read.id
      ∙ read.spelled
      ∙ ap (λ (n : ℕ). Some (record { range = n; span = span; rows = range.rows; next_tick = range.next_tick; is_whole = true })) (sym read.id)
      ∙ ap (λ (s : Interval). Some (record { range = range.id; span = s; rows = range.rows; next_tick = range.next_tick; is_whole = true })) (sym read.over)

  is_there : IsSpelledOver frames number span
  is_there = record { one = record { range = number; span = span; rows = range.rows; next_tick = range.next_tick; is_whole = true }; is = read.spelled; over = refl; whole = refl }

  abbrev listed_on : List ℕ
  listed_on = map (λ (one : ℕ × Interval). one.0) (so_far ++ (number, span) ∷ [])

  listed_is : map (λ (one : ℕ × Interval). one.0) so_far ++ number ∷ [] ≡ listed_on
  listed_is = sym (map-append (λ (one : ℕ × Interval). one.0) so_far ((number, span) ∷ []))

  is_listed : Contains listed_on range.id
  is_listed =
      subst (λ (xs : List ℕ). Contains xs range.id) listed_is
      (subst (Contains (map (λ (one : ℕ × Interval). one.0) so_far ++ number ∷ [])) (sym read.id) (Contains-push (map (λ (one : ℕ × Interval). one.0) so_far) number))

  listed_still : (n : ℕ) → Contains (map (λ (one : ℕ × Interval). one.0) so_far) n → Contains listed_on n
  listed_still n there = subst (λ (xs : List ℕ). Contains xs n) listed_is (Contains-append_left (map (λ (one : ℕ × Interval). one.0) so_far) (number ∷ []) n there)

  pub recovered_more : IsRecovered frames (so_far ++ (number, span) ∷ []) (with_range (serves range) held)
  recovered_more = record {
    each = All-push (IsListedThere frames) so_far (number, span) recovered.each is_there;
    there = All-push (λ (one : ℕ × Interval). Contains (numbers (with_range (serves range) held)) one.0) so_far (number, span)
        (All-weaker (λ (one : ℕ × Interval). Contains (numbers held) one.0) (λ (one : ℕ × Interval). Contains (numbers (with_range (serves range) held)) one.0) (λ one h. kept_with (serves range) one.0 held h) so_far recovered.there)
        (subst (Contains (numbers (with_range (serves range) held))) read.id (joined_with (serves range) held));
    only = all_with (λ (marked : Marked T). Contains listed_on marked.range.id) (serves range) is_listed held
        (All-weaker (λ (marked : Marked T). Contains (map (λ (one : ℕ × Interval). one.0) so_far) marked.range.id) (λ (marked : Marked T). Contains listed_on marked.range.id) (λ marked h. listed_still marked.range.id h) held recovered.only);
    spelled = told_still frames (told_ranges (with_range (serves range) held))
        (each_told frames None (with_range (serves range) held)
        (recursion_from_All (IsSpelledWith frames None) (with_range (serves range) held)
        (all_with (IsSpelledWith frames None) (serves range) is_told held
        (All-from_recursion (IsSpelledWith frames None) held (told_each frames None held (told_so frames (told_ranges held) recovered.spelled))))));
    serving = all_with (λ (marked : Marked T). (marked.mark ≡ Serving) × (marked.range.tally ≡ None)) (serves range) (refl, read.tally) held recovered.serving;
  }

-- ---- over the list

pub recovered_on : {T : Type 0} (frames : List Frame) (listed : List (ℕ × Interval)) (held after : List (Marked T)) (i : ℕ) (one : ℕ × Interval) (range : RangeView T) → i < length listed → one ≡ get_or listed i one
    → IsRecovered frames (take i listed) held → IsReadOver frames one.0 one.1 range → after ≡ with_range (serves range) held → IsRecovered frames (take (i + 1) listed) after
recovered_on frames listed held after i one range within is recovered read joined =
    let longer : take (i + 1) listed ≡ take i listed ++ (one.0, one.1) ∷ [] = take_more listed i one within ∙ ap (λ (x : ℕ × Interval). take i listed ++ x ∷ []) (sym is) in
    subst (λ (xs : List (ℕ × Interval)). IsRecovered frames xs after) (sym longer)
    (subst (IsRecovered frames (take i listed ++ (one.0, one.1) ∷ [])) (sym joined) (recovered_more frames (take i listed) held recovered one.0 one.1 range read))

pub recovered_all : {T : Type 0} (frames : List Frame) (listed : List (ℕ × Interval)) (held : List (Marked T)) (i : ℕ) → length listed ≤ i → IsRecovered frames (take i listed) held → IsRecovered frames listed held
recovered_all frames listed held i past recovered = subst (λ (xs : List (ℕ × Interval)). IsRecovered frames xs held) (take_all i listed past) recovered

pub lacks_one : (frames : List Frame) (listed : List (ℕ × Interval)) (i : ℕ) (one : ℕ × Interval) → i < length listed → one ≡ get_or listed i one → (IsSpelledOver frames one.0 one.1 → ⊥) → LacksListed frames listed
lacks_one frames listed i one within is lacks = record {
  one = one;
  is = subst (Contains listed) (sym is) (Contains-get_or listed i one within);
  lacks = lacks;
}
