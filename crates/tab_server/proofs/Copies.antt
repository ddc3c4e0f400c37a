-- What a store's frames told of a range, beside what they spell of it.
use Rattle.std.proofs.Common.{◌≡◌, ℕ, List, [], ◌∷◌, ◌++◌, Bool, true, false, not, cond, Some, None, refl, sym, ap, subst, ◌∙◌, map, arith}
use Rattle.std.specs.Prelude.{◌==◌, Option, option_map}
use Rattle.std.specs.List.{last_or}
use Rattle.std.proofs.lemmas.Bool.Decides.{nat_tests}
use Rattle.tab_codec.specs.declared.frames.Frame.{Frame}
use Rattle.tab_codec.specs.declared.frames.Frame.TheVariants as frames
use Rattle.tab_journal.specs.declared.ranges.RangeTold.{RangeTold}
use Rattle.tab_journal.specs.declared.fitting.Told.TheVariants as told
use Rattle.tab_journal.specs.Told.{begun, forgotten, at_range, server_after}
use Rattle.tab_journal.specs.Fitting.{after, after_all, told_first, told_by}
use Rattle.tab_server.specs.Replays.{SpelledRange, more_rows, made_whole, with_changes, spelled_next, spelled_from, spelled_range}

-- ---- the copy of one number

number_is : (a b n : ℕ) → a ≡ b → (a == n) ≡ (b == n)
number_is a b n e = ap (λ (x : ℕ). x == n) e

found_here : (number : ℕ) (one : RangeTold) (ranges : List RangeTold) → (one.range == number) ≡ true → begun (one ∷ ranges) number ≡ Some one
found_here number one ranges e = rw e refl

found_further : (number : ℕ) (one : RangeTold) (ranges : List RangeTold) → (one.range == number) ≡ false → begun (one ∷ ranges) number ≡ begun ranges number
found_further number one ranges e = rw e refl

changed_here : (range : ℕ) (f : RangeTold → RangeTold) (one : RangeTold) (ranges : List RangeTold) → (one.range == range) ≡ true → at_range range f (one ∷ ranges) ≡ f one ∷ ranges
unfolding at_range
changed_here range f one ranges e = rw e refl

changed_further : (range : ℕ) (f : RangeTold → RangeTold) (one : RangeTold) (ranges : List RangeTold) → (one.range == range) ≡ false → at_range range f (one ∷ ranges) ≡ one ∷ at_range range f ranges
unfolding at_range
changed_further range f one ranges e = rw e refl

none_changed : (range : ℕ) (f : RangeTold → RangeTold) → at_range range f [] ≡ []
unfolding at_range
none_changed range f = refl

-- a change at a number, which it leaves, is seen at that number alone
abbrev if_at : ℕ → ℕ → (RangeTold → RangeTold) → Option RangeTold → Option RangeTold
if_at range number f found = cond (range == number) (option_map f found) found

module _ (range number : ℕ) (f : RangeTold → RangeTold) (keeps : (one : RangeTold) → (f one).range ≡ one.range) where
  at_none : (b : Bool) → (range == number) ≡ b → None ≡ if_at range number f None
  at_none true e = rw e refl
  at_none false e = rw e refl

  at_one : (one : RangeTold) (ranges : List RangeTold) (b c : Bool) → (one.range == range) ≡ b → (one.range == number) ≡ c
      → begun (at_range range f ranges) number ≡ if_at range number f (begun ranges number) → begun (at_range range f (one ∷ ranges)) number ≡ if_at range number f (begun (one ∷ ranges) number)
  at_one one ranges true true e g so =
      let same : (range == number) ≡ true = grind (arith, nat_tests) in
      ap (λ (xs : List RangeTold). begun xs number) (changed_here range f one ranges e)
      ∙ found_here number (f one) ranges (number_is (f one).range one.range number (keeps one) ∙ g)
      ∙ sym (ap (λ (b : Bool). cond b (option_map f (begun (one ∷ ranges) number)) (begun (one ∷ ranges) number)) same ∙ ap (option_map f) (found_here number one ranges g))
  at_one one ranges true false e g so =
      let apart : (range == number) ≡ false = grind (arith, nat_tests) in
      ap (λ (xs : List RangeTold). begun xs number) (changed_here range f one ranges e)
      ∙ found_further number (f one) ranges (number_is (f one).range one.range number (keeps one) ∙ g)
      ∙ sym (ap (λ (b : Bool). cond b (option_map f (begun (one ∷ ranges) number)) (begun (one ∷ ranges) number)) apart ∙ found_further number one ranges g)
  at_one one ranges false true e g so =
      let apart : (range == number) ≡ false = grind (arith, nat_tests) in
      ap (λ (xs : List RangeTold). begun xs number) (changed_further range f one ranges e)
      ∙ found_here number one (at_range range f ranges) g
      ∙ sym (ap (λ (b : Bool). cond b (option_map f (begun (one ∷ ranges) number)) (begun (one ∷ ranges) number)) apart ∙ found_here number one ranges g)
  at_one one ranges false false e g so =
      ap (λ (xs : List RangeTold). begun xs number) (changed_further range f one ranges e)
      ∙ found_further number one (at_range range f ranges) g
      ∙ so
      ∙ sym (ap (if_at range number f) (found_further number one ranges g))

  pub begun_at : (ranges : List RangeTold) → begun (at_range range f ranges) number ≡ if_at range number f (begun ranges number)
  begun_at [] = ap (λ (xs : List RangeTold). begun xs number) (none_changed range f) ∙ at_none (range == number) refl
  begun_at (one ∷ ranges) = at_one one ranges (one.range == range) (one.range == number) refl refl (begun_at ranges)

-- ---- a copy that is begun anew

module _ (range number : ℕ) (new : RangeTold) (is : new.range ≡ range) where
  begin_one : (one : RangeTold) (ranges : List RangeTold) (b c : Bool) → (one.range == range) ≡ b → (one.range == number) ≡ c
      → begun (forgotten ranges range ++ new ∷ []) number ≡ cond (range == number) (Some new) (begun ranges number)
      → begun (forgotten (one ∷ ranges) range ++ new ∷ []) number ≡ cond (range == number) (Some new) (begun (one ∷ ranges) number)
  begin_one one ranges true true e g so =
      let same : (range == number) ≡ true = grind (arith, nat_tests) in
      ap (λ (b : Bool). begun (cond (not b) (one ∷ forgotten ranges range) (forgotten ranges range) ++ new ∷ []) number) e
      ∙ so
      ∙ ap (λ (b : Bool). cond b (Some new) (begun ranges number)) same
      ∙ sym (ap (λ (b : Bool). cond b (Some new) (begun (one ∷ ranges) number)) same)
  begin_one one ranges true false e g so =
      ap (λ (b : Bool). begun (cond (not b) (one ∷ forgotten ranges range) (forgotten ranges range) ++ new ∷ []) number) e
      ∙ so
      ∙ ap (λ (o : Option RangeTold). cond (range == number) (Some new) o) (sym (found_further number one ranges g))
  begin_one one ranges false true e g so =
      let apart : (range == number) ≡ false = grind (arith, nat_tests) in
      ap (λ (b : Bool). begun (cond (not b) (one ∷ forgotten ranges range) (forgotten ranges range) ++ new ∷ []) number) e
      ∙ found_here number one (forgotten ranges range ++ new ∷ []) g
      ∙ sym (ap (λ (b : Bool). cond b (Some new) (begun (one ∷ ranges) number)) apart ∙ found_here number one ranges g)
  begin_one one ranges false false e g so =
      ap (λ (b : Bool). begun (cond (not b) (one ∷ forgotten ranges range) (forgotten ranges range) ++ new ∷ []) number) e
      ∙ found_further number one (forgotten ranges range ++ new ∷ []) g
      ∙ so
      ∙ ap (λ (o : Option RangeTold). cond (range == number) (Some new) o) (sym (found_further number one ranges g))

  pub begun_anew : (ranges : List RangeTold) → begun (forgotten ranges range ++ new ∷ []) number ≡ cond (range == number) (Some new) (begun ranges number)
  begun_anew [] = ap (λ (n : ℕ). cond (n == number) (Some new) None) is
  begun_anew (one ∷ ranges) = begin_one one ranges (one.range == range) (one.range == number) refl refl (begun_anew ranges)

-- ---- what was told of a range agrees with what is spelled of it

-- of both the keys are the same, and whether it is whole; or neither was begun
abbrev pub Agree : Option RangeTold → Option SpelledRange → Type 0
Agree None None = Unit {0}
Agree None (Some one) = ⊥
Agree (Some told) None = ⊥
Agree (Some told) (Some one) = (told.span ≡ one.span) × (told.is_whole ≡ one.is_whole)

agree_mapped : (f : RangeTold → RangeTold) (g : SpelledRange → SpelledRange) → ((told : RangeTold) (one : SpelledRange) → Agree (Some told) (Some one) → Agree (Some (f told)) (Some (g one)))
    → (a : Option RangeTold) (b : Option SpelledRange) → Agree a b → Agree (option_map f a) (option_map g b)
agree_mapped f g so None None h = tt
agree_mapped f g so None (Some one) h = h
agree_mapped f g so (Some told) None h = h
agree_mapped f g so (Some told) (Some one) h = so told one h

agree_kept : (g : SpelledRange → SpelledRange) → ((told : RangeTold) (one : SpelledRange) → Agree (Some told) (Some one) → Agree (Some told) (Some (g one)))
    → (a : Option RangeTold) (b : Option SpelledRange) → Agree a b → Agree a (option_map g b)
agree_kept g so None None h = tt
agree_kept g so None (Some one) h = h
agree_kept g so (Some told) None h = h
agree_kept g so (Some told) (Some one) h = so told one h

agree_if : (b : Bool) (x y : Option RangeTold) (u v : Option SpelledRange) → Agree x u → Agree y v → Agree (cond b x y) (cond b u v)
agree_if true x y u v h k = h
agree_if false x y u v h k = k

agree_still : (b : Bool) (x : Option RangeTold) (u v : Option SpelledRange) → Agree x u → Agree x v → Agree x (cond b u v)
agree_still true x u v h k = h
agree_still false x u v h k = k

pub agree_next : (number : ℕ) (ranges : List RangeTold) (so_far : Option SpelledRange) (frame : Frame) → Agree (begun ranges number) so_far
    → Agree (begun (server_after ranges frame) number) (spelled_next number so_far frame)
unfolding server_after
agree_next number ranges so_far (frames.Begin range span next_tick) h =
    let new : RangeTold = record { range = range; span = span; last = None; is_whole = false } in
    subst (λ (o : Option RangeTold). Agree o (spelled_next number so_far (frames.Begin range span next_tick))) (sym (begun_anew range number new refl ranges))
    (agree_if (range == number) (Some new) (begun ranges number) (Some (record { range = range; span = span; rows = []; next_tick = next_tick; is_whole = false })) so_far (refl, refl) h)
agree_next number ranges so_far (frames.Rows range rows) h =
    let f : RangeTold → RangeTold = λ one. record one { last = last_or one.last (map (λ row. row.key) rows) } in
    subst (λ (o : Option RangeTold). Agree o (spelled_next number so_far (frames.Rows range rows))) (sym (begun_at range number f (λ one. refl) ranges))
    (agree_if (range == number) (option_map f (begun ranges number)) (begun ranges number) (option_map (more_rows rows) so_far) so_far (agree_mapped f (more_rows rows) (λ told one k. k) (begun ranges number) so_far h) h)
agree_next number ranges so_far (frames.Whole range next_tick) h =
    let f : RangeTold → RangeTold = λ one. record one { is_whole = true } in
    subst (λ (o : Option RangeTold). Agree o (spelled_next number so_far (frames.Whole range next_tick))) (sym (begun_at range number f (λ one. refl) ranges))
    (agree_if (range == number) (option_map f (begun ranges number)) (begun ranges number) (option_map (made_whole next_tick) so_far) so_far (agree_mapped f (made_whole next_tick) (λ told one k. (k.0, refl)) (begun ranges number) so_far h) h)
agree_next number ranges so_far (frames.Change range next_tick changes) h =
    agree_still (range == number) (begun ranges number) (option_map (with_changes changes next_tick) so_far) so_far (agree_kept (with_changes changes next_tick) (λ told one k. k) (begun ranges number) so_far h) h
agree_next number ranges so_far (frames.Map next_range next_plan rows) h = h
agree_next number ranges so_far (frames.Commit plan next_range old_ranges new_rows) h = h
agree_next number ranges so_far (frames.Names next_table names) h = h
agree_next number ranges so_far (frames.Create table name) h = h
agree_next number ranges so_far (frames.Drop table) h = h

-- ---- over all frames of a server's store

unfoldable pub told_after : List RangeTold → List Frame → List RangeTold
told_after ranges [] = ranges
told_after ranges (frame ∷ frames) = told_after (server_after ranges frame) frames

pub told_server : (ranges : List RangeTold) (frames : List Frame) → after_all (told.Server ranges) frames ≡ told.Server (told_after ranges frames)
unfolding told_after after_all after
told_server ranges [] = refl
told_server ranges (frame ∷ frames) = told_server (server_after ranges frame) frames

pub told_by_server : (frames : List Frame) → told_by 2 frames ≡ told.Server (told_after [] frames)
unfolding told_first
told_by_server frames = told_server [] frames

pub agree_after : (number : ℕ) (ranges : List RangeTold) (so_far : Option SpelledRange) (frames : List Frame) → Agree (begun ranges number) so_far
    → Agree (begun (told_after ranges frames) number) (spelled_from number so_far frames)
unfolding told_after
agree_after number ranges so_far [] h = h
agree_after number ranges so_far (frame ∷ frames) h = agree_after number (server_after ranges frame) (spelled_next number so_far frame) frames (agree_next number ranges so_far frame h)

pub agree_all : (frames : List Frame) (number : ℕ) → Agree (begun (told_after [] frames) number) (spelled_range frames number)
agree_all frames number = agree_after number [] None frames tt
