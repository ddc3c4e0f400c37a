-- The bodies of frames: what is read is spelled so, and what has a spelling is read.
use Rattle.std.proofs.Common.{◌≡◌, ℕ, zero, suc, ◌^◌, ◌<◌, ◌≤◌, true, ◌&&◌, List, [], ◌∷◌, ◌++◌, length, Option, Some, None, Ok, refl, sym, ap, subst, ◌∙◌, arith}
use Rattle.std.specs.Prelude.{IsUtf8, nat_le}
use Rattle.std.specs.List.{flat_map, AllByRecursion}
use Rattle.std.specs.Int.{w16, w32, w64, to_be_bytes}
use Rattle.std.proofs.lemmas.Bool.Decides.{nat_tests}
use Rattle.tab_keys.specs.Spans.{Interval}
use Rattle.tab_keys.specs.TableNames.{IsTableName}
use Rattle.tab_rows.specs.Rows.{RowView}
use Rattle.tab_rows.specs.declared.changes.Change.{Change}
use Rattle.tab_codec.specs.declared.frames.RangeRow.{RangeRow}
use Rattle.tab_codec.specs.declared.frames.Frame.{Frame}
use Rattle.tab_codec.specs.declared.frames.Frame.TheVariants as frames
use Rattle.tab_codec.specs.Spelling.{sized, span_spelling, row_spelling, change_spelling, range_row_spelling, name_spelling, kind, body}
use Rattle.tab_codec.specs.Frames.{AreBytes, IsSpan, IsChange, IsRangeRow, HasParts, IsOrderly}
use Rattle.tab_codec.specs.Reading.{Read, number_at, items_at, last_read, change_at, range_row_at, begin_at, rows_at, whole_at, changes_at, map_at, commit_at, names_at, create_at, drop_at, body_at}
use Rattle.tab_codec.proofs.FieldLaws.{Took, IsField, IsVariant, FitsAll, bind_part, last_part, allowing_field, items_field, byte_field, field16, field32, field64}
use Rattle.tab_codec.proofs.KeyLaws.{span_field}
use Rattle.tab_codec.proofs.OrderLaws.{owns, pairs, next_all}
use Rattle.tab_codec.proofs.RowLaws.{IsRowAbove, row_field, change_field}
use Rattle.tab_codec.proofs.MapLaws.{IsRangeRowAbove, IsNameAbove, range_row_field, table_name_field, name_field, row_order, range_row_order, name_order}

-- ---- items in no order

owned : {A : Type 0} (P : A → Type 0) (s : Option A) (xs : List A) → FitsAll last_read (λ _. P) s xs → AllByRecursion P xs
owned P s [] h = tt
owned P s (x ∷ xs) h = (h.0, owned P (Some x) xs h.1)

fitting : {A : Type 0} (P : A → Type 0) (s : Option A) (xs : List A) → AllByRecursion P xs → FitsAll last_read (λ _. P) s xs
fitting P s [] h = tt
fitting P s (x ∷ xs) h = (h.0, fitting P (Some x) xs h.1)

alone : (s : Option RangeRow) (xs : List RangeRow) → FitsAll last_read (λ _. IsRangeRowAbove None) s xs → AllByRecursion IsRangeRow xs
alone s [] h = tt
alone s (x ∷ xs) h = (h.0.row, alone (Some x) xs h.1)

each_alone : (s : Option RangeRow) (xs : List RangeRow) → AllByRecursion IsRangeRow xs → FitsAll last_read (λ _. IsRangeRowAbove None) s xs
each_alone s [] h = tt
each_alone s (x ∷ xs) h = (record { row = h.0; above = refl }, each_alone (Some x) xs h.1)

at_most : (a b : ℕ) → nat_le a b ≡ true → a ≤ b
at_most a b e = grind (arith, nat_tests)

le_test : (a b : ℕ) → a ≤ b → nat_le a b ≡ true
le_test a b h = grind (arith, nat_tests)

-- ---- the parts of each kind

begin_parts : IsVariant begin_at (λ (p : ℕ × (Interval × ℕ)). frames.Begin p.0 p.1.0 p.1.1) (λ p. to_be_bytes w64 p.0 ++ (span_spelling p.1.0 ++ to_be_bytes w64 p.1.1)) (λ p. (p.0 < 2 ^ 64) × (IsSpan p.1.0 × (p.1.1 < 2 ^ 64)))
unfolding begin_at
begin_parts =
    bind_part (λ range (p : Interval × ℕ). frames.Begin range p.0 p.1) field64
    (λ range _. bind_part (λ span next_tick. frames.Begin range span next_tick) span_field
    (λ span _. last_part (λ next_tick. frames.Begin range span next_tick) field64))

rows_parts : IsVariant rows_at (λ (p : ℕ × (ℕ × List RowView)). frames.Rows p.0 p.1.1) (λ p. to_be_bytes w64 p.0 ++ (to_be_bytes w32 p.1.0 ++ flat_map row_spelling p.1.1))
    (λ p. (p.0 < 2 ^ 64) × (((p.1.0 < 2 ^ 32) × (nat_le p.1.0 1000 ≡ true)) × ((length p.1.1 ≡ p.1.0) × FitsAll last_read IsRowAbove None p.1.1)))
unfolding rows_at
rows_parts =
    bind_part (λ range (p : ℕ × List RowView). frames.Rows range p.1) field64
    (λ range _. bind_part (λ count rows. frames.Rows range rows) (allowing_field (λ count. nat_le count 1000) field32)
    (λ count _. last_part (λ rows. frames.Rows range rows) (items_field last_read row_field None count)))

whole_parts : IsVariant whole_at (λ (p : ℕ × ℕ). frames.Whole p.0 p.1) (λ p. to_be_bytes w64 p.0 ++ to_be_bytes w64 p.1) (λ p. (p.0 < 2 ^ 64) × (p.1 < 2 ^ 64))
unfolding whole_at
whole_parts = bind_part (λ range next_tick. frames.Whole range next_tick) field64 (λ range _. last_part (λ next_tick. frames.Whole range next_tick) field64)

changes_field : (n : ℕ) → IsField (items_at (λ (_ : Option Change). change_at) last_read None n) (flat_map change_spelling) (λ xs. (length xs ≡ n) × FitsAll last_read (λ _. IsChange) None xs)
changes_field n = items_field last_read (λ _. change_field) None n

change_parts : IsVariant changes_at (λ (p : ℕ × (ℕ × (ℕ × List Change))). frames.Change p.0 p.1.0 p.1.1.1) (λ p. to_be_bytes w64 p.0 ++ (to_be_bytes w64 p.1.0 ++ (to_be_bytes w16 p.1.1.0 ++ flat_map change_spelling p.1.1.1)))
    (λ p. (p.0 < 2 ^ 64) × ((p.1.0 < 2 ^ 64) × ((p.1.1.0 < 2 ^ 16) × ((length p.1.1.1 ≡ p.1.1.0) × FitsAll last_read (λ _. IsChange) None p.1.1.1))))
unfolding changes_at
change_parts =
    bind_part (λ range (p : ℕ × (ℕ × List Change)). frames.Change range p.0 p.1.1) field64
    (λ range _. bind_part (λ next_tick (p : ℕ × List Change). frames.Change range next_tick p.1) field64
    (λ next_tick _. bind_part (λ count changes. frames.Change range next_tick changes) field16
    (λ count _. last_part (λ changes. frames.Change range next_tick changes) (changes_field count))))

map_parts : IsVariant map_at (λ (p : ℕ × (ℕ × (ℕ × List RangeRow))). frames.Map p.0 p.1.0 p.1.1.1) (λ p. to_be_bytes w64 p.0 ++ (to_be_bytes w64 p.1.0 ++ (to_be_bytes w32 p.1.1.0 ++ flat_map range_row_spelling p.1.1.1)))
    (λ p. (p.0 < 2 ^ 64) × ((p.1.0 < 2 ^ 64) × ((p.1.1.0 < 2 ^ 32) × ((length p.1.1.1 ≡ p.1.1.0) × FitsAll last_read IsRangeRowAbove None p.1.1.1))))
unfolding map_at
map_parts =
    bind_part (λ next_range (p : ℕ × (ℕ × List RangeRow)). frames.Map next_range p.0 p.1.1) field64
    (λ next_range _. bind_part (λ next_plan (p : ℕ × List RangeRow). frames.Map next_range next_plan p.1) field64
    (λ next_plan _. bind_part (λ count rows. frames.Map next_range next_plan rows) field32
    (λ count _. last_part (λ rows. frames.Map next_range next_plan rows) (items_field last_read range_row_field None count))))

numbers_field : (n : ℕ) → IsField (items_at (λ (_ : Option ℕ). number_at w64) last_read None n) (flat_map (to_be_bytes w64)) (λ xs. (length xs ≡ n) × FitsAll last_read (λ _ m. m < 2 ^ 64) None xs)
numbers_field n = items_field last_read (λ _. field64) None n

new_rows_field : (n : ℕ) → IsField (items_at (λ (_ : Option RangeRow). range_row_at None) last_read None n) (flat_map range_row_spelling) (λ xs. (length xs ≡ n) × FitsAll last_read (λ _. IsRangeRowAbove None) None xs)
new_rows_field n = items_field last_read (λ _. range_row_field None) None n

commit_parts : IsVariant commit_at (λ (p : ℕ × (ℕ × (ℕ × (List ℕ × (ℕ × List RangeRow))))). frames.Commit p.0 p.1.0 p.1.1.1.0 p.1.1.1.1.1)
    (λ p. to_be_bytes w64 p.0 ++ (to_be_bytes w64 p.1.0 ++ ((p.1.1.0 ∷ []) ++ (flat_map (to_be_bytes w64) p.1.1.1.0 ++ ((p.1.1.1.1.0 ∷ []) ++ flat_map range_row_spelling p.1.1.1.1.1)))))
    (λ p. (p.0 < 2 ^ 64) × ((p.1.0 < 2 ^ 64) × ((p.1.1.0 < 2 ^ 8) × (((length p.1.1.1.0 ≡ p.1.1.0) × FitsAll last_read (λ _ m. m < 2 ^ 64) None p.1.1.1.0)
    × ((p.1.1.1.1.0 < 2 ^ 8) × ((length p.1.1.1.1.1 ≡ p.1.1.1.1.0) × FitsAll last_read (λ _. IsRangeRowAbove None) None p.1.1.1.1.1))))))
unfolding commit_at
commit_parts =
    bind_part (λ plan (p : ℕ × (ℕ × (List ℕ × (ℕ × List RangeRow)))). frames.Commit plan p.0 p.1.1.0 p.1.1.1.1) field64
    (λ plan _. bind_part (λ next_range (p : ℕ × (List ℕ × (ℕ × List RangeRow))). frames.Commit plan next_range p.1.0 p.1.1.1) field64
    (λ next_range _. bind_part (λ count (p : List ℕ × (ℕ × List RangeRow)). frames.Commit plan next_range p.0 p.1.1) byte_field
    (λ count _. bind_part (λ old_ranges (p : ℕ × List RangeRow). frames.Commit plan next_range old_ranges p.1) (numbers_field count)
    (λ old_ranges _. bind_part (λ n new_rows. frames.Commit plan next_range old_ranges new_rows) byte_field
    (λ n _. last_part (λ new_rows. frames.Commit plan next_range old_ranges new_rows) (new_rows_field n))))))

names_parts : IsVariant names_at (λ (p : ℕ × (ℕ × List (ℕ × List ℕ))). frames.Names p.0 p.1.1) (λ p. to_be_bytes w64 p.0 ++ (to_be_bytes w32 p.1.0 ++ flat_map name_spelling p.1.1))
    (λ p. (p.0 < 2 ^ 64) × ((p.1.0 < 2 ^ 32) × ((length p.1.1 ≡ p.1.0) × FitsAll last_read IsNameAbove None p.1.1)))
unfolding names_at
names_parts =
    bind_part (λ next_table (p : ℕ × List (ℕ × List ℕ)). frames.Names next_table p.1) field64
    (λ next_table _. bind_part (λ count names. frames.Names next_table names) field32
    (λ count _. last_part (λ names. frames.Names next_table names) (items_field last_read name_field None count)))

create_parts : IsVariant create_at (λ (p : ℕ × List ℕ). frames.Create p.0 p.1) (λ p. to_be_bytes w64 p.0 ++ sized p.1) (λ p. (p.0 < 2 ^ 64) × (IsTableName p.1 × IsUtf8 p.1))
unfolding create_at
create_parts = bind_part (λ table name. frames.Create table name) field64 (λ table _. last_part (λ name. frames.Create table name) table_name_field)

drop_parts : IsVariant drop_at (λ table. frames.Drop table) (to_be_bytes w64) (λ table. table < 2 ^ 64)
unfolding drop_at
drop_parts = last_part (λ table. frames.Drop table) field64

-- ---- bodies

-- what a body is of which a frame of this kind was read
pub record IsBody (k : ℕ) (f : Frame) : Type 0 where
  pub parts : HasParts f
  pub orderly : IsOrderly f
  pub kind : kind f ≡ k

taken : {A : Type 0} {read : List ℕ → Read Frame} {make : A → Frame} {spell : A → List ℕ} {Fits : A → Type 0} (k : ℕ) → IsVariant read make spell Fits → ((a : A) → Fits a → (spell a ≡ body (make a)) × IsBody k (make a))
    → (bytes : List ℕ) (x : Frame × List ℕ) → AreBytes bytes → read bytes ≡ Ok x → Took body (IsBody k) bytes x
taken {A} {read} {make} k v so bytes x fits e =
    let t = v.takes bytes x fits e in
    let s = so t.0 t.2.fits in
    let made : Took body (IsBody k) bytes (make t.0, x.1) = record { parts = t.2.parts ∙ ap (λ (w : List ℕ). w ++ x.1) s.0; rest = t.2.rest; fits = s.1 } in
    subst (λ (f : Frame). Took body (IsBody k) bytes (f, x.1)) t.1 made

none_above_nine : (n : ℕ) → (nat_le 1 (suc (suc (suc (suc (suc (suc (suc (suc (suc (suc n)))))))))) && nat_le (suc (suc (suc (suc (suc (suc (suc (suc (suc (suc n)))))))))) 9) ≡ true → ⊥
none_above_nine n e = grind (arith, nat_tests)

pub body_takes : (k : ℕ) → (nat_le 1 k && nat_le k 9) ≡ true → (bytes : List ℕ) (x : Frame × List ℕ) → AreBytes bytes → body_at k bytes ≡ Ok x → Took body (IsBody k) bytes x
unfolding body_at body
body_takes zero h = absurd cc
body_takes (suc zero) h = taken 1 begin_parts (λ p f. (refl, record { parts = (f.0, f.1.0, f.1.1); orderly = tt; kind = refl }))
body_takes (suc (suc zero)) h = taken 2 rows_parts (λ p f. (
  ap (λ n. to_be_bytes w64 p.0 ++ (to_be_bytes w32 n ++ flat_map row_spelling p.1.1)) (sym f.1.1.0),
  record {
    parts = (f.0, owns row_order None p.1.1 f.1.1.1);
    orderly = (omega (arith, f.1.1.0, at_most p.1.0 1000 f.1.0.1), pairs row_order None p.1.1 f.1.1.1);
    kind = refl;
  },
))
body_takes (suc (suc (suc zero))) h = taken 3 whole_parts (λ p f. (refl, record { parts = (f.0, f.1); orderly = tt; kind = refl }))
body_takes (suc (suc (suc (suc zero)))) h = taken 4 change_parts (λ p f. (
  ap (λ n. to_be_bytes w64 p.0 ++ (to_be_bytes w64 p.1.0 ++ (to_be_bytes w16 n ++ flat_map change_spelling p.1.1.1))) (sym f.1.1.1.0),
  record {
    parts = (f.0, f.1.0, owned IsChange None p.1.1.1 f.1.1.1.1);
    orderly = omega (arith, f.1.1.0, f.1.1.1.0);
    kind = refl;
  },
))
body_takes (suc (suc (suc (suc (suc zero))))) h = taken 5 map_parts (λ p f. (
  ap (λ n. to_be_bytes w64 p.0 ++ (to_be_bytes w64 p.1.0 ++ (to_be_bytes w32 n ++ flat_map range_row_spelling p.1.1.1))) (sym f.1.1.1.0),
  record {
    parts = (f.0, f.1.0, owns range_row_order None p.1.1.1 f.1.1.1.1);
    orderly = (omega (arith, f.1.1.0, f.1.1.1.0), pairs range_row_order None p.1.1.1 f.1.1.1.1);
    kind = refl;
  },
))
body_takes (suc (suc (suc (suc (suc (suc zero)))))) h = taken 6 commit_parts (λ p f. (
  ap (λ n. to_be_bytes w64 p.0 ++ (to_be_bytes w64 p.1.0 ++ ((n ∷ []) ++ (flat_map (to_be_bytes w64) p.1.1.1.0 ++ ((p.1.1.1.1.0 ∷ []) ++ flat_map range_row_spelling p.1.1.1.1.1))))) (sym f.1.1.1.0.0)
      ∙ ap (λ n. to_be_bytes w64 p.0 ++ (to_be_bytes w64 p.1.0 ++ ((length p.1.1.1.0 ∷ []) ++ (flat_map (to_be_bytes w64) p.1.1.1.0 ++ ((n ∷ []) ++ flat_map range_row_spelling p.1.1.1.1.1))))) (sym f.1.1.1.1.1.0),
  record {
    parts = (f.0, f.1.0, owned (λ m. m < 2 ^ 64) None p.1.1.1.0 f.1.1.1.0.1, alone None p.1.1.1.1.1 f.1.1.1.1.1.1);
    orderly = (omega (arith, f.1.1.0, f.1.1.1.0.0), omega (arith, f.1.1.1.1.0, f.1.1.1.1.1.0));
    kind = refl;
  },
))
body_takes (suc (suc (suc (suc (suc (suc (suc zero))))))) h = taken 7 names_parts (λ p f. (
  ap (λ n. to_be_bytes w64 p.0 ++ (to_be_bytes w32 n ++ flat_map name_spelling p.1.1)) (sym f.1.1.0),
  record {
    parts = (f.0, owns name_order None p.1.1 f.1.1.1);
    orderly = (omega (arith, f.1.0, f.1.1.0), pairs name_order None p.1.1 f.1.1.1);
    kind = refl;
  },
))
body_takes (suc (suc (suc (suc (suc (suc (suc (suc zero)))))))) h = taken 8 create_parts (λ p f. (refl, record { parts = record { table = f.0; name = f.1.0; utf8 = f.1.1 }; orderly = tt; kind = refl }))
body_takes (suc (suc (suc (suc (suc (suc (suc (suc (suc zero))))))))) h = taken 9 drop_parts (λ p f. (refl, record { parts = f; orderly = tt; kind = refl }))
body_takes (suc (suc (suc (suc (suc (suc (suc (suc (suc (suc n)))))))))) h = absurd (none_above_nine n h)

pub body_again : (f : Frame) (rest : List ℕ) → HasParts f → IsOrderly f → body_at (kind f) (body f ++ rest) ≡ Ok (f, rest)
unfolding body_at body
body_again (frames.Begin range span next_tick) rest h o = begin_parts.again (range, (span, next_tick)) rest (h.0, (h.1, h.2))
body_again (frames.Rows range rows) rest h o =
    rows_parts.again (range, (length rows, rows)) rest (h.0, ((omega (arith, o.0), le_test (length rows) 1000 o.0), (refl, next_all row_order rows h.1 o.1)))
body_again (frames.Whole range next_tick) rest h o = whole_parts.again (range, next_tick) rest (h.0, h.1)
body_again (frames.Change range next_tick changes) rest h o =
    change_parts.again (range, (next_tick, (length changes, changes))) rest (h.0, (h.1, (o, (refl, fitting IsChange None changes h.2))))
body_again (frames.Map next_range next_plan rows) rest h o =
    map_parts.again (next_range, (next_plan, (length rows, rows))) rest (h.0, (h.1, (o.0, (refl, next_all range_row_order rows h.2 o.1))))
body_again (frames.Commit plan next_range old_ranges new_rows) rest h o =
    commit_parts.again (plan, (next_range, (length old_ranges, (old_ranges, (length new_rows, new_rows))))) rest
    (h.0, (h.1, (o.0, ((refl, fitting (λ m. m < 2 ^ 64) None old_ranges h.2), (o.1, (refl, each_alone None new_rows h.3))))))
body_again (frames.Names next_table names) rest h o =
    names_parts.again (next_table, (length names, names)) rest (h.0, (o.0, (refl, next_all name_order names h.1 o.1)))
body_again (frames.Create table name) rest h o = create_parts.again (table, name) rest (h.table, (h.name, h.utf8))
body_again (frames.Drop table) rest h o = drop_parts.again table rest h
