-- A step's frame goes on from frames that stand for names, and a checkpoint's frames stand for them.
use Rattle.std.proofs.Common.{◌≡◌, ℕ, ◌+◌, ◌-◌, ◌^◌, ◌<◌, List, [], ◌∷◌, ◌++◌, Bool, true, false, not, ◌||◌, map, Some, None, refl, sym, ap, ◌∙◌, subst, arith}
use Rattle.std.specs.Prelude.{IsTrue, IsFalse, ◌==◌, nat_lt}
use Rattle.std.specs.List.{list_any}
use Rattle.std.specs.Ordering.{is_lt, is_eq}
use Rattle.std.proofs.lemmas.Bool.Decides.{nat_tests}
use Rattle.std.proofs.lemmas.List.Elements.{All-weaker, All-filter}
use Rattle.std.proofs.lemmas.List.Folds.{list_any_none}
use Rattle.std.proofs.lemmas.List.Kept.{AllPairs-filter}
use Rattle.std.proofs.lemmas.List.Sorted.{list_any-IsPermutation}
use Rattle.tab_keys.specs.Order.{name_cmp}
use Rattle.tab_codec.specs.declared.frames.Frame.{Frame}
use Rattle.tab_codec.specs.declared.frames.Frame.TheVariants as frames
use Rattle.tab_journal.specs.Told.{NamesTold, names_takes, is_taken}
use Rattle.tab_journal.specs.Fitting.{told_by, takes, Fits}
use Rattle.tab_journal.specs.declared.fitting.Told.{Told}
use Rattle.tab_journal.specs.declared.fitting.Told.TheVariants as told
use Rattle.tab_history.specs.World.{Named, with_name, table_of}
use Rattle.tab_history.proofs.NameLaws.{All-with_name, AllPairs-with_name, rising-with_name, is_named}
use Rattle.tab_master.specs.Ordered.{in_order}
use Rattle.tab_master.specs.Spelled.{SpelledNames, named, by_name, names_told, names_of, names_kind, spelled_names, AreNames}
use Rattle.tab_master.specs.Names.{NamesStand, NamesFit, NamesGoOn, names_frame, names_stepped, created, dropped}
use Rattle.tab_master.specs.declared.steps.NamesStep.{NamesStep}
use Rattle.tab_master.specs.declared.steps.NamesStep.TheVariants.{Create, Drop}
use Rattle.tab_master.proofs.OrderedLaws.{in_order-elements}
use Rattle.tab_master.proofs.SpellingLaws.{create_spells, drop_spells}
use Rattle.tab_master.proofs.NameTests.{is_named-is, apart_where_absent}

-- ---- names that keep their order

pub created_orderly : (told : SpelledNames) (name : List ℕ) → AreNames told → table_of told.names name ≡ None → AreNames (created told name)
created_orderly told name are absent =
    let one : Named = record { spelling = name; table = told.next_table } in
    record {
      rise = rising-with_name told.names one absent are.rise;
      differ = AllPairs-with_name (λ a b. IsFalse (a.table == b.table)) told.names one are.differ
          (All-weaker (λ (it : Named). it.table < told.next_table) (λ it. IsFalse (told.next_table == it.table)) (λ it h. grind (arith, nat_tests)) told.names are.below)
          (All-weaker (λ (it : Named). it.table < told.next_table) (λ it. IsFalse (it.table == told.next_table)) (λ it h. grind (arith, nat_tests)) told.names are.below);
      below = All-with_name (λ it. it.table < told.next_table + 1) told.names one
          (All-weaker (λ (it : Named). it.table < told.next_table) (λ it. it.table < told.next_table + 1) (λ it h. omega arith) told.names are.below)
          (omega arith);
    }

pub dropped_orderly : (told : SpelledNames) (table : ℕ) → AreNames told → AreNames (dropped told table)
dropped_orderly told table are = record {
  rise = AllPairs-filter (λ a b. IsTrue (is_lt (by_name a b))) (λ one. not (one.table == table)) told.names are.rise;
  differ = AllPairs-filter (λ a b. IsFalse (a.table == b.table)) (λ one. not (one.table == table)) told.names are.differ;
  below = All-filter (λ one. not (one.table == table)) (λ (it : Named). it.table < told.next_table) told.names are.below;
}

-- ---- what is told of names in order, and what is told of them as they were listed

list_any-named : (p : Named → Bool) (pairs : List (ℕ × List ℕ)) → list_any p (map named pairs) ≡ list_any (λ entry. p (named entry)) pairs
list_any-named p [] = refl
list_any-named p (first ∷ pairs) = ap (λ b. p (named first) || b) (list_any-named p pairs)

-- a test finds an entry exactly where it finds a table in order
told_any : (p : Named → Bool) (held : NamesTold) → list_any (λ entry. p (named entry)) held.names ≡ list_any p (names_told held).names
told_any p held = sym (list_any-named p held.names) ∙ list_any-IsPermutation p (map named held.names) (in_order by_name (map named held.names)) (in_order-elements by_name (map named held.names))

not_taken : (held : NamesTold) (name : List ℕ) → table_of (names_told held).names name ≡ None → is_taken held.names name ≡ false
not_taken held name absent =
    told_any (λ one. is_eq (name_cmp one.spelling name)) held
    ∙ list_any_none (λ (one : Named). is_eq (name_cmp one.spelling name)) (names_told held).names
    (All-weaker (λ other. is_named name other ≡ false) (λ (one : Named). is_eq (name_cmp one.spelling name) ≡ false) (λ one h. sym (is_named-is name one) ∙ h) (names_told held).names
    (apart_where_absent (names_told held).names name absent))

same_some : {A : Type 0} (a b : A) → Some a ≡ Some b → a ≡ b
same_some a b same = cc

fits_create : (held : NamesTold) (table : ℕ) (name : List ℕ) → NamesFit (names_told held) (Create table name) → names_takes (Some held) (frames.Create table name) ≡ true
unfolding names_takes
fits_create held table name fits =
    let same : (table == held.next_table) ≡ true = let e : table ≡ held.next_table = fits.0 in grind (arith, nat_tests) in
    let less : nat_lt table (2 ^ 64 - 1) ≡ true = let l : table < 2 ^ 64 - 1 = fits.1 in grind (arith, nat_tests) in
    rw (same, less, not_taken held name fits.2) refl

fits_drop : (held : NamesTold) (table : ℕ) → NamesFit (names_told held) (Drop table) → names_takes (Some held) (frames.Drop table) ≡ true
unfolding names_takes
fits_drop held table fits = told_any (λ one. one.table == table) held ∙ fits

step_fits : (so_far : Told) (step : NamesStep) (held : SpelledNames) → names_of so_far ≡ Some held → NamesFit held step → takes so_far (names_frame step) ≡ true
unfolding takes
step_fits (told.Names (Some n)) (Create table name) held is fits = fits_create n table name (subst (λ it. NamesFit it (Create table name)) (sym (same_some (names_told n) held is)) fits)
step_fits (told.Names (Some n)) (Drop table) held is fits = fits_drop n table (subst (λ it. NamesFit it (Drop table)) (sym (same_some (names_told n) held is)) fits)
step_fits (told.Names None) step held is fits = absurd cc
step_fits (told.Map m) step held is fits = absurd cc
step_fits (told.Server ranges) step held is fits = absurd cc
step_fits told.Nothing step held is fits = absurd cc

frame_fits : (list : List Frame) (held : SpelledNames) (step : NamesStep) → NamesFit held step → spelled_names list ≡ Some held → Fits names_kind list (names_frame step)
unfolding spelled_names
frame_fits list held step fits spelled = step_fits (told_by names_kind list) step held spelled fits

step_stands : (list : List Frame) (held : SpelledNames) (step : NamesStep) → NamesFit held step → NamesStand list held → NamesStand (list ++ names_frame step ∷ []) (names_stepped held step)
step_stands list held (Create table name) fits stand = record {
  spelled = create_spells list held table name stand.spelled;
  orderly = subst (λ n. AreNames (record { next_table = n + 1; names = with_name held.names (record { spelling = name; table = n }) })) (sym fits.0) (created_orderly held name stand.orderly fits.2);
}
step_stands list held (Drop table) fits stand = record { spelled = drop_spells list held table stand.spelled; orderly = dropped_orderly held table stand.orderly }

-- a step that may be done goes on
pub names_go_on : (held : SpelledNames) (step : NamesStep) → NamesFit held step → NamesGoOn held step
names_go_on held step fits = record { fits = fits; goes_on = λ list stand. (frame_fits list held step fits stand.spelled, step_stands list held step fits stand) }

pub stepped_orderly : (held : SpelledNames) (step : NamesStep) → NamesFit held step → AreNames held → AreNames (names_stepped held step)
stepped_orderly held (Create table name) fits are =
    subst (λ n. AreNames (record { next_table = n + 1; names = with_name held.names (record { spelling = name; table = n }) })) (sym fits.0) (created_orderly held name are fits.2)
stepped_orderly held (Drop table) fits are = dropped_orderly held table are
