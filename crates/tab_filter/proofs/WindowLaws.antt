-- A row that matches lies in its filter's window.
use Rattle.std.proofs.Common.{◌≡◌, ℕ, List, [], ◌∷◌, ◌++◌, Bool, true, false, not, ◌||◌, Option, Some, None, refl, ap, sym, ◌∙◌, cond}
use Rattle.std.proofs.lemmas.Bool.{and_parts, and_from}
use Rattle.std.proofs.lemmas.Slice.Eq.{bytes_eq-Decides}
use Rattle.std.specs.Prelude.{codes}
use Rattle.tab_keys.specs.KeyTexts.{key_refusal}
use Rattle.tab_keys.specs.declared.key_texts.KeyRefused.{KeyRefused}
use Rattle.tab_edm.specs.declared.values.Value.{Value}
use Rattle.tab_edm.specs.declared.values.Value.TheVariants.{Text, Flag, Int32, Int64, Moment, Guid, Bytes}
use Rattle.tab_filter.specs.declared.trees.Operator.{Operator}
use Rattle.tab_filter.specs.declared.trees.Comparison.{Comparison}
use Rattle.tab_filter.specs.declared.window.Narrowing.{Narrowing}
use Rattle.tab_filter.specs.declared.window.KeyPart.{KeyPart}
use Rattle.tab_filter.specs.declared.window.KeyPart.TheVariants.{Partition, Row}
use Rattle.tab_filter.specs.Trees.{Tree, Compared, Negation, Both, Either}
use Rattle.tab_filter.specs.Targets.{is_partition_key, is_row_key}
use Rattle.tab_filter.specs.Truth.{FilteredRow, truth, comparison_holds, found_holds, property_of}
use Rattle.tab_filter.specs.Windows.{window_of, has, all_meet, any_fixes, narrowings, narrowing_of, narrowing_by, narrowing_if_key, is_of_part, is_not_equal}

-- a row's key
abbrev part_of : KeyPart → FilteredRow → List ℕ
part_of Partition row = row.pk
part_of Row row = row.rk

all_meet-append : (a b : List Narrowing) (key : List ℕ) → all_meet a key ≡ true → all_meet b key ≡ true → all_meet (a ++ b) key ≡ true
all_meet-append [] b key h k = k
all_meet-append (n ∷ ns) b key h k =
    let parts = and_parts _ _ h in and_from _ _ parts.0 (all_meet-append ns b key parts.1 k)

-- a name of the one key is no name of the other
other_name : (name : List ℕ) → is_row_key name ≡ true → is_partition_key name ≡ false
unfolding is_row_key is_partition_key
other_name name h = rw ((bytes_eq-Decides name (codes "RowKey")).0 h) refl

-- a key's name stands for it
key_found : (part : KeyPart) (row : FilteredRow) (name : List ℕ) → is_of_part part name ≡ true → property_of row name ≡ Some (Text (part_of part row))
key_found Partition row name h = rw h refl
key_found Row row name h = rw (other_name name h, h) refl

refused_meets : (o : Option KeyRefused) (n : Narrowing) (key : List ℕ) → all_meet (n ∷ []) key ≡ true → all_meet (narrowing_if_key o n) key ≡ true
refused_meets None n key h = h
refused_meets (Some why) n key h = refl

by_meets : (operator : Operator) (value : Value) (key : List ℕ) → found_holds (Some (Text key)) operator value ≡ true → all_meet (narrowing_by operator value) key ≡ true
by_meets operator (Text text) key h = refused_meets (key_refusal text) _ key (and_from _ true h refl)
by_meets operator (Flag b) key h = refl
by_meets operator (Int32 n) key h = refl
by_meets operator (Int64 n) key h = refl
by_meets operator (Moment tick) key h = refl
by_meets operator (Guid bytes) key h = refl
by_meets operator (Bytes bytes) key h = refl

abbrev narrowed_by : Bool → Bool → Comparison → List Narrowing
narrowed_by named different c = cond (not named || different) [] (narrowing_by c.operator c.value)

comparison_meets : (part : KeyPart) (c : Comparison) (row : FilteredRow) → comparison_holds row c ≡ true → all_meet (narrowing_of part c) (part_of part row) ≡ true
unfolding comparison_holds narrowing_of
comparison_meets part c row h =
    elim (is_of_part part c.name) as (λ v. is_of_part part c.name ≡ v → all_meet (narrowed_by v (is_not_equal c.operator) c) (part_of part row) ≡ true) [
      | true ↦ λ named. elim (is_not_equal c.operator) as (λ v. all_meet (narrowed_by true v c) (part_of part row) ≡ true) [
        | true ↦ refl
        | false ↦ by_meets c.operator c.value (part_of part row) (sym (ap (λ (o : Option Value). found_holds o c.operator c.value) (key_found part row c.name named)) ∙ h)
      ]
      | false ↦ λ named. refl
    ] refl

narrowings_meet : (part : KeyPart) (tree : Tree) (row : FilteredRow) → truth row tree ≡ true → all_meet (narrowings part tree) (part_of part row) ≡ true
narrowings_meet part (Compared c) row h = comparison_meets part c row h
narrowings_meet part (Negation inner) row h = refl
narrowings_meet part (Both first second) row h =
    let parts = and_parts _ _ h in
    all_meet-append (narrowings part first) (narrowings part second) (part_of part row) (narrowings_meet part first row parts.0) (narrowings_meet part second row parts.1)
narrowings_meet part (Either first second) row h = refl

rows_meet : (fixed : Bool) (ns : List Narrowing) (key : List ℕ) → all_meet ns key ≡ true → all_meet (cond fixed ns []) key ≡ true
rows_meet true ns key h = h
rows_meet false ns key h = refl

pub within_window : (tree : Tree) (row : FilteredRow) → truth row tree ≡ true → has (window_of tree) row.pk row.rk ≡ true
within_window tree row h =
    and_from _ _ (narrowings_meet Partition tree row h) (rows_meet (any_fixes (narrowings Partition tree)) (narrowings Row tree) row.rk (narrowings_meet Row tree row h))
