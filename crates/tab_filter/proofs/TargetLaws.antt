-- The value that a comparison is about, by what its name stands for.
use Rattle.std.proofs.Common.{◌≡◌, ℕ, Bool, true, false, cond, List, Option, Some, None, refl, sym, ap, subst, ◌∙◌}
use Rattle.tab_edm.specs.declared.values.Value.{Value}
use Rattle.tab_edm.specs.declared.values.Value.TheVariants.{Text, Moment}
use Rattle.tab_edm.specs.Entities.{value_of}
use Rattle.tab_filter.specs.declared.targets.Target.{Target}
use Rattle.tab_filter.specs.declared.targets.Target.TheVariants as targets
use Rattle.tab_filter.specs.Targets.{is_partition_key, is_row_key, is_timestamp, target_of}
use Rattle.tab_filter.specs.declared.trees.Comparison.{Comparison}
use Rattle.tab_filter.specs.Truth.{FilteredRow, value_holds, found_holds, comparison_holds}

abbrev pub value_by : Target → FilteredRow → List ℕ → Option Value
value_by targets.PartitionKey row name = Some (Text row.pk)
value_by targets.RowKey row name = Some (Text row.rk)
value_by targets.Timestamp row name = Some (Moment row.tick)
value_by targets.Property row name = value_of name row.properties

by_tests : (pk rk time : Bool) (row : FilteredRow) (name : List ℕ)
    → cond pk (Some (Text row.pk)) (cond rk (Some (Text row.rk)) (cond time (Some (Moment row.tick)) (value_of name row.properties)))
    ≡ value_by (cond pk targets.PartitionKey (cond rk targets.RowKey (cond time targets.Timestamp targets.Property))) row name
by_tests true rk time row name = refl
by_tests false true time row name = refl
by_tests false false true row name = refl
by_tests false false false row name = refl

-- whether a comparison holds, by what its name stands for
by_target : (row : FilteredRow) (own : Comparison) (target : Target) → target ≡ target_of own.name → comparison_holds row own ≡ found_holds (value_by target row own.name) own.operator own.value
unfolding target_of comparison_holds
by_target row own target is =
    rw is (ap (λ (found : Option Value). found_holds found own.operator own.value) (by_tests (is_partition_key own.name) (is_row_key own.name) (is_timestamp own.name) row own.name))

-- it is asked of the value that the name stands for, with the parts of a comparison that was lent
pub holds_of : (row : FilteredRow) (lent own : Comparison) (target : Target) (value : Value) (result : Bool) → lent ≡ own → target ≡ target_of own.name → value_by target row own.name ≡ Some value
    → result ≡ value_holds value lent.operator lent.value → result ≡ comparison_holds row own
holds_of row lent own target value result same is found e =
    subst (λ (c : Comparison). result ≡ value_holds value c.operator c.value) same e
    ∙ sym (by_target row own target is ∙ ap (λ (v : Option Value). found_holds v own.operator own.value) found)

pub holds_of_none : (row : FilteredRow) (own : Comparison) (target : Target) → target ≡ target_of own.name → value_by target row own.name ≡ None → false ≡ comparison_holds row own
holds_of_none row own target is none = sym (by_target row own target is ∙ ap (λ (v : Option Value). found_holds v own.operator own.value) none)
