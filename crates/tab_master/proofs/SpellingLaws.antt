-- What a frame more makes of the names that the frames spell.
use Rattle.std.proofs.Common.{◌≡◌, ℕ, ◌+◌, List, [], ◌∷◌, ◌++◌, Bool, true, false, cond, not, map, filter, Some, None, refl, sym, ap, ◌∙◌}
use Rattle.std.specs.Prelude.{◌==◌, if◌then◌else◌}
use Rattle.std.specs.Ordering.{is_lt}
use Rattle.std.specs.Cmp.{IsTotalOrder}
use Rattle.std.proofs.lemmas.Cmp.{on_total, nat_cmp_total}
use Rattle.std.proofs.lemmas.List.{map-append}
use Rattle.tab_keys.specs.Order.{name_cmp}
use Rattle.tab_keys.specs.TotalOrders.{name_cmp_total}
use Rattle.tab_codec.specs.declared.frames.Frame.{Frame}
use Rattle.tab_codec.specs.declared.frames.Frame.TheVariants as frames
use Rattle.tab_journal.specs.Told.{NamesTold, names_after}
use Rattle.tab_journal.specs.Fitting.{told_first, told_by, after}
use Rattle.tab_journal.specs.declared.fitting.Told.{Told}
use Rattle.tab_journal.specs.declared.fitting.Told.TheVariants as told
use Rattle.tab_journal.proofs.Fronts.{after_more}
use Rattle.tab_history.specs.World.{Named, with_name}
use Rattle.tab_master.specs.Ordered.{placed, in_order}
use Rattle.tab_master.specs.Spelled.{SpelledNames, named, by_name, by_number, names_told, names_of, names_kind, spelled_names, without_table}
use Rattle.tab_master.proofs.OrderedLaws.{placed_all-append, filter-in_order}

pub by_name_total : IsTotalOrder by_name
by_name_total = on_total (λ (it : Named). it.spelling) name_cmp_total

pub by_number_total : IsTotalOrder by_number
by_number_total = on_total (λ (it : Named). it.table) nat_cmp_total

-- a name is put among names in order as it is put among tables in their order
pub with_name-placed : (names : List Named) (one : Named) → with_name names one ≡ placed by_name names one
unfolding with_name placed
with_name-placed [] one = refl
with_name-placed (first ∷ names) one = ap (λ rest. if is_lt (name_cmp one.spelling first.spelling) then one ∷ first ∷ names else first ∷ rest) (with_name-placed names one)

same_some : {A : Type 0} (a b : A) → Some a ≡ Some b → a ≡ b
same_some a b same = cc

-- ---- a name more

pub names_created : (held : NamesTold) (table : ℕ) (name : List ℕ)
    → names_of (told.Names (names_after (Some held) (frames.Create table name)))
    ≡ Some (record { next_table = table + 1; names = with_name (names_told held).names (record { spelling = name; table = table }) })
unfolding names_after
names_created held table name =
    ap (λ names. Some (record { next_table = table + 1; names = names }))
    (ap (in_order by_name) (map-append named held.names ((table, name) ∷ []))
    ∙ (placed_all-append by_name [] (map named held.names) (named (table, name)) ∙ sym (with_name-placed (names_told held).names (named (table, name)))))

pub create_spells : (list : List Frame) (held : SpelledNames) (table : ℕ) (name : List ℕ) → spelled_names list ≡ Some held
    → spelled_names (list ++ frames.Create table name ∷ []) ≡ Some (record { next_table = table + 1; names = with_name held.names (record { spelling = name; table = table }) })
unfolding spelled_names after
create_spells list held table name spelled =
    ap names_of (after_more (told_first names_kind) list (frames.Create table name)) ∙ by_told (told_by names_kind list) spelled
  where
    by_told : (so_far : Told) → names_of so_far ≡ Some held
        → names_of (after so_far (frames.Create table name)) ≡ Some (record { next_table = table + 1; names = with_name held.names (record { spelling = name; table = table }) })
    by_told (told.Names (Some n)) is =
        names_created n table name ∙ ap (λ (it : SpelledNames). Some (record { next_table = table + 1; names = with_name it.names (record { spelling = name; table = table }) })) (same_some (names_told n) held is)
    by_told (told.Names None) is = absurd cc
    by_told (told.Map m) is = absurd cc
    by_told (told.Server ranges) is = absurd cc
    by_told told.Nothing is = absurd cc

-- ---- a name less

pub filter-named : (table : ℕ) (pairs : List (ℕ × List ℕ)) → map named (filter (λ other. not (other.0 == table)) pairs) ≡ filter (λ (one : Named). not (one.table == table)) (map named pairs)
filter-named table [] = refl
filter-named table (pair ∷ pairs) = by_test (filter-named table pairs) (not (pair.0 == table))
  where
    left : List (ℕ × List ℕ)
    left = filter (λ other. not (other.0 == table)) pairs

    left_tables : List Named
    left_tables = filter (λ (one : Named). not (one.table == table)) (map named pairs)

    by_test : map named left ≡ left_tables → (t : Bool) → map named (cond t (pair ∷ left) left) ≡ cond t (named pair ∷ left_tables) left_tables
    by_test rest true = ap (λ tables. named pair ∷ tables) rest
    by_test rest false = rest

pub names_dropped : (held : NamesTold) (table : ℕ)
    → names_of (told.Names (names_after (Some held) (frames.Drop table))) ≡ Some (record (names_told held) { names = without_table (names_told held).names table })
unfolding names_after
names_dropped held table =
    ap (λ names. Some (record (names_told held) { names = names }))
    (ap (in_order by_name) (filter-named table held.names) ∙ sym (filter-in_order by_name by_name_total (λ (one : Named). not (one.table == table)) (map named held.names)))

pub drop_spells : (list : List Frame) (held : SpelledNames) (table : ℕ) → spelled_names list ≡ Some held
    → spelled_names (list ++ frames.Drop table ∷ []) ≡ Some (record held { names = without_table held.names table })
unfolding spelled_names after
drop_spells list held table spelled =
    ap names_of (after_more (told_first names_kind) list (frames.Drop table)) ∙ by_told (told_by names_kind list) spelled
  where
    by_told : (so_far : Told) → names_of so_far ≡ Some held → names_of (after so_far (frames.Drop table)) ≡ Some (record held { names = without_table held.names table })
    by_told (told.Names (Some n)) is = names_dropped n table ∙ ap (λ (it : SpelledNames). Some (record it { names = without_table it.names table })) (same_some (names_told n) held is)
    by_told (told.Names None) is = absurd cc
    by_told (told.Map m) is = absurd cc
    by_told (told.Server ranges) is = absurd cc
    by_told told.Nothing is = absurd cc
