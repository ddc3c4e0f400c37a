-- A table that a name has may be dropped, and the names without its number are those without the name.
use Rattle.std.proofs.Common.{◌≡◌, ℕ, List, [], ◌∷◌, Bool, true, false, cond, not, ◌||◌, Some, refl, sym, ap, ◌∙◌, subst, arith}
use Rattle.std.specs.Prelude.{All, AllPairs, IsTrue, IsFalse, ◌==◌, find, option_map}
use Rattle.std.specs.List.{list_any}
use Rattle.std.specs.Ordering.{is_lt}
use Rattle.std.proofs.lemmas.Bool.Decides.{nat_tests}
use Rattle.std.proofs.lemmas.List.Elements.{All-weaker}
use Rattle.tab_rows.proofs.Lists.{filter_all}
use Rattle.tab_rows.proofs.Lists.{AllPairs-head, AllPairs-tail}
use Rattle.tab_history.specs.World.{Named, table_of, without_name}
use Rattle.tab_history.proofs.NameLaws.{is_named}
use Rattle.tab_master.specs.Spelled.{SpelledNames, AreNames, without_table, by_name}
use Rattle.tab_master.specs.Names.{NamesGoOn, dropped}
use Rattle.tab_master.specs.NamesCalls.{without}
use Rattle.tab_master.specs.declared.steps.NamesStep.TheVariants.{Drop}
use Rattle.tab_master.proofs.DropTies.{apart_behind, apart_number}
use Rattle.tab_master.proofs.TableLemmas.{without_name-apart}
use Rattle.tab_master.proofs.StandingLaws.{names_go_on}

some_same : {A : Type 0} (a b : A) → Some a ≡ Some b → a ≡ b
some_same a b same = cc

same_number : (n : ℕ) → (n == n) ≡ true
same_number n = grind (arith, nat_tests)

numbers_flip : (a b : ℕ) → (a == b) ≡ (b == a)
numbers_flip a b = grind (arith, nat_tests)

pub there : (names : List Named) (name : List ℕ) (table : ℕ) → table_of names name ≡ Some table → list_any (λ one. one.table == table) names ≡ true
unfolding table_of
there [] name table h = absurd cc
there (first ∷ names) name table h = by_test (there names name table) (is_named name first) h
  where
    by_test : (option_map (λ (it : Named). it.table) (find (is_named name) names) ≡ Some table → list_any (λ one. one.table == table) names ≡ true) → (t : Bool)
        → option_map (λ (it : Named). it.table) (cond t (Some first) (find (is_named name) names)) ≡ Some table → ((first.table == table) || list_any (λ one. one.table == table) names) ≡ true
    by_test rest true k = let is : first.table ≡ table = some_same first.table table k in let here : (first.table == table) ≡ true = grind (arith, nat_tests) in rw here refl
    by_test rest false k = let later = rest k in by_first (first.table == table) later
      where
        by_first : (u : Bool) → list_any (λ one. one.table == table) names ≡ true → (u || list_any (λ one. one.table == table) names) ≡ true
        by_first true l = refl
        by_first false l = l

pub drop_goes_on : (told : SpelledNames) (name : List ℕ) (table : ℕ) → table_of told.names name ≡ Some table → NamesGoOn told (Drop table)
drop_goes_on told name table h = names_go_on told (Drop table) (there told.names name table h)

without_table-apart : (names : List Named) (table : ℕ) → All (λ one. (one.table == table) ≡ false) names → without_table names table ≡ names
without_table-apart names table h = filter_all (λ one. not (one.table == table)) names (λ k d within. ap not (h k d within))

-- no two names in order are one
rest_apart : (name : List ℕ) (first : Named) (names : List Named) → is_named name first ≡ true → AllPairs (λ a b. IsTrue (is_lt (by_name a b))) (first ∷ names) → All (λ other. is_named name other ≡ false) names
rest_apart name first names here rise =
    All-weaker (λ other. IsTrue (is_lt (by_name first other))) (λ other. is_named name other ≡ false) (λ other less. apart_behind name first other here less) names
    (AllPairs-head (λ a b. IsTrue (is_lt (by_name a b))) first names rise)

names_without : (names : List Named) (name : List ℕ) (table : ℕ) → AllPairs (λ a b. IsTrue (is_lt (by_name a b))) names → AllPairs (λ a b. IsFalse (a.table == b.table)) names → table_of names name ≡ Some table
    → without_table names table ≡ without_name names name
unfolding table_of without_name
names_without [] name table rise differ h = absurd cc
names_without (first ∷ names) name table rise differ h =
    by_test (names_without names name table (AllPairs-tail (λ a b. IsTrue (is_lt (by_name a b))) first names rise) (AllPairs-tail (λ (a b : Named). IsFalse (a.table == b.table)) first names differ)) (is_named name first) refl h
  where
    by_test : (option_map (λ (it : Named). it.table) (find (is_named name) names) ≡ Some table → without_table names table ≡ without_name names name) → (t : Bool) → is_named name first ≡ t
        → option_map (λ (it : Named). it.table) (cond t (Some first) (find (is_named name) names)) ≡ Some table → without_table (first ∷ names) table ≡ without_name (first ∷ names) name
    by_test later true e k =
        let is : first.table ≡ table = some_same first.table table k in
        let here : (first.table == table) ≡ true = grind (arith, nat_tests) in
        let others : All (λ (one : Named). (one.table == table) ≡ false) names =
        subst (λ n. All (λ (one : Named). (one.table == n) ≡ false) names) is
        (All-weaker (λ (one : Named). IsFalse (first.table == one.table)) (λ (one : Named). (one.table == first.table) ≡ false) (λ one h. numbers_flip one.table first.table ∙ h) names (AllPairs-head (λ (a b : Named). IsFalse (a.table == b.table)) first names differ)) in
        rw (here, e) (without_table-apart names table others ∙ sym (without_name-apart names name (rest_apart name first names e rise)))
    by_test later false e k =
        let other : (first.table == table) ≡ false = apart_number first names table (AllPairs-head (λ (a b : Named). IsFalse (a.table == b.table)) first names differ) (there names name table k) in
        rw (other, e) (ap (λ l. first ∷ l) (later k))

pub dropped_is_without : (told : SpelledNames) (name : List ℕ) (table : ℕ) → AreNames told → table_of told.names name ≡ Some table → dropped told table ≡ without told name
dropped_is_without told name table are h = ap (λ names. record { next_table = told.next_table; names = names }) (names_without told.names name table are.rise are.differ h)
