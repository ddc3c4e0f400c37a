-- What stands behind a table in order has another name, and another number where the numbers differ.
use Rattle.std.proofs.Common.{◌≡◌, ℕ, List, [], ◌∷◌, Bool, true, false, ◌||◌, refl, sym, ◌∙◌, arith}
use Rattle.std.specs.Prelude.{All, IsTrue, IsFalse, ◌==◌}
use Rattle.std.specs.List.{list_any}
use Rattle.std.specs.Ordering.{is_lt}
use Rattle.std.proofs.lemmas.Bool.Decides.{nat_tests}
use Rattle.std.proofs.lemmas.List.Elements.{All-head, All-tail}
use Rattle.tab_keys.specs.Order.{name_cmp}
use Rattle.tab_keys.specs.TableNames.{folded}
use Rattle.tab_history.specs.World.{Named}
use Rattle.tab_history.proofs.NameLaws.{is_named}
use Rattle.tab_master.specs.Spelled.{by_name}
use Rattle.tab_master.proofs.TableLemmas.{apart_above}
use Rattle.std.specs.Prelude.{bytes_eq}

same_bytes : (a b : List ℕ) → bytes_eq a b ≡ true → a ≡ b
same_bytes a b h = (Rattle.std.proofs.lemmas.Slice.Eq.bytes_eq-Decides a b).0 h

above_named : (name : List ℕ) (first other : Named) → folded first.spelling ≡ folded name → is_lt (name_cmp first.spelling other.spelling) ≡ is_lt (name_cmp name other.spelling)
unfolding name_cmp
above_named name first other same = rw same refl

pub apart_behind : (name : List ℕ) (first other : Named) → is_named name first ≡ true → IsTrue (is_lt (by_name first other)) → is_named name other ≡ false
apart_behind name first other here less = apart_above name other (sym (above_named name first other (same_bytes (folded first.spelling) (folded name) here)) ∙ less)

pub apart_number : (first : Named) (names : List Named) (table : ℕ) → All (λ (one : Named). IsFalse (first.table == one.table)) names → list_any (λ one. one.table == table) names ≡ true → (first.table == table) ≡ false
apart_number first [] table differ found = absurd cc
apart_number first (next ∷ names) table differ found =
    by_test (apart_number first names table (All-tail (λ (one : Named). IsFalse (first.table == one.table)) next names differ)) (next.table == table) refl found
  where
    by_test : (list_any (λ one. one.table == table) names ≡ true → (first.table == table) ≡ false) → (t : Bool) → (next.table == table) ≡ t → (t || list_any (λ one. one.table == table) names) ≡ true → (first.table == table) ≡ false
    by_test later true e k = let apart : (first.table == next.table) ≡ false = All-head (λ (one : Named). IsFalse (first.table == one.table)) next names differ in grind (arith, nat_tests)
    by_test later false e k = later k
