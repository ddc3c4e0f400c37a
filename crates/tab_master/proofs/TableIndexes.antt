-- What a name's index among names in order says of a look-up and of a change at the name, and that a binary search
-- finds it.
use Rattle.std.proofs.Common.{◌≡◌, ℕ, suc, ◌+◌, ◌<◌, ◌≤◌, List, ◌∷◌, ◌++◌, true, false, length, get_or, take, drop, Ok, Err, Result, MatchOption, MatchResult, sym, ap, ◌∙◌, subst, arith, ⊎_elim}
use Rattle.std.specs.Prelude.{Some, None, All, IsTrue, IsFalse, insert, remove, slice_get}
use Rattle.std.specs.List.{HoldsAt}
use Rattle.std.specs.List.Sorted.{IsSortedBy, IsPartitionedBy, IsPartitionPoint, IsBinarySearchResult}
use Rattle.std.specs.Ordering.{is_lt, is_eq}
use Rattle.std.specs.Result.{result_ok}
use Rattle.std.specs.declared.cmp.Ordering.TheVariants.{Less, Equal, Greater}
use Rattle.std.proofs.lemmas.List.{take-append-drop, drop_more}
use Rattle.std.proofs.lemmas.List.Elements.{All-drop}
use Rattle.std.proofs.lemmas.List.Sorted.{searchable_from_sorted}
use Rattle.std.proofs.lemmas.Bool.{cases_eq, cases_lt}
use Rattle.std.proofs.lemmas.Option.{slice_get_cases, slice_get_within, get_or_from_slice_get}
use Rattle.tab_keys.specs.Order.{name_cmp}
use Rattle.tab_keys.specs.TotalOrders.{name_cmp_total}
use Rattle.tab_keys.proofs.OrderLaws.{lt_asymmetric, lt_transitive, lt_alike_left, lt_alike_right}
use Rattle.tab_rows.proofs.Lists.{All-take_within, All-drop_within}
use Rattle.tab_history.specs.World.{Named, table_of, with_name, without_name, names_from}
use Rattle.tab_history.proofs.NameLaws.{is_named}
use Rattle.tab_master.specs.Tables.{AreInOrder, spellings, StandsAt, BeginsAt}
use Rattle.tab_master.proofs.NameTests.{is_named-is, apart_where_absent}
use Rattle.tab_master.proofs.TableLemmas.{apart_below, apart_above, above_apart, table_of-apart, table_of-behind, without_name-apart, without_name-append, without_name-here, with_name-behind, with_name-before, names_from-behind}

-- ---- where a table has the name

module _ (names : List Named) (name : List ℕ) (index : ℕ) (h : StandsAt names name index) where
  within : index < length names
  within = slice_get_within names index h.named h.here

  tail : drop index names ≡ h.named ∷ drop (suc index) names
  tail =
      let inside : index < length names = within in
      let one_more : index + 1 ≡ suc index = omega arith in
      drop_more names index h.named inside
      ∙ (ap (λ n. get_or names index h.named ∷ drop n names) one_more ∙ ap (λ named. named ∷ drop (suc index) names) (get_or_from_slice_get names index h.named h.named h.here))

  parts : names ≡ take index names ++ h.named ∷ drop (suc index) names
  parts = sym (take-append-drop index names) ∙ ap (λ back. take index names ++ back) tail

  front_apart : All (λ other. is_named name other ≡ false) (take index names)
  front_apart k d below = apart_below name (get_or (take index names) k d) (h.below k d below)

  back_apart : All (λ other. is_named name other ≡ false) (drop (suc index) names)
  back_apart k d below = apart_above name (get_or (drop (suc index) names) k d) (h.above k d below)

  own : is_named name h.named ≡ true
  own = is_named-is name h.named ∙ h.same

  table_of-there : table_of names name ≡ Some h.named.table
  table_of-there = ap (λ all. table_of all name) parts ∙ table_of-behind (take index names) h.named (drop (suc index) names) name front_apart own

  -- the table that is read at the index is the one of the name
  pub table_of-stands : (named : Named) → named ≡ get_or names index named → Some named.table ≡ table_of names name
  table_of-stands named read = ap (λ (it : Named). Some it.table) (read ∙ get_or_from_slice_get names index h.named named h.here) ∙ sym table_of-there

  pub without_name-stands : without_name names name ≡ remove names index
  without_name-stands =
      ap (λ all. without_name all name) parts
      ∙ (without_name-append (take index names) (h.named ∷ drop (suc index) names) name
      ∙ (ap (λ front. front ++ without_name (h.named ∷ drop (suc index) names) name) (without_name-apart (take index names) name front_apart)
      ∙ ap (λ back. take index names ++ back) (without_name-here h.named (drop (suc index) names) name own ∙ without_name-apart (drop (suc index) names) name back_apart)))

-- ---- where the names begin that are not below one

-- the index of a name that no table has
pub with_name-begins : (names : List Named) (named : Named) (index : ℕ) → BeginsAt names named.spelling index → table_of names named.spelling ≡ None → with_name names named ≡ insert names index named
with_name-begins names named index h absent =
    ap (λ all. with_name all named) (sym (take-append-drop index names))
    ∙ (with_name-behind (take index names) (drop index names) named h.below ∙ ap (λ back. take index names ++ back) (with_name-before (drop index names) named above))
  where
    apart : All (λ other. is_named named.spelling other ≡ false) (drop index names)
    apart = All-drop (λ other. is_named named.spelling other ≡ false) index names (apart_where_absent names named.spelling absent)

    above : All (λ other. IsTrue (is_lt (name_cmp named.spelling other.spelling))) (drop index names)
    above k d within = above_apart named.spelling (get_or (drop index names) k d) (h.rest k d within) (apart k d within)

pub names_from-begins : (names : List Named) (name : List ℕ) (index : ℕ) → BeginsAt names name index → spellings (drop index names) ≡ names_from names (Some name)
names_from-begins names name index h = sym (ap (λ all. names_from all (Some name)) (sym (take-append-drop index names)) ∙ names_from-behind (take index names) (drop index names) name h.below h.rest)

-- ---- what a binary search finds

module _ (names : List Named) (name : List ℕ) (index : ℕ) where
  stands_with : (named : Named) → AreInOrder names → index < length names → slice_get names index ≡ Some named → is_eq (name_cmp named.spelling name) ≡ true → StandsAt names name index
  stands_with named order inside here same = record {
    named = named;
    here = here;
    same = same;
    below = All-take_within (λ other. IsTrue (is_lt (name_cmp other.spelling name))) names index (omega arith)
        (λ k d low high.
        sym (lt_alike_right name_cmp_total named.spelling name (get_or names k d).spelling same)
        ∙ subst (λ (it : Named). is_lt (name_cmp (get_or names k d).spelling it.spelling) ≡ true) (get_or_from_slice_get names index named d here) (order k index d high inside));
    above = All-drop_within (λ other. IsTrue (is_lt (name_cmp name other.spelling))) names (suc index)
        (λ k d low high.
        sym (lt_alike_left name_cmp_total named.spelling name (get_or names k d).spelling same)
        ∙ subst (λ (it : Named). is_lt (name_cmp it.spelling (get_or names k d).spelling) ≡ true) (get_or_from_slice_get names index named d here) (order index k d (omega arith) high));
  }

  stands : AreInOrder names → index < length names → HoldsAt (λ named. name_cmp named.spelling name ≡ Equal) names index → StandsAt names name index
  stands order inside holds =
      ⊎_elim
      (λ h. stands_with h.0 order inside h.2 (ap is_eq (subst (λ (it : Named). name_cmp it.spelling name ≡ Equal) h.3 (holds h.0))))
      (λ h. absurd (omega (arith, h.0)))
      (slice_get_cases names index).1

  apart_from_point : IsPartitionPoint (λ named. name_cmp named.spelling name ≡ Less) (λ named. name_cmp named.spelling name ≡ Greater) names index → All (λ other. is_named name other ≡ false) names
  apart_from_point point k d within =
      is_named-is name (get_or names k d)
      ∙ ⊎_elim (λ low. ap is_eq (point.0 k d (omega arith) low)) (λ high. ap is_eq (point.1 k d high within)) (cases_lt k index)

  pub begins_at_point : index ≤ length names → IsPartitionPoint (λ named. is_lt (name_cmp named.spelling name) ≡ true) (λ named. is_lt (name_cmp named.spelling name) ≡ false) names index → BeginsAt names name index
  begins_at_point inside point = record {
    within = inside;
    below = All-take_within (λ named. IsTrue (is_lt (name_cmp named.spelling name))) names index inside point.0;
    rest = All-drop_within (λ named. IsFalse (is_lt (name_cmp named.spelling name))) names index point.1;
  }

sorted : (names : List Named) → AreInOrder names → IsSortedBy (λ a b. is_lt (name_cmp a.spelling b.spelling)) names
sorted names order k d low high = lt_asymmetric name_cmp_total _ _ (order k (k + 1) d (omega arith) high)

pub index_from_search : (names : List Named) (name : List ℕ) (found : Result ℕ ℕ) → AreInOrder names
    → MatchResult found (λ i. i < length names) (λ i. i ≤ length names)
    → IsBinarySearchResult (λ named. name_cmp named.spelling name) names found
    → MatchOption (result_ok found) (table_of names name ≡ None) (StandsAt names name)
index_from_search names name (Ok index) order inside h = stands names name index order inside h
index_from_search names name (Err index) order inside h =
    table_of-apart names name (apart_from_point names name index (h (searchable_from_sorted name_cmp_total (λ named. named.spelling) names name (sorted names order))))

-- names below one stand in front of the others
pub partitioned : (names : List Named) (name : List ℕ) → AreInOrder names → IsPartitionedBy (λ named. is_lt (name_cmp named.spelling name)) names
partitioned names name order i j d le inside h =
    ⊎_elim
    (λ same. subst (λ (n : ℕ). is_lt (name_cmp (get_or names n d).spelling name) ≡ true) (sym same) h)
    (λ other. lt_transitive name_cmp_total (get_or names i d).spelling (get_or names j d).spelling name (order i j d (omega arith) inside) h)
    (cases_eq i j)
