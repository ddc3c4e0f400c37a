-- Look-ups and changes at a name among names that are apart from it, below it, or above it.
use Rattle.std.proofs.Common.{◌≡◌, List, [], ◌∷◌, ◌++◌, true, false, not, filter, refl, sym, ap, ◌∙◌}
use Rattle.std.specs.Prelude.{ℕ, IsTrue, IsFalse, Some, None, option_map, All}
use Rattle.std.specs.Ordering.{is_lt, is_eq, ordering_reverse}
use Rattle.std.specs.declared.cmp.Ordering.{Ordering}
use Rattle.std.specs.declared.cmp.Ordering.TheVariants.{Less, Equal, Greater}
use Rattle.std.proofs.lemmas.Bool.{true≢false}
use Rattle.std.proofs.lemmas.List.{map-append}
use Rattle.std.proofs.lemmas.List.Elements.{All-head, All-tail, All-map, filter-append}
use Rattle.tab_keys.specs.Order.{name_cmp}
use Rattle.tab_keys.specs.TotalOrders.{name_cmp_total}
use Rattle.tab_keys.proofs.OrderLaws.{lt_asymmetric}
use Rattle.tab_rows.proofs.Lists.{find_none, find_behind, filter_all, filter_back}
use Rattle.tab_history.specs.World.{Named, table_of, with_name, without_name, is_from, names_from}
use Rattle.tab_history.proofs.NameLaws.{is_named}
use Rattle.tab_master.specs.Tables.{spellings}
use Rattle.tab_master.proofs.NameTests.{is_named-is, apart_where_absent}

-- ---- one name beside another

less_apart : (r : Ordering) → is_lt r ≡ true → is_eq r ≡ false
less_apart Less h = refl
less_apart Equal h = absurd (true≢false (sym h))
less_apart Greater h = refl

less_apart_reversed : (r : Ordering) → is_lt r ≡ true → is_eq (ordering_reverse r) ≡ false
less_apart_reversed Less h = refl
less_apart_reversed Equal h = absurd (true≢false (sym h))
less_apart_reversed Greater h = refl

greater_reversed : (r : Ordering) → is_lt r ≡ false → is_eq r ≡ false → is_lt (ordering_reverse r) ≡ true
greater_reversed Less h k = absurd (true≢false h)
greater_reversed Equal h k = absurd (true≢false k)
greater_reversed Greater h k = refl

-- a table below the name has another name
pub apart_below : (name : List ℕ) (other : Named) → IsTrue (is_lt (name_cmp other.spelling name)) → is_named name other ≡ false
apart_below name other h = is_named-is name other ∙ less_apart (name_cmp other.spelling name) h

-- so has one above it
pub apart_above : (name : List ℕ) (other : Named) → IsTrue (is_lt (name_cmp name other.spelling)) → is_named name other ≡ false
apart_above name other h = is_named-is name other ∙ (ap is_eq (name_cmp_total.antisymm other.spelling name) ∙ less_apart_reversed (name_cmp name other.spelling) h)

-- a table that is not below the name and has another one is above it
pub above_apart : (name : List ℕ) (other : Named) → IsFalse (is_lt (name_cmp other.spelling name)) → is_named name other ≡ false → IsTrue (is_lt (name_cmp name other.spelling))
above_apart name other h apart =
    ap is_lt (name_cmp_total.antisymm name other.spelling) ∙ greater_reversed (name_cmp other.spelling name) h (sym (is_named-is name other) ∙ apart)

-- ---- names that are all apart from one

pub table_of-apart : (names : List Named) (name : List ℕ) → All (λ other. is_named name other ≡ false) names → table_of names name ≡ None
unfolding table_of
table_of-apart names name h = ap (option_map (λ named. named.table)) (find_none (is_named name) names h)

pub table_of-behind : (front : List Named) (named : Named) (back : List Named) (name : List ℕ) → All (λ other. is_named name other ≡ false) front → is_named name named ≡ true
    → table_of (front ++ named ∷ back) name ≡ Some named.table
unfolding table_of
table_of-behind front named back name h here = ap (option_map (λ (it : Named). it.table)) (find_behind (is_named name) front named back h here)

pub without_name-apart : (names : List Named) (name : List ℕ) → All (λ other. is_named name other ≡ false) names → without_name names name ≡ names
unfolding without_name
without_name-apart names name h = filter_all (λ named. not (is_named name named)) names (λ k d within. ap not (h k d within))

pub without_name-append : (front back : List Named) (name : List ℕ) → without_name (front ++ back) name ≡ without_name front name ++ without_name back name
unfolding without_name
without_name-append front back name = filter-append (λ named. not (is_named name named)) front back

pub without_name-here : (named : Named) (names : List Named) (name : List ℕ) → is_named name named ≡ true → without_name (named ∷ names) name ≡ without_name names name
unfolding without_name
without_name-here named names name here = rw here refl

pub without_name-absent : (names : List Named) (name : List ℕ) → table_of names name ≡ None → without_name names name ≡ names
without_name-absent names name h = without_name-apart names name (apart_where_absent names name h)

-- ---- a name between those below it and those above it

pub with_name-behind : (front back : List Named) (named : Named) → All (λ other. IsTrue (is_lt (name_cmp other.spelling named.spelling))) front → with_name (front ++ back) named ≡ front ++ with_name back named
unfolding with_name
with_name-behind [] back named h = refl
with_name-behind (first ∷ front) back named h =
    let below : is_lt (name_cmp first.spelling named.spelling) ≡ true = All-head (λ other. IsTrue (is_lt (name_cmp other.spelling named.spelling))) first front h in
    let here : is_lt (name_cmp named.spelling first.spelling) ≡ false = lt_asymmetric name_cmp_total first.spelling named.spelling below in
    rw here (ap (λ names. first ∷ names) (with_name-behind front back named (All-tail (λ other. IsTrue (is_lt (name_cmp other.spelling named.spelling))) first front h)))

pub with_name-before : (names : List Named) (named : Named) → All (λ other. IsTrue (is_lt (name_cmp named.spelling other.spelling))) names → with_name names named ≡ named ∷ names
unfolding with_name
with_name-before [] named h = refl
with_name-before (first ∷ names) named h =
    let here : is_lt (name_cmp named.spelling first.spelling) ≡ true = All-head (λ other. IsTrue (is_lt (name_cmp named.spelling other.spelling))) first names h in
    rw here refl

-- ---- the names from one on

pub names_from-first : (names : List Named) → names_from names None ≡ spellings names
unfolding names_from
names_from-first names = filter_all (is_from None) (spellings names) (λ k d within. refl)

pub names_from-behind : (front back : List Named) (name : List ℕ) → All (λ other. IsTrue (is_lt (name_cmp other.spelling name))) front → All (λ other. IsFalse (is_lt (name_cmp other.spelling name))) back
    → names_from (front ++ back) (Some name) ≡ spellings back
unfolding names_from
names_from-behind front back name h k =
    ap (filter (is_from (Some name))) (map-append (λ (named : Named). named.spelling) front back)
    ∙ filter_back (is_from (Some name)) (spellings front) (spellings back)
    (All-map (λ it. is_from (Some name) it ≡ false) (λ (named : Named). named.spelling) front (λ i d within. ap not (h i d within)))
    (All-map (λ it. is_from (Some name) it ≡ true) (λ (named : Named). named.spelling) back (λ i d within. ap not (k i d within)))
