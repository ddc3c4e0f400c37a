-- Rows that agree at the bounds of all of them have the same keys: whether a key is covered is as at the greatest bound
-- that is not past it.
use Rattle.std.proofs.Common.{◌≡◌, ℕ, Bool, true, false, not, ◌&&◌, ◌||◌, List, [], ◌∷◌, refl, sym, ap, ◌∙◌}
use Rattle.std.specs.Bool.{beq}
use Rattle.std.specs.List.{list_any, list_all, AllByRecursion}
use Rattle.std.proofs.lemmas.Bool.{true≢false}
use Rattle.std.specs.declared.cmp.Ordering.{Ordering}
use Rattle.std.specs.declared.cmp.Ordering.TheVariants.{Less, Equal, Greater}
use Rattle.std.specs.Ordering.{is_lt, ordering_reverse}
use Rattle.tab_keys.specs.Order.{key_cmp, key_lt, head_key, is_before, bound_cmp}
use Rattle.tab_keys.specs.TotalOrders.{key_cmp_total}
use Rattle.tab_keys.proofs.OrderLaws.{Less_from_is_lt}
use Rattle.tab_keys.specs.Spans.{Interval, has}
use Rattle.tab_keys.specs.declared.keys.Key.{Key}
use Rattle.tab_keys.specs.declared.bounds.Bound.{Bound}
use Rattle.tab_keys.specs.declared.bounds.Bound.TheVariants.{At, End}
use Rattle.tab_codec.specs.declared.frames.RangeRow.{RangeRow}
use Rattle.tab_journal.specs.Told.{covers, begins_in, agree_in, same_keys}

abbrev all : List RangeRow → Bound → Bool
all rows bound = list_any (λ row. begins_in row.span bound) rows

decided : {G : Type 0} (b : Bool) → (b ≡ true → G) → (b ≡ false → G) → G
decided true on_true on_false = on_true refl
decided false on_true on_false = on_false refl

same_bools : (x y : Bool) → (x ≡ true → y ≡ true) → (y ≡ true → x ≡ true) → x ≡ y
same_bools true y to from = sym (to refl)
same_bools false true to from = from refl
same_bools false false to from = refl

both_parts : (a b : Bool) → (a && b) ≡ true → (a ≡ true) × (b ≡ true)
both_parts true b e = (refl, e)
both_parts false b e = absurd cc

beq_same : (x y : Bool) → beq x y ≡ true → x ≡ y
beq_same true true e = refl
beq_same false false e = refl
beq_same true false e = absurd cc
beq_same false true e = absurd cc

-- a span has a key that is not before its first bound and before its last
within_parts : (a b : Bool) → (not a && b) ≡ true → (a ≡ false) × (b ≡ true)
within_parts true b e = absurd cc
within_parts false b e = (refl, e)

within_from : (a b : Bool) → a ≡ false → b ≡ true → (not a && b) ≡ true
within_from a b e f = rw (e, f) refl

or_first : (a b : Bool) → a ≡ true → (a || b) ≡ true
or_first a b e = rw e refl

or_more : (a b : Bool) → b ≡ true → (a || b) ≡ true
or_more true b e = refl
or_more false b e = e

or_rest : (a b : Bool) → a ≡ false → (a || b) ≡ true → b ≡ true
or_rest true b e h = absurd cc
or_rest false b e h = h

-- ---- keys in order

below_by : (key low over : Key) (o : Ordering) → key_cmp low key ≡ o → key_lt key low ≡ false → key_lt key over ≡ true → key_lt low over ≡ true
below_by key low over Less e not_below below = ap is_lt (key_cmp_total.trans low key over e (Less_from_is_lt (key_cmp key over) below))
below_by key low over Equal e not_below below = ap is_lt (key_cmp_total.congr low key over e) ∙ below
below_by key low over Greater e not_below below =
    let back : key_cmp key low ≡ Less = key_cmp_total.antisymm key low ∙ ap ordering_reverse e in
    absurd (true≢false (sym (ap is_lt back) ∙ not_below))

-- what a key is not below lies below all that the key is below
below_too : (key low over : Key) → key_lt key low ≡ false → key_lt key over ≡ true → key_lt low over ≡ true
below_too key low over = below_by key low over (key_cmp low key) refl

apart_by : (key : Key) (o : Ordering) → key_cmp key key ≡ o → key_lt key key ≡ false
apart_by key Less e =
    let back : key_cmp key key ≡ Greater = key_cmp_total.antisymm key key ∙ ap ordering_reverse e in
    ap is_lt back
apart_by key Equal e = ap is_lt e
apart_by key Greater e = ap is_lt e

not_before_itself : (key : Key) → key_lt key key ≡ false
not_before_itself key = apart_by key (key_cmp key key) refl

below_bound : (key low : Key) (bound : Bound) → key_lt key low ≡ false → is_before key bound ≡ true → is_before low bound ≡ true
below_bound key low (At table pk) not_below below = below_too key low (head_key table pk) not_below below
below_bound key low End not_below below = refl

past_too : (low over : Key) (bound : Bound) → key_lt low over ≡ true → is_before low bound ≡ false → is_before over bound ≡ false
past_too low over End below past = past
past_too low over (At table pk) below past =
    let far = head_key table pk in
    decided (key_lt over far)
    (λ e. absurd (true≢false (sym (ap is_lt (key_cmp_total.trans low over far (Less_from_is_lt _ below) (Less_from_is_lt _ e))) ∙ past)))
    (λ e. e)

-- how code asks whether the first key behind a bound is one of a span's keys
pub begins_is : (span : Interval) (bound : Bound) → begins_in span bound ≡ (not (is_lt (bound_cmp bound span.lo)) && is_lt (bound_cmp bound span.hi))
begins_is span bound = begins_by span.lo span.hi bound
  where
    begins_by : (lo hi bound : Bound) → begins_in (record { lo = lo; hi = hi }) bound ≡ (not (is_lt (bound_cmp bound lo)) && is_lt (bound_cmp bound hi))
    begins_by (At t p) (At u q) (At v r) = refl
    begins_by (At t p) End (At v r) = refl
    begins_by End (At u q) (At v r) = refl
    begins_by End End (At v r) = refl
    begins_by (At t p) (At u q) End = refl
    begins_by (At t p) End End = refl
    begins_by End (At u q) End = refl
    begins_by End End End = refl

-- ---- the greatest bound that is not past a key

abbrev bounds : List RangeRow → List Bound
bounds [] = []
bounds (row ∷ rows) = row.span.lo ∷ row.span.hi ∷ bounds rows

-- a bound that is not past the key is not past the point
abbrev NotPast : Key → Key → Bound → Type 0
NotPast key point bound = is_before key bound ≡ false → is_before point bound ≡ false

record Greatest (P : Bound → Type 0) (key : Key) (low : Bound) (list : List Bound) : Type 0 where
  table : ℕ
  pk : List ℕ
  has : P (At table pk)
  under : key_lt key (head_key table pk) ≡ false
  from : is_before (head_key table pk) low ≡ false
  past : AllByRecursion (NotPast key (head_key table pk)) list

further : (key point over : Key) (list : List Bound) → key_lt point over ≡ true → AllByRecursion (NotPast key point) list → AllByRecursion (NotPast key over) list
further key point over [] below all = tt
further key point over (bound ∷ list) below all = (λ e. past_too point over bound below (all.0 e), further key point over list below all.1)

greatest : (P : Bound → Type 0) (key : Key) (low : Bound) (list : List Bound) (table : ℕ) (pk : List ℕ) → P (At table pk) → key_lt key (head_key table pk) ≡ false
    → is_before (head_key table pk) low ≡ false → AllByRecursion P list → Greatest P key low list
greatest P key low [] table pk has under from all = record { table = table; pk = pk; has = has; under = under; from = from; past = tt }
greatest P key low (End ∷ list) table pk has under from all =
    let g = greatest P key low list table pk has under from all.1 in
    record { table = g.table; pk = g.pk; has = g.has; under = g.under; from = g.from; past = (λ e. absurd (true≢false e), g.past) }
greatest P key low (At other text ∷ list) table pk has under from all =
    let g = greatest P key low list table pk has under from all.1 in
    let point = head_key g.table g.pk in
    let over = head_key other text in
    decided (key_lt key over)
    (λ e. record { table = g.table; pk = g.pk; has = g.has; under = g.under; from = g.from; past = (λ f. absurd (true≢false (sym e ∙ f)), g.past) })
    (λ e. decided (key_lt point over)
    (λ f. record {
      table = other;
      pk = text;
      has = all.0;
      under = e;
      from = past_too point over low f g.from;
      past = (λ h. not_before_itself over, further key point over list f g.past);
    })
    (λ f. record { table = g.table; pk = g.pk; has = g.has; under = g.under; from = g.from; past = (λ h. f, g.past) }))

-- ---- one way

-- a row that has the point has the key
found : (key : Key) (table : ℕ) (pk : List ℕ) (rows : List RangeRow) → key_lt key (head_key table pk) ≡ false → AllByRecursion (NotPast key (head_key table pk)) (bounds rows)
    → all rows (At table pk) ≡ true → covers rows key ≡ true
found key table pk [] under past is = is
found key table pk (row ∷ rows) under past is =
    let point = head_key table pk in
    decided (has row.span point)
    (λ e. let p = within_parts _ _ e in
    or_first (has row.span key) (covers rows key) (within_from _ _
    (decided (is_before key row.span.lo) (λ f. absurd (true≢false (sym (below_bound key point row.span.lo under f) ∙ p.0))) (λ f. f))
    (decided (is_before key row.span.hi) (λ f. f) (λ f. absurd (true≢false (sym p.1 ∙ past.1.0 f))))))
    (λ e. or_more (has row.span key) (covers rows key) (found key table pk rows under past.1.1 (or_rest _ _ e is)))

abbrev Agree : List RangeRow → List RangeRow → Bound → Type 0
Agree a b bound = all a bound ≡ all b bound

from_row : (a b : List RangeRow) (key : Key) (lo hi : Bound) → Agree a b lo → AllByRecursion (Agree a b) (bounds b) → is_before key lo ≡ false → is_before key hi ≡ true
    → ((bound : Bound) → begins_in (record { lo = lo; hi = hi }) bound ≡ true → all a bound ≡ true) → covers b key ≡ true
from_row a b key End hi agree all_b under below reach = absurd (true≢false under)
from_row a b key (At table pk) hi agree all_b under below reach =
    let g = greatest (Agree a b) key (At table pk) (bounds b) table pk agree under (not_before_itself (head_key table pk)) all_b in
    let point = head_key g.table g.pk in
    let here : all a (At g.table g.pk) ≡ true = reach (At g.table g.pk) (within_from _ _ g.from (below_bound key point hi g.under below)) in
    found key g.table g.pk b g.under g.past (sym g.has ∙ here)

from_rows : (a b : List RangeRow) (key : Key) (rows : List RangeRow) → AllByRecursion (Agree a b) (bounds rows) → AllByRecursion (Agree a b) (bounds b)
    → ((bound : Bound) → all rows bound ≡ true → all a bound ≡ true) → covers rows key ≡ true → covers b key ≡ true
from_rows a b key [] agree all_b reach is = absurd cc
from_rows a b key (row ∷ rows) agree all_b reach is =
    decided (has row.span key)
    (λ e. let p = within_parts _ _ e in
    from_row a b key row.span.lo row.span.hi agree.0 all_b p.0 p.1 (λ bound w. reach bound (or_first (begins_in row.span bound) (all rows bound) w)))
    (λ e. from_rows a b key rows agree.1.1 all_b (λ bound w. reach bound (or_more (begins_in row.span bound) (all rows bound) w)) (or_rest _ _ e is))

-- ---- both ways

agree_all : (a b rows : List RangeRow) → list_all (λ row. agree_in a b row.span) rows ≡ true → AllByRecursion (Agree a b) (bounds rows)
agree_all a b [] e = tt
agree_all a b (row ∷ rows) e =
    let p = both_parts _ _ e in
    let q = both_parts _ _ p.0 in
    (beq_same _ _ q.0, (beq_same _ _ q.1, agree_all a b rows p.1))

turned : (a b : List RangeRow) (list : List Bound) → AllByRecursion (Agree a b) list → AllByRecursion (Agree b a) list
turned a b [] all = tt
turned a b (bound ∷ list) all = (sym all.0, turned a b list all.1)

pub same_covers : (a b : List RangeRow) → same_keys a b ≡ true → (key : Key) → covers a key ≡ covers b key
unfolding same_keys
same_covers a b same key =
    let p = both_parts _ _ same in
    let of_a = agree_all a b a p.0 in
    let of_b = agree_all a b b p.1 in
    same_bools (covers a key) (covers b key)
    (from_rows a b key a of_a of_b (λ bound w. w))
    (from_rows b a key b (turned a b (bounds b) of_b) (turned a b (bounds a) of_a) (λ bound w. w))
