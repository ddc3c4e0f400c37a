-- The windows of filters have no gaps: what lies above where a page begins, and not above a key of the window, is in it.
use Rattle.std.proofs.Common.{◌≡◌, ℕ, List, [], ◌∷◌, ◌++◌, Bool, true, false, cond, not, ◌&&◌, ◌||◌, Option, Some, None, refl, ap, sym, ◌∙◌}
use Rattle.std.proofs.lemmas.Bool.{and_parts, and_from, true≢false, or_parts}
use Rattle.std.specs.declared.cmp.Ordering.{Ordering}
use Rattle.std.specs.declared.cmp.Ordering.TheVariants.{Less, Equal, Greater}
use Rattle.std.specs.Ordering.{ordering_then, ordering_reverse, is_eq, is_lt, is_gt, is_le, is_ge}
use Rattle.tab_keys.specs.KeyTexts.{key_refusal}
use Rattle.tab_keys.specs.declared.key_texts.KeyRefused.{KeyRefused}
use Rattle.tab_keys.specs.Order.{text_cmp}
use Rattle.tab_keys.specs.TotalOrders.{text_cmp_total}
use Rattle.tab_keys.proofs.OrderLaws.{Equal_from_is_eq, lt_irreflexive, lt_asymmetric, lt_alike_right, lt_from_le, lt_to_le, eq_between}
use Rattle.tab_edm.specs.declared.values.Value.{Value}
use Rattle.tab_edm.specs.declared.values.Value.TheVariants.{Text, Flag, Int32, Int64, Moment, Guid, Bytes}
use Rattle.tab_filter.specs.declared.trees.Operator.{Operator}
use Rattle.tab_filter.specs.declared.trees.Operator.TheVariants.{Equal as EqualTo, NotEqual, Greater as GreaterThan, GreaterOrEqual, Less as LessThan, LessOrEqual}
use Rattle.tab_filter.specs.declared.trees.Comparison.{Comparison}
use Rattle.tab_filter.specs.declared.window.Narrowing.{Narrowing}
use Rattle.tab_filter.specs.declared.window.KeyPart.{KeyPart}
use Rattle.tab_filter.specs.declared.window.KeyPart.TheVariants.{Partition, Row}
use Rattle.tab_filter.specs.Trees.{Tree, Compared, Negation, Both, Either}
use Rattle.tab_filter.specs.Truth.{operator_holds}
use Rattle.tab_filter.specs.Windows.{WindowView, has, below, all_meet, meets, any_fixes, any_fixes_at, any_too_great, any_too_small, is_too_small, small_by, great_by, is_lower, is_equal, is_not_equal, is_of_part, lower_corner, greater_corner, narrowings, narrowing_of, narrowing_by, narrowing_if_key}
use Rattle.tab_filter.proofs.WindowEdges.{starts_low, reaches_up_to}
use Rattle.tab_page.specs.Pages.{window_for}

-- ---- what a filter narrows by

-- none of them is by `ne`
abbrev plain : List Narrowing → Bool
plain [] = true
plain (n ∷ ns) = not (is_not_equal n.operator) && plain ns

plain-append : (a b : List Narrowing) → plain a ≡ true → plain b ≡ true → plain (a ++ b) ≡ true
plain-append [] b h k = k
plain-append (n ∷ ns) b h k =
    let parts = and_parts (not (is_not_equal n.operator)) (plain ns) h in
    and_from (not (is_not_equal n.operator)) (plain (ns ++ b)) parts.0 (plain-append ns b parts.1 k)

plain-unless : (o : Option KeyRefused) (n : Narrowing) → is_not_equal n.operator ≡ false → plain (narrowing_if_key o n) ≡ true
plain-unless None n h = ap (λ t. not t && true) h
plain-unless (Some why) n h = refl

plain-by : (operator : Operator) (value : Value) → is_not_equal operator ≡ false → plain (narrowing_by operator value) ≡ true
plain-by operator (Text text) h = plain-unless (key_refusal text) _ h
plain-by operator (Flag b) h = refl
plain-by operator (Int32 n) h = refl
plain-by operator (Int64 n) h = refl
plain-by operator (Moment tick) h = refl
plain-by operator (Guid bytes) h = refl
plain-by operator (Bytes bytes) h = refl

plain-of : (part : KeyPart) (c : Comparison) → plain (narrowing_of part c) ≡ true
unfolding narrowing_of
plain-of part c = by_tests (is_of_part part c.name) (is_not_equal c.operator) refl
  where
    by_tests : (named different : Bool) → is_not_equal c.operator ≡ different → plain (cond (not named || different) [] (narrowing_by c.operator c.value)) ≡ true
    by_tests false different e = refl
    by_tests true true e = refl
    by_tests true false e = plain-by c.operator c.value e

plain-narrowings : (part : KeyPart) (tree : Tree) → plain (narrowings part tree) ≡ true
plain-narrowings part (Compared c) = plain-of part c
plain-narrowings part (Negation inner) = refl
plain-narrowings part (Both first second) = plain-append (narrowings part first) (narrowings part second) (plain-narrowings part first) (plain-narrowings part second)
plain-narrowings part (Either first second) = refl

-- what the window of a filter keeps: nothing is by `ne`, and row keys are narrowed in one partition alone
pub record IsRun (w : WindowView) : Type 0 where
  pub partitions : plain w.partitions ≡ true
  pub rows : plain w.rows ≡ true
  pub fixed : any_fixes w.partitions ≡ false → w.rows ≡ []

rows_plain : (fixed : Bool) (ns : List Narrowing) → plain ns ≡ true → plain (cond fixed ns []) ≡ true
rows_plain true ns h = h
rows_plain false ns h = refl

no_rows : (fixed : Bool) (ns : List Narrowing) → fixed ≡ false → cond fixed ns [] ≡ []
no_rows fixed ns h = ap (λ t. cond t ns []) h

pub window_runs : (filter : Option Tree) → IsRun (window_for filter)
window_runs None = record { partitions = refl; rows = refl; fixed = λ h. refl }
window_runs (Some tree) = record {
  partitions = plain-narrowings Partition tree;
  rows = rows_plain (any_fixes (narrowings Partition tree)) (narrowings Row tree) (plain-narrowings Row tree);
  fixed = no_rows (any_fixes (narrowings Partition tree)) (narrowings Row tree);
}

-- ---- a comparison against the order of two texts

abbrev small_of : Operator → Ordering → Bool
small_of EqualTo o = is_lt o
small_of GreaterOrEqual o = is_lt o
small_of GreaterThan o = is_le o
small_of NotEqual o = false
small_of LessThan o = false
small_of LessOrEqual o = false

abbrev great_of : Operator → Ordering → Bool
great_of EqualTo o = is_gt o
great_of LessOrEqual o = is_gt o
great_of LessThan o = is_ge o
great_of NotEqual o = false
great_of GreaterThan o = false
great_of GreaterOrEqual o = false

small_by-is : (operator : Operator) (key text : List ℕ) → small_by operator key text ≡ small_of operator (text_cmp key text)
small_by-is EqualTo key text = refl
small_by-is NotEqual key text = refl
small_by-is GreaterThan key text = refl
small_by-is GreaterOrEqual key text = refl
small_by-is LessThan key text = refl
small_by-is LessOrEqual key text = refl

great_by-is : (operator : Operator) (key text : List ℕ) → great_by operator key text ≡ great_of operator (text_cmp key text)
great_by-is EqualTo key text = refl
great_by-is NotEqual key text = refl
great_by-is GreaterThan key text = refl
great_by-is GreaterOrEqual key text = refl
great_by-is LessThan key text = refl
great_by-is LessOrEqual key text = refl

-- what is neither too small nor too great is left in
holds_between : (operator : Operator) (o : Ordering) → is_not_equal operator ≡ false → small_of operator o ≡ false → great_of operator o ≡ false → operator_holds operator o ≡ true
holds_between NotEqual o d s g = cc d
holds_between EqualTo Less d s g = cc s
holds_between EqualTo Equal d s g = refl
holds_between EqualTo Greater d s g = cc g
holds_between GreaterThan Less d s g = cc s
holds_between GreaterThan Equal d s g = cc s
holds_between GreaterThan Greater d s g = refl
holds_between GreaterOrEqual Less d s g = cc s
holds_between GreaterOrEqual Equal d s g = refl
holds_between GreaterOrEqual Greater d s g = refl
holds_between LessThan Less d s g = refl
holds_between LessThan Equal d s g = cc g
holds_between LessThan Greater d s g = cc g
holds_between LessOrEqual Less d s g = refl
holds_between LessOrEqual Equal d s g = refl
holds_between LessOrEqual Greater d s g = cc g

holds_not_small : (operator : Operator) (o : Ordering) → operator_holds operator o ≡ true → small_of operator o ≡ false
holds_not_small EqualTo Less h = cc h
holds_not_small EqualTo Equal h = refl
holds_not_small EqualTo Greater h = refl
holds_not_small GreaterThan Less h = cc h
holds_not_small GreaterThan Equal h = cc h
holds_not_small GreaterThan Greater h = refl
holds_not_small GreaterOrEqual Less h = cc h
holds_not_small GreaterOrEqual Equal h = refl
holds_not_small GreaterOrEqual Greater h = refl
holds_not_small NotEqual o h = refl
holds_not_small LessThan o h = refl
holds_not_small LessOrEqual o h = refl

-- what is too small is at most the text, which is a lower bound
small_bound : (operator : Operator) (o : Ordering) → small_of operator o ≡ true → (is_lower operator ≡ true) × (is_gt o ≡ false)
small_bound EqualTo Less h = (refl, refl)
small_bound EqualTo Equal h = cc h
small_bound EqualTo Greater h = cc h
small_bound GreaterThan Less h = (refl, refl)
small_bound GreaterThan Equal h = (refl, refl)
small_bound GreaterThan Greater h = cc h
small_bound GreaterOrEqual Less h = (refl, refl)
small_bound GreaterOrEqual Equal h = cc h
small_bound GreaterOrEqual Greater h = cc h
small_bound NotEqual o h = cc h
small_bound LessThan o h = cc h
small_bound LessOrEqual o h = cc h

-- ---- the order of texts, seen from either side

turned_gt : (x y : Ordering) → x ≡ ordering_reverse y → is_gt x ≡ is_lt y
turned_gt x Less e = ap is_gt e
turned_gt x Equal e = ap is_gt e
turned_gt x Greater e = ap is_gt e

turned_le : (x y : Ordering) → x ≡ ordering_reverse y → is_le x ≡ not (is_lt y)
turned_le x Less e = ap is_le e
turned_le x Equal e = ap is_le e
turned_le x Greater e = ap is_le e

gt_is_lt : (a b : List ℕ) → is_gt (text_cmp a b) ≡ is_lt (text_cmp b a)
gt_is_lt a b = turned_gt (text_cmp a b) (text_cmp b a) (text_cmp_total.antisymm a b)

le_is_not_lt : (a b : List ℕ) → is_le (text_cmp a b) ≡ not (is_lt (text_cmp b a))
le_is_not_lt a b = turned_le (text_cmp a b) (text_cmp b a) (text_cmp_total.antisymm a b)

pub le_trans : (a b c : List ℕ) → is_lt (text_cmp b a) ≡ false → is_lt (text_cmp c b) ≡ false → is_lt (text_cmp c a) ≡ false
le_trans a b c h k = by_test (is_lt (text_cmp c a)) refl
  where
    by_test : (t : Bool) → is_lt (text_cmp c a) ≡ t → is_lt (text_cmp c a) ≡ false
    by_test true e = absurd (true≢false (sym (lt_to_le text_cmp_total c a b e h) ∙ k))
    by_test false e = e

-- ---- the lower corner

corner_over_text : (n : Narrowing) (corner : List ℕ) → is_lower n.operator ≡ true → is_lt (text_cmp (greater_corner n corner) n.text) ≡ false
corner_over_text n corner lower = by_test (is_gt (text_cmp n.text corner)) refl
  where
    chosen : (t : Bool) → is_gt (text_cmp n.text corner) ≡ t → greater_corner n corner ≡ cond t n.text corner
    chosen t e = ap (λ (u : Bool). cond (u && is_gt (text_cmp n.text corner)) n.text corner) lower ∙ ap (λ (u : Bool). cond u n.text corner) e

    by_test : (t : Bool) → is_gt (text_cmp n.text corner) ≡ t → is_lt (text_cmp (greater_corner n corner) n.text) ≡ false
    by_test true e = ap (λ (x : List ℕ). is_lt (text_cmp x n.text)) (chosen true e) ∙ lt_irreflexive text_cmp_total n.text
    by_test false e = ap (λ (x : List ℕ). is_lt (text_cmp x n.text)) (chosen false e) ∙ (sym (gt_is_lt n.text corner) ∙ e)

corner_over_corner : (n : Narrowing) (corner : List ℕ) → is_lt (text_cmp (greater_corner n corner) corner) ≡ false
corner_over_corner n corner = by_test (is_lower n.operator && is_gt (text_cmp n.text corner)) refl
  where
    by_test : (t : Bool) → (is_lower n.operator && is_gt (text_cmp n.text corner)) ≡ t → is_lt (text_cmp (greater_corner n corner) corner) ≡ false
    by_test true e =
        let greater = (and_parts (is_lower n.operator) (is_gt (text_cmp n.text corner)) e).1 in
        ap (λ (u : Bool). is_lt (text_cmp (cond u n.text corner) corner)) e
        ∙ lt_asymmetric text_cmp_total corner n.text (sym (gt_is_lt n.text corner) ∙ greater)
    by_test false e = ap (λ (u : Bool). is_lt (text_cmp (cond u n.text corner) corner)) e ∙ lt_irreflexive text_cmp_total corner

-- what is left out as too small is at most the corner
corner_over_small : (ns : List Narrowing) (key : List ℕ) → any_too_small ns key ≡ true → is_lt (text_cmp (lower_corner ns) key) ≡ false
corner_over_small [] key h = cc h
corner_over_small (n ∷ ns) key h = by_cases (λ k. corner_over_small ns key k) (is_too_small n key) refl
  where
    by_cases : (any_too_small ns key ≡ true → is_lt (text_cmp (lower_corner ns) key) ≡ false) → (t : Bool) → is_too_small n key ≡ t → is_lt (text_cmp (lower_corner (n ∷ ns)) key) ≡ false
    by_cases others true e =
        let bound = small_bound n.operator (text_cmp key n.text) (sym (small_by-is n.operator key n.text) ∙ e) in
        le_trans key n.text (greater_corner n (lower_corner ns)) (sym (gt_is_lt key n.text) ∙ bound.1) (corner_over_text n (lower_corner ns) bound.0)
    by_cases others false e =
        le_trans key (lower_corner ns) (greater_corner n (lower_corner ns)) (others (ap (λ (t : Bool). t || any_too_small ns key) (sym e) ∙ h)) (corner_over_corner n (lower_corner ns))

-- what lies above the corner is not
pub above_corner : (ns : List Narrowing) (key : List ℕ) → is_lt (text_cmp (lower_corner ns) key) ≡ true → any_too_small ns key ≡ false
above_corner ns key h = by_test (any_too_small ns key) refl
  where
    by_test : (t : Bool) → any_too_small ns key ≡ t → any_too_small ns key ≡ false
    by_test true e = absurd (true≢false (sym h ∙ corner_over_small ns key e))
    by_test false e = e

-- what lies below what is too small is too small
small_falls : (operator : Operator) (a b text : List ℕ) → is_lt (text_cmp b a) ≡ false → small_by operator b text ≡ true → small_by operator a text ≡ true
small_falls EqualTo a b text h k = lt_from_le text_cmp_total a b text h k
small_falls GreaterOrEqual a b text h k = lt_from_le text_cmp_total a b text h k
small_falls GreaterThan a b text h k =
    le_is_not_lt a text ∙ ap not (le_trans a b text h (flipped (is_lt (text_cmp text b)) (sym (le_is_not_lt b text) ∙ k)))
  where
    flipped : (t : Bool) → not t ≡ true → t ≡ false
    flipped true e = cc e
    flipped false e = refl
small_falls NotEqual a b text h k = cc k
small_falls LessThan a b text h k = cc k
small_falls LessOrEqual a b text h k = cc k

any_small_falls : (ns : List Narrowing) (a b : List ℕ) → is_lt (text_cmp b a) ≡ false → any_too_small ns b ≡ true → any_too_small ns a ≡ true
any_small_falls [] a b h k = cc k
any_small_falls (n ∷ ns) a b h k = by_cases (λ l. any_small_falls ns a b h l) (is_too_small n b) refl
  where
    or_true : (t : Bool) → (t || true) ≡ true
    or_true true = refl
    or_true false = refl

    by_cases : (any_too_small ns b ≡ true → any_too_small ns a ≡ true) → (t : Bool) → is_too_small n b ≡ t → any_too_small (n ∷ ns) a ≡ true
    by_cases others true e = ap (λ (t : Bool). t || any_too_small ns a) (small_falls n.operator a b n.text h e)
    by_cases others false e =
        ap (λ (t : Bool). is_too_small n a || t) (others (ap (λ (t : Bool). t || any_too_small ns b) (sym e) ∙ k)) ∙ or_true (is_too_small n a)

-- what is left in is not too small
none_small : (ns : List Narrowing) (key : List ℕ) → all_meet ns key ≡ true → any_too_small ns key ≡ false
none_small [] key h = refl
none_small (n ∷ ns) key h =
    let parts = and_parts (meets n key) (all_meet ns key) h in
    ap (λ (t : Bool). t || any_too_small ns key) (small_by-is n.operator key n.text ∙ holds_not_small n.operator (text_cmp key n.text) parts.0)
    ∙ none_small ns key parts.1

-- and so is what lies above it
pub not_small_above : (ns : List Narrowing) (a b : List ℕ) → is_lt (text_cmp b a) ≡ false → any_too_small ns a ≡ false → any_too_small ns b ≡ false
not_small_above ns a b h k = by_test (any_too_small ns b) refl
  where
    by_test : (t : Bool) → any_too_small ns b ≡ t → any_too_small ns b ≡ false
    by_test true e = absurd (true≢false (sym (any_small_falls ns a b h e) ∙ k))
    by_test false e = e

-- a key of the window is not below a partition that is too small
pub above_small : (w : WindowView) (pk rk p : List ℕ) → has w pk rk ≡ true → below w p ≡ true → is_lt (text_cmp p pk) ≡ true
above_small w pk rk p h small = by_test (is_lt (text_cmp p pk)) refl
  where
    by_test : (t : Bool) → is_lt (text_cmp p pk) ≡ t → is_lt (text_cmp p pk) ≡ true
    by_test true e = e
    by_test false e =
        let within = (and_parts (all_meet w.partitions pk) (all_meet w.rows rk) h).0 in
        absurd (true≢false (sym (any_small_falls w.partitions pk p e small) ∙ none_small w.partitions pk within))

-- what is at most a key that is left in is not too great
none_great : (ns : List Narrowing) (p key : List ℕ) → is_lt (text_cmp key p) ≡ false → all_meet ns key ≡ true → any_too_great ns p ≡ false
none_great ns p key h m =
    let up = reaches_up_to (record { partitions = ns; rows = [] }) key [] p (and_from (all_meet ns key) true m refl) h in
    (or_parts (any_too_great ns p) (any_fixes_at ns p && false) (flipped (any_too_great ns p || (any_fixes_at ns p && false)) up)).0
  where
    flipped : (t : Bool) → not t ≡ true → t ≡ false
    flipped true e = cc e
    flipped false e = refl

-- what is neither too small nor too great is left in
meets_between : (ns : List Narrowing) (key : List ℕ) → plain ns ≡ true → any_too_small ns key ≡ false → any_too_great ns key ≡ false → all_meet ns key ≡ true
meets_between [] key p s g = refl
meets_between (n ∷ ns) key p s g =
    let plains = and_parts (not (is_not_equal n.operator)) (plain ns) p in
    let smalls = or_parts (small_by n.operator key n.text) (any_too_small ns key) s in
    let greats = or_parts (great_by n.operator key n.text) (any_too_great ns key) g in
    and_from (meets n key) (all_meet ns key)
    (holds_between n.operator (text_cmp key n.text) (flipped (is_not_equal n.operator) plains.0) (sym (small_by-is n.operator key n.text) ∙ smalls.0) (sym (great_by-is n.operator key n.text) ∙ greats.0))
    (meets_between ns key plains.1 smalls.1 greats.1)
  where
    flipped : (t : Bool) → not t ≡ true → t ≡ false
    flipped true e = cc e
    flipped false e = refl

-- ---- one partition

equal_holds : (operator : Operator) (o : Ordering) → is_equal operator ≡ true → operator_holds operator o ≡ true → (is_lower operator ≡ true) × (is_eq o ≡ true)
equal_holds EqualTo o e h = (refl, h)
equal_holds NotEqual o e h = cc e
equal_holds GreaterThan o e h = cc e
equal_holds GreaterOrEqual o e h = cc e
equal_holds LessThan o e h = cc e
equal_holds LessOrEqual o e h = cc e

fixed_low : (ns : List Narrowing) (key : List ℕ) → any_fixes ns ≡ true → all_meet ns key ≡ true → is_lt (text_cmp (lower_corner ns) key) ≡ false
fixed_low [] key f h = cc f
fixed_low (n ∷ ns) key f h = by_cases (λ g k. fixed_low ns key g k) (is_equal n.operator) refl
  where
    parts : (meets n key ≡ true) × (all_meet ns key ≡ true)
    parts = and_parts (meets n key) (all_meet ns key) h

    by_cases : (any_fixes ns ≡ true → all_meet ns key ≡ true → is_lt (text_cmp (lower_corner ns) key) ≡ false) → (t : Bool) → is_equal n.operator ≡ t → is_lt (text_cmp (lower_corner (n ∷ ns)) key) ≡ false
    by_cases others true e =
        let equal = equal_holds n.operator (text_cmp key n.text) e parts.0 in
        lt_alike_right text_cmp_total key n.text (lower_corner (n ∷ ns)) equal.1 ∙ corner_over_text n (lower_corner ns) equal.0
    by_cases others false e =
        le_trans key (lower_corner ns) (greater_corner n (lower_corner ns)) (others (ap (λ (t : Bool). t || any_fixes ns) (sym e) ∙ f) parts.1) (corner_over_corner n (lower_corner ns))

pub lt_first : (a b : Ordering) → is_lt (ordering_then a b) ≡ false → is_lt a ≡ false
lt_first Less b h = h
lt_first Equal b h = refl
lt_first Greater b h = refl

-- a partition that is left in, where one is fixed, is the corner
fixed_same : (ns : List Narrowing) (key : List ℕ) → any_fixes ns ≡ true → all_meet ns key ≡ true → text_cmp (lower_corner ns) key ≡ Equal
fixed_same ns key f h =
    let high = lt_first (text_cmp key (lower_corner ns)) (text_cmp [] []) (starts_low (record { partitions = ns; rows = [] }) key [] (and_from (all_meet ns key) true h refl)) in
    Equal_from_is_eq (text_cmp (lower_corner ns) key) (eq_between text_cmp_total (lower_corner ns) key (fixed_low ns key f h) high)

-- ---- no gaps

-- what is above what is not below
then_lt_from_le : (cp cr sp sr bp br : List ℕ) → is_lt (ordering_then (text_cmp sp cp) (text_cmp sr cr)) ≡ false → is_lt (ordering_then (text_cmp sp bp) (text_cmp sr br)) ≡ true → text_cmp cp bp ≡ Equal → is_lt (text_cmp cr br) ≡ true
then_lt_from_le cp cr sp sr bp br low above same = by_cases (text_cmp sp cp) refl
  where
    tied : text_cmp sp cp ≡ text_cmp sp bp
    tied = text_cmp_total.antisymm sp cp ∙ (ap ordering_reverse (text_cmp_total.congr cp bp sp same) ∙ sym (text_cmp_total.antisymm sp bp))

    by_cases : (o : Ordering) → text_cmp sp cp ≡ o → is_lt (text_cmp cr br) ≡ true
    by_cases Less e = absurd (true≢false (sym (ap (λ (x : Ordering). is_lt (ordering_then x (text_cmp sr cr))) e) ∙ low))
    by_cases Equal e =
        let under = sym (ap (λ (x : Ordering). is_lt (ordering_then x (text_cmp sr cr))) e) ∙ low in
        let over = sym (ap (λ (x : Ordering). is_lt (ordering_then x (text_cmp sr br))) (sym tied ∙ e)) ∙ above in
        lt_from_le text_cmp_total cr sr br under over
    by_cases Greater e = absurd (true≢false (sym above ∙ ap (λ (x : Ordering). is_lt (ordering_then x (text_cmp sr br))) (sym tied ∙ e)))

pub no_gap : (w : WindowView) (sp sr bp br cp cr : List ℕ) → IsRun w
    → is_lt (ordering_then (text_cmp sp (lower_corner w.partitions)) (text_cmp sr (lower_corner w.rows))) ≡ false
    → is_lt (ordering_then (text_cmp sp bp) (text_cmp sr br)) ≡ true
    → below w bp ≡ false
    → is_lt (ordering_then (text_cmp cp bp) (text_cmp cr br)) ≡ false
    → has w cp cr ≡ true → has w bp br ≡ true
no_gap w sp sr bp br cp cr run low above reached high there =
    and_from (all_meet w.partitions bp) (all_meet w.rows br) partition (by_fixed (any_fixes w.partitions) refl)
  where
    parts : (all_meet w.partitions cp ≡ true) × (all_meet w.rows cr ≡ true)
    parts = and_parts (all_meet w.partitions cp) (all_meet w.rows cr) there

    partition : all_meet w.partitions bp ≡ true
    partition = meets_between w.partitions bp run.partitions reached (none_great w.partitions bp cp (lt_first (text_cmp cp bp) (text_cmp cr br) high) parts.0)

    by_fixed : (t : Bool) → any_fixes w.partitions ≡ t → all_meet w.rows br ≡ true
    by_fixed false e = ap (λ (ns : List Narrowing). all_meet ns br) (run.fixed e)
    by_fixed true e =
        let here = fixed_same w.partitions bp e partition in
        let other = fixed_same w.partitions cp e parts.0 in
        let tie : text_cmp cp bp ≡ Equal = sym (text_cmp_total.congr (lower_corner w.partitions) cp bp other) ∙ here in
        let row_high = sym (ap (λ (x : Ordering). is_lt (ordering_then x (text_cmp cr br))) tie) ∙ high in
        meets_between w.rows br run.rows
        (above_corner w.rows br (then_lt_from_le (lower_corner w.partitions) (lower_corner w.rows) sp sr bp br low above here))
        (none_great w.rows br cr row_high parts.1)
