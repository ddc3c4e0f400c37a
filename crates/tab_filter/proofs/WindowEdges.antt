-- No key of a window lies below its lower corner, and it reaches each partition up to that of a key that it has.
use Rattle.std.proofs.Common.{◌≡◌, ℕ, List, [], ◌∷◌, true, false, cond, not, ◌&&◌, refl, ap, sym, ◌∙◌}
use Rattle.std.proofs.lemmas.Bool.{and_parts, and_right, or_from, true≢false}
use Rattle.std.specs.declared.cmp.Ordering.{Ordering}
use Rattle.std.specs.declared.cmp.Ordering.TheVariants.{Less, Equal, Greater}
use Rattle.std.specs.Ordering.{ordering_then, ordering_reverse, is_eq, is_lt, is_gt, is_le, is_ge}
use Rattle.tab_keys.specs.Order.{text_cmp}
use Rattle.tab_keys.specs.TotalOrders.{text_cmp_total}
use Rattle.tab_keys.proofs.OrderLaws.{text_cmp-nil}
use Rattle.tab_filter.specs.declared.trees.Operator.{Operator}
use Rattle.tab_filter.specs.declared.trees.Operator.TheVariants.{Equal as EqualTo, NotEqual, Greater as GreaterThan, GreaterOrEqual, Less as LessThan, LessOrEqual}
use Rattle.tab_filter.specs.declared.window.Narrowing.{Narrowing}
use Rattle.tab_filter.specs.Truth.{operator_holds}
use Rattle.tab_filter.specs.Windows.{WindowView, has, all_meet, lower_corner, is_lower, great_by, any_too_great, any_fixes_at, reaches}

-- ---- the lower corner
lower_meets : (operator : Operator) (o : Ordering) → is_lower operator ≡ true → operator_holds operator o ≡ true → is_lt o ≡ false
lower_meets EqualTo Less l h = sym h
lower_meets EqualTo Equal l h = refl
lower_meets EqualTo Greater l h = refl
lower_meets GreaterThan Less l h = sym h
lower_meets GreaterThan Equal l h = refl
lower_meets GreaterThan Greater l h = refl
lower_meets GreaterOrEqual Less l h = sym h
lower_meets GreaterOrEqual Equal l h = refl
lower_meets GreaterOrEqual Greater l h = refl
lower_meets NotEqual o l h = absurd (true≢false (sym l))
lower_meets LessThan o l h = absurd (true≢false (sym l))
lower_meets LessOrEqual o l h = absurd (true≢false (sym l))

corner_low : (ns : List Narrowing) (key : List ℕ) → all_meet ns key ≡ true → is_lt (text_cmp key (lower_corner ns)) ≡ false
corner_low [] key h = text_cmp-nil key
corner_low (n ∷ ns) key h =
    let parts = and_parts (operator_holds n.operator (text_cmp key n.text)) (all_meet ns key) h in
    elim (is_lower n.operator && is_gt (text_cmp n.text (lower_corner ns))) as (λ v. (is_lower n.operator && is_gt (text_cmp n.text (lower_corner ns))) ≡ v → is_lt (text_cmp key (cond v n.text (lower_corner ns))) ≡ false) [
      | true ↦ λ e. lower_meets n.operator (text_cmp key n.text) (and_parts (is_lower n.operator) (is_gt (text_cmp n.text (lower_corner ns))) e).0 parts.0
      | false ↦ λ e. corner_low ns key parts.1
    ] refl

not_below : (a b : Ordering) → is_lt a ≡ false → is_lt b ≡ false → is_lt (ordering_then a b) ≡ false
not_below Less b h k = h
not_below Equal b h k = k
not_below Greater b h k = refl

pub starts_low : (w : WindowView) (pk rk : List ℕ) → has w pk rk ≡ true → is_lt (ordering_then (text_cmp pk (lower_corner w.partitions)) (text_cmp rk (lower_corner w.rows))) ≡ false
starts_low w pk rk h =
    let parts = and_parts (all_meet w.partitions pk) (all_meet w.rows rk) h in
    not_below (text_cmp pk (lower_corner w.partitions)) (text_cmp rk (lower_corner w.rows)) (corner_low w.partitions pk parts.0) (corner_low w.rows rk parts.1)

-- ---- the upper edge
lt_no_ge : (o : Ordering) → is_lt o ≡ true → is_ge o ≡ false
lt_no_ge Less l = refl
lt_no_ge Equal l = sym l
lt_no_ge Greater l = absurd (true≢false (sym l))

-- what is at most a key compares with a third text no greater than the key does
no_greater : (p key t : List ℕ) → is_lt (text_cmp key p) ≡ false → (is_gt (text_cmp key t) ≡ false → is_gt (text_cmp p t) ≡ false) × (is_lt (text_cmp key t) ≡ true → is_ge (text_cmp p t) ≡ false)
no_greater p key t h = by_order (text_cmp p key) refl
  where
    reversed : (x y : Ordering) → y ≡ ordering_reverse x → x ≡ ordering_reverse y
    reversed Less y e = sym (ap ordering_reverse e)
    reversed Equal y e = sym (ap ordering_reverse e)
    reversed Greater y e = sym (ap ordering_reverse e)

    by_order : (o : Ordering) → text_cmp p key ≡ o → (is_gt (text_cmp key t) ≡ false → is_gt (text_cmp p t) ≡ false) × (is_lt (text_cmp key t) ≡ true → is_ge (text_cmp p t) ≡ false)
    by_order Equal e =
        let same = text_cmp_total.congr p key t e in (λ g. ap is_gt same ∙ g, λ l. ap is_ge same ∙ lt_no_ge (text_cmp key t) l)
    by_order Greater e = absurd (true≢false (sym (ap is_lt (text_cmp_total.antisymm key p ∙ ap ordering_reverse e)) ∙ h))
    by_order Less e = by_third (text_cmp key t) refl
      where
        less_all : text_cmp p t ≡ Less → (is_gt (text_cmp key t) ≡ false → is_gt (text_cmp p t) ≡ false) × (is_lt (text_cmp key t) ≡ true → is_ge (text_cmp p t) ≡ false)
        less_all f = (λ g. ap is_gt f, λ l. ap is_ge f)

        by_third : (o : Ordering) → text_cmp key t ≡ o → (is_gt (text_cmp key t) ≡ false → is_gt (text_cmp p t) ≡ false) × (is_lt (text_cmp key t) ≡ true → is_ge (text_cmp p t) ≡ false)
        by_third Less f = less_all (text_cmp_total.trans p key t e f)
        by_third Equal f =
            less_all (text_cmp_total.antisymm p t ∙ ap ordering_reverse (sym (text_cmp_total.congr key t p f) ∙ text_cmp_total.antisymm key p ∙ ap ordering_reverse e))
        by_third Greater f = (λ g. absurd (true≢false (sym (ap is_gt f) ∙ g)), λ l. absurd (true≢false (sym l ∙ ap is_lt f)))

eq_no_gt : (o : Ordering) → is_eq o ≡ true → is_gt o ≡ false
eq_no_gt Less h = refl
eq_no_gt Equal h = refl
eq_no_gt Greater h = sym h

le_no_gt : (o : Ordering) → is_le o ≡ true → is_gt o ≡ false
le_no_gt Less h = refl
le_no_gt Equal h = refl
le_no_gt Greater h = sym h

not_great : (operator : Operator) (p key t : List ℕ) → is_lt (text_cmp key p) ≡ false → operator_holds operator (text_cmp key t) ≡ true → great_by operator p t ≡ false
not_great EqualTo p key t h m = (no_greater p key t h).0 (eq_no_gt (text_cmp key t) m)
not_great LessOrEqual p key t h m = (no_greater p key t h).0 (le_no_gt (text_cmp key t) m)
not_great LessThan p key t h m = (no_greater p key t h).1 m
not_great NotEqual p key t h m = refl
not_great GreaterThan p key t h m = refl
not_great GreaterOrEqual p key t h m = refl

pub none_great : (ns : List Narrowing) (p key : List ℕ) → is_lt (text_cmp key p) ≡ false → all_meet ns key ≡ true → any_too_great ns p ≡ false
none_great [] p key h m = refl
none_great (n ∷ ns) p key h m =
    let parts = and_parts (operator_holds n.operator (text_cmp key n.text)) (all_meet ns key) m in
    or_from (great_by n.operator p n.text) (any_too_great ns p) (not_great n.operator p key n.text h parts.0) (none_great ns p key h parts.1)

pub reaches_up_to : (w : WindowView) (pk rk p : List ℕ) → has w pk rk ≡ true → is_lt (text_cmp pk p) ≡ false → reaches w p ≡ true
reaches_up_to w pk rk p h below =
    let parts = and_parts (all_meet w.partitions pk) (all_meet w.rows rk) h in
    ap not (or_from (any_too_great w.partitions p) (any_fixes_at w.partitions p && any_too_great w.rows []) (none_great w.partitions p pk below parts.0) (and_right (any_fixes_at w.partitions p) (any_too_great w.rows []) (none_great w.rows [] rk (text_cmp-nil rk) parts.1)))
