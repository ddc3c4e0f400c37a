-- The orders of texts, names, keys and bounds are total.
use Rattle.std.proofs.Common.{◌≡◌, refl, ap}
use Rattle.std.proofs.lemmas.Bool.{true≢false}
use Rattle.std.specs.declared.cmp.Ordering.TheVariants.{Less, Equal}
use Rattle.std.specs.Cmp.{IsTotalOrder}
use Rattle.std.specs.Ordering.{ordering_reverse, is_lt, is_gt}
use Rattle.std.proofs.lemmas.Cmp.{nat_cmp_total, nat_list_cmp_total, on_total, then_total}
use Rattle.tab_keys.specs.declared.keys.Key.{Key}
use Rattle.tab_keys.specs.declared.bounds.Bound.{Bound}
use Rattle.tab_keys.specs.declared.bounds.Bound.TheVariants.{At, End}
use Rattle.tab_keys.specs.KeyTexts.{units_of}
use Rattle.tab_keys.specs.TableNames.{folded}
use Rattle.tab_keys.specs.Order.{text_cmp, name_cmp, key_cmp, bound_cmp, head_key}

pub text_cmp_total : IsTotalOrder text_cmp
unfolding text_cmp
text_cmp_total = on_total units_of nat_list_cmp_total

pub name_cmp_total : IsTotalOrder name_cmp
unfolding name_cmp
name_cmp_total = on_total folded nat_list_cmp_total

pub key_cmp_total : IsTotalOrder key_cmp
unfolding key_cmp
key_cmp_total =
    then_total (on_total (λ (key : Key). key.table) nat_cmp_total)
    (then_total (on_total (λ (key : Key). key.pk) text_cmp_total) (on_total (λ (key : Key). key.rk) text_cmp_total))

bound_antisymm : (a b : Bound) → bound_cmp a b ≡ ordering_reverse (bound_cmp b a)
bound_antisymm (At t p) (At u q) = key_cmp_total.antisymm (head_key t p) (head_key u q)
bound_antisymm (At t p) End = refl
bound_antisymm End (At u q) = refl
bound_antisymm End End = refl

bound_trans : (a b c : Bound) → bound_cmp a b ≡ Less → bound_cmp b c ≡ Less → bound_cmp a c ≡ Less
bound_trans (At t p) (At u q) (At v r) h k = key_cmp_total.trans (head_key t p) (head_key u q) (head_key v r) h k
bound_trans (At t p) (At u q) End h k = refl
bound_trans (At t p) End (At v r) h k = absurd (true≢false (ap is_gt k))
bound_trans (At t p) End End h k = refl
bound_trans End (At u q) c h k = absurd (true≢false (ap is_gt h))
bound_trans End End c h k = k

bound_congr : (a b c : Bound) → bound_cmp a b ≡ Equal → bound_cmp a c ≡ bound_cmp b c
bound_congr (At t p) (At u q) (At v r) h = key_cmp_total.congr (head_key t p) (head_key u q) (head_key v r) h
bound_congr (At t p) (At u q) End h = refl
bound_congr (At t p) End c h = absurd (true≢false (ap is_lt h))
bound_congr End (At u q) c h = absurd (true≢false (ap is_gt h))
bound_congr End End c h = refl

pub bound_cmp_total : IsTotalOrder bound_cmp
bound_cmp_total = record { antisymm = bound_antisymm; trans = bound_trans; congr = bound_congr }
