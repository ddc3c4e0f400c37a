-- Why operations make no group, item by item.
use Rattle.std.proofs.Common.{◌≡◌, ℕ, ◌+◌, ◌<◌, ◌≤◌, List, [], ◌∷◌, ◌++◌, Bool, true, false, ◌||◌, cond, length, get_or, take, drop, refl, sym, ap, subst, ◌∙◌, arith}
use Rattle.std.specs.Prelude.{Some, None, All, IsFalse, bytes_eq, slice_get}
use Rattle.std.specs.List.{list_any}
use Rattle.std.specs.Option.{option_or}
use Rattle.std.specs.Ordering.{is_eq}
use Rattle.std.specs.Cmp.Lexicographic.{texts_ties, bytes_decides}
use Rattle.std.proofs.lemmas.Bool.{lt-ltb, le-ltb}
use Rattle.std.proofs.lemmas.Option.{none-some, same_Some}
use Rattle.std.proofs.lemmas.List.{drop_more, drop_all, take_more}
use Rattle.std.proofs.lemmas.List.Folds.{list_any_more}
use Rattle.std.proofs.lemmas.List.Quantifiers.{all_pairs_push}
use Rattle.tab_keys.specs.Order.{name_cmp, text_cmp}
use Rattle.tab_keys.specs.TableNames.{folded}
use Rattle.tab_ops.specs.Groups.{ItemView, is_beside, first_elsewhere, first_doubled, most_items, group_refusal, AreApart, IsGroup}
use Rattle.tab_ops.specs.declared.groups.GroupRefused.{GroupRefused}
use Rattle.tab_ops.specs.declared.groups.GroupRefused.TheVariants.{Empty, TooMany, MixedPartitions, DoubledRow}

pub same_name : (a b : List ℕ) → is_eq (name_cmp a b) ≡ bytes_eq (folded a) (folded b)
unfolding name_cmp
same_name a b = sym (texts_ties (folded a) (folded b))

module _ (items : List ItemView) (i : ℕ) (item : ItemView) (within : i < length items) (here : item ≡ get_or items i item) where
  behind : drop i items ≡ item ∷ drop (i + 1) items
  behind = drop_more items i item within ∙ ap (λ x. x ∷ drop (i + 1) items) (sym here)

  pub beside_passes : (first : ItemView) → is_beside first item ≡ true → first_elsewhere i first (drop i items) ≡ first_elsewhere (i + 1) first (drop (i + 1) items)
  beside_passes first h = ap (first_elsewhere i first) behind ∙ ap (λ b. cond b (first_elsewhere (i + 1) first (drop (i + 1) items)) (Some (MixedPartitions i))) h

  pub elsewhere_stops : (first : ItemView) → is_beside first item ≡ false → first_elsewhere i first (drop i items) ≡ Some (MixedPartitions i)
  elsewhere_stops first h = ap (first_elsewhere i first) behind ∙ ap (λ b. cond b (first_elsewhere (i + 1) first (drop (i + 1) items)) (Some (MixedPartitions i))) h

  pub own_passes : (before : List (List ℕ)) → list_any (λ rk. bytes_eq rk item.rk) before ≡ false → first_doubled i before (drop i items) ≡ first_doubled (i + 1) (item.rk ∷ before) (drop (i + 1) items)
  own_passes before h = ap (first_doubled i before) behind ∙ ap (λ b. cond b (Some (DoubledRow i)) (first_doubled (i + 1) (item.rk ∷ before) (drop (i + 1) items))) h

  pub doubled_stops : (before : List (List ℕ)) → list_any (λ rk. bytes_eq rk item.rk) before ≡ true → first_doubled i before (drop i items) ≡ Some (DoubledRow i)
  doubled_stops before h = ap (first_doubled i before) behind ∙ ap (λ b. cond b (Some (DoubledRow i)) (first_doubled (i + 1) (item.rk ∷ before) (drop (i + 1) items))) h

-- no item up to this index has a row key that stood before
pub record Looked (items : List ItemView) (i : ℕ) : Type 0 where
  pub before : List (List ℕ)
  pub same : (rk : List ℕ) → list_any (λ other. bytes_eq other rk) before ≡ list_any (λ other. bytes_eq other.rk rk) (take i items)
  pub so_far : first_doubled 0 [] items ≡ first_doubled i before (drop i items)

pub looked_none : (items : List ItemView) → Looked items 0
looked_none items = record { before = []; same = λ rk. refl; so_far = refl }

or_turned : (a b : Bool) → (a || b) ≡ (b || a)
or_turned true true = refl
or_turned true false = refl
or_turned false true = refl
or_turned false false = refl

pub looked_more : (items : List ItemView) (i : ℕ) (item : ItemView) → i < length items → item ≡ get_or items i item → list_any (λ other. bytes_eq other.rk item.rk) (take i items) ≡ false → Looked items i → Looked items (i + 1)
looked_more items i item within here none looked = record {
  before = item.rk ∷ looked.before;
  same = λ rk. ap (λ b. bytes_eq item.rk rk || b) (looked.same rk)
      ∙ (or_turned (bytes_eq item.rk rk) (list_any (λ other. bytes_eq other.rk rk) (take i items))
      ∙ (ap (λ (x : ItemView). list_any (λ other. bytes_eq other.rk rk) (take i items) || bytes_eq x.rk rk) here
      ∙ sym (list_any_more (λ other. bytes_eq other.rk rk) items i item within)));
  so_far = looked.so_far ∙ own_passes items i item within here looked.before (looked.same item.rk ∙ none);
}

pub looked_stops : (items : List ItemView) (i : ℕ) (item : ItemView) → i < length items → item ≡ get_or items i item → list_any (λ other. bytes_eq other.rk item.rk) (take i items) ≡ true → Looked items i → first_doubled 0 [] items ≡ Some (DoubledRow i)
looked_stops items i item within here found looked = looked.so_far ∙ doubled_stops items i item within here looked.before (looked.same item.rk ∙ found)

pub looked_all : (items : List ItemView) (i : ℕ) → length items ≤ i → Looked items i → first_doubled 0 [] items ≡ None
looked_all items i end looked = looked.so_far ∙ ap (first_doubled i looked.before) (drop_all i items end)

-- one item more has a row key of its own
pub apart_more : (items : List ItemView) (i : ℕ) (item : ItemView) → i < length items → item ≡ get_or items i item → All (λ other. IsFalse (is_eq (text_cmp other.rk item.rk))) (take i items) → AreApart (take i items) → AreApart (take (i + 1) items)
apart_more items i item within here own apart =
    subst AreApart (sym (take_more items i item within ∙ ap (λ x. take i items ++ x ∷ []) (sym here)))
    (all_pairs_push (λ a b. IsFalse (is_eq (text_cmp a.rk b.rk))) (take i items) item apart own)

pub elsewhere_none : (first : ItemView) (items : List ItemView) (i : ℕ) → length items ≤ i → first_elsewhere 0 first items ≡ first_elsewhere i first (drop i items) → first_elsewhere 0 first items ≡ None
elsewhere_none first items i end so_far = so_far ∙ ap (first_elsewhere i first) (drop_all i items end)

-- ---- the refusal of a whole group

pub refusal_none : (items : List ItemView) → slice_get items 0 ≡ None → group_refusal items ≡ Some Empty
unfolding group_refusal
refusal_none [] e = refl
refusal_none (first ∷ items) e = absurd (none-some first (sym e))

pub refusal_many : (items : List ItemView) → most_items < length items → group_refusal items ≡ Some TooMany
unfolding group_refusal
refusal_many [] many = absurd (omega arith)
refusal_many (first ∷ items) many = rw (lt-ltb most_items (length (first ∷ items)) many) refl

refusal_few : (items : List ItemView) (first : ItemView) → slice_get items 0 ≡ Some first → length items ≤ most_items → group_refusal items ≡ option_or (first_elsewhere 0 first items) (first_doubled 0 [] items)
unfolding group_refusal
refusal_few [] first here few = absurd (none-some first here)
refusal_few (head ∷ items) first here few = rw (same_Some head first here, le-ltb most_items (length (head ∷ items)) few) refl

pub refusal_first : (items : List ItemView) (first : ItemView) (why : GroupRefused) → slice_get items 0 ≡ Some first → length items ≤ most_items → first_elsewhere 0 first items ≡ Some why → group_refusal items ≡ Some why
refusal_first items first why here few e = refusal_few items first here few ∙ ap (λ o. option_or o (first_doubled 0 [] items)) e

pub refusal_last : (items : List ItemView) (first : ItemView) → slice_get items 0 ≡ Some first → length items ≤ most_items → first_elsewhere 0 first items ≡ None → group_refusal items ≡ first_doubled 0 [] items
refusal_last items first here few e = refusal_few items first here few ∙ ap (λ o. option_or o (first_doubled 0 [] items)) e

-- one operation makes a group
pub IsGroup-one : (item : ItemView) → IsGroup (item ∷ [])
unfolding group_refusal
IsGroup-one item = record {
  allowed = ap (λ b. option_or (cond b None (Some (MixedPartitions 0))) None) beside;
  apart = λ i j d below within. absurd (omega arith);
}
  where
    beside : is_beside item item ≡ true
    beside = rw ((bytes_decides (folded item.name) (folded item.name)).1 refl, (bytes_decides item.pk item.pk).1 refl) refl
