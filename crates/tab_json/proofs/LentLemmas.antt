-- Members that are lent from a tree, and numbers that are lent from a text.
use Rattle.std.proofs.Common.{◌≡◌, ℕ, ◌+◌, ◌^◌, ◌<◌, ◌≤◌, ℤ, pos, negsuc, List, [], ◌∷◌, length, get_or, take, drop, Result, Ok, Err, Option, None, IfOk, IfSome, sym, subst, String, Global, Less, Some, string_bytes, string_cmp, FitsSigned, w64, ap, ◌∙◌, arith}
use Rattle.std.specs.Prelude.{insert}
use Rattle.std.specs.List.{AllByRecursion}
use Rattle.std.specs.List.Sorted.{IsStrictlySortedBy}
use Rattle.std.specs.Map.{keys_of}
use Rattle.std.specs.Fmt.{signed_decimal}
use Rattle.std.proofs.lemmas.List.{drop_more, drop_all}
use Rattle.std.proofs.lemmas.List.Elements.{All-append, All-cons, All-take, All-drop}
use Rattle.serde_json.specs.Data.{no_members, member}
use Rattle.serde_json.specs.Find.{of_integer}
use Rattle.serde_json.specs.Read.{number_of}
use Rattle.serde_json.specs.View.{members_view}
use Rattle.serde_json.specs.declared.value.Value.{Value as Json}
use Rattle.serde_json.proofs.Numbers.{number_of-decimal, number_of-negative}
use Rattle.tab_json.specs.Lent.{lent_data, lent_members, IsPlain, AreLent}
use Rattle.tab_json.specs.Slots.{name_text, BelongsAt}
use Rattle.tab_json.specs.declared.lent.Lent.{Lent}
use Rattle.tab_json.specs.declared.slots.Slot.{Slot}
use Rattle.tab_json.proofs.SlotLemmas.{rising_belongs}
use Rattle.tab_json.proofs.FlatObjects.{Above, IsSorted, puts, puts_behind, under_none}

above_tree : (key : String Global) (es : List (String Global × Json)) → AllByRecursion (λ other. string_cmp key other ≡ Less) (keys_of es) → Above (string_bytes key) (members_view es)
above_tree key [] h = tt
above_tree key (e ∷ es) h = (h.0, above_tree key es h.1)

tree_sorted : (es : List (String Global × Json)) → IsStrictlySortedBy string_cmp (keys_of es) → IsSorted (members_view es)
unfolding IsStrictlySortedBy
tree_sorted [] sorted = tt
tree_sorted (e ∷ es) sorted = (above_tree e.0 es sorted.0, tree_sorted es sorted.1)

-- the members of a tree, put one after another, are just they
pub tree_again : (es : List (String Global × Json)) → IsStrictlySortedBy string_cmp (keys_of es) → puts (members_view es) no_members ≡ members_view es
tree_again es sorted = puts_behind (members_view es) no_members (tree_sorted es sorted) (under_none (members_view es))

-- the members that are left, the first of them apart
pub left_with : (slots : List (Slot Lent)) (i : ℕ) (s : Slot Lent) → i < length slots → s ≡ get_or slots i s
    → lent_members (drop i slots) ≡ member (name_text s.name) (lent_data s.value) (lent_members (drop (i + 1) slots))
left_with slots i s within is = ap lent_members (drop_more slots i s within ∙ ap (λ (x : Slot Lent). x ∷ drop (i + 1) slots) (sym is))

pub none_left : (slots : List (Slot Lent)) (i : ℕ) → length slots ≤ i → lent_members (drop i slots) ≡ no_members
none_left slots i past = ap lent_members (drop_all i slots past)

-- one more member is lent
pub lent_belongs : (slots : List (Slot Lent)) (slot : Slot Lent) (place : ℕ) → AreLent slots → IsPlain slot.name → BelongsAt slots slot.name place → AreLent (insert slots place slot)
lent_belongs slots slot place are plain h = record {
  rising = rising_belongs slots slot place are.rising h;
  plain = All-append (λ (s : Slot Lent). IsPlain s.name) (take place slots) (slot ∷ drop place slots) (All-take (λ (s : Slot Lent). IsPlain s.name) place slots are.plain)
      (All-cons (λ (s : Slot Lent). IsPlain s.name) slot (drop place slots) plain (All-drop (λ (s : Slot Lent). IsPlain s.name) place slots are.plain));
}

-- what is known of what is found
pub known_found : {X : Type 0} (P : X → Type 0) (o : Option X) (x : X) → o ≡ Some x → IfSome o P → P x
known_found P (Some y) x is h = let same : y ≡ x = cc in subst P same h
known_found P None x is h = absurd (cc)

-- what is found, if it is found
pub found_weaker : {X E : Type 0} (P Q : X → Type 0) (r : Result (Option X) E) → ((x : X) → P x → Q x) → IfOk r (λ o. IfSome o P) → IfOk r (λ o. IfSome o Q)
found_weaker P Q (Ok (Some x)) f h = f x h
found_weaker P Q (Ok None) f h = tt
found_weaker P Q (Err e) f h = tt

-- a whole number in its decimal text
decimal_number : (z : ℤ) → FitsSigned w64 z → number_of (signed_decimal z) ≡ Some (of_integer z)
decimal_number (pos n) fits =
    let small : n < 2 ^ 63 = fits.sfits in
    let wide : n < 2 ^ 64 = omega (arith, small) in
    number_of-decimal n wide
decimal_number (negsuc n) fits =
    let small : n < 2 ^ 63 = fits.sfits in
    number_of-negative n small

pub whole_number : (text : List ℕ) (z : ℤ) → (text ≡ signed_decimal z) × FitsSigned w64 z → number_of text ≡ Some (of_integer z)
whole_number text z is = ap number_of is.0 ∙ decimal_number z is.1
