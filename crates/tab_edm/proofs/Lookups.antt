-- A search by name in a rising list finds the property that has the name.
use Rattle.std.proofs.Common.{◌≡◌, ℕ, ◌+◌, ◌<◌, List, [], ◌∷◌, ◌⊎◌, length, get_or, Bool, true, false, IsTrue, Some, None, inl, inr, refl, sym, ap, subst, ◌∙◌, arith}
use Rattle.std.proofs.lemmas.Bool.{false_from_ne_true, cases_lt}
use Rattle.std.proofs.lemmas.Cmp.{nat_list_cmp_total}
use Rattle.std.proofs.lemmas.List.Recursion.{found_at, found_nowhere}
use Rattle.std.proofs.lemmas.List.Sorted.{searchable_from_sorted}
use Rattle.std.proofs.lemmas.Map.Text.{is_eq-slice_cmp}
use Rattle.std.specs.Prelude.{bytes_eq}
use Rattle.std.specs.Cmp.Lexicographic.{slice_cmp, bytes_decides}
use Rattle.std.specs.List.Sorted.{IsSortedBy, IsNonDecreasingBy, IsPartitionPoint}
use Rattle.std.specs.Ordering.{is_lt, is_eq, nat_cmp, ordering_index}
use Rattle.std.specs.declared.cmp.Ordering.{Ordering}
use Rattle.std.specs.declared.cmp.Ordering.TheVariants.{Less, Equal, Greater}
use Rattle.tab_edm.specs.declared.values.Property.{Property}
use Rattle.tab_edm.specs.Entities.{name_lt, IsRising, value_of}
use Rattle.tab_edm.proofs.Order.{name_order, not_below_itself}

-- how a property's name stands to a name that is looked for
abbrev pub against : List ℕ → Property → Ordering
against name p = slice_cmp nat_cmp p.name name

has_name : (name : List ℕ) (p : Property) (b : Bool) → is_eq (against name p) ≡ b → bytes_eq p.name name ≡ b
has_name name p b e = sym (is_eq-slice_cmp p.name name) ∙ e

-- the property that a search finds is the first with its name
pub value_of-found : (name : List ℕ) (ps : List Property) (i : ℕ) (d : Property) → IsRising ps → i < length ps → against name (get_or ps i d) ≡ Equal → Some (get_or ps i d).value ≡ value_of name ps
unfolding value_of
value_of-found name ps i d rising h e =
    let here : bytes_eq (get_or ps i d).name name ≡ true = has_name name (get_or ps i d) true (ap is_eq e) in
    let same = (bytes_decides (get_or ps i d).name name).0 here in
    sym (found_at (value_of name) (λ p. bytes_eq p.name name) (λ p. Some p.value) None refl (λ _ _. refl) ps i d h
    (λ k low. false_from_ne_true _ (λ also.
    let twice : (get_or ps k d).name ≡ (get_or ps i d).name = (bytes_decides (get_or ps k d).name name).0 also ∙ sym same in
    not_below_itself (get_or ps i d) (subst (λ (text : List ℕ). IsTrue (is_lt (slice_cmp nat_cmp text (get_or ps i d).name))) twice (rising k i d low h))))
    here)

-- names that rise are sorted as a search asks it
pub searchable : (name : List ℕ) (ps : List Property) → IsRising ps → IsNonDecreasingBy (λ p. ordering_index (against name p)) ps
searchable name ps rising =
    let sorted : IsSortedBy name_lt ps = λ k d low h. name_order.one_way (get_or ps k d) (get_or ps (k + 1) d) (rising k (k + 1) d (omega arith) h) in
    searchable_from_sorted nat_list_cmp_total (λ (p : Property). p.name) ps name sorted

not_equal : (name : List ℕ) (p : Property) → (against name p ≡ Less) ⊎ (against name p ≡ Greater) → bytes_eq p.name name ≡ false
not_equal name p (inl e) = has_name name p false (ap is_eq e)
not_equal name p (inr e) = has_name name p false (ap is_eq e)

-- where all names stand below or above, no property has the name
pub value_of-missing : (name : List ℕ) (ps : List Property) (i : ℕ) → IsPartitionPoint (λ p. against name p ≡ Less) (λ p. against name p ≡ Greater) ps i → None ≡ value_of name ps
unfolding value_of
value_of-missing name [] i (below, above) = refl
value_of-missing name (p ∷ ps) i (below, above) =
    sym (found_nowhere (value_of name) (λ q. bytes_eq q.name name) (λ q. Some q.value) None refl (λ _ _. refl) (p ∷ ps) p
    (λ k h. not_equal name (get_or (p ∷ ps) k p) (elim (cases_lt k i) [ inl low ↦ inl (below k p (omega arith) low) | inr high ↦ inr (above k p high h) ])))

-- the same, as a search tells it of a list that was lent
pub search_found : (name : List ℕ) (ps lent : List Property) (i : ℕ) (p : Property) → lent ≡ ps → IsRising ps → i < length lent → ((d : Property) → against name (get_or lent i d) ≡ Equal) → p ≡ get_or ps i p → Some p.value ≡ value_of name ps
search_found name ps lent i p same rising h equal here =
    rw here (value_of-found name ps i p rising (rw same at h) (rw same at (equal p)))

pub search_missed : (name : List ℕ) (ps lent : List Property) (i : ℕ) → lent ≡ ps → IsRising ps → (IsNonDecreasingBy (λ p. ordering_index (against name p)) lent → IsPartitionPoint (λ p. against name p ≡ Less) (λ p. against name p ≡ Greater) lent i) → None ≡ value_of name ps
search_missed name ps lent i same rising parted =
    let own : IsRising lent = rw same rising in
    rw (← same) (value_of-missing name lent i (parted (searchable name lent own)))
