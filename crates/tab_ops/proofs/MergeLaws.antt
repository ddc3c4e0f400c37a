-- What merges give, name by name, and why they are refused.
use Rattle.std.proofs.Common.{◌≡◌, ℕ, inl, inr, List, [], ◌∷◌, ◌++◌, Bool, true, false, cond, filter, length, refl, sym, ap, subst, ◌∙◌}
use Rattle.std.specs.Prelude.{Option, Some, None, Result, Ok, Err, IsTrue, bytes_eq, nat_lt, is_none}
use Rattle.std.specs.Option.{option_or}
use Rattle.std.specs.Ordering.{is_lt, is_eq, nat_cmp, ordering_reverse}
use Rattle.std.specs.Cmp.Lexicographic.{slice_cmp, bytes_decides}
use Rattle.std.proofs.lemmas.Bool.{true≢false}
use Rattle.std.proofs.lemmas.Map.Text.{is_eq-slice_cmp}
use Rattle.std.proofs.lemmas.Cmp.{nat_list_cmp_total}
use Rattle.std.specs.declared.cmp.Ordering.{Ordering}
use Rattle.std.specs.declared.cmp.Ordering.TheVariants.{Less, Equal, Greater}
use Rattle.tab_edm.specs.Entities.{EntityView, name_lt, IsRising, entity_size, value_of}
use Rattle.tab_edm.specs.declared.values.Property.{Property}
use Rattle.tab_edm.specs.declared.values.Value.{Value}
use Rattle.tab_edm.proofs.Order.{not_below_itself}
use Rattle.tab_rows.proofs.Lists.{AllPairs-head, AllPairs-tail}
use Rattle.tab_ops.specs.Changes.{with_property, merged, within_limits, merge_outcome}
use Rattle.tab_ops.specs.Laws.{MakesMerge, IsPastLimits}
use Rattle.tab_ops.specs.declared.groups.OpRefused.{OpRefused}
use Rattle.tab_ops.specs.declared.groups.OpRefused.TheVariants.{TooMany, TooLarge}
use Rattle.tab_ops.proofs.Properties.{below_kept, merged_rising}

-- ---- limits

past_limits : (index : ℕ) (entity : EntityView) (why : OpRefused) → within_limits index entity ≡ Err why → IsPastLimits index why
past_limits index entity why h =
    by_tests (nat_lt 252 (length entity.properties)) (nat_lt 1_048_576 (entity_size entity.pk_units entity.rk_units entity.properties)) h
  where
    by_tests : (many large : Bool) → ◌≡◌ {A = Result (Option EntityView) OpRefused} (cond many (Err (TooMany index)) (cond large (Err (TooLarge index)) (Ok (Some entity)))) (Err why) → IsPastLimits index why
    by_tests true large e =
        let same : TooMany index ≡ why = cc e in
        inl (sym same)
    by_tests false true e =
        let same : TooLarge index ≡ why = cc e in
        inr (sym same)
    by_tests false false e = cc e

within : (index : ℕ) (entity : EntityView) (outcome : Option EntityView) → within_limits index entity ≡ Ok outcome → outcome ≡ Some entity
within index entity outcome h =
    by_tests (nat_lt 252 (length entity.properties)) (nat_lt 1_048_576 (entity_size entity.pk_units entity.rk_units entity.properties)) h
  where
    by_tests : (many large : Bool) → ◌≡◌ {A = Result (Option EntityView) OpRefused} (cond many (Err (TooMany index)) (cond large (Err (TooLarge index)) (Ok (Some entity)))) (Ok outcome) → outcome ≡ Some entity
    by_tests true large e = cc e
    by_tests false true e = cc e
    by_tests false false e =
        let same : Some entity ≡ outcome = cc e in
        sym same

pub refused_past_limits : (index : ℕ) (kept given : EntityView) (why : OpRefused) → merge_outcome index kept given ≡ Err why → IsPastLimits index why
unfolding merge_outcome
refused_past_limits index kept given why h = past_limits index (record given { properties = merged kept.properties given.properties }) why h

-- ---- values by name

value_append : (name : List ℕ) (xs ys : List Property) → value_of name (xs ++ ys) ≡ option_or (value_of name xs) (value_of name ys)
unfolding value_of
value_append name [] ys = refl
value_append name (p ∷ xs) ys = by_test (bytes_eq p.name name) (value_append name xs ys)
  where
    by_test : (test : Bool) → value_of name (xs ++ ys) ≡ option_or (value_of name xs) (value_of name ys)
        → cond test (Some p.value) (value_of name (xs ++ ys)) ≡ option_or (cond test (Some p.value) (value_of name xs)) (value_of name ys)
    by_test true later = refl
    by_test false later = later

-- a test that all properties of a name pass
value_passed : (name : List ℕ) (t : Property → Bool) (ps : List Property) → ((q : Property) → bytes_eq q.name name ≡ true → t q ≡ true) → value_of name (filter t ps) ≡ value_of name ps
unfolding value_of
value_passed name t [] h = refl
value_passed name t (p ∷ ps) h = by_tests (bytes_eq p.name name) (t p) refl refl (value_passed name t ps h)
  where
    by_tests : (here passes : Bool) → bytes_eq p.name name ≡ here → t p ≡ passes → value_of name (filter t ps) ≡ value_of name ps → value_of name (filter t (p ∷ ps)) ≡ value_of name (p ∷ ps)
    by_tests true true e f later = rw f (rw e refl)
    by_tests true false e f later = absurd (true≢false (sym (h p e) ∙ f))
    by_tests false true e f later = rw f (rw e later)
    by_tests false false e f later = rw f (rw e later)

-- and one that none of them passes
value_stopped : (name : List ℕ) (t : Property → Bool) (ps : List Property) → ((q : Property) → bytes_eq q.name name ≡ true → t q ≡ false) → value_of name (filter t ps) ≡ None
unfolding value_of
value_stopped name t [] h = refl
value_stopped name t (p ∷ ps) h = by_tests (bytes_eq p.name name) (t p) refl refl (value_stopped name t ps h)
  where
    by_tests : (here passes : Bool) → bytes_eq p.name name ≡ here → t p ≡ passes → value_of name (filter t ps) ≡ None → value_of name (filter t (p ∷ ps)) ≡ None
    by_tests true true e f later = absurd (true≢false (sym f ∙ h p e))
    by_tests true false e f later = rw f later
    by_tests false true e f later = rw f (rw e later)
    by_tests false false e f later = rw f later

or_none : (o : Option Value) → option_or o None ≡ o
or_none None = refl
or_none (Some value) = refl

below_named : (p : Property) (name : List ℕ) (q : Property) → bytes_eq q.name name ≡ true → name_lt q p ≡ is_lt (slice_cmp nat_cmp name p.name)
below_named p name q e = ap (λ (n : List ℕ). is_lt (slice_cmp nat_cmp n p.name)) ((bytes_decides q.name name).0 e)

above_named : (p : Property) (name : List ℕ) (q : Property) → bytes_eq q.name name ≡ true → name_lt p q ≡ is_lt (ordering_reverse (slice_cmp nat_cmp name p.name))
above_named p name q e =
    ap (λ (n : List ℕ). is_lt (slice_cmp nat_cmp p.name n)) ((bytes_decides q.name name).0 e)
    ∙ ap is_lt (nat_list_cmp_total.antisymm p.name name)

-- a property put among others leaves the values of other names
other_value : (name : List ℕ) (kept : List Property) (p : Property) → bytes_eq p.name name ≡ false → value_of name (with_property kept p) ≡ value_of name kept
unfolding with_property value_of
other_value name kept p other =
    value_append name front (p ∷ back)
    ∙ (rw other (by_order (slice_cmp nat_cmp name p.name) refl))
  where
    front : List Property
    front = filter (λ q. name_lt q p) kept

    back : List Property
    back = filter (λ q. name_lt p q) kept

    by_order : (o : Ordering) → slice_cmp nat_cmp name p.name ≡ o → option_or (value_of name front) (value_of name back) ≡ value_of name kept
    by_order Less e =
        rw (value_passed name (λ q. name_lt q p) kept (λ q h. below_named p name q h ∙ ap is_lt e))
        (rw (value_stopped name (λ q. name_lt p q) kept (λ q h. above_named p name q h ∙ ap (λ (r : Ordering). is_lt (ordering_reverse r)) e)) (or_none (value_of name kept)))
    by_order Equal e = absurd (true≢false (sym (ap is_eq e) ∙ (is_eq-slice_cmp name p.name ∙ flipped)))
      where
        flipped : bytes_eq name p.name ≡ false
        flipped = by_same (bytes_eq name p.name) refl
          where
            by_same : (b : Bool) → bytes_eq name p.name ≡ b → bytes_eq name p.name ≡ false
            by_same true h = absurd (true≢false (sym ((bytes_decides p.name name).1 (sym ((bytes_decides name p.name).0 h))) ∙ other))
            by_same false h = h
    by_order Greater e =
        rw (value_stopped name (λ q. name_lt q p) kept (λ q h. below_named p name q h ∙ ap is_lt e))
        (value_passed name (λ q. name_lt p q) kept (λ q h. above_named p name q h ∙ ap (λ (r : Ordering). is_lt (ordering_reverse r)) e))

-- and gives its own
own_value : (kept : List Property) (p : Property) → value_of p.name (with_property kept p) ≡ Some p.value
unfolding with_property value_of
own_value kept p =
    let before = value_stopped p.name (λ (q : Property). name_lt q p) kept (λ q h. below_named p p.name q h ∙ not_below (name_lt p p) refl) in
    value_append p.name (filter (λ q. name_lt q p) kept) (p ∷ filter (λ q. name_lt p q) kept)
    ∙ (rw before (rw ((bytes_decides p.name p.name).1 refl) refl))
  where
    not_below : (b : Bool) → name_lt p p ≡ b → name_lt p p ≡ false
    not_below true e = absurd (not_below_itself p e)
    not_below false e = e

none_of : (o : Option Value) → is_none o ≡ true → o ≡ None
none_of None e = refl
none_of (Some value) e = absurd (true≢false (sym e))

merged_value : (name : List ℕ) (kept given : List Property) → IsRising given → value_of name (merged kept given) ≡ option_or (value_of name given) (value_of name kept)
unfolding value_of
merged_value name kept [] rising = refl
merged_value name kept (p ∷ given) rising =
    merged_value name (with_property kept p) given (AllPairs-tail (λ a b. IsTrue (name_lt a b)) p given rising) ∙ by_test (bytes_eq p.name name) refl
  where
    absent : value_of p.name given ≡ None
    absent = none_of (value_of p.name given) (below_kept p given (AllPairs-head (λ a b. IsTrue (name_lt a b)) p given rising))

    by_test : (test : Bool) → bytes_eq p.name name ≡ test → option_or (value_of name given) (value_of name (with_property kept p)) ≡ option_or (value_of name (p ∷ given)) (value_of name kept)
    by_test true e =
        let same : p.name ≡ name = (bytes_decides p.name name).0 e in
        rw e (subst (λ (n : List ℕ). option_or (value_of n given) (value_of n (with_property kept p)) ≡ Some p.value) same (rw absent (own_value kept p)))
    by_test false e = rw e (ap (λ (o : Option Value). option_or (value_of name given) o) (other_value name kept p e))

pub values_by_name : (index : ℕ) (kept given : EntityView) (outcome : Option EntityView) → IsRising kept.properties → IsRising given.properties
    → merge_outcome index kept given ≡ Ok outcome → MakesMerge index kept given outcome
unfolding merge_outcome
values_by_name index kept given outcome up rising h = record {
  entity = record given { properties = merged kept.properties given.properties };
  is = within index (record given { properties = merged kept.properties given.properties }) outcome h;
  merges = record {
    values = λ name. merged_value name kept.properties given.properties rising;
    rising = merged_rising kept.properties given.properties up;
  };
}
