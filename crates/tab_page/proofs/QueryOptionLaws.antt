-- The pairs of a query, gone through one by one, give the value of each option.
use Rattle.std.proofs.Common.{◌≡◌, ℕ, List, [], ◌∷◌, Bool, true, false, cond, Option, Some, None, Result, Ok, Err, bytes_eq, codes, refl, ap, ◌∙◌}
use Rattle.form_urlencoded.specs.Form.{raw_pairs}
use Rattle.tab_page.specs.declared.queries.OptionRefused.{OptionRefused}
use Rattle.tab_page.specs.declared.queries.OptionRefused.TheVariants.{BadOption}
use Rattle.tab_page.specs.Queries.{decoded, values, single, option_at, first_of, first_at}
use Rattle.tab_page.specs.QueryOptions.{once_more, seen, first_seen, QueryOptionsView, no_options, with_pair, with_pairs, options_in}

abbrev Value : Type 0
Value = Result (Option (List ℕ)) OptionRefused

-- an option's value with more values
abbrev all_seen : Value → List (List ℕ) → Value
all_seen given [] = given
all_seen given (value ∷ more) = all_seen (once_more value given) more

all_seen-refused : (why : OptionRefused) (more : List (List ℕ)) → all_seen (Err why) more ≡ Err why
all_seen-refused why [] = refl
all_seen-refused why (value ∷ more) = all_seen-refused why more

all_seen-is : (more : List (List ℕ)) → all_seen (Ok None) more ≡ single more
all_seen-is [] = refl
all_seen-is (value ∷ []) = refl
all_seen-is (value ∷ other ∷ more) = all_seen-refused BadOption more

-- a pair's value counts where its name is the option's
one_seen : (word name value : List ℕ) (given : Value) (pairs : List (List ℕ × List ℕ)) → all_seen (seen word (decoded name) (decoded value) given) (values word pairs) ≡ all_seen given (values word ((name, value) ∷ pairs))
one_seen word name value given pairs = by_test (bytes_eq (decoded name) word)
  where
    by_test : (t : Bool) → all_seen (cond t (once_more (decoded value) given) given) (values word pairs) ≡ all_seen given (cond t (decoded value ∷ values word pairs) (values word pairs))
    by_test true = refl
    by_test false = refl

module _ (field : QueryOptionsView → Value) (word : List ℕ) (step : (known : QueryOptionsView) (name value : List ℕ) → field (with_pair known name value) ≡ seen word name value (field known)) where
  all_pairs_from : (known : QueryOptionsView) (pairs : List (List ℕ × List ℕ)) → field (with_pairs known pairs) ≡ all_seen (field known) (values word pairs)
  all_pairs_from known [] = refl
  all_pairs_from known ((name, value) ∷ pairs) =
      all_pairs_from (with_pair known (decoded name) (decoded value)) pairs
      ∙ (ap (λ (given : Value). all_seen given (values word pairs)) (step known (decoded name) (decoded value)) ∙ one_seen word name value (field known) pairs)

  field_is : (query : List ℕ) → field no_options ≡ Ok None → field (with_pairs no_options (raw_pairs query)) ≡ option_at word query
  unfolding option_at
  field_is query none =
      all_pairs_from no_options (raw_pairs query)
      ∙ (ap (λ (given : Value). all_seen given (values word (raw_pairs query))) none ∙ all_seen-is (values word (raw_pairs query)))

-- ---- the first value

first_kept : (value : List ℕ) (known : QueryOptionsView) (pairs : List (List ℕ × List ℕ)) → known.comp ≡ Some value → (with_pairs known pairs).comp ≡ Some value
first_kept value known [] is = is
first_kept value known ((name, other) ∷ pairs) is =
    first_kept value (with_pair known (decoded name) (decoded other)) pairs (ap (first_seen (codes "comp") (decoded name) (decoded other)) is)

first_from : (known : QueryOptionsView) (pairs : List (List ℕ × List ℕ)) → known.comp ≡ None → (with_pairs known pairs).comp ≡ first_of (values (codes "comp") pairs)
first_from known [] none = none
first_from known ((name, value) ∷ pairs) none =
    by_test (bytes_eq (decoded name) (codes "comp")) (ap (first_seen (codes "comp") (decoded name) (decoded value)) none) (first_from (with_pair known (decoded name) (decoded value)) pairs)
  where
    next : QueryOptionsView
    next = with_pair known (decoded name) (decoded value)

    by_test : (t : Bool) → next.comp ≡ cond t (Some (decoded value)) None → (next.comp ≡ None → (with_pairs next pairs).comp ≡ first_of (values (codes "comp") pairs)) → (with_pairs next pairs).comp ≡ first_of (cond t (decoded value ∷ values (codes "comp") pairs) (values (codes "comp") pairs))
    by_test true is later = first_kept (decoded value) next pairs is
    by_test false is later = later is

pub all_pairs : (query : List ℕ) → with_pairs no_options (raw_pairs query) ≡ options_in query
unfolding options_in first_at
all_pairs query =
    let filter = field_is (λ known. known.filter) (codes "$filter") (λ known name value. refl) query refl in
    let select = field_is (λ known. known.select) (codes "$select") (λ known name value. refl) query refl in
    let top = field_is (λ known. known.top) (codes "$top") (λ known name value. refl) query refl in
    let partition = field_is (λ known. known.partition) (codes "NextPartitionKey") (λ known name value. refl) query refl in
    let row = field_is (λ known. known.row) (codes "NextRowKey") (λ known name value. refl) query refl in
    let table = field_is (λ known. known.table) (codes "NextTableName") (λ known name value. refl) query refl in
    let comp = first_from no_options (raw_pairs query) refl in
    λ i. record { filter = filter i; select = select i; top = top i; partition = partition i; row = row i; table = table i; comp = comp i }
