-- What the headers of a continuation say is what the query that hands them back asks for.
use Rattle.std.proofs.Common.{◌≡◌, ℕ, List, [], ◌∷◌, ◌++◌, cond, Option, Some, None, Result, Ok, Err, refl, ap, ◌∙◌, codes, arith, bytes_eq, append_assoc, append-nil}
use Rattle.std.specs.Option.{ok_or}
use Rattle.form_urlencoded.specs.Form.{raw_pairs}
use Rattle.tab_keys.specs.KeyTexts.{IsKeyText}
use Rattle.tab_keys.specs.TableNames.{name_refusal, IsTableName}
use Rattle.tab_keys.specs.declared.table_names.NameRefused.{NameRefused}
use Rattle.tab_keys.specs.Results.{◌>>=◌}
use Rattle.tab_page.specs.Queries.{decoded, values, single, option_at, read_options}
use Rattle.tab_page.specs.Tokens.{token_text, read_token}
use Rattle.tab_page.specs.Continuations.{joined, next_query}
use Rattle.tab_page.specs.declared.pages.Options.{Options}
use Rattle.tab_page.specs.declared.queries.OptionRefused.{OptionRefused}
use Rattle.tab_page.specs.declared.queries.OptionRefused.TheVariants.{BadToken}
use Rattle.tab_page.proofs.ContinuationLaws.{is_safe, pairs_joined, values-append, decoded_safe, token_safe, one_pair, decoded_token, token_read, read_behind}
use Rattle.tab_service.specs.Laws.{followed_by, IsFollowedByPage, IsFollowedByList}
use Rattle.tab_service.specs.Replies.{continuation}
use Rattle.tab_service.specs.TableQueries.{options_result, sole_option, count_of, token_name, after_of, without_filter, table_window}
use Rattle.tab_service.proofs.NameLaws.{name_is_key}
use Rattle.tab_service.specs.declared.refusals.Refusal.{Refusal}
use Rattle.tab_service.specs.declared.requests.table_queries.TableWindow.{TableWindow}

-- ---- pages

abbrev partition_option : List ℕ → List ℕ
partition_option pk = codes "NextPartitionKey=" ++ token_text pk

abbrev row_option : List ℕ → List ℕ
row_option rk = codes "NextRowKey=" ++ token_text rk

handed_on : (query pk rk : List ℕ) → followed_by query (continuation (Some (pk, rk))) ≡ joined query (next_query (pk, rk))
handed_on query pk rk = append_assoc query (38 ∷ partition_option pk) (38 ∷ row_option rk)

pub followed_by_page : (query pk rk : List ℕ) (options : Options) → IsKeyText pk → IsKeyText rk → IsFollowedByPage query options (pk, rk)
followed_by_page query pk rk options is_pk is_rk h none =
    ap read_options (handed_on query pk rk) ∙ read_behind query pk rk options is_pk is_rk h none

-- ---- lists of tables

abbrev name_option : List ℕ → List ℕ
name_option name = codes "NextTableName=" ++ token_text name

name_pairs : (name : List ℕ) → raw_pairs (name_option name) ≡ (codes "NextTableName", token_text name) ∷ []
unfolding is_safe
name_pairs name = one_pair (name_option name) (token_safe name) (omega arith)

option_name : decoded (codes "NextTableName") ≡ codes "NextTableName"
unfolding is_safe
option_name = decoded_safe (codes "NextTableName") refl

-- the values of a word with the name's token behind them
name_values : (word query name : List ℕ) → values word (raw_pairs (joined query (name_option name))) ≡ values word (raw_pairs query) ++ cond (bytes_eq (codes "NextTableName") word) (token_text name ∷ []) []
name_values word query name =
    ap (values word) (pairs_joined query (name_option name))
    ∙ (values-append word (raw_pairs query) (raw_pairs (name_option name))
    ∙ (ap (λ (ps : List (List ℕ × List ℕ)). values word (raw_pairs query) ++ values word ps) (name_pairs name)
    ∙ rw (option_name, decoded_token name) refl))

abbrev Value : Type 0
Value = Result (Option (List ℕ)) Refusal

abbrev Window : Type 0
Window = Result TableWindow Refusal

abbrev Filters : Type 0
Filters = Result (Option (List ℕ)) OptionRefused

-- what is asked, from the three options
abbrev asked_of : Value → Value → Filters → Window
asked_of t k filters =
    t >>= λ top. (k >>= λ token. (count_of top >>= λ count. (after_of token >>= λ after. without_filter filters (record { after = after; top = count }))))

abbrev window_from : Result ℕ Refusal → Value → Filters → Window
window_from count after filters = count >>= λ c. (after >>= λ a. without_filter filters (record { after = a; top = c }))

record HasAfter (count : Result ℕ Refusal) (after : Value) (filters : Filters) (window : TableWindow) : Type 0 where
  after_is : after ≡ Ok window.after
  other : (next : Option (List ℕ)) → window_from count (Ok next) filters ≡ Ok (record window { after = next })

abbrev window_in : TableWindow → Window → TableWindow
window_in none (Ok window) = window
window_in none (Err why) = none

has_after : (count : Result ℕ Refusal) (after : Value) (filters : Filters) (window : TableWindow) → window_from count after filters ≡ Ok window → HasAfter count after filters window
has_after (Err why) after filters window h = cc h
has_after (Ok c) (Err why) filters window h = cc h
has_after (Ok c) (Ok a) (Ok None) window h =
    let e = ap (window_in window) h in
    record {
      after_is = ap (λ (w : TableWindow). Ok w.after) e;
      other = λ next. ap (λ (w : TableWindow). Ok (record w { after = next })) e;
    }
has_after (Ok c) (Ok a) (Ok (Some filter)) window h = cc h
has_after (Ok c) (Ok a) (Err doubled) window h = cc h

no_name : (name : List ℕ) (why : Option NameRefused) → ◌≡◌ {A = Value} (token_name name why) (Ok None) → ⊥
no_name name None h = cc h
no_name name (Some why) h = cc h

no_token : (token : Option (List ℕ)) → after_of token ≡ Ok None → token ≡ None
no_token None h = refl
no_token (Some text) h = absurd (by_key (read_token text) h)
  where
    by_key : (found : Option (List ℕ)) → ◌≡◌ {A = Value} (options_result (ok_or found BadToken) >>= λ name. token_name name (name_refusal name)) (Ok None) → ⊥
    by_key None e = cc e
    by_key (Some name) e = no_name name (name_refusal name) e

-- a query that names no start has no token, and may have one
record NamesNone (t k : Value) (filters : Filters) (window : TableWindow) : Type 0 where
  token : k ≡ Ok None
  other : (text name : List ℕ) → after_of (Some text) ≡ Ok (Some name) → asked_of t (Ok (Some text)) filters ≡ Ok (record window { after = Some name })

names_none : (t k : Value) (filters : Filters) (window : TableWindow) → asked_of t k filters ≡ Ok window → window.after ≡ None → NamesNone t k filters window
names_none (Err why) k filters window h none = cc h
names_none (Ok t) (Err why) filters window h none = cc h
names_none (Ok t) (Ok k) filters window h none =
    let parts = has_after (count_of t) (after_of k) filters window h in
    let absent = no_token k (parts.after_is ∙ ap Ok none) in
    record {
      token = ap Ok absent;
      other = λ text name is. ap (λ (after : Value). window_from (count_of t) after filters) is ∙ parts.other (Some name);
    }

no_values : (found : List (List ℕ)) → ◌≡◌ {A = Value} (options_result (single found)) (Ok None) → found ≡ []
no_values [] h = refl
no_values (value ∷ []) h = cc h
no_values (value ∷ other ∷ more) h = cc h

name_read : (name : List ℕ) → IsKeyText name → name_refusal name ≡ None → after_of (Some (token_text name)) ≡ Ok (Some name)
name_read name key allowed = rw (token_read name key, allowed) refl

pub followed_by_list : (query next : List ℕ) (window : TableWindow) → IsTableName next → IsFollowedByList query window next
unfolding table_window sole_option option_at
followed_by_list query next window is_name h none =
    let at = λ (word : List ℕ). options_result (single (values word (raw_pairs query))) in
    let absent = names_none (at (codes "$top")) (at (codes "NextTableName")) (single (values (codes "$filter") (raw_pairs query))) window h none in
    let token = name_values (codes "NextTableName") query next ∙ ap (λ (l : List (List ℕ)). l ++ token_text next ∷ []) (no_values (values (codes "NextTableName") (raw_pairs query)) absent.token) in
    let top = name_values (codes "$top") query next ∙ append-nil (values (codes "$top") (raw_pairs query)) in
    let filter = name_values (codes "$filter") query next ∙ append-nil (values (codes "$filter") (raw_pairs query)) in
    rw (top, token, filter) (absent.other (token_text next) next (name_read next (name_is_key next is_name.allowed) is_name.allowed))
