-- What the laws of messages say of what a client hands back.
use Rattle.std.specs.Prelude.{◌≡◌, ◌⊎◌, ℕ, List, [], ◌∷◌, ◌++◌, length, drop, true, Option, Some, None, Result, Ok, codes}
use Rattle.std.specs.List.{AllByRecursion}
use Rattle.tab_batch.specs.Replies.{IsPlain}
use Rattle.tab_history.specs.declared.asks.Ask.{Ask}
use Rattle.tab_json.specs.declared.entities.JsonForm.{JsonForm}
use Rattle.tab_http.specs.declared.messages.Header.{Header as HttpHeader}
use Rattle.tab_ops.specs.declared.ops.Match.{Match}
use Rattle.tab_ops.specs.declared.ops.Match.TheVariants.{Tick}
use Rattle.tab_page.specs.Continuations.{joined}
use Rattle.tab_page.specs.Queries.{read_options}
use Rattle.tab_page.specs.declared.pages.Options.{Options}
use Rattle.tab_page.specs.declared.queries.OptionRefused.{OptionRefused}
use Rattle.tab_service.specs.Causes.{Cause}
use Rattle.tab_service.specs.Conditions.{condition_for}
use Rattle.tab_service.specs.Replies.{Header, continuation, table_continuation, etag_header, error_text, batch_reply}
use Rattle.tab_service.specs.TableQueries.{table_window}
use Rattle.tab_service.specs.declared.forms.PartForm.{PartForm}
use Rattle.tab_service.specs.declared.forms.Request.{Request}
use Rattle.tab_service.specs.declared.refusals.Refusal.{Refusal}
use Rattle.tab_service.specs.declared.requests.table_queries.TableWindow.{TableWindow}

-- ---- continuations

-- the option that a header of a continuation gives: its name without `x-ms-continuation-`, and its value
abbrev pub handed_back : Header → List ℕ
handed_back header = drop (length (codes "x-ms-continuation-")) header.0 ++ 61 ∷ header.1

-- a query with the options that these headers give behind it
abbrev pub followed_by : List ℕ → List Header → List ℕ
followed_by query [] = query
followed_by query (header ∷ headers) = followed_by (joined query (handed_back header)) headers

-- a query that names no start, with what the headers of its page say behind it, asks for the same from the next key on
abbrev pub IsFollowedByPage : List ℕ → Options → List ℕ × List ℕ → Type 0
IsFollowedByPage query options next =
    ◌≡◌ {A = Result Options OptionRefused} (read_options query) (Ok options) → options.start ≡ None
    → ◌≡◌ {A = Result Options OptionRefused} (read_options (followed_by query (continuation (Some next)))) (Ok (record options { start = Some next }))

-- the same of a list of tables, from the next name on
abbrev pub IsFollowedByList : List ℕ → TableWindow → List ℕ → Type 0
IsFollowedByList query window next =
    ◌≡◌ {A = Result TableWindow Refusal} (table_window query) (Ok window) → window.after ≡ None
    → ◌≡◌ {A = Result TableWindow Refusal} (table_window (followed_by query (table_continuation (Some next)))) (Ok (record window { after = Some next }))

-- ---- versions

-- the version that a reply names, as a condition of a request
abbrev pub version_condition : ℕ → HttpHeader
version_condition tick = record { name = codes "If-Match"; value = (etag_header tick).1 }

-- it asks for the row of just this tick
abbrev pub IsReadAsTick : ℕ → List HttpHeader → Type 0
IsReadAsTick tick headers = ◌≡◌ {A = Result (Option Match) Refusal} (condition_for (version_condition tick ∷ headers)) (Ok (Some (Tick tick)))

-- ---- the replies of batches

-- the text is the reply to a batch, put together from plain replies to its operations
pub record PutsPlain (text : List ℕ) : Type 0 where
  pub replies : List (List ℕ)
  pub text_is : text ≡ batch_reply replies
  pub plain : AllByRecursion IsPlain replies

-- the text is the reply to a whole request that was not answered as asked
pub record IsWholeFault (text : List ℕ) : Type 0 where
  pub why : Cause
  pub text_is : text ≡ error_text why

abbrev pub IsPlainOrWhole : List ℕ → Type 0
IsPlainOrWhole text = PutsPlain text ⊎ IsWholeFault text

-- a request with its form, which is a batch
abbrev pub batch_of : List ℕ → JsonForm → List PartForm → Ask → Request
batch_of account json parts asked = record { ask = asked; form = record { account = account; batch = true; json = json; parts = parts } }
