-- The example of doubts is a legal history of a followed query.
use Rattle.std.proofs.Common.{◌≡◌, ◌≤◌, [], ◌∷◌, ◌++◌, refl, sym, subst, inl, arith}
use Rattle.std.specs.Prelude.{Some, None}
use Rattle.std.specs.Str.{chars}
use Rattle.std.proofs.lemmas.List.Elements.{All-nil, All-cons}
use Rattle.tab_keys.specs.KeyTexts.{units_of}
use Rattle.tab_keys.specs.Order.{text_cmp, key_cmp}
use Rattle.tab_keys.specs.TableNames.{folded}
use Rattle.tab_rows.specs.Rows.{row_at, with_row}
use Rattle.tab_page.specs.Pages.{start_key, listed, looked_at, page_up_to, page_below, page_of}
use Rattle.tab_ops.specs.Changes.{group_keys}
use Rattle.tab_history.specs.World.{table_of, floor_of, raised, MayHaveTick}
use Rattle.tab_history.specs.Doubts.{SparesKeys, SparesPage, SparesNames, Clears, doubt_of, EachDoubt}
use Rattle.tab_history.specs.Legality.{State, after, after_all, table_for, Allows, EachAllowed, Legal}
use Rattle.tab_history.specs.Followed.{resolve_of, page_entry, entries_of, IsFollowed}
use Rattle.tab_history.specs.Example.{cats, opening, row_of, insert_of_d, first, second}
use Rattle.tab_history.specs.TablesExample.{dogs}
use Rattle.tab_history.specs.DoubtsExample.{insert_that_stood, commit_in_doubt, commit_that_stood, query_over_doubts, insert_of_e, insert_that_did_not_stand, table_left_open}
use Rattle.tab_history.specs.declared.entries.Entry.TheVariants as entry
use Rattle.tab_history.specs.declared.entries.Doubt.TheVariants as doubt
use Rattle.tab_history.proofs.DoubtLaws.{no_doubts, none_open}
use Rattle.tab_history.proofs.HistoryLaws.{each_append}
use Rattle.tab_history.proofs.ExampleLaws.{first_page, may_have, split}

named : EachDoubt SparesNames []
named = no_doubts SparesNames

-- ---- an insert that stood

-- what the history has come to behind the first page
abbrev paged : State
paged = after (after opening (resolve_of first)) (page_entry first)

begun : Allows (after paged (entry.Resolve 2 cats (Some 1))) (entry.Maybe 2 7 (doubt.Change 1 (insert_of_d ∷ []) 7))
unfolding table_for row_at with_row key_cmp text_cmp units_of chars
begun = (
  ((row_of 97 0 ∷ row_of 98 1 ∷ row_of 99 2 ∷ row_of 100 7 ∷ [], refl), may_have.from_floors),
  (refl, may_have),
  no_doubts (λ it. Clears it (doubt.Change 1 (insert_of_d ∷ []) 7)),
)

stood : EachAllowed paged insert_that_stood
unfolding table_of folded doubt_of
stood = ((refl, named), (begun, (tt, (refl, tt))))

-- ---- a commit that stood

committed : EachAllowed (after_all paged insert_that_stood) (commit_in_doubt ++ commit_that_stood)
committed = ((tt, tt), (tt, (split, tt)))

pub in_doubt : (after_all opening commit_in_doubt).commit ≡ Some 3
in_doubt = refl

pub no_more : (after_all opening (commit_in_doubt ++ commit_that_stood)).commit ≡ None
no_more = refl

-- ---- the second page

second_page : Allows (after (after_all paged (insert_that_stood ++ (commit_in_doubt ++ commit_that_stood))) (resolve_of second)) (page_entry second)
unfolding table_for page_of page_below page_up_to listed looked_at start_key row_at with_row key_cmp text_cmp units_of chars doubt_of
second_page = (refl, refl, no_doubts (SparesPage (start_key 1 second.options) second.page.end))

asked_again : EachAllowed (after_all paged (insert_that_stood ++ (commit_in_doubt ++ commit_that_stood))) (resolve_of second ∷ page_entry second ∷ [])
unfolding table_of folded doubt_of
asked_again = ((refl, named), (second_page, tt))

pages : EachAllowed opening (entries_of query_over_doubts)
unfolding table_of folded
pages = (
  (refl, named),
  (
    first_page,
    each_append paged insert_that_stood (commit_in_doubt ++ (commit_that_stood ++ resolve_of second ∷ page_entry second ∷ [])) stood
        (each_append (after_all paged insert_that_stood) (commit_in_doubt ++ commit_that_stood) (resolve_of second ∷ page_entry second ∷ []) committed asked_again),
  ),
)

pub doubts_followed : IsFollowed query_over_doubts
unfolding folded
doubts_followed = (
  record {
    name = refl;
    token = (99 ∷ [], []);
    next = refl;
    options = refl;
    idle = insert_that_stood ++ (commit_in_doubt ++ commit_that_stood);
    waiting = [];
    between = refl;
  },
  refl,
)

-- ---- an insert that did not stand

abbrev followed : State
followed = after_all opening (entries_of query_over_doubts)

floor : floor_of followed.world.floors (row_of 101 9).key ≡ 3
unfolding floor_of raised key_cmp text_cmp units_of chars doubt_of
floor = refl

may_have_later : MayHaveTick followed.world.floors (group_keys 1 (insert_of_e ∷ [])) 9 9
may_have_later = record {
  from_now = omega arith;
  from_floors =
      All-cons (λ key. floor_of followed.world.floors key ≤ 9) (row_of 101 9).key [] (subst (λ n. n ≤ 9) (sym floor) (omega arith)) (All-nil (λ key. floor_of followed.world.floors key ≤ 9));
  not_ahead = inl (omega arith);
  in_time = omega arith;
}

begun_later : Allows (after followed (entry.Resolve 4 cats (Some 1))) (entry.Maybe 4 9 (doubt.Change 1 (insert_of_e ∷ []) 9))
unfolding table_for row_at with_row key_cmp text_cmp units_of chars doubt_of
begun_later = (
  ((row_of 97 0 ∷ row_of 98 1 ∷ row_of 99 2 ∷ row_of 100 7 ∷ row_of 101 9 ∷ [], refl), may_have_later.from_floors),
  (refl, may_have_later),
  no_doubts (λ it. Clears it (doubt.Change 1 (insert_of_e ∷ []) 9)),
)

did_not_stand : EachAllowed followed insert_that_did_not_stand
unfolding table_of table_for folded row_at with_row key_cmp text_cmp units_of chars doubt_of
did_not_stand =
    ((refl, named), (begun_later, (tt, (tt, (refl, (split, ((refl, named), ((refl, refl, no_doubts (SparesKeys (record { table = 1; pk = 101 ∷ []; rk = [] } ∷ []))), tt))))))))

-- ---- a table that is left open

left_open : EachAllowed (after_all followed insert_that_did_not_stand) table_left_open
unfolding table_of folded doubt_of
left_open = (((refl, refl), tt, no_doubts (λ it. Clears it (doubt.Create dogs 2))), (tt, tt))

pub doubts_legal : Legal opening (entries_of query_over_doubts ++ insert_that_did_not_stand ++ table_left_open)
doubts_legal = record {
  doubts = none_open opening.world;
  steps = each_append opening (entries_of query_over_doubts) (insert_that_did_not_stand ++ table_left_open) pages
      (each_append followed insert_that_did_not_stand table_left_open did_not_stand left_open);
}

pub rows_left : (after_all opening (entries_of query_over_doubts ++ insert_that_did_not_stand ++ table_left_open)).world.rows ≡ row_of 97 0 ∷ row_of 98 1 ∷ row_of 99 2 ∷ row_of 100 7 ∷ []
unfolding row_at with_row key_cmp text_cmp units_of chars doubt_of
rows_left = refl

pub table_open : (after_all opening (entries_of query_over_doubts ++ insert_that_did_not_stand ++ table_left_open)).doubts ≡ (6, doubt.Create dogs 2) ∷ []
table_open = refl
