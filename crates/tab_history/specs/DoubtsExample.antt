-- A history in small where disks fail: an insert that was made after all, one that was not, a commit of a plan between two
-- pages of one query, and a table of which it stays open whether it was made.
use Rattle.std.specs.Prelude.{List, [], ◌∷◌, ◌++◌, Some, None, true, false}
use Rattle.tab_keys.specs.declared.bounds.Bound.TheVariants.{At}
use Rattle.tab_ops.specs.Groups.{ItemView}
use Rattle.tab_ops.specs.declared.ops.Op.TheVariants.{Insert}
use Rattle.tab_history.specs.Followed.{Query, resolve_of}
use Rattle.tab_history.specs.Example.{cats, insert_of_d, first, second}
use Rattle.tab_history.specs.TablesExample.{dogs}
use Rattle.tab_history.specs.declared.entries.Entry.{Entry}
use Rattle.tab_history.specs.declared.entries.Entry.TheVariants as entry
use Rattle.tab_history.specs.declared.entries.Denied.TheVariants as denied
use Rattle.tab_history.specs.declared.entries.Doubt.TheVariants as doubt
use Rattle.tab_history.specs.declared.plans.MapRefused.TheVariants as refused
use Rattle.tab_history.specs.declared.plans.Turn.TheVariants as turn

-- as the row at `d` is written a disk fails, and the request is told so; as it is read again, it is there
abbrev pub insert_that_stood : List Entry
insert_that_stood =
    entry.Resolve 2 cats (Some 1) ∷ entry.Maybe 2 7 (doubt.Change 1 (insert_of_d ∷ []) 7) ∷ entry.Denied 2 (denied.DiskFault 4) ∷ entry.Settled 2 true ∷ []

-- so does one as a plan's commit is written
abbrev pub commit_in_doubt : List Entry
commit_in_doubt = entry.Refused (refused.DiskFault 0) (Some 3) ∷ []

-- and that is there too
abbrev pub commit_that_stood : List Entry
commit_that_stood = entry.Turn 3 turn.Committed ∷ entry.Bounds (At 0 [] ∷ At 1 (98 ∷ []) ∷ []) ∷ []

-- a query of two pages, between which all this comes about
abbrev pub query_over_doubts : Query
query_over_doubts =
    record { waiting = []; first = first; legs = record { between = insert_that_stood ++ (commit_in_doubt ++ (commit_that_stood ++ resolve_of second ∷ [])); asked = second } ∷ [] }

-- a row at the partition key `e`
abbrev pub insert_of_e : ItemView
insert_of_e = record { name = cats; pk = 101 ∷ []; rk = []; op = Insert (record { properties = []; pk_units = 1; rk_units = 0 }) }

-- this one is not there as it is read again, after a stop
abbrev pub insert_that_did_not_stand : List Entry
insert_that_did_not_stand =
    entry.Resolve 4 cats (Some 1) ∷ entry.Maybe 4 9 (doubt.Change 1 (insert_of_e ∷ []) 9) ∷ entry.Denied 4 (denied.DiskFault 5) ∷ entry.Stopped
    ∷ entry.Settled 4 false ∷ entry.Bounds (At 0 [] ∷ At 1 (98 ∷ []) ∷ []) ∷ entry.Resolve 5 cats (Some 1) ∷ entry.Get 5 1 (101 ∷ []) [] None ∷ []

-- and of this table it stays open whether it was made
abbrev pub table_left_open : List Entry
table_left_open = entry.Maybe 6 10 (doubt.Create dogs 2) ∷ entry.Denied 6 (denied.DiskFault 2) ∷ []
