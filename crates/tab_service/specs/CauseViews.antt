-- The causes that the code has, as rows of the table.
use Rattle.std.specs.Prelude.{List, [], ℕ, ◌++◌, decimal, Option, Some, None}
use Rattle.tab_service.specs.Causes as cause
use Rattle.tab_service.specs.declared.replies.causes.Cause.{Cause}

abbrev pub place : Option ℕ → List ℕ
place None = []
place (Some at) = decimal at

-- the words, with the name and the place in them
abbrev pub words : Cause → List ℕ
words why = why.before.now ++ why.name.now ++ place why.at ++ why.after.now

abbrev pub cause_view : Cause → cause.Cause
cause_view why = cause.row why.status why.code.now (words why)
