use Rattle.std.proofs.Common.{rules, ◌≡◌, true, sym, ◌∙◌, ap, List, [], ◌∷◌, ℕ}
use Rattle.std.specs.Prelude.{map, string_bytes, IsTrue}
use Rattle.std.specs.Cmp.Lexicographic.{bytes_decides}
use Rattle.tab_drive.proofs.InitCauses.{one_item}
use Rattle.tab_drive.proofs.runs.is_init.Goals as goal

pub returns-clause-yes : goal.returns-clause-yes
returns-clause-yes c is =
    ap (map string_bytes) (one_item c.args.words.now c.command-item.result c.in-len1.len_at_least c.in-len1.len_below c.command-item.is)
    ∙ ap (λ (word : List ℕ). word ∷ []) (sym c.as_str.ensures.value ∙ (bytes_decides _ _).0 (sym c.eq.ensures ∙ is))
