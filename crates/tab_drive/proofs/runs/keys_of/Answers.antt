use Rattle.std.proofs.Common.{◌∙◌, sym, ap}
use Rattle.std.specs.Prelude.{map, string_bytes}
use Rattle.std.specs.Cmp.Lexicographic.{bytes_decides}
use Rattle.tab_drive.specs.Commands.{is_account}
use Rattle.tab_drive.proofs.Words.{three_items, drive_words, named_found, named_or_found}
use Rattle.tab_drive.proofs.runs.keys_of.Goals as goal

pub returns-then-is_account : goal.returns-then-is_account
returns-then-is_account c =
    let spelled = ap (map string_bytes) (three_items c.args.words.now c.command-item.result c.account-item.result c.key-item.result c.in-len3.len_at_least c.in-len3.len_below c.command-item.is c.account-item.is c.key-item.is)
    ∙ drive_words _ _ _ _ _ (sym c.as_str.ensures.value ∙ (bytes_decides _ _).0 (sym c.if-eq.ensures)) (sym c.as_str-then-is_account.ensures.value) (sym c.as_str-then-is_account-2.ensures.value) in
    let allowed = ap is_account (c.as_str-then-is_account.ensures.value ∙ sym c.as_str-then-eq.ensures.value) ∙ sym c.if-is_account.ensures in
    record {
      asked = named_or_found (map string_bytes c.args.words.now) c.as_str-then-is_account.result.now c.as_str-then-is_account-2.result.now c.named_keys.result spelled allowed;
      found = named_found (map string_bytes c.args.words.now) c.as_str-then-is_account.result.now c.as_str-then-is_account-2.result.now c.named_keys.result spelled allowed c.named_keys.ensures;
    }
