-- The one range has all keys.
use Rattle.std.proofs.Common.{◌≡◌, List, IsTrue, refl, sym, subst}
use Rattle.std.specs.List.{All}
use Rattle.tab_keys.specs.Spans.{Interval, has}
use Rattle.tab_keys.specs.declared.keys.Key.{Key}
use Rattle.tab_rows.specs.Rows.{RowView}
use Rattle.tab_page.proofs.PageLaws.{first_bound}
use Rattle.tab_drive.specs.Ranges.{all_keys}

has_all : (key : Key) → IsTrue (has all_keys key)
has_all key = rw (first_bound key) refl

pub has_key : (span : Interval) (key : Key) → span ≡ all_keys → IsTrue (has span key)
has_key span key is = subst (λ (s : Interval). IsTrue (has s key)) (sym is) (has_all key)

pub has_rows : (span : Interval) (rows : List RowView) → span ≡ all_keys → All (λ row. IsTrue (has span row.key)) rows
has_rows span rows is = λ k d within. has_key span _ is
