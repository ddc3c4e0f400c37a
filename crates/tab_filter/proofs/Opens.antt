-- A group that may be opened leaves one less to be opened in it.
use Rattle.std.proofs.Common.{◌≡◌, ℕ, zero, suc, ◌-◌, List, false, refl, arith}
use Rattle.tab_filter.specs.declared.parser.TheConstants.{MOST_COMPARISONS, MOST_PARTS}
use Rattle.tab_filter.specs.Lexer.{after_spaces}
use Rattle.tab_filter.specs.Parser.{closed_group, any_at, part_at, inner_at}

pub opened : (depth used : ℕ) (text left rest : List ℕ) → (depth ≡ 0 → ⊥) → rest ≡ after_spaces left → inner_at MOST_COMPARISONS MOST_PARTS depth false used text left ≡ closed_group (any_at (part_at MOST_COMPARISONS (inner_at MOST_COMPARISONS MOST_PARTS (depth - 1))) MOST_PARTS MOST_PARTS used rest)
unfolding inner_at
opened zero used text left rest h e = absurd (h refl)
opened (suc depth) used text left rest h e = let less : suc depth - 1 ≡ depth = omega arith in rw (less, e) refl
