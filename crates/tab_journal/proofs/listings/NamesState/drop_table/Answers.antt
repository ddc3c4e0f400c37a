use Rattle.std.proofs.Common.{◌≡◌, ℕ, false, not, List, ap, ◌∙◌, rules, filter}
use Rattle.std.specs.Prelude.{◌==◌}
use Rattle.std.proofs.lemmas.Fn.{filter_same}
use Rattle.tab_journal.specs.Told.{NamesTold}
use Rattle.tab_journal.proofs.listings.NamesState.drop_table.Goals as goal

abbrev left : ℕ → List (ℕ × List ℕ) → List (ℕ × List ℕ)
left table names = filter (λ other. not (other.0 == table)) names

abbrev made : ℕ → List (ℕ × List ℕ) → NamesTold
made next_table names = record { next_table = next_table; names = names; is_listing = false }

pub returns : goal.returns
returns c =
    let kept : c.retain.new.self.items ≡ left c.args.table c.self.inside.names.items = filter_same _ (λ (other : ℕ × List ℕ). not (other.0 == c.args.table)) _ (λ x b f k. search rules) _ _ c.retain.ensures.filtered in
    ap (made c.self.inside.next_table) kept ∙ ap (λ (told : NamesTold). made told.next_table (left c.args.table told.names)) c.self.view_is
