use Rattle.std.proofs.Common.{◌≡◌, ℕ, ◌-◌, None, Some, List, length, sym, ap, ◌∙◌}
use Rattle.std.specs.List.{slice_get}
use Rattle.tab_journal.specs.Told.{NamesTold, last_number}
use Rattle.tab_journal.proofs.Lasts.{last_is}
use Rattle.tab_journal.proofs.listings.NamesState.last_number.Goals as goal

pub returns-in-Some : goal.returns-in-Some
returns-in-Some c =
    let names = c.deref.result.now in
    let value : Some c.in-Some.name.now ≡ slice_get names (length names - 1) = c.in-Some.ensures.value in
    let same : names ≡ c.args.self.now.names = c.deref.ensures.value ∙ ap (λ (told : NamesTold). told.names) c.self.view_is in
    sym (last_is (λ (name : ℕ × List ℕ). name.0) None names c.in-Some.name.now value) ∙ ap last_number same
