-- What an opening of names answers.
use Rattle.std.specs.Prelude.{◌≡◌, ℕ, Result, Ok, Err}
use Rattle.tab_outside.specs.Disks.{Watch}
use Rattle.tab_outside.specs.Pairs.{AddsNone}
use Rattle.tab_journal.specs.Reading.{Found}
use Rattle.tab_journal.specs.Stores.{area_a, area_b, current_area}
use Rattle.tab_journal.specs.Keeping.{IsSound}
use Rattle.tab_journal.specs.declared.refusals.Back.{Back}
use Rattle.tab_journal.specs.declared.refusals.StoreRefused.TheVariants.{NotAStore}
use Rattle.tab_master.specs.Names.{NamesStand, names_sense}
use Rattle.tab_master.specs.NamesCalls.{NamesKept}

-- the frames that the areas spell stand for the names, or there is a first place that has no spelling
abbrev pub OpensNames : {D : Type 0} → Result (NamesKept D) (Back D) → Result Found (ℕ × ℕ) → Type 0
OpensNames (Ok names) read =
    (found : Found) × (read ≡ Ok found) × (found.area ≡ current_area names.store) × (found.epoch ≡ names.store.epoch) × NamesStand found.frames names.held.told
OpensNames (Err back) read = (area at : ℕ) → back.refused ≡ NotAStore area at → read ≡ Err (area, at)

-- names that were opened run, and what their disks hold stands for them; no image was added
pub record AreOpened {D : Type 0} (w : Watch D) (a b : D) (names : NamesKept D) : Type 0 where
  pub sound : IsSound w names_sense names
  pub images_a : AddsNone w a (area_a names.store)
  pub images_b : AddsNone w b (area_b names.store)
