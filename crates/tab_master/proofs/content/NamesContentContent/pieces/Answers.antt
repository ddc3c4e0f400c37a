use Rattle.std.proofs.Common.{List, subst, sym, ◌∙◌, AllPairs, IsTrue}
use Rattle.std.specs.Ordering.{is_lt}
use Rattle.std.proofs.lemmas.Result.{IfOk-weaker}
use Rattle.tab_history.specs.World.{Named}
use Rattle.tab_master.specs.Spelled.{SpelledNames, by_number}
use Rattle.tab_master.specs.Names.{NamesView, AreListed, IsNamesCheckpoint}
use Rattle.tab_master.proofs.CheckpointLaws.{by_numbers, names_check_out}
use Rattle.tab_master.proofs.content.NamesContentContent.pieces.Goals as goal

pub listing_frames-requires : goal.listing_frames-requires
listing_frames-requires c =
    let inside : SpelledNames = record { next_table = c.self.inside.next_table; names = c.self.inside.tables.names } in
    subst (λ (rows : List Named). AllPairs (λ a b. IsTrue (is_lt (by_number a b))) rows) (sym (c.deref.ensures.value ∙ c.in_ok-rows.ensures)) (by_numbers inside c.self.invariant.differ)

pub returns : goal.returns
returns c =
    let inside : SpelledNames = record { next_table = c.self.inside.next_table; names = c.self.inside.tables.names } in
    IfOk-weaker c.listing_frames.result _ _
    (λ pieces listed. subst (λ (v : NamesView). IsNamesCheckpoint pieces.items v.told) c.self.view_is
    (names_check_out pieces.items inside c.self.invariant
    (subst (λ (rows : List Named). AreListed inside.next_table pieces.items rows) (c.deref.ensures.value ∙ c.in_ok-rows.ensures) listed)))
    c.listing_frames.ensures
