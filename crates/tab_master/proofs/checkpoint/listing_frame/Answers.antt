use Rattle.std.proofs.Common.{◌≡◌, ◌≤◌, ◌<◌, length, map, refl, ap, subst, ◌∙◌, arith}
use Rattle.std.proofs.lemmas.List.{take_all}
use Rattle.tab_keys.specs.TableNames.{IsTableName}
use Rattle.tab_history.specs.World.{Named}
use Rattle.tab_codec.specs.Spelling.{body}
use Rattle.tab_codec.specs.Frames.{IsShort}
use Rattle.tab_codec.specs.declared.frames.Frame.TheVariants as frames
use Rattle.tab_master.specs.Names.{pair}
use Rattle.tab_master.proofs.CheckpointLaws.{entries_more, entries_orderly, names_short}
use Rattle.tab_master.proofs.checkpoint.listing_frame.Goals as goal

pub loop-row-init : goal.loop-row-init
loop-row-init c = record { names = c.new-names.ensures.items; short = subst (λ l. length (Rattle.std.specs.List.flat_map Rattle.tab_codec.specs.Spelling.name_spelling l) ≤ 0) (Rattle.std.proofs.Common.sym c.new-names.ensures.items) (omega arith) }

pub loop-row-preserved : goal.loop-row-preserved
loop-row-preserved c =
    let within : c.loop-row.row-index < length c.args.rows.now = omega arith in
    entries_more c.loop-row.names.items c.push.new.self.items (c.row.inside.table, c.in_ok-try_copy.field-0) c.args.rows.now c.loop-row.row-index c.row-item.result c.loop-row.invariant within c.row-item.is
    (ap (λ n. (c.row.inside.table, n)) c.in_ok-try_copy.ensures ∙ ap pair c.row.view_is)
    (subst (λ (r : Named). IsTableName r.spelling) c.row.view_is c.as_str-text.ensures.name)
    c.in_ok-push.ensures.items

pub prepare-requires-clause-orderly : goal.prepare-requires-clause-orderly
prepare-requires-clause-orderly c =
    entries_orderly c.new.result c.args.rows.now
    (c.new.ensures ∙ (c.loop-row.invariant.names ∙ ap (map pair) (take_all c.loop-row.row-index c.args.rows.now (omega arith))))
    c.requires.few c.requires.rising

pub prepare-requires-clause-short : goal.prepare-requires-clause-short
prepare-requires-clause-short c =
    subst (λ l. IsShort (body (frames.Names c.args.next_table l))) (Rattle.std.proofs.Common.sym c.new.ensures)
    (names_short c.args.next_table c.loop-row.names.items c.loop-row.row-index (omega (arith, c.requires.few)) c.loop-row.invariant.short)
