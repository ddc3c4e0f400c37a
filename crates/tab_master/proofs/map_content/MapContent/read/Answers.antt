use Rattle.std.proofs.Common.{◌≡◌, true, ℕ, ◌^◌, ◌<◌, List, map, Some, refl, ap, sym, subst, ◌∙◌}
use Rattle.std.proofs.lemmas.Bool.{true≢false}
use Rattle.tab_codec.specs.declared.frames.RangeRow.{RangeRow}
use Rattle.tab_journal.specs.Told.{MapTold}
use Rattle.tab_history.specs.Tilings.{TileKeys}
use Rattle.tab_master.specs.Spelled.{SpelledMap, map_row}
use Rattle.tab_master.specs.MapListing.{MapListed}
use Rattle.tab_master.specs.Maps.{AreInYard}
use Rattle.tab_master.proofs.MapListingLaws.{nothing_spelled, told_stands, stands_told}
use Rattle.tab_master.proofs.MapRowLaws.{tiled_is, tiled_otherwise}
use Rattle.tab_master.proofs.MapFits.{IsOrderlyMap, frames_orderly, next_plan_within, is_map}
use Rattle.tab_master.proofs.map_content.MapContent.read.Goals as goal

pub returns-in_default : goal.returns-in_default
returns-in_default c told spelled tiles yard =
    nothing_spelled c.args.frames.now c.in_ok-held.field-0 told c.in_ok-held.ensures (ap (λ (l : MapListed). l.held) (sym c.held.view_is) ∙ c.in_default.is) spelled

pub returns-in_default-try_from : goal.returns-in_default-try_from
returns-in_default-try_from c told spelled tiles yard =
    let below : c.in_ok-held.field-0.next_plan < 2 ^ 64 = next_plan_within c.args.frames.now c.in_ok-held.field-0 c.requires.are c.in_ok-held.ensures in
    c.in_default-try_from.ensures (subst (λ (n : ℕ). n < 2 ^ 64) (ap (λ (l : MapListed). l.next_plan) (sym c.held.view_is)) below)

pub invariant_of-result : goal.invariant_of-result
invariant_of-result c =
    let held : MapTold = record { next_range = c.listed.inside.next_range; rows = c.listed.inside.rows.items } in
    let orderly : IsOrderlyMap held =
    subst IsOrderlyMap (sym c.listed.view_is)
    (frames_orderly c.args.frames.now c.in_ok-held.field-0 c.in-Some.listed c.requires.are c.in_ok-held.ensures (ap (λ (l : MapListed). l.held) (sym c.held.view_is) ∙ c.in-Some.is)) in
    let both = subst (λ (l : List RangeRow). TileKeys (map map_row l) × AreInYard c.args.servers (map map_row l)) c.as_slice.ensures.value (c.are_map.ensures.0 c.if-are_map.true) in
    is_map c.args.servers c.in-Ok.next_plan held c.sorted-rows.result.items orderly c.sorted-rows.ensures.elements both.0 both.1

pub returns-then-are_map : goal.returns-then-are_map
returns-then-are_map c =
    let held : MapTold = record { next_range = c.listed.inside.next_range; rows = c.listed.inside.rows.items } in
    let some : c.in_ok-held.field-0.held ≡ Some c.in-Some.listed = ap (λ (l : MapListed). l.held) (sym c.held.view_is) ∙ c.in-Some.is in
    let orderly : IsOrderlyMap held = subst IsOrderlyMap (sym c.listed.view_is) (frames_orderly c.args.frames.now c.in_ok-held.field-0 c.in-Some.listed c.requires.are c.in_ok-held.ensures some) in
    let both = subst (λ (l : List RangeRow). TileKeys (map map_row l) × AreInYard c.args.servers (map map_row l)) c.as_slice.ensures.value (c.are_map.ensures.0 c.if-are_map.true) in
    let told : SpelledMap = record { next_range = c.listed.inside.next_range; next_plan = c.in-Ok.next_plan; rows = map map_row c.sorted-rows.result.items } in
    record {
      stand = told_stands c.args.frames.now c.in_ok-held.field-0 held told c.in_ok-held.ensures (some ∙ ap (λ (m : MapTold). Some m) (sym c.listed.view_is))
          (ap (λ (l : MapListed). l.next_plan) (sym c.held.view_is) ∙ sym c.in-Ok.ensures.1)
          (refl, tiled_is c.listed.inside.rows.items c.sorted-rows.result.items c.sorted-rows.ensures.elements both.0);
      is = is_map c.args.servers c.in-Ok.next_plan held c.sorted-rows.result.items orderly c.sorted-rows.ensures.elements both.0 both.1;
      servers_are = refl;
      next_range = refl;
      next_plan = refl;
      plans = c.new.ensures.items;
    }

pub returns : goal.returns
returns c told spelled tiles yard =
    let held : MapTold = record { next_range = c.listed.inside.next_range; rows = c.listed.inside.rows.items } in
    let some : c.in_ok-held.field-0.held ≡ Some held = ap (λ (l : MapListed). l.held) (sym c.held.view_is) ∙ (c.in-Some.is ∙ ap (λ (m : MapTold). Some m) (sym c.listed.view_is)) in
    let same = stands_told c.args.frames.now c.in_ok-held.field-0 held told c.in_ok-held.ensures some spelled in
    let rows : map map_row c.sorted-rows.result.items ≡ told.rows =
    tiled_otherwise c.listed.inside.rows.items c.sorted-rows.result.items told.rows c.sorted-rows.ensures.elements c.sorted-rows.ensures.in_order (ap (λ (t : SpelledMap). t.rows) same) tiles in
    let back = sym (ap (λ (l : List RangeRow). map map_row l) c.as_slice.ensures.value ∙ rows) in
    let is : c.are_map.result ≡ true = c.are_map.ensures.1 (subst TileKeys back tiles, subst (AreInYard c.args.servers) back yard) in
    true≢false (sym is ∙ c.if-are_map.false)
