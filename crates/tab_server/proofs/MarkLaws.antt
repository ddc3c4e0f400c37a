-- What is known of the range at a place where a number was found, and what a change of it in memory alone makes.
use Rattle.std.proofs.Common.{◌≡◌, ℕ, ◌<◌, List, Some, length, get_or, set, sym, ap, subst, ◌∙◌}
use Rattle.std.proofs.lemmas.List.Elements.{All-get_or}
use Rattle.std.proofs.lemmas.Option.{slice_get_within, get_or_from_slice_get}
use Rattle.tab_server.specs.Contents.{IsHolding, IsUncounted, StandsAt}
use Rattle.tab_server.specs.Serving.{range_of, at_number}
use Rattle.tab_server.specs.declared.ranges.Marked.{Marked}
use Rattle.tab_server.proofs.Holding.{still_holding}
use Rattle.tab_server.proofs.ActLaws.{found_at, set_at}

-- ---- at the place where a number was found

-- what is known of the range at a place where the number stands
pub record IsPlaced {T : Type 0} (items held : List (Marked T)) (range place : ℕ) (marked : Marked T) : Type 0 where
  pub same : items ≡ held
  pub holding : IsHolding items
  pub stands : StandsAt items range place marked
  pub number : marked.range.id ≡ range
  pub is : marked ≡ get_or items place marked
  pub found : range_of held range ≡ Some marked
  pub uncounted : IsUncounted marked.mark marked.range.tally

pub is_placed : {T : Type 0} (items held : List (Marked T)) (range place : ℕ) (marked : Marked T) → items ≡ held → IsHolding items → ((one : Marked T) × StandsAt held range place one) → marked ≡ get_or items place marked
    → IsPlaced items held range place marked
is_placed items held range place marked same holding found is =
    let at : StandsAt items range place found.0 = subst (λ (xs : List (Marked _)). StandsAt xs range place found.0) (sym same) found.1 in
    let one : marked ≡ found.0 = is ∙ get_or_from_slice_get items place found.0 marked at.here in
    let stands : StandsAt items range place marked = subst (λ (m : Marked _). StandsAt items range place m) (sym one) at in
    let within : place < length items = slice_get_within items place marked stands.here in
    record {
      same = same;
      holding = holding;
      stands = stands;
      number = stands.number;
      is = is;
      found = subst (λ (xs : List (Marked _)). range_of xs range ≡ Some marked) same (found_at items range place marked holding.apart stands.here stands.number);
      uncounted = subst (λ (m : Marked _). IsUncounted m.mark m.range.tally) (sym is) (All-get_or (λ (m : Marked _). IsUncounted m.mark m.range.tally) items place marked within holding.uncounted);
    }

pub placed_alone : {T : Type 0} (items held : List (Marked T)) (range place : ℕ) (marked after : Marked T) (change : Marked T → Marked T) → IsPlaced items held range place marked → after ≡ change marked
    → set items place after ≡ at_number range change held
placed_alone items held range place marked after change at is =
    ap (set items place) is ∙ set_at items range place change marked at.holding.apart at.stands.here at.number ∙ ap (at_number range change) at.same

pub placed_holding : {T : Type 0} (items held : List (Marked T)) (range place : ℕ) (marked after : Marked T) → IsPlaced items held range place marked → after.range.id ≡ marked.range.id → IsUncounted after.mark after.range.tally
    → IsHolding (set items place after)
placed_holding items held range place marked after at same uncounted = still_holding items range place marked after at.holding at.stands same uncounted
