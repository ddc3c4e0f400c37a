use Rattle.std.proofs.Common.{rules, ◌≡◌, List, Some, sym, subst, arith}
use Rattle.tab_history.specs.World.{Named}
use Rattle.tab_master.specs.Spelled.{SpelledNames, AreNames, names_kind}
use Rattle.tab_master.specs.Names.{NamesStand}
use Rattle.tab_master.specs.Listing.{listing_of}
use Rattle.tab_journal.specs.Fitting.{told_by}
use Rattle.tab_master.proofs.NamesReadLaws.{listing_there, read_from, is_some_from}
use Rattle.tab_master.proofs.content.NamesContent.read.Goals as goal

pub unwrap-listing-requires : goal.unwrap-listing-requires
unwrap-listing-requires c = is_some_from c.in_ok-told.field-0 (listing_there c.args.frames.now c.in_ok-told.field-0 c.requires c.in_ok-told.ensures)

pub overflow_cast-result : goal.overflow_cast-result
overflow_cast-result c =
    let inside : SpelledNames = record { next_table = c.listing.inside.next_table; names = c.listing.inside.tables.items } in
    let is : Some inside ≡ listing_of (told_by names_kind c.args.frames.now) = search rules in
    let within = (read_from c.args.frames.now inside c.sorted-tables.result.items c.requires is c.sorted-tables.ensures.elements c.sorted-tables.ensures.in_order).within in
    omega (arith, within)

pub sorted-requires : goal.sorted-requires
sorted-requires c =
    let inside : SpelledNames = record { next_table = c.listing.inside.next_table; names = c.listing.inside.tables.items } in
    let is : Some inside ≡ listing_of (told_by names_kind c.args.frames.now) = search rules in
    (read_from c.args.frames.now inside c.sorted-tables.result.items c.requires is c.sorted-tables.ensures.elements c.sorted-tables.ensures.in_order).stand.orderly.rise

pub invariant_of-result : goal.invariant_of-result
invariant_of-result c =
    let inside : SpelledNames = record { next_table = c.listing.inside.next_table; names = c.listing.inside.tables.items } in
    let is : Some inside ≡ listing_of (told_by names_kind c.args.frames.now) = search rules in
    subst (λ (names : List Named). AreNames (record { next_table = c.listing.inside.next_table; names = names })) (sym c.sorted.ensures)
    (read_from c.args.frames.now inside c.sorted-tables.result.items c.requires is c.sorted-tables.ensures.elements c.sorted-tables.ensures.in_order).stand.orderly

pub returns : goal.returns
returns c =
    let inside : SpelledNames = record { next_table = c.listing.inside.next_table; names = c.listing.inside.tables.items } in
    let is : Some inside ≡ listing_of (told_by names_kind c.args.frames.now) = search rules in
    subst (λ (names : List Named). NamesStand c.args.frames.now (record { next_table = c.listing.inside.next_table; names = names })) (sym c.sorted.ensures)
    (read_from c.args.frames.now inside c.sorted-tables.result.items c.requires is c.sorted-tables.ensures.elements c.sorted-tables.ensures.in_order).stand
