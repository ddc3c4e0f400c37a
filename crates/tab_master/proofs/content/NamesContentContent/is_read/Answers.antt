use Rattle.std.proofs.Common.{sym, ◌∙◌}
use Rattle.std.proofs.lemmas.Bool.{true≢false}
use Rattle.tab_master.proofs.ListingLaws.{listing_stands, stands_listed, nothing_stands}
use Rattle.tab_master.proofs.content.NamesContentContent.is_read.Goals as goal

pub returns-in-Some-clause-yes : goal.returns-in-Some-clause-yes
returns-in-Some-clause-yes c is =
    listing_stands c.args.frames.now c.in-Some.listing c.args.self.now.told (sym c.in-Some.is ∙ c.in_ok-listing.ensures) (c.is_listed.ensures.same.0 is) c.is_listed.ensures.orderly

pub returns-in-Some-clause-no : goal.returns-in-Some-clause-no
returns-in-Some-clause-no c is_not stand =
    absurd (true≢false (sym (c.is_listed.ensures.same.1 (stands_listed c.args.frames.now c.in-Some.listing c.args.self.now.told (sym c.in-Some.is ∙ c.in_ok-listing.ensures) stand)) ∙ is_not))

pub returns-in-None-clause-no : goal.returns-in-None-clause-no
returns-in-None-clause-no c is_not stand = nothing_stands c.args.frames.now c.args.self.now.told (sym c.in-None.is ∙ c.in_ok-listing.ensures) stand
