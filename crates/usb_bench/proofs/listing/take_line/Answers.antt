use Rattle.std.proofs.Common.{◌∙◌, sym}
use Rattle.usb_bench.proofs.Listings.{taken_broken, taken_judged, taken_listed, taken_outside}
use Rattle.usb_bench.proofs.Listings.{taken_skipped, taken_tells, taken_told}
use Rattle.usb_bench.proofs.listing.take_line.Goals as goal

pub returns-in_ok-tally-in-Listing-clause-taken : goal.returns-in_ok-tally-in-Listing-clause-taken
returns-in_ok-tally-in-Listing-clause-taken g c =
    let judged = c.in_ok-tally-in-Listing.ensures.judged in
    taken_judged _ _ _ _ _ _ _ _ judged.0 c.in-Listing.is (sym c.eq-is_end.ensures
    ∙ c.if-is_end.true)
    c.ports.ensures judged.1 judged.2

pub returns-in_ok-block-in-Listing-clause-taken : goal.returns-in_ok-block-in-Listing-clause-taken
returns-in_ok-block-in-Listing-clause-taken g c =
    taken_listed _ _ _ _ _ _ _ c.in-Listing.is (sym c.eq-is_end.ensures ∙ c.if-is_end.false)
    c.in_ok-block-in-Listing.ensures.taken

pub returns-then-is_end-2-clause-taken : goal.returns-then-is_end-2-clause-taken
returns-then-is_end-2-clause-taken g c =
    taken_broken _ _ _ _ _ c.in-Broken.is (sym c.eq-is_end.ensures ∙ c.if-is_end-2.true)
    c.with_fault.ensures

pub returns-else-is_end-2-clause-taken : goal.returns-else-is_end-2-clause-taken
returns-else-is_end-2-clause-taken g c =
    taken_skipped _ _ _ _ c.in-Broken.is (sym c.eq-is_end.ensures ∙ c.if-is_end-2.false)

pub returns-then-is_end-3-clause-taken : goal.returns-then-is_end-3-clause-taken
returns-then-is_end-3-clause-taken g c =
    taken_told _ _ _ _ c.in-News.is (sym c.eq-is_end.ensures ∙ c.if-is_end-3.true)

pub returns-else-is_end-3-clause-taken : goal.returns-else-is_end-3-clause-taken
returns-else-is_end-3-clause-taken g c =
    taken_tells _ _ _ _ c.in-News.is (sym c.eq-is_end.ensures ∙ c.if-is_end-3.false)

pub returns-in-Outside-clause-taken : goal.returns-in-Outside-clause-taken
returns-in-Outside-clause-taken g c = taken_outside _ _ _ _ c.in-Outside.is
