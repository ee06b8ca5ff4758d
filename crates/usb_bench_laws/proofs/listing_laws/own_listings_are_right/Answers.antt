use Rattle.usb_bench_laws.proofs.RightListings.{right_in}
use Rattle.usb_bench_laws.proofs.listing_laws.own_listings_are_right.Goals as goal

pub returns : goal.returns
returns c = right_in
