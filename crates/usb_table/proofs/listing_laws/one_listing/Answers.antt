use Rattle.usb_table.proofs.listings.OneListing.{one_listing}
use Rattle.usb_table.proofs.listing_laws.one_listing.Goals as goal

pub returns : goal.returns
returns c = one_listing
