use Rattle.usb_table.proofs.listings.OneListing.{lists_of_plan}
use Rattle.usb_table.proofs.listing_laws.listed_is_what_the_events_left.Goals as goal

pub returns : goal.returns
returns c = lists_of_plan
