use Rattle.usb_host.proofs.knowledge.Places.{known_stays}
use Rattle.usb_host.proofs.listing_laws.known_stays.Goals as goal

pub returns : goal.returns
returns c = known_stays
