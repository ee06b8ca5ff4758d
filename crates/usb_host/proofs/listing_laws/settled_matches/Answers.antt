use Rattle.usb_host.proofs.knowledge.SettledListings.{settled_matches}
use Rattle.usb_host.proofs.listing_laws.settled_matches.Goals as goal

pub returns : goal.returns
returns c = settled_matches
