use Rattle.usb_host.proofs.entries.KeptBytes.{keeps_few}
use Rattle.usb_host.proofs.listing_laws.keeps_few.Goals as goal

pub returns : goal.returns
returns c = keeps_few
