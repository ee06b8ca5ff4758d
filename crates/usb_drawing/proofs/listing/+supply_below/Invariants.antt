use Rattle.std.proofs.Common.{length}
use Rattle.usb_drawing.proofs.listing.+supply_below.Given as goal

abbrev pub decreases-supply_below : goal.decreases-supply_below
decreases-supply_below l = length l.entries.now
