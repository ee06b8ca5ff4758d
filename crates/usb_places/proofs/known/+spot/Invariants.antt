use Rattle.std.proofs.Common.{length}
use Rattle.usb_places.proofs.known.+spot.Given as goal

abbrev pub decreases-spot : goal.decreases-spot
decreases-spot l = length l.damages.now
