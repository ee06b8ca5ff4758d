use Rattle.std.proofs.Common.{length}
use Rattle.usb_places.proofs.known.+after_of.Given as goal

abbrev pub decreases-after_of : goal.decreases-after_of
decreases-after_of l = length l.sought.now
