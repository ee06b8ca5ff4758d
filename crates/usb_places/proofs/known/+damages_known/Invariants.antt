use Rattle.std.proofs.Common.{length}
use Rattle.usb_places.proofs.known.+damages_known.Given as goal

abbrev pub decreases-damages_known : goal.decreases-damages_known
decreases-damages_known l = length l.sought.now
