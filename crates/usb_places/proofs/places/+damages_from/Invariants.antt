use Rattle.std.proofs.Common.{length}
use Rattle.usb_places.proofs.places.+damages_from.Given as goal

abbrev pub decreases-damages_from : goal.decreases-damages_from
decreases-damages_from l = length l.values.now
