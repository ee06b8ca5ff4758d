use Rattle.std.proofs.Common.{length}
use Rattle.usb_places.proofs.places.+events_from.Given as goal

abbrev pub decreases-events_from : goal.decreases-events_from
decreases-events_from l = length l.values.now
