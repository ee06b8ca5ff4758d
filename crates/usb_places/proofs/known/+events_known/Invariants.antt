use Rattle.std.proofs.Common.{length}
use Rattle.usb_places.proofs.known.+events_known.Given as goal

abbrev pub decreases-events_known : goal.decreases-events_known
decreases-events_known l = length l.events.now
