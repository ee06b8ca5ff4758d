use Rattle.std.proofs.Common.{length}
use Rattle.usb_drawing.proofs.string.+push_shown.Given as goal

abbrev pub decreases-push_shown : goal.decreases-push_shown
decreases-push_shown l = length l.units.now
