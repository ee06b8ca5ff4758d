use Rattle.std.proofs.Common.{◌+◌, ◌*◌, length}
use Rattle.usb_function.proofs.ports.+reached_at.Given as goal

abbrev pub decreases-Ports::reached_at : goal.decreases-Ports::reached_at
decreases-Ports::reached_at l = 2 * length l.path.now

abbrev pub decreases-Place::reached_below : goal.decreases-Place::reached_below
decreases-Place::reached_below l = 2 * length l.path.now + 1
