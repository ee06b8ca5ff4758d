use Rattle.std.proofs.Common.{◌+◌, ◌*◌, length}
use Rattle.usb_function.proofs.ports.+device_at.Given as goal

abbrev pub decreases-Ports::device_at : goal.decreases-Ports::device_at
decreases-Ports::device_at l = 2 * length l.path.now

abbrev pub decreases-Place::device_below : goal.decreases-Place::device_below
decreases-Place::device_below l = 2 * length l.path.now + 1
