use Rattle.std.proofs.Common.{◌+◌, ◌*◌, length}
use Rattle.usb_function.proofs.ports.+put.Given as goal

abbrev pub decreases-Ports::put_at : goal.decreases-Ports::put_at
decreases-Ports::put_at l = 2 * length l.path.now

abbrev pub decreases-Place::put_below : goal.decreases-Place::put_below
decreases-Place::put_below l = 2 * length l.path.now + 1
