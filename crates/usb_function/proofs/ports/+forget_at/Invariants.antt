use Rattle.std.proofs.Common.{◌+◌, ◌*◌, length}
use Rattle.usb_function.proofs.ports.+forget_at.Given as goal

abbrev pub decreases-Ports::forget_at : goal.decreases-Ports::forget_at
decreases-Ports::forget_at l = 2 * length l.path.now

abbrev pub decreases-Place::forget_at : goal.decreases-Place::forget_at
decreases-Place::forget_at l = 2 * length l.path.now + 1
