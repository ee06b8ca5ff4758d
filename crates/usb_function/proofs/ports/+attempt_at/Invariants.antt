use Rattle.std.proofs.Common.{◌+◌, ◌*◌, length}
use Rattle.usb_function.proofs.ports.+attempt_at.Given as goal

abbrev pub decreases-Ports::attempt_at : goal.decreases-Ports::attempt_at
decreases-Ports::attempt_at l = 2 * length l.path.now

abbrev pub decreases-Place::attempt_at : goal.decreases-Place::attempt_at
decreases-Place::attempt_at l = 2 * length l.path.now + 1
