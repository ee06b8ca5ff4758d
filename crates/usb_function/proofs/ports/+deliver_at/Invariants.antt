use Rattle.std.proofs.Common.{◌+◌, ◌*◌, length}
use Rattle.usb_function.proofs.ports.+deliver_at.Given as goal

abbrev pub decreases-Ports::deliver_at : goal.decreases-Ports::deliver_at
decreases-Ports::deliver_at l = 2 * length l.path.now

abbrev pub decreases-Place::deliver_at : goal.decreases-Place::deliver_at
decreases-Place::deliver_at l = 2 * length l.path.now + 1
