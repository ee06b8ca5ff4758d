use Rattle.std.proofs.Common.{length}
use Rattle.usb_sim.proofs.sim.follow.+damages_until.Given as goal

abbrev pub decreases-damages_until : goal.decreases-damages_until
decreases-damages_until l = length l.damages.now
