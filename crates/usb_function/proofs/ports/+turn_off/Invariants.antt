use Rattle.std.proofs.Common.{length}
use Rattle.usb_function.proofs.ports.+turn_off.Given as goal

abbrev pub decreases-turn_off : goal.decreases-turn_off
decreases-turn_off l = length l.places.now
