use Rattle.std.proofs.Common.{length}
use Rattle.usb_places.proofs.sought.+see_all.Given as goal

abbrev pub decreases-see_all : goal.decreases-see_all
decreases-see_all l = length l.sought.now
