use Rattle.std.proofs.Common.{length}
use Rattle.usb_drawing.proofs.listing.+widest.Given as goal

abbrev pub decreases-widest : goal.decreases-widest
decreases-widest l = length l.entries.now
