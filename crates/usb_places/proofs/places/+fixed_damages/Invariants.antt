use Rattle.std.proofs.Common.{length}
use Rattle.usb_places.proofs.places.+fixed_damages.Given as goal

abbrev pub decreases-fixed_damages : goal.decreases-fixed_damages
decreases-fixed_damages l = length l.values.now
