use Rattle.std.proofs.Common.{length}
use Rattle.usb_function.proofs.ends.+rest_ins.Given as goal

abbrev pub decreases-rest_ins : goal.decreases-rest_ins
decreases-rest_ins l = length l.row.now
