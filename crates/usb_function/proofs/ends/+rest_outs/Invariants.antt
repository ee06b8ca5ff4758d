use Rattle.std.proofs.Common.{length}
use Rattle.usb_function.proofs.ends.+rest_outs.Given as goal

abbrev pub decreases-rest_outs : goal.decreases-rest_outs
decreases-rest_outs l = length l.row.now
