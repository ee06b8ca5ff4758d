use Rattle.std.proofs.Common.{length}
use Rattle.usb_function.proofs.ends.+begin_outs.Given as goal

abbrev pub decreases-begin_outs : goal.decreases-begin_outs
decreases-begin_outs l = length l.row.now
