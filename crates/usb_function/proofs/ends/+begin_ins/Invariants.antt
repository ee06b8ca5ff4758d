use Rattle.std.proofs.Common.{length}
use Rattle.usb_function.proofs.ends.+begin_ins.Given as goal

abbrev pub decreases-begin_ins : goal.decreases-begin_ins
decreases-begin_ins l = length l.row.now
