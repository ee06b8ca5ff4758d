use Rattle.std.proofs.Common.{length}
use Rattle.usb_bench.proofs.placing.+told_from.Given as goal

abbrev pub decreases-see_from : goal.decreases-see_from
decreases-see_from g l = length l.before.now
