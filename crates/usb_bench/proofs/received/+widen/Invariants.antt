use Rattle.std.proofs.Common.{length}
use Rattle.usb_bench.proofs.received.+widen.Given as goal

abbrev pub decreases-widen : goal.decreases-widen
decreases-widen l = length l.receipts.now
