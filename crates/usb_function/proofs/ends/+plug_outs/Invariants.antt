use Rattle.std.proofs.Common.{length}
use Rattle.usb_function.proofs.ends.+plug_outs.Given as goal

abbrev pub decreases-plug_outs : goal.decreases-plug_outs
decreases-plug_outs l = length l.row.now
