use Rattle.std.proofs.Common.{length}
use Rattle.usb_function.proofs.ends.+plug_ins.Given as goal

abbrev pub decreases-plug_ins : goal.decreases-plug_ins
decreases-plug_ins l = length l.row.now
