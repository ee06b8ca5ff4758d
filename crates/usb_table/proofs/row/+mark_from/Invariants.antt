use Rattle.std.proofs.Common.{length}
use Rattle.usb_table.proofs.row.+mark_from.Given as goal

abbrev pub decreases-mark_from : goal.decreases-mark_from
decreases-mark_from l = length l.row.now
