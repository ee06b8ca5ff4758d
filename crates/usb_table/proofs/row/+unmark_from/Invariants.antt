use Rattle.std.proofs.Common.{length}
use Rattle.usb_table.proofs.row.+unmark_from.Given as goal

abbrev pub decreases-unmark_from : goal.decreases-unmark_from
decreases-unmark_from l = length l.row.now
