use Rattle.std.proofs.Common.{length}
use Rattle.usb_table.proofs.row.+replace_from.Given as goal

abbrev pub decreases-replace_from : goal.decreases-replace_from
decreases-replace_from l = length l.row.now
