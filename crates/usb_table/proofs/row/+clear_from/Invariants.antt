use Rattle.std.proofs.Common.{length}
use Rattle.usb_table.proofs.row.+clear_from.Given as goal

abbrev pub decreases-clear_from : goal.decreases-clear_from
decreases-clear_from l = length l.row.now
