use Rattle.std.proofs.Common.{length}
use Rattle.usb_explain.proofs.phrase.+fits_row.Given as goal

abbrev pub decreases-fits_row : goal.decreases-fits_row
decreases-fits_row l = length l.row.now
