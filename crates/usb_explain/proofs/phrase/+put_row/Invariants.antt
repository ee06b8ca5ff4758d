use Rattle.std.proofs.Common.{length}
use Rattle.usb_explain.proofs.phrase.+put_row.Given as goal

abbrev pub decreases-put_row : goal.decreases-put_row
decreases-put_row g l = length l.row.now
