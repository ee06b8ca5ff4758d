use Rattle.std.proofs.Common.{length}
use Rattle.usb_explain.proofs.phrase.+row_for.Given as goal

abbrev pub decreases-row_for : goal.decreases-row_for
decreases-row_for l = length l.rows.now
