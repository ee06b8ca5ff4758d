use Rattle.std.proofs.Common.{length}
use Rattle.usb_explain.proofs.phrase.+word_for.Given as goal

abbrev pub decreases-word_for : goal.decreases-word_for
decreases-word_for l = length l.table.now
