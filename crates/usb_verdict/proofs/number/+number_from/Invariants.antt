use Rattle.std.proofs.Common.{length}
use Rattle.usb_verdict.proofs.number.+number_from.Given as goal

-- fewer digits are left
abbrev pub decreases-number_from : goal.decreases-number_from
decreases-number_from l = length l.word.now
