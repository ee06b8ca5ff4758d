use Rattle.std.proofs.Common.{length}
use Rattle.usb_judge.proofs.steps.+forget_toggles.Given as goal

abbrev pub decreases-forget_toggles : goal.decreases-forget_toggles
decreases-forget_toggles l = length l.left.now
