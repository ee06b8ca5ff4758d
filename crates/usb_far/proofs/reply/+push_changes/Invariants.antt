use Rattle.std.proofs.Common.{length}
use Rattle.usb_far.proofs.reply.+push_changes.Given as goal

abbrev pub decreases-push_changes : goal.decreases-push_changes
decreases-push_changes l = length l.now.now
