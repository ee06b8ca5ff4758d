use Rattle.std.proofs.Common.{length}
use Rattle.usb_verdict.proofs.seen.+text_with.Given as goal

-- fewer texts are left
abbrev pub decreases-text_with : goal.decreases-text_with
decreases-text_with l = length l.texts.now
