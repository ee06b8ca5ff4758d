use Rattle.std.proofs.Common.{length}
use Rattle.usb_verdict.proofs.way.+is_reached_from.Given as goal

-- fewer ports are left
abbrev pub decreases-is_reached_from : goal.decreases-is_reached_from
decreases-is_reached_from l = length l.path.now
