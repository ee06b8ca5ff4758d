use Rattle.std.proofs.Common.{length}
use Rattle.usb_judge.proofs.verdict.+judge_port.Given as goal

-- fewer causes are left
abbrev pub decreases-judge_port : goal.decreases-judge_port
decreases-judge_port l = length l.causes.now
