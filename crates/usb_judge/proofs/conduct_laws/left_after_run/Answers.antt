use Rattle.usb_judge.proofs.Kept.{left_after-keeps}
use Rattle.usb_judge.proofs.conduct_laws.left_after_run.Goals as goal

pub returns : goal.returns
returns c = left_after-keeps
