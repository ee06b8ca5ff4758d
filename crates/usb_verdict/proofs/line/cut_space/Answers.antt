use Rattle.usb_verdict.proofs.Cuts.{cut_space-split_once}
use Rattle.usb_verdict.proofs.line.cut_space.Goals as goal

pub returns : goal.returns
returns c = cut_space-split_once c.args.text.now c.split_once.result c.split_once.ensures.cases
