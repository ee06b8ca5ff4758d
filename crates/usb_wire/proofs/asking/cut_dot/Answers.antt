use Rattle.std.proofs.Common.{lit<}
use Rattle.usb_wire.proofs.QuestionLaws.{cut_at-split_once}
use Rattle.usb_wire.proofs.asking.cut_dot.Goals as goal

pub returns : goal.returns
returns c = cut_at-split_once 46 c.args.text.now c.split_once.result (lit< tt)
    c.split_once.ensures.cases
