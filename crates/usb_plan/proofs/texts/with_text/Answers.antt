use Rattle.std.proofs.Common.{arith}
use Rattle.usb_plan.proofs.texts.with_text.Goals as goal

pub push-requires : goal.push-requires
push-requires g c = (omega arith, (omega arith, c.requires c.in_ok-texts.texts c.in_ok-texts.was))
