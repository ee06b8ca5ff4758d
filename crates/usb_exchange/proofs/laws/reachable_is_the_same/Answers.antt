use Rattle.usb_world.proofs.courses.Courses.{same_device}
use Rattle.usb_exchange.proofs.laws.reachable_is_the_same.Goals as goal

pub returns : goal.returns
returns c = λ p w v course h. same_device p course h
