use Rattle.usb_world.proofs.courses.Courses.{untouched_or_pending}
use Rattle.usb_exchange.proofs.laws.events_are_pending.Goals as goal

pub returns : goal.returns
returns c = λ p w v course h. untouched_or_pending p course h
