use Rattle.usb_world.proofs.courses.Courses.{pending_persists}
use Rattle.usb_exchange.proofs.laws.pending_stays.Goals as goal

pub returns : goal.returns
returns c = λ p w v course h. pending_persists p course h
