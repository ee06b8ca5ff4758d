use Rattle.usb_world.proofs.courses.Courses.{step_reach}
use Rattle.usb_exchange.proofs.laws.reset_makes_reachable.Goals as goal

pub returns : goal.returns
returns c = step_reach
