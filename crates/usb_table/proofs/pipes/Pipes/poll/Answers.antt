use Rattle.usb_table.proofs.levels.PathCalls.{idle_steps}
use Rattle.usb_table.proofs.pipes.Pipes.poll.Goals as goal

pub returns-in-Function-clause-steps : goal.returns-in-Function-clause-steps
returns-in-Function-clause-steps g c known = idle_steps 768 _ _
