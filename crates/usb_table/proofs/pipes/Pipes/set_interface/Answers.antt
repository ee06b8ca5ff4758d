use Rattle.usb_table.proofs.levels.PathCalls.{idle_steps}
use Rattle.usb_table.proofs.pipes.Pipes.set_interface.Goals as goal

pub returns-in-Hub-clause-steps : goal.returns-in-Hub-clause-steps
returns-in-Hub-clause-steps g c known = idle_steps 1600 _ _
