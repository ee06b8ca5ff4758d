use Rattle.usb_table.proofs.levels.PathCalls.{idle_steps}
use Rattle.usb_table.proofs.pipes.Pipes.clear_halt.Goals as goal

pub returns-in-Hub-clause-steps : goal.returns-in-Hub-clause-steps
returns-in-Hub-clause-steps g c known = idle_steps 3200 _ _

pub returns-in-Absent-clause-steps : goal.returns-in-Absent-clause-steps
returns-in-Absent-clause-steps g c known = idle_steps 3200 _ _
