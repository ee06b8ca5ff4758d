use Rattle.usb_table.proofs.levels.PathCalls.{idle_steps}
use Rattle.usb_table.proofs.function_pipes.FunctionPipes.set_interface.Goals as goal

pub returns-then-not-is_settable-clause-steps : goal.returns-then-not-is_settable-clause-steps
returns-then-not-is_settable-clause-steps g c known = idle_steps 1600 _ _
