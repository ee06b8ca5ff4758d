use Rattle.std.proofs.Common.{length}
use Rattle.usb_plan.proofs.entry_fault.+least_fault.Given as goal

abbrev pub decreases-least_fault : goal.decreases-least_fault
decreases-least_fault l = length l.faults.now
