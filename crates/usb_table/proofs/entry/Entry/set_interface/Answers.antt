use Rattle.std.proofs.Common.{arith}
use Rattle.usb_bus.proofs.Interface.{went_none, went_wider}
use Rattle.usb_table.proofs.entry.Entry.set_interface.Goals as goal

pub returns-in-Refused-clause-steps : goal.returns-in-Refused-clause-steps
returns-in-Refused-clause-steps g c known = went_wider 0 1600 went_none (omega arith)
