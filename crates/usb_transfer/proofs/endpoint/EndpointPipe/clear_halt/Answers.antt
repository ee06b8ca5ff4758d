use Rattle.std.proofs.Common.{rules}
use Rattle.usb_transfer.proofs.BulkClears.{clear_needed, clear_unneeded}
use Rattle.usb_transfer.proofs.endpoint.EndpointPipe.clear_halt.Goals as goal

pub returns-in-Halted-clause-transfer : goal.returns-in-Halted-clause-transfer
returns-in-Halted-clause-transfer g c known = clear_needed _ _ _ _ _ (search rules) (search rules)

pub returns-in-Ready-clause-transfer : goal.returns-in-Ready-clause-transfer
returns-in-Ready-clause-transfer g c known = clear_unneeded _ _ (search rules)
