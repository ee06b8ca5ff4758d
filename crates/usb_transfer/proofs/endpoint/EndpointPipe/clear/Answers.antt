use Rattle.std.proofs.Common.{rules}
use Rattle.usb_transfer.proofs.BulkClears.{clear_sent}
use Rattle.usb_transfer.proofs.endpoint.EndpointPipe.clear.Goals as goal

pub returns-in-Ok-clause-transfer : goal.returns-in-Ok-clause-transfer
returns-in-Ok-clause-transfer g c known = clear_sent _ _ _ _ _ (search rules)

pub returns-in-Err-clause-transfer : goal.returns-in-Err-clause-transfer
returns-in-Err-clause-transfer g c known = clear_sent _ _ _ _ _ (search rules)
