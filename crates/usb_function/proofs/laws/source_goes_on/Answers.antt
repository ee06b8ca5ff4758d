use Rattle.usb_device.proofs.progress.BulkProgress.{source_only}
use Rattle.usb_function.proofs.laws.source_goes_on.Goals as goal

pub returns-clause-frame : goal.returns-clause-frame
returns-clause-frame c = source_only
