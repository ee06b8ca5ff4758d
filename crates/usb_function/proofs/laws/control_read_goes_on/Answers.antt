use Rattle.usb_device.proofs.progress.ControlProgress.{control_read}
use Rattle.usb_function.proofs.laws.control_read_goes_on.Goals as goal

pub returns-clause-reading : goal.returns-clause-reading
returns-clause-reading c = control_read
