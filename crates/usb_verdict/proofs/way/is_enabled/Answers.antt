use Rattle.usb_device.specs.{numbered, row_of}
use Rattle.usb_verdict.proofs.Ways.{enabled_some}
use Rattle.usb_verdict.proofs.way.is_enabled.Goals as goal

pub returns-in-Some : goal.returns-in-Some
returns-in-Some c = enabled_some (numbered (row_of c.args.device.now.ports) c.args.number)
    c.in-Some.bytes c.in-Some.ensures
