use Rattle.std.proofs.Common.{false}
use Rattle.usb_device.specs.{is_of_either}
use Rattle.usb_device.proofs.JoinedRows.{joined-begun}
use Rattle.usb_function.proofs.ends.OutEnds.begin_setting.Goals as goal

pub returns : goal.returns
returns c = rw (c.begin_outs.ensures, ← c.self.view_is)
    (joined-begun (is_of_either c.args.interface c.args.before.now c.args.after.now false) 0
    c.self.inside.heads c.self.inside.sinks.items)
