use Rattle.std.proofs.Common.{sym}
use Rattle.usb_device.proofs.JoinedRows.{head-joined}
use Rattle.usb_function.proofs.ends.OutEnds.head.Goals as goal

pub returns : goal.returns
returns c = rw (c.place.ensures.value, ← c.self.view_is)
    (sym (head-joined c.self.inside.heads c.self.inside.sinks.items c.args.number))
