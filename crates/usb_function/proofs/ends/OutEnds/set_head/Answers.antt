use Rattle.std.proofs.Common.{◌<◌, length, arith}
use Rattle.usb_device.proofs.JoinedRows.{joined-head}
use Rattle.usb_function.proofs.ends.OutEnds.set_head.Goals as goal

pub returns : goal.returns
returns c =
    let heads = c.self.inside.heads in
    let within : c.args.number < length heads =
    omega (arith, c.place.ensures.value, c.place.ensures.bound, c.self.invariant.0) in
    rw (c.place.ensures.value, ← c.self.view_is)
    (joined-head heads c.self.inside.sinks.items c.args.number c.args.head within)
