use Rattle.std.proofs.Common.{◌<◌, length, sym, arith}
use Rattle.usb_device.proofs.JoinedRows.{sink-joined}
use Rattle.usb_function.proofs.ends.OutEnds.sink.Goals as goal

pub returns : goal.returns
returns c =
    let heads = c.self.inside.heads in
    let within : c.args.number < length heads =
    omega (arith, c.place.ensures.value, c.place.ensures.bound, c.self.invariant.0) in
    rw (c.sink_at.ensures, c.as_slice.ensures.value, c.place.ensures.value, ← c.self.view_is)
    (sym (sink-joined heads c.self.inside.sinks.items c.args.number within))
