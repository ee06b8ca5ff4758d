use Rattle.std.proofs.Common.{◌<◌, length, arith}
use Rattle.usb_device.specs.{no_in}
use Rattle.usb_device.proofs.RowsOfEnds.{slice_set-row}
use Rattle.usb_function.proofs.ends.InEnds.set.Goals as goal

pub returns : goal.returns
returns c =
    let row = c.self.inside.row in
    let within : c.args.number < length row =
    omega (arith, c.place.ensures.value, c.place.ensures.bound, c.self.invariant) in
    rw (c.place.ensures.value, ← c.self.view_is)
    (slice_set-row no_in c.args.number c.args.end row within)
