use Rattle.std.proofs.Common.{◌<◌, length, arith, Some, None}
use Rattle.usb_table.proofs.levels.StandingPipes.{slice_set-row}
use Rattle.usb_table.proofs.row.PipeRow.put.Goals as goal

pub returns : goal.returns
returns c =
    let row = c.self.inside.row in
    let within : c.args.pipe.ep < length row =
    omega (arith, c.number.ensures.value, c.number.ensures.bound, c.self.invariant) in
    rw (c.from.ensures, c.number.ensures.value, ← c.self.view_is)
    (slice_set-row None c.args.pipe.ep (Some c.args.pipe) row within)
