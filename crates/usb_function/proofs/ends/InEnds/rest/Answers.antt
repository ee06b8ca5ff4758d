use Rattle.std.proofs.Common.{arith}
use Rattle.usb_device.proofs.JoinedRows.{rested_ins-twice}
use Rattle.usb_function.proofs.ends.InEnds.rest.Goals as goal

pub invariant_of-self : goal.invariant_of-self
invariant_of-self c = (
  omega (arith, c.rest_ins.auto.row, c.self.invariant.0),
  λ h. rw c.rest_ins.ensures (rested_ins-twice c.self.inside.row),
)
