use Rattle.std.proofs.Common.{◌∙◌, sym, ap, arith}
use Rattle.usb_device.specs.{joined}
use Rattle.usb_device.proofs.JoinedRows.{joined-rested, rested_heads-twice}
use Rattle.usb_function.proofs.ends.OutEnds.rest.Goals as goal

pub invariant_of-self : goal.invariant_of-self
invariant_of-self c = (
  omega (arith, c.rest_outs.auto.row, c.self.invariant.0),
  λ h. rw c.rest_outs.ensures (rested_heads-twice c.self.inside.heads),
)

pub returns-then-self : goal.returns-then-self
returns-then-self c = rw (c.rest_outs.ensures, ← c.self.view_is)
    (joined-rested c.self.inside.heads c.self.inside.sinks.items)

pub returns-else-self : goal.returns-else-self
returns-else-self c = rw (← c.self.view_is)
    (ap (λ heads. joined heads c.self.inside.sinks.items)
    (sym (c.self.invariant.1 c.if-self.false))
    ∙ joined-rested c.self.inside.heads c.self.inside.sinks.items)
