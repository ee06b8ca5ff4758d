use Rattle.std.proofs.Common.{◌∙◌, ap}
use Rattle.usb_wire.specs.{fault_in, said_to}
use Rattle.usb_wire.proofs.PortLaws.{said_to-fault, said_to-may, said_to-only}
use Rattle.usb_wire.proofs.reading.read_said.Goals as goal

pub returns-clause-said : goal.returns-clause-said
returns-clause-said c = rw c.said_to.ensures (said_to-may c.args.asked c.args.hubs
    c.args.line.now c.said_in_form.result c.said_in_form.ensures.said)

pub returns-clause-only : goal.returns-clause-only
returns-clause-only c = λ said may is.
    c.said_to.ensures ∙ said_to-only c.args.hubs.wide c.said_in_form.result said
    (c.said_in_form.ensures.only said may.0 is) may.1

pub returns-clause-fault : goal.returns-clause-fault
returns-clause-fault c = ap fault_in (c.said_to.ensures
    ∙ ap (said_to c.args.hubs.wide) c.said_in_form.ensures.is)
    ∙ said_to-fault c.args.asked c.args.hubs c.args.line.now
