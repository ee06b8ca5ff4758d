use Rattle.std.proofs.Common.{rules}
use Rattle.usb_class_drivers.specs.Transports.{take_not_collected, take_not_concluded}
use Rattle.usb_class_drivers.specs.Transports.{take_not_sent, was_taken}
use Rattle.usb_class_drivers.proofs.Steps.{collects_of, concludes_of}
use Rattle.usb_class_drivers.proofs.transport.Transport.take.Goals as goal

pub returns-in_err-ask-clause-takes : goal.returns-in_err-ask-clause-takes
returns-in_err-ask-clause-takes g c = take_not_sent c.in_err-ask.field-0.0
    (rw c.in_err-ask.was at c.ask.ensures.sends) (search rules)

pub returns-in_err-came-clause-takes : goal.returns-in_err-came-clause-takes
returns-in_err-came-clause-takes g c = take_not_collected c.ask.new.host c.in_err-came.field-0.0
    (rw c.in_ok-ask.was at c.ask.ensures.sends)
    (collects_of c.args.self.now
    (rw (c.ask.ensures.tag, c.in_err-came.was) at c.collect.ensures)) (search rules)

pub returns-in_err-status-clause-takes : goal.returns-in_err-status-clause-takes
returns-in_err-status-clause-takes g c = take_not_concluded c.ask.new.host c.collect.new.host
    c.in_ok-came.came c.in_err-status.field-0.0 (rw c.in_ok-ask.was at c.ask.ensures.sends)
    (collects_of c.args.self.now (rw (c.ask.ensures.tag, c.in_ok-came.was) at c.collect.ensures))
    (concludes_of c.args.self.now
    (rw (c.ask.ensures.tag, c.in_err-status.was) at c.conclude.ensures)) (search rules)

pub returns-clause-takes : goal.returns-clause-takes
returns-clause-takes g c = was_taken c.ask.new.host c.collect.new.host c.in_ok-came.came
    c.in_ok-status.status c.residue_of.result (rw c.in_ok-ask.was at c.ask.ensures.sends)
    (collects_of c.args.self.now (rw (c.ask.ensures.tag, c.in_ok-came.was) at c.collect.ensures))
    (concludes_of c.args.self.now
    (rw (c.ask.ensures.tag, c.in_ok-status.was) at c.conclude.ensures))
    (rw c.as_slice.ensures.value at c.residue_of.ensures) c.taken.ensures
