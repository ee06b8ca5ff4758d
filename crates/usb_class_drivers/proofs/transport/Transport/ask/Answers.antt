use Rattle.usb_class_drivers.proofs.transport.Transport.ask.Goals as goal

pub returns-clause-sends : goal.returns-clause-sends
returns-clause-sends g c = rw c.wrapper-wrapper.ensures at c.send.ensures
