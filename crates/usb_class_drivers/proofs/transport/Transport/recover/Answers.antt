use Rattle.std.proofs.Common.{rules}
use Rattle.usb_class_drivers.specs.Transports.{both_cleared, in_not_cleared, not_reset}
use Rattle.usb_class_drivers.proofs.transport.Transport.recover.Goals as goal

pub returns-in_err-write : goal.returns-in_err-write
returns-in_err-write g c = not_reset c.in_err-write.field-0.0
    (rw (c.class_request-reset.ensures, c.in_err-write.was) at c.write.ensures) (search rules)

pub returns-in_err-clear : goal.returns-in_err-clear
returns-in_err-clear g c = in_not_cleared c.write.new.host c.in_err-clear.field-0.0
    (rw (c.class_request-reset.ensures, c.in_ok-write.was) at c.write.ensures)
    (rw c.in_err-clear.was at c.clear.ensures) (search rules)

pub returns : goal.returns
returns g c = both_cleared c.write.new.host c.clear.new.host c.clear-2.result
    (rw (c.class_request-reset.ensures, c.in_ok-write.was) at c.write.ensures)
    (rw c.in_ok-clear.was at c.clear.ensures) c.clear-2.ensures c.driver_told.ensures
