use Rattle.usb_class_drivers.specs.{has_status}
use Rattle.usb_class_drivers.proofs.status.residue_of.Goals as goal

pub returns-in-Some : goal.returns-in-Some
returns-in-Some c = has_status c.in-Some.status c.in-Some.ensures.some c.residue_told.ensures
