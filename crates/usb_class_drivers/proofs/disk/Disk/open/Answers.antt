use Rattle.std.proofs.Common.{◌∙◌, refl, rules, sym}
use Rattle.usb_class_drivers.specs.Disks.{found_none, found_one}
use Rattle.usb_class_drivers.proofs.disk.Disk.open.Goals as goal

pub returns-in_err-transport-clause-opens : goal.returns-in_err-transport-clause-opens
returns-in_err-transport-clause-opens g c = found_none c.in_err-transport.field-0.0
    (sym c.of.ensures ∙ c.in_err-transport.was) (search rules) refl

pub returns-clause-opens : goal.returns-clause-opens
returns-clause-opens g c = found_one c.in_ok-transport.transport
    (sym c.of.ensures ∙ c.in_ok-transport.was) c.sized.ensures
