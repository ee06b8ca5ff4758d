use Rattle.std.proofs.Common.{◌∙◌, refl, sym}
use Rattle.usb_class_drivers.specs.Disks.{is_alien, is_sized, not_told}
use Rattle.usb_class_drivers.proofs.disk.size_told.Goals as goal

pub returns-in-Some : goal.returns-in-Some
returns-in-Some c = is_sized c.in-Ok.bytes c.in-Some.capacity c.in-Ok.is
    (sym c.as_slice.ensures.value ∙ c.in-Some.ensures.some) refl

pub returns-in-Ok : goal.returns-in-Ok
returns-in-Ok c = is_alien c.in-Ok.bytes c.in-Ok.is
    (rw c.as_slice.ensures.value at c.in-None.ensures.none) refl

pub returns : goal.returns
returns c = not_told c.in-Err.fault c.in-Err.is refl
