use Rattle.usb_class_drivers.proofs.disk.Disk.read.Goals as goal

pub returns-clause-takes : goal.returns-clause-takes
returns-clause-takes g c = λ there.
    rw (c.from.ensures, c.from-2.ensures, c.from-3.ensures) at c.take.ensures.takes
