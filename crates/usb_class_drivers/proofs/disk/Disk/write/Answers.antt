use Rattle.std.proofs.Common.{refl}
use Rattle.usb_class_drivers.specs.Disks.{were_put}
use Rattle.usb_class_drivers.proofs.disk.Disk.write.Goals as goal

pub returns-clause-writes : goal.returns-clause-writes
returns-clause-writes g c = λ there. were_put c.in-Some.blocks c.in-Some.ensures.some
    (rw c.from.ensures at c.put.ensures.puts) (rw c.put.ensures.tag refl)
