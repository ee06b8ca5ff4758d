use Rattle.std.proofs.Common.{arith}
use Rattle.usb_live.proofs.Courses.{has_number}
use Rattle.usb_live.proofs.bus.CourseBus.number.Goals as goal

pub returns : goal.returns
returns g c =
    let fits = has_number c.args.item.now c.requires c.args.self.now.bounded c.args.self.now.course
    in c.number_of.ensures (omega (arith, fits))
